use Rattle.std.proofs.Common.{◌<◌, ◌∙◌, ◌-◌, ◌*◌, ◌++◌, take, drop, inl, inr, sym, ap, subst, arith}
use Rattle.name_map.specs.Map.{IsMapOf}
use Rattle.payload_tables.specs.Kept.{PlainTables, PlainOthers}
use Rattle.payload_tables.proofs.Stored.{no-name, name-front, name-other, names-there}
use Rattle.payload_tables.proofs.base.BaseRef.name.Goals as goal

pub returns-then-number-self : goal.returns-then-number-self
returns-then-number-self c = λ added b.
    let s = c.args.self.now in
    let lt : c.args.id < s.below = (let t = c.if-number-self.true in let n = c.number-number.ensures.number in omega (arith, t, n)) in
    name-front s.bytes.now s.tables.now s.others.now s.below added b c.args.id lt c.name.result
    (c.name.ensures.name (added ++ b.behind) (subst (λ (t : PlainTables). IsMapOf t.names (added ++ b.behind)) (sym c.tables.view_is) b.tables_of.names) b.stand)

pub returns-then-number-lt-FIRST_OTHER : goal.returns-then-number-lt-FIRST_OTHER
returns-then-number-lt-FIRST_OTHER c = λ added b name i.
    let s = c.args.self.now in let n = c.number-number.ensures.number in
    no-name s.bytes.now s.tables.now s.others.now s.below added b c.args.id name (let t = c.if-number-self.false in omega (arith, t, n)) (inl (let t = c.if-number-lt-FIRST_OTHER.true in omega (arith, t, n))) i

pub returns-then-j-others : goal.returns-then-j-others
returns-then-j-others c = λ added b name i.
    let s = c.args.self.now in let n = c.number-number.ensures.number in let v = ap (λ (o : PlainOthers). o.count) c.others.view_is in
    no-name s.bytes.now s.tables.now s.others.now s.below added b c.args.id name (let t = c.if-number-self.false in omega (arith, t, n))
    (inr (let l = c.if-number-lt-FIRST_OTHER.false in let t = c.if-j-others.true in omega (arith, t, l, n, v))) i

pub split_at-requires : goal.split_at-requires
split_at-requires c =
    let r = c.requires in let s = c.args.self.now in
    let room = names-there s.bytes.now s.tables.now s.others.now s.below r.0 r.1 in let v = ap (λ (o : PlainOthers). o.names) c.others.view_is in omega (arith, room, v)

pub split_at-requires-2 : goal.split_at-requires-2
split_at-requires-2 c =
    let r = c.requires in let s = c.args.self.now in
    let room = names-there s.bytes.now s.tables.now s.others.now s.below r.0 r.1 in let v = ap (λ (o : PlainOthers). o.names) c.others.view_is in let w = ap (λ (o : PlainOthers). o.count) c.others.view_is in
    let back = c.split_at.ensures.back_len in omega (arith, room, v, w, back)

pub returns : goal.returns
returns c = λ added b.
    let s = c.args.self.now in
    let n = c.number-number.ensures.number in let v = ap (λ (o : PlainOthers). o.count) c.others.view_is in
    let l = c.if-number-lt-FIRST_OTHER.false in let t = c.if-j-others.false in
    let j = c.number-number.result - 72057594037927936 in
    name-other s.bytes.now s.tables.now s.others.now s.below added b c.args.id j c.piece.result.bytes.now (omega (arith, l, n)) (omega (arith, t, v))
    (c.piece.ensures ∙ ap (λ x. take 20 (drop (20 * j) x)) (c.split_at-2.ensures.front ∙ ap (take (20 * c.others.inside.count)) c.split_at.ensures.back
    ∙ ap (λ (o : PlainOthers). take (20 * o.count) (drop o.names s.bytes.now)) c.others.view_is))
