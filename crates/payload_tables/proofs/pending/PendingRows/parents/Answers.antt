use Rattle.std.proofs.Common.{◌≡◌, ◌∙◌, ap, subst, arith, length, drop, slice_get, get_or, Some, IsSomeAnd, ℕ}
use Rattle.segment_codec.specs.Lent.{parents_left}
use Rattle.payload_tables.specs.Pending.{PlainPending}
use Rattle.payload_tables.proofs.Rows.{count-rows, get-below, get-or-is, row-stands}
use Rattle.payload_tables.proofs.pending.PendingRows.parents.Goals as goal

pub index-place-requires : goal.index-place-requires
index-place-requires c =
    let r = c.requires in let many = count-rows c.args.self.now r.0 r.1 in let lt = r.2 in
    let ok = c.self.inside.places.ok.0 in let same = ap (λ (p : PlainPending). length p.places) c.self.view_is in omega (arith, many, lt, ok, same)

pub parents_of-requires : goal.parents_of-requires
parents_of-requires c =
    let r = c.requires in let p = c.args.self.now in
    let row = get-below r.0 c.args.i r.2 in
    let at : slice_get p.places c.args.i ≡ Some c.index-place.result.now = (let many = count-rows p r.0 r.1 in let lt = r.2 in get-or-is p.places c.args.i c.index-place.result.now (omega (arith, many, lt)) (c.index-place.ensures ∙ ap (λ (q : PlainPending). get_or q.places c.args.i c.index-place.result.now) c.self.view_is)) in
    let s = row-stands p r.0 row.0 c.args.i c.index-place.result.now r.1 row.1 at in
    let le = s.below in let same = ap (length {A = ℕ}) c.deref.ensures.value in let view = ap (λ (q : PlainPending). length q.records) c.self.view_is in omega (arith, le, same, view)

pub returns : goal.returns
returns c = λ rows row h e.
    let p = c.args.self.now in
    let at : slice_get p.places c.args.i ≡ Some c.index-place.result.now = (let r = c.requires in let many = count-rows p r.0 r.1 in let lt = r.2 in get-or-is p.places c.args.i c.index-place.result.now (omega (arith, many, lt)) (c.index-place.ensures ∙ ap (λ (q : PlainPending). get_or q.places c.args.i c.index-place.result.now) c.self.view_is)) in
    let s = row-stands p rows row c.args.i c.index-place.result.now h e at in
    subst (λ l. IsSomeAnd c.parents_of.result (λ q. parents_left q ≡ l)) s.parents
    (c.parents_of.ensures s.segment s.more s.whole (ap (drop c.index-place.result.now) (c.deref.ensures.value ∙ ap (λ (q : PlainPending). q.records) c.self.view_is) ∙ s.stands))
