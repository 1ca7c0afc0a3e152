use Rattle.std.proofs.Common.{◌≡◌, ◌<◌, ◌-◌, ◌+◌, ◌++◌, ◌∙◌, ℕ, List, Option, None, Some, refl, sym, subst, ap, arith, drop, flat_map, Bor}
use Rattle.std.specs.Prelude.{MatchOption}
use Rattle.std.specs.Option.{IsSome}
use Rattle.segment_codec.specs.Record.{Segment, segment_bytes}
use Rattle.segment_codec.specs.Lent.{segment_of}
use Rattle.segment_levels.specs.Endings.{held_from}
use Rattle.high_segments.proofs.Listing.{StripsTo, is-held, next-at, low-at, in-at, strips-more, strips-not, strips-all}
use Rattle.high_segments.proofs.listed.strip_segments.Goals as goal

some-found : {X : Type 0} (o : Option X) (A : Type 0) (B : X → Type 0) → MatchOption o A B → (A → ⊥) → IsSome o
some-found None A B h never = absurd (never h)
some-found (Some x) A B h never = refl

what-found : {X : Type 0} (o : Option X) (x : X) (A : Type 0) (B : X → Type 0) → o ≡ Some x → MatchOption o A B → B x
what-found o x A B e h = subst (λ z. MatchOption z A B) e h

falls : (end new id : ℕ) → id < end → id < new → end - new < end - id
falls end new id a b = omega (arith, a, b)

pub unwrap-requires : goal.unwrap-requires
unwrap-requires c =
    let r = c.requires in let a = c.ids-test.true in let b = c.end.ensures in
    let w = c.ids.invariant r.0 r.1 r.2 in
    some-found c.held.result (held_from None c.args.levels.now c.ids.id ≡ None) (λ r. held_from None c.args.levels.now c.ids.id ≡ Some (segment_of r)) c.held.ensures
    (is-held c.args.levels.now c.args.top.now r.0 w.at c.ids.id w.has (omega (arith, a, b)))

pub strip_record-requires : goal.strip_record-requires
strip_record-requires c =
    let r = c.requires in let a = c.ids-test.true in let b = c.end.ensures in
    let w = c.ids.invariant r.0 r.1 r.2 in
    let e = what-found c.held.result c.unwrap.result (held_from None c.args.levels.now c.ids.id ≡ None) (λ r. held_from None c.args.levels.now c.ids.id ≡ Some (segment_of r)) c.unwrap.ensures c.held.ensures in
    let t-is = c.at_level-segment.ensures ∙ ap (λ (n : ℕ). (let q : Segment = record (segment_of c.unwrap.result) { level = n } in q)) c.level.ensures in
    let n = next-at c.args.levels.now c.args.top.now r.0 w.at c.ids.id w.has (omega (arith, a, b)) (segment_of c.unwrap.result) (segment_of c.at_level-segment.result) e t-is in
    r.3 (segment_of c.at_level-segment.result) (in-at c.args.levels.now c.args.top.now r.0 w.at c.ids.id w.has (segment_of c.at_level-segment.result) n)

pub returns-in_err-rest : goal.returns-in_err-rest
returns-in_err-rest c = λ segments from h.
    let a = c.ids-test.true in let b = c.end.ensures in
    let w = c.ids.invariant segments from h in
    let e = what-found c.held.result c.unwrap.result (held_from None c.args.levels.now c.ids.id ≡ None) (λ r. held_from None c.args.levels.now c.ids.id ≡ Some (segment_of r)) c.unwrap.ensures c.held.ensures in
    let t-is = c.at_level-segment.ensures ∙ ap (λ (n : ℕ). (let q : Segment = record (segment_of c.unwrap.result) { level = n } in q)) c.level.ensures in
    subst
    (λ (z : Option (Bor (List ℕ))).
    MatchOption z ((rest : List ℕ) → c.args.bytes.now ≡ flat_map segment_bytes (drop from segments) ++ rest → ⊥) (λ rest. c.args.bytes.now ≡ flat_map segment_bytes (drop from segments) ++ rest.now))
    (sym c.from_residual.ensures)
    (strips-not c.args.levels.now c.args.top.now segments from c.args.bytes.now c.ids.id c.ids.rest.now w (omega (arith, a, b)) (segment_of c.unwrap.result) (segment_of c.at_level-segment.result) e t-is
    c.in_err-rest.ensures)

pub ids-smaller : goal.ids-smaller
ids-smaller c =
    let r = c.requires in let a = c.ids-test.true in let b = c.end.ensures in
    let lt : c.ids.id < c.args.top.now.end = omega (arith, a, b) in
    let w = c.ids.invariant r.0 r.1 r.2 in
    let e = what-found c.held.result c.unwrap.result (held_from None c.args.levels.now c.ids.id ≡ None) (λ r. held_from None c.args.levels.now c.ids.id ≡ Some (segment_of r)) c.unwrap.ensures c.held.ensures in
    let t-is = c.at_level-segment.ensures ∙ ap (λ (n : ℕ). (let q : Segment = record (segment_of c.unwrap.result) { level = n } in q)) c.level.ensures in
    let low = low-at c.args.levels.now c.args.top.now r.0 w.at c.ids.id w.has lt (segment_of c.unwrap.result) (segment_of c.at_level-segment.result) e t-is in
    let order = c.at_level-segment.result.order in let number = c.number-id.ensures.number in let high = c.high.ensures in
    falls c.args.top.now.end (c.number-id.result + 1) c.ids.id lt (omega (arith, low, order, number, high))

pub ids-preserved : goal.ids-preserved
ids-preserved c = λ segments from h.
    let a = c.ids-test.true in let b = c.end.ensures in
    let w = c.ids.invariant segments from h in
    let e = what-found c.held.result c.unwrap.result (held_from None c.args.levels.now c.ids.id ≡ None) (λ r. held_from None c.args.levels.now c.ids.id ≡ Some (segment_of r)) c.unwrap.ensures c.held.ensures in
    let t-is = c.at_level-segment.ensures ∙ ap (λ (n : ℕ). (let q : Segment = record (segment_of c.unwrap.result) { level = n } in q)) c.level.ensures in
    let number = c.number-id.ensures.number in let high = c.high.ensures in
    let same : (segment_of c.at_level-segment.result).high + 1 ≡ c.number-id.result + 1 = omega (arith, number, high) in
    subst (λ n. StripsTo c.args.levels.now c.args.top.now segments from c.args.bytes.now n c.in_ok-rest.rest.now) same
    (strips-more c.args.levels.now c.args.top.now segments from c.args.bytes.now c.ids.id c.ids.rest.now w (omega (arith, a, b)) (segment_of c.unwrap.result) (segment_of c.at_level-segment.result) e t-is
    c.in_ok-rest.rest.now c.in_ok-rest.ensures)

pub returns : goal.returns
returns c = λ segments from h.
    let le = c.ids-test.false in let b = c.end.ensures in
    strips-all c.args.levels.now c.args.top.now segments from c.args.bytes.now c.ids.id c.ids.rest.now (c.ids.invariant segments from h) (omega (arith, le, b))
