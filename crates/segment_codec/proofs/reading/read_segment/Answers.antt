use Rattle.std.proofs.Common.{◌≡◌, ◌++◌, List, ℕ, arith, Option, Some, None, ap, sym, ◌∙◌}
use Rattle.std.specs.Prelude.{IfSome, MatchOption}
use Rattle.segment_codec.specs.Record.{Segment, IsSegment, segment_bytes}
use Rattle.segment_codec.specs.Reading.{Gives, record_at}
use Rattle.segment_codec.proofs.Numbers.{IsBytes, some_is}
use Rattle.segment_codec.proofs.Records.{record_takes, record_again}
use Rattle.segment_codec.proofs.reading.read_segment.Goals as goal

module _ {X : Type 0} (segment : X → Segment) (behind : X → List ℕ) (bytes : List ℕ) where
  found : (r : Option X) → IsBytes bytes → Gives (λ x. (segment x, behind x)) r (record_at bytes)
      → IfSome r (λ x. IsSegment (segment x) × (bytes ≡ segment_bytes (segment x) ++ behind x))
  found None fits e = tt
  found (Some x) fits e = let t = record_takes bytes (segment x, behind x) fits e in (t.segment, t.parts)

  only : (r : Option X) → Gives (λ x. (segment x, behind x)) r (record_at bytes) → (s : Segment) (rest : List ℕ) → IsSegment s → bytes ≡ segment_bytes s ++ rest
      → MatchOption r ⊥ (λ x. (segment x ≡ s) × (behind x ≡ rest))
  only None e s rest h f = let again = sym e ∙ ap record_at f ∙ record_again s rest h in absurd cc
  only (Some x) e s rest h f =
      let a : Segment × List ℕ = (segment x, behind x) in
      let b : Segment × List ℕ = (s, rest) in
      let same = some_is a b (sym e ∙ ap record_at f ∙ record_again s rest h) in
      (ap (λ (z : Segment × List ℕ). z.0) same, ap (λ (z : Segment × List ℕ). z.1) same)

pub returns-clause-found : goal.returns-clause-found
returns-clause-found c = found _ _ c.args.bytes.now c.read_record.result (λ i. omega (arith, c.type_inv.bytes i)) c.read_record.ensures

pub returns-clause-only : goal.returns-clause-only
returns-clause-only c = λ s rest. only _ _ c.args.bytes.now c.read_record.result c.read_record.ensures s rest
