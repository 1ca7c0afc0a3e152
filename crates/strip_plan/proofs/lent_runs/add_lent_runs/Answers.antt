use Rattle.std.proofs.Common.{◌∙◌, ◌<◌, ◌+◌, ◌^◌, ◌++◌, ◌∷◌, [], List, ℕ, length, map, get_or, refl, sym, subst, ap, ap₂, nat_eq, arith}
use Rattle.std.specs.Cmp.Lexicographic.{pointwise}
use Rattle.std.specs.List.{AllByRecursion}
use Rattle.segment_codec.specs.Record.{IsSegment}
use Rattle.change_parts.specs.Flat.{Span, single_span, flat_segments}
use Rattle.change_parts.specs.Moves.{flat_record, new_id, grown}
use Rattle.change_parts.proofs.Refusals.{not-zero}
use Rattle.change_parts.proofs.Marking.{all-taken}
use Rattle.change_parts.proofs.RowLemmas.{row-below}
use Rattle.change_parts.proofs.Growing.{runs-next, first-run, run-segment, last-in}
use Rattle.strip_plan.proofs.lent_runs.add_lent_runs.Goals as goal

pub begin_row-requires : goal.begin_row-requires
begin_row-requires c =
    subst (AllByRecursion (λ p. p < 2 ^ 56 + length c.args.ids.now)) (sym c.row.ensures) (row-below (length c.args.ids.now) (get_or c.args.numbers.now 0 0) c.args.graph.now c.requires.rows)

pub numbers-init : goal.numbers-init
numbers-init c =
    let f : ℕ → List ℕ = λ k. map (new_id c.args.ids.now) (get_or c.args.graph.now k []) in
    let begun = c.in_ok-begin_row.ensures ∙ ap₂ single_span (c.other.ensures) (ap (map (new_id c.args.ids.now)) c.row.ensures) in record {
      grows = (
        [],
        first-run (2 ^ 56) f c.args.numbers.now (not-zero _ c.if-is_empty.ensures) ∙ ap (λ (s : Span). s ∷ []) (sym begun),
        λ p is. is,
      );
      count = refl;
      high = let h = ap (λ (s : Span). s.high) begun in omega (arith, h);
    }

pub go_on-requires-clause-parents : goal.go_on-requires-clause-parents
go_on-requires-clause-parents c =
    subst (AllByRecursion (λ p. p < 2 ^ 56 + length c.args.ids.now)) (sym c.row-in-numbers.ensures) (row-below (length c.args.ids.now) (get_or c.args.numbers.now c.numbers.i 0) c.args.graph.now c.requires.rows)

pub go_on-requires-clause-segment : goal.go_on-requires-clause-segment
go_on-requires-clause-segment c = λ test.
    let f : ℕ → List ℕ = λ k. map (new_id c.args.ids.now) (get_or c.args.graph.now k []) in
    let g = c.numbers.invariant.grows in
    run-segment (λ s. IsSegment (flat_record s)) (2 ^ 56) f c.args.numbers.now c.numbers.i g.0 c.numbers.run c.numbers-test.true g.1
    (ap (λ l. pointwise nat_eq (map (new_id c.args.ids.now) l) (c.numbers.run.high ∷ [])) (sym c.row-in-numbers.ensures) ∙ test) c.requires.records

pub numbers-preserved : goal.numbers-preserved
numbers-preserved c =
    let f : ℕ → List ℕ = λ k. map (new_id c.args.ids.now) (get_or c.args.graph.now k []) in
    let g = c.numbers.invariant.grows in
    let next = c.in_ok-go_on.ensures.grows g.0 in record {
      grows = (
        next.0,
        sym (runs-next (2 ^ 56) (2 ^ 56 + c.numbers.i) f c.args.numbers.now c.numbers.i _ c.numbers-test.true refl refl)
            ∙ ap (λ l. grown l (2 ^ 56 + c.numbers.i) (f (get_or c.args.numbers.now c.numbers.i 0))) g.1
            ∙ ap₂ {C = List Span} (λ id ps. grown (g.0 ++ c.numbers.run ∷ []) id ps) (sym c.other-in-numbers.ensures) (ap (map (new_id c.args.ids.now)) (sym c.row-in-numbers.ensures))
            ∙ next.1,
        λ p is. next.2 p (g.2 p is),
      );
      count = c.in_ok-go_on.ensures.count ∙ c.numbers.invariant.count;
      high = let h = c.in_ok-go_on.ensures.high in let is = c.other-in-numbers.ensures in omega (arith, h, is);
    }

pub put-requires : goal.put-requires
put-requires c =
    let f : ℕ → List ℕ = λ k. map (new_id c.args.ids.now) (get_or c.args.graph.now k []) in
    let g = c.numbers.invariant.grows in let ge = c.numbers-test.false in
    last-in (λ s. IsSegment (flat_record s)) g.0 c.numbers.run
    (subst (AllByRecursion (λ (s : Span). IsSegment (flat_record s))) (sym (ap (λ l. flat_segments (2 ^ 56) (map f l)) (all-taken c.args.numbers.now c.numbers.i (omega (arith, ge)))) ∙ g.1) c.requires.records)
