use Rattle.std.proofs.Common.{◌∙◌, ◌≤◌, length, ap, sym, ℕ, slice_get, subst, arith}
use Rattle.std.specs.List.{AllByRecursion}
use Rattle.remote_rules.specs.CloneData.{CloneData}
use Rattle.segment_codec.specs.Record.{Segment}
use Rattle.change_parts.proofs.Marking.{all-taken}
use Rattle.change_parts.proofs.Gathered.{all-more}
use Rattle.pull_plan.proofs.pulled.count_parents.Goals as goal

pub segments-preserved : goal.segments-preserved
segments-preserved c =
    let few = c.numbers-numbers.ensures.few in
    let p = ap (length {A = ℕ}) (ap (λ (t : Segment). t.parents) c.segment.view_is) in
    all-more (λ (t : Segment). length t.parents ≤ 8) c.args.told.now.segments c.segments.k c.at-segment.result.now
    (ap (λ (d : CloneData). slice_get d.segments c.segments.k) (sym c.told.view_is) ∙ c.at-segment.ensures) c.segments.invariant (omega (arith, few, p))

pub returns : goal.returns
returns c =
    let n = ap (λ (d : CloneData). length d.segments) c.told.view_is in let l = c.len-k-end.ensures in let ge = c.segments-test.false in
    subst (AllByRecursion (λ (s : Segment). length s.parents ≤ 8)) (all-taken c.args.told.now.segments c.segments.k (omega (arith, n, l, ge))) c.segments.invariant
