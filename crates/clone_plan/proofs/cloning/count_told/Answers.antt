use Rattle.std.proofs.Common.{◌≡◌, ◌∙◌, ◌+◌, ◌-◌, ℕ, Some, sym, ap, subst}
use Rattle.std.specs.Prelude.{slice_get}
use Rattle.segment_codec.specs.Record.{Segment}
use Rattle.segment_codec.specs.Turns.{place_behind}
use Rattle.remote_rules.specs.CloneData.{CloneData}
use Rattle.remote_trait.proofs.Items.{last-place}
use Rattle.clone_plan.proofs.cloning.count_told.Goals as goal

pub returns : goal.returns
returns c =
    let segments = c.cloned.inside.segments in
    let s = c.at-last.result.now in
    let high : c.from.result ≡ s.high = c.from.ensures ∙ ap (λ (t : Segment). t.high) c.last.view_is in
    let place : place_behind 0 segments ≡ s.high + 1 = last-place segments s (sym (subst (λ (n : ℕ). slice_get segments (n - 1) ≡ Some s) c.len-n.ensures c.at-last.ensures)) in
    ap (λ (n : ℕ). n + 1) high ∙ sym place ∙ ap (λ (t : CloneData). place_behind 0 t.segments) c.cloned.view_is
