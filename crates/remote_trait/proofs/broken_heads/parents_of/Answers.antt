use Rattle.std.proofs.Common.{◌≡◌, ◌∙◌, ◌||◌, ℕ, List, ap, subst, nat_eq}
use Rattle.id_groups.specs.Lists.{is_in}
use Rattle.segment_codec.specs.Record.{Segment}
use Rattle.remote_trait.specs.Marked.{has}
use Rattle.remote_trait.proofs.Items.{parents-more}
use Rattle.remote_trait.proofs.broken_heads.parents_of.Goals as goal

pub segments-preserved : goal.segments-preserved
segments-preserved c =
    let parents : c.numbers.result.now ≡ c.index-segments-k.result.parents = c.numbers.ensures.numbers ∙ ap (λ (s : Segment). s.parents) c.segment.view_is in
    parents-more c.args.segments.now c.segments.k c.index-segments-k.result c.segments-test.true c.index-segments-k.is (has c.segments.parents) (has c.add_all.new.set) c.segments.invariant
    (subst (λ (l : List ℕ). (q : ℕ) → has c.add_all.new.set q ≡ (has c.segments.parents q || is_in nat_eq q l)) parents c.in_ok-add_all.ensures)
