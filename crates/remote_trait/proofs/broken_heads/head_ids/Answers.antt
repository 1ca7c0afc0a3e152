use Rattle.std.proofs.Common.{◌∙◌, ◌++◌, ◌∷◌, [], ℕ, List, Bool, ap, nat_eq, not, if◌then◌else◌}
use Rattle.std.specs.Prelude.{flat_map}
use Rattle.id_groups.specs.Lists.{is_in}
use Rattle.segment_codec.specs.Record.{Segment}
use Rattle.remote_trait.proofs.Items.{heads-more, head-kept}
use Rattle.remote_trait.proofs.broken_heads.head_ids.Goals as goal

pub segments-preserved : goal.segments-preserved
segments-preserved c =
    let high = c.index-segments-k.result.high in
    let is_parent = is_in nat_eq high (flat_map (λ (s : Segment). s.parents) c.args.segments.now) in
    heads-more (λ id. not (is_in nat_eq id (flat_map (λ (s : Segment). s.parents) c.args.segments.now))) c.args.segments.now c.segments.k c.index-segments-k.result c.segments-test.true c.index-segments-k.is
    c.segments.ids.items c.keep_head.new.ids.items c.segments.invariant
    (c.in_ok-keep_head.ensures ∙ ap (λ (b : Bool). c.segments.ids.items ++ (if b then [] else high ∷ [])) (c.in_ok-parents.ensures high) ∙ ap (λ (l : List ℕ). c.segments.ids.items ++ l) (head-kept is_parent high))
