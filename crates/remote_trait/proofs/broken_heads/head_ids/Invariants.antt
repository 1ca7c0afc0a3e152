use Rattle.std.proofs.Common.{◌≡◌, take, map, filter, not, nat_eq}
use Rattle.std.specs.Prelude.{flat_map}
use Rattle.id_groups.specs.Lists.{is_in}
use Rattle.segment_codec.specs.Record.{Segment}
use Rattle.remote_trait.proofs.broken_heads.head_ids.Given as goal

abbrev pub invariant-segments : goal.invariant-segments
invariant-segments l =
    l.ids.items ≡ filter (λ id. not (is_in nat_eq id (flat_map (λ (s : Segment). s.parents) l.segments))) (map (λ (s : Segment). s.high) (take l.k l.segments))
