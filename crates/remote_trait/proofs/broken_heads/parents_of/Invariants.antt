use Rattle.std.proofs.Common.{◌≡◌, ℕ, take, nat_eq}
use Rattle.std.specs.Prelude.{flat_map}
use Rattle.id_groups.specs.Lists.{is_in}
use Rattle.segment_codec.specs.Record.{Segment}
use Rattle.remote_trait.specs.Marked.{has}
use Rattle.remote_trait.proofs.broken_heads.parents_of.Given as goal

abbrev pub invariant-segments : goal.invariant-segments
invariant-segments l = (q : ℕ) → has l.parents q ≡ is_in nat_eq q (flat_map (λ (s : Segment). s.parents) (take l.k l.segments))
