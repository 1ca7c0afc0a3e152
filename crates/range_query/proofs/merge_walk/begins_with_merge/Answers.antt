use Rattle.std.proofs.Common.{refl, arith, ◌≤◌, length}
use Rattle.segment_codec.specs.Lent.{segment_of}
use Rattle.range_query.proofs.ByteCounts.{many-bytes}
use Rattle.range_query.proofs.merge_walk.begins_with_merge.Goals as goal

pub returns-then-parents_len-longest : goal.returns-then-parents_len-longest
returns-then-parents_len-longest c =
    let many : 2 ≤ length (segment_of c.args.segment).parents = many-bytes c.args.segment.low c.args.longest (segment_of c.args.segment).parents c.args.segment.below c.requires
    (omega (arith, c.if-parents_len-longest.true, c.parents_len.ensures.len)) in (λ t. many, λ m. refl)
