use Rattle.std.proofs.Common.{ℕ, ◌↔◌, take}
use Rattle.id_groups.specs.Lists.{IsIn}
use Rattle.segment_codec.specs.Table.{IsHeld}
use Rattle.span_set.specs.Members.{IsMember}
use Rattle.sample_tables.proofs.held.held_ids.Given as goal

-- the set has those of the ids gone over that the table has
abbrev pub invariant-ids : goal.invariant-ids
invariant-ids g l = (x : ℕ) → IsMember l.set x ↔ (IsIn x (take l.id-index l.ids) × IsHeld (g.T.SegmentTable.flats l.table) x)
