use Rattle.std.proofs.Common.{◌≡◌, ◌∷◌, Bool, drop}
use Rattle.std.specs.List.{list_all}
use Rattle.segment_codec.specs.Record.{Segment}
use Rattle.remote_rules.specs.CloneData.{merge_parents}
use Rattle.remote_trait.specs.declared.marked.MarkedIds.{MarkedIds}
use Rattle.remote_trait.specs.Marked.{has}
use Rattle.remote_trait.proofs.broken_heads.have_names.Given as goal

-- whether the highest id of the segment and each parent of a merge are in the set
abbrev pub has-own : MarkedIds → Segment → Bool
has-own named s = list_all (has named) (s.high ∷ merge_parents s.parents)

abbrev pub invariant-segments : goal.invariant-segments
invariant-segments l = list_all (has-own l.named) l.segments ≡ list_all (has-own l.named) (drop l.k l.segments)
