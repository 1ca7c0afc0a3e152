-- What a plan of a clone answers.
use Rattle.std.specs.Prelude.{[], ◌≡◌, ◌↔◌, ℕ, List, Option, length, nat_lt, IsTrue, if◌then◌else◌}
use Rattle.id_groups.specs.Name.{Name}
use Rattle.commit_graph.specs.World.{Row, World, IsNamedWorld}
use Rattle.segment_codec.specs.Turns.{place_behind}
use Rattle.remote_rules.specs.CloneData.{CloneData, first_broken}
use Rattle.remote_rules.specs.Known.{master_world}
use Rattle.remote_rules.specs.Honest.{heads_of, clone_data_of}
use Rattle.change_rules.specs.declared.Limits.{Limits}
use Rattle.change_rules.specs.declared.Limit.TheVariants.{Heads, Master, Log}
use Rattle.change_rules.specs.Standard.{most_heads}
use Rattle.change_rules.specs.Change.{clone_change, told_change, text_of}
use Rattle.change_parts.specs.declared.change.Change.{Change}
use Rattle.change_parts.specs.declared.fault.PlanFault.{PlanFault}
use Rattle.change_parts.specs.Plans.{over, first_fault, length_with, clone_fault}

-- how many commits the segments have that a remote told
abbrev pub told_count : CloneData → ℕ
told_count told = place_behind 0 told.segments

-- the bytes of the payload of what a remote told; of no commits there is none
abbrev pub told_payload : CloneData → List ℕ
told_payload told = if nat_lt 0 (told_count told) then text_of (told_change told) else []

-- why a clone is refused for its heads and commits, and for the log of so many bytes that it would be put behind
abbrev pub counts_refusal : Limits → CloneData → Option PlanFault
counts_refusal limits told = first_fault (over most_heads (length told.heads) Heads) (over limits.master (told_count told) Master)

abbrev pub log_refusal : Limits → ℕ → CloneData → Option PlanFault
log_refusal limits log told = over limits.log (length_with log (told_payload told)) Log

-- Why a clone is refused: for the first item that breaks its rule, or for the first of the heads, the commits and the log's bytes
-- that are above their limit.
abbrev pub told_refusal : Limits → ℕ → CloneData → Option PlanFault
told_refusal limits log told = first_fault (clone_fault (first_broken told)) (first_fault (counts_refusal limits told) (log_refusal limits log told))

-- The change is that of what a remote told; where it has no commits, there is nothing to write.
pub record IsToldPlan (plan : Change) (told : CloneData) : Type 0 where
  pub payload_is : plan.payload ≡ told_payload told
  pub master : plan.master ≡ told_count told
  pub others : plan.others ≡ 0
  pub same : IsTrue plan.same ↔ (told_count told ≡ 0)

-- the bytes of the payload of a clone of a world's master; of an empty one there is none
abbrev pub clone_payload : World Name → List ℕ
clone_payload r = if nat_lt 0 (length r.master) then text_of (clone_change r) else []

-- why a clone of a world's master is refused: for the first of these numbers that is above its limit
abbrev pub clone_refusal : Limits → ℕ → World Name → Option PlanFault
clone_refusal limits log r =
    first_fault (over most_heads (length (heads_of r)) Heads)
    (first_fault (over limits.master (length r.master) Master)
    (over limits.log (length_with log (clone_payload r)) Log))

-- an honest remote whose master has these rows tells this
pub record IsToldBy (rows : List (Row Name)) (told : CloneData) : Type 0 where
  pub world : IsNamedWorld (master_world rows)
  pub told_is : told ≡ clone_data_of (master_world rows)
