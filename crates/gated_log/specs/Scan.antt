-- What reading one gate after another finds.
use Rattle.std.specs.Prelude.{◌≡◌, ◌≢◌, ℕ, List, ◌∷◌, ◌++◌, length, Result, Ok, Err, ⊤}
use Rattle.std.specs.List.{AllByRecursion}
use Rattle.gated_log.specs.Log.{batches, HasLength, IsDamaged, gates_of}
use Rattle.gated_log.specs.declared.scan.Gates.{Gates}
use Rattle.gated_log.specs.declared.LoadLog.{LoadLog}
use Rattle.gated_log.specs.declared.LoadLog.TheVariants.{Damaged, TooLarge, Disk, Memory}

-- whole batches stand in front of the first closed gate, and their gates at these places
pub record IsClosedAt (bytes open_gates : List ℕ) (at : ℕ) : Type 0 where
  pub payloads : List (List ℕ)
  pub gate : ℕ
  pub behind : List ℕ
  pub lengths : AllByRecursion HasLength payloads
  pub closed : gate ≢ 1
  pub whole : bytes ≡ batches payloads ++ gate ∷ behind
  pub place : at ≡ length (batches payloads)
  pub opened : open_gates ≡ gates_of 0 payloads

-- the gates, or the place of the damage
abbrev pub FindsGates : List ℕ → Result Gates LoadLog → Type 0
FindsGates bytes (Ok gates) = IsClosedAt bytes gates.open_gates.items gates.closed
FindsGates bytes (Err (Damaged at)) = IsDamaged bytes at
FindsGates bytes (Err Memory) = ⊤
FindsGates bytes (Err (TooLarge size)) = ⊥
FindsGates bytes (Err (Disk fault)) = ⊥
