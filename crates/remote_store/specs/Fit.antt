-- Logs that are no remote's.
use Rattle.std.specs.Prelude.{◌≡◌, ◌<◌, ◌≤◌, ◌+◌, ◌⊎◌, ℕ, true, List, [], length}
use Rattle.id_groups.specs.Name.{Name}
use Rattle.commit_graph.specs.World.{World}
use Rattle.disk_trait.specs.Meanwhile.{IsBetween, IsLengthBetween}
use Rattle.gated_log.specs.Log.{IsLog, IsDamaged}
use Rattle.gated_log.specs.Growing.{most_reads}
use Rattle.batch_codec.specs.Payload.{Payload}
use Rattle.change_rules.specs.Lawful.{AreLawful}
use Rattle.change_rules.specs.Holding.{HoldPayloads, AreSpelled}
use Rattle.change_rules.specs.Lazy.{has_lazy}

-- the texts spell no payloads that may come one behind the other
abbrev pub AreUnlawful : List (List ℕ) → Type 0
AreUnlawful texts = (payloads : List Payload) → AreSpelled texts payloads → AreLawful [] payloads → ⊥

-- the texts spell payloads that hold a world, of which a commit has no known name
abbrev pub AreLazy : List (List ℕ) → Type 0
AreLazy texts = (payloads : List Payload) × (w : World Name) × AreSpelled texts payloads × HoldPayloads payloads w × (has_lazy payloads w ≡ true)

-- no remote can be made of these texts
abbrev pub AreNoRemote : List (List ℕ) → Type 0
AreNoRemote texts = AreUnlawful texts ⊎ AreLazy texts

-- the bytes are too many, or damaged, or the log of texts of which no remote can be made
abbrev pub IsUnfit : ℕ → List ℕ → Type 0
IsUnfit limit bytes =
    (limit < length bytes)
    ⊎ (((at : ℕ) × IsDamaged bytes at)
    ⊎ ((texts : List (List ℕ)) × IsLog bytes texts × AreNoRemote texts))

-- of a log to which payloads are added between two moments: it has too many bytes at one of them, or more payloads come than are read on for
abbrev pub IsTooLong : ℕ → (ℕ → List ℕ) → (ℕ → List (List ℕ)) → ℕ → ℕ → Type 0
IsTooLong limit film payloads from to =
    ((size : ℕ) × (limit < size) × IsLengthBetween film from to size) ⊎ (length (payloads from) + most_reads ≤ length (payloads to))

-- the same, or no remote can be made of what it holds at some moment between
abbrev pub IsUnfitMeanwhile : ℕ → (ℕ → List ℕ) → (ℕ → List (List ℕ)) → ℕ → ℕ → Type 0
IsUnfitMeanwhile limit film payloads from to =
    IsTooLong limit film payloads from to ⊎ ((moment : ℕ) × IsBetween from to moment × AreNoRemote (payloads moment))
