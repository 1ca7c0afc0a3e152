-- What it is that a log, or a disk, holds a world.
use Rattle.std.specs.Prelude.{◌≡◌, ◌≤◌, ℕ, List, [], length}
use Rattle.std.specs.List.{AllZip}
use Rattle.id_groups.specs.Name.{Name}
use Rattle.commit_graph.specs.World.{World, IsNamedWorld}
use Rattle.disk_trait.specs.Images.{Told}
use Rattle.disk_trait.specs.Since.{SureNow, SureSince}
use Rattle.gated_log.specs.Log.{IsLog}
use Rattle.batch_codec.specs.Payload.{Payload}
use Rattle.change_rules.specs.Lawful.{AreLawful}
use Rattle.change_rules.specs.Tables.{StandFor}
use Rattle.change_rules.specs.Change.{text_of}

-- the text is the payload's one spelling
abbrev pub IsSpelled : List ℕ → Payload → Type 0
IsSpelled text p = text ≡ text_of p

-- the texts are those of these payloads, one each
abbrev pub AreSpelled : List (List ℕ) → List Payload → Type 0
AreSpelled texts payloads = AllZip IsSpelled texts payloads

-- lawful payloads stand for the world, whose names are distinct and have 20 bytes
pub record HoldPayloads (payloads : List Payload) (w : World Name) : Type 0 where
  pub lawful : AreLawful [] payloads
  pub stand : StandFor payloads w
  pub world : IsNamedWorld w

-- the bytes of a file are the log of these payloads, within the limit, and hold the world
pub record HoldAs (limit : ℕ) (bytes : List ℕ) (payloads : List Payload) (w : World Name) : Type 0 where
  pub within : length bytes ≤ limit
  pub texts : List (List ℕ)
  pub log : IsLog bytes texts
  pub spelled : AreSpelled texts payloads
  pub hold : HoldPayloads payloads w

-- the bytes of a file hold the world
abbrev pub HoldBytes : ℕ → List ℕ → World Name → Type 0
HoldBytes limit bytes w = (payloads : List Payload) × HoldAs limit bytes payloads w

-- whatever a crash leaves now holds the world
abbrev pub HoldsNow : ℕ → Told → World Name → Type 0
HoldsNow limit t w = SureNow t (λ bytes. HoldBytes limit bytes w)

-- whatever world the disk holds, it does so at each moment since
abbrev pub KeepsHolding : ℕ → World Name → Told → Told → Type 0
KeepsHolding limit w old new = HoldsNow limit old w → SureSince (λ moment image. HoldBytes limit image w) old new
