-- What is told of a log that is written anew.
use Rattle.std.specs.Prelude.{◌≡◌, ◌≢◌, ◌<◌, ◌≤◌, ◌⊎◌, ◌+◌, ℕ, List, [], ◌∷◌, length, map, Result, Ok, Err, ⊤}
use Rattle.id_groups.specs.Name.{Name}
use Rattle.commit_graph.specs.World.{World}
use Rattle.disk_trait.specs.Images.{Told}
use Rattle.disk_trait.specs.Since.{SureNow, SureSince}
use Rattle.gated_log.specs.Log.{IsLog, IsDamaged, log_length}
use Rattle.gated_log.specs.Holding.{IsLogWithin, HasPayloads}
use Rattle.gated_log.specs.declared.LoadLog.{LoadLog}
use Rattle.gated_log.specs.declared.LoadLog.TheVariants as logs
use Rattle.batch_codec.specs.Payload.{Payload}
use Rattle.change_rules.specs.Lawful.{AreLawful}
use Rattle.change_rules.specs.Change.{text_of}
use Rattle.change_rules.specs.Tables.{known_in, cloned_count, remote_heads}
use Rattle.change_rules.specs.Holding.{HoldPayloads, HoldAs}
use Rattle.change_rules.specs.Unlawful.{IsFirstUnlawful, IsNoLog}
use Rattle.compact_rules.specs.Whole.{whole_change}
use Rattle.log_compact.specs.declared.answer.Shrunk.{Shrunk}
use Rattle.log_compact.specs.declared.answer.Compacted.{Compacted}
use Rattle.log_compact.specs.declared.answer.Compacted.TheVariants.{Done, FromDisk, FromBad, ToDisk, NotFresh, Full, Memory}

-- the payloads of the log that is written: one of a whole store; of no payloads, none
abbrev pub whole_list : List Payload → World Name → List Payload
whole_list [] w = []
whole_list (p ∷ more) w = whole_change (p ∷ more) w ∷ []

-- ---- the log that is written

-- It holds the world, with the same known names, cloned count and heads of the remote.
pub record HoldsWhole (limit : ℕ) (payloads : List Payload) (w : World Name) (image : List ℕ) : Type 0 where
  pub held : HoldAs limit image (whole_list payloads w) w
  pub known : known_in (whole_list payloads w) ≡ known_in payloads
  pub cloned : cloned_count (whole_list payloads w) ≡ cloned_count payloads
  pub heads : remote_heads (whole_list payloads w) ≡ remote_heads payloads

-- it has no batch, or holds the world so
abbrev pub IsNoneOrWhole : ℕ → List Payload → World Name → List ℕ → Type 0
IsNoneOrWhole limit payloads w image = IsLogWithin limit [] image ⊎ HoldsWhole limit payloads w image

-- where no list that a crash leaves has a batch, each one since has none, or holds the world so
abbrev pub KeepsNoneOrWhole : ℕ → List Payload → World Name → Told → Told → Type 0
KeepsNoneOrWhole limit payloads w old new = HasPayloads limit old [] → SureSince (λ moment. IsNoneOrWhole limit payloads w) old new

-- whatever a crash leaves in the end holds the world so
abbrev pub HasWhole : ℕ → List Payload → World Name → Told → Told → Type 0
HasWhole limit payloads w old new = SureNow new (HoldsWhole limit payloads w)

-- ---- the answer

-- the sizes of the world, and how long the two logs are
abbrev pub shrunk_of : List Payload → World Name → Shrunk
shrunk_of payloads w = record {
  master = length w.master;
  others = length w.others;
  length_from = log_length (map text_of payloads);
  length_to = log_length (map text_of (whole_list payloads w));
}

-- what it tells of the payloads that hold the world: it is full exactly where the one payload is too long
abbrev pub Shrinks : ℕ → List Payload → World Name → Compacted → Type 0
Shrinks limit payloads w (Done shrunk) = (shrunk ≡ shrunk_of payloads w) × (log_length (map text_of (whole_list payloads w)) ≤ limit)
Shrinks limit payloads w (FromDisk fault) = ⊤
Shrinks limit payloads w FromBad = ⊥
Shrinks limit payloads w (ToDisk fault) = ⊤
Shrinks limit payloads w NotFresh = ⊤
Shrinks limit payloads w (Full most) = (most ≡ limit) × (payloads ≢ []) × (limit < length (text_of (whole_change payloads w)) + 10)
Shrinks limit payloads w Memory = ⊤

-- what it tells of the bytes that are read: they are bad exactly where they are no log
abbrev pub IsReadAs : ℕ → List ℕ → Compacted → Type 0
IsReadAs limit bytes (Done shrunk) = IsNoLog limit bytes → ⊥
IsReadAs limit bytes (FromDisk fault) = ⊤
IsReadAs limit bytes FromBad = IsNoLog limit bytes
IsReadAs limit bytes (ToDisk fault) = IsNoLog limit bytes → ⊥
IsReadAs limit bytes NotFresh = IsNoLog limit bytes → ⊥
IsReadAs limit bytes (Full most) = IsNoLog limit bytes → ⊥
IsReadAs limit bytes Memory = ⊤

-- the file is longer than the limit, or damaged, or has a batch
abbrev pub IsTaken : ℕ → List ℕ → Type 0
IsTaken limit bytes =
    (limit < length bytes)
    ⊎ (((at : ℕ) × IsDamaged bytes at)
    ⊎ ((texts : List (List ℕ)) × IsLog bytes texts × (texts ≢ [])))

-- what it tells of the bytes of the log that is to be written
abbrev pub IsWrittenAs : ℕ → List ℕ → Compacted → Type 0
IsWrittenAs limit bytes (Done shrunk) = IsLogWithin limit [] bytes
IsWrittenAs limit bytes (FromDisk fault) = ⊤
IsWrittenAs limit bytes FromBad = ⊤
IsWrittenAs limit bytes (ToDisk fault) = ⊤
IsWrittenAs limit bytes NotFresh = IsTaken limit bytes
IsWrittenAs limit bytes (Full most) = IsLogWithin limit [] bytes
IsWrittenAs limit bytes Memory = ⊤

-- the log that is read is to blame
abbrev pub IsOfFrom : Compacted → Type 0
IsOfFrom (Done shrunk) = ⊥
IsOfFrom (FromDisk fault) = ⊤
IsOfFrom FromBad = ⊤
IsOfFrom (ToDisk fault) = ⊥
IsOfFrom NotFresh = ⊥
IsOfFrom (Full most) = ⊥
IsOfFrom Memory = ⊥

-- no batch was to be written
abbrev pub IsUnstored : Compacted → Type 0
IsUnstored (Done shrunk) = ⊥
IsUnstored (FromDisk fault) = ⊤
IsUnstored FromBad = ⊤
IsUnstored (ToDisk fault) = ⊥
IsUnstored NotFresh = ⊤
IsUnstored (Full most) = ⊤
IsUnstored Memory = ⊤

-- ---- the disks

-- ---- the parts

-- what is made of a log: the text of the payload, empty where there is none, the sizes of its world, and how long it is
pub record PlainWhole : Type 0 where
  pub text : List ℕ
  pub master : ℕ
  pub others : ℕ
  pub length : ℕ

-- the batches that a text makes
abbrev pub batch_of : List ℕ → List (List ℕ)
batch_of [] = []
batch_of (byte ∷ text) = (byte ∷ text) ∷ []

-- it is that of a world that the payloads hold
pub record IsWholeOf (payloads : List Payload) (w : World Name) (whole : PlainWhole) : Type 0 where
  pub texts : batch_of whole.text ≡ map text_of (whole_list payloads w)
  pub master : whole.master ≡ length w.master
  pub others : whole.others ≡ length w.others

-- it is made of the payloads
pub record IsMadeOf (payloads : List Payload) (whole : PlainWhole) : Type 0 where
  pub lawful : AreLawful [] payloads
  pub size : whole.length ≡ log_length (map text_of payloads)
  pub each : (w : World Name) → HoldPayloads payloads w → IsWholeOf payloads w whole

-- what is made of a log's texts
abbrev pub MakesWhole : List (List ℕ) → Result PlainWhole Compacted → Type 0
MakesWhole texts (Ok whole) = (payloads : List Payload) × (texts ≡ map text_of payloads) × IsMadeOf payloads whole
MakesWhole texts (Err FromBad) = (k : ℕ) × IsFirstUnlawful [] texts k
MakesWhole texts (Err Memory) = ⊤
MakesWhole texts (Err _) = ⊥

-- what is made of bytes
abbrev pub ReadsWhole : ℕ → List ℕ → Result PlainWhole Compacted → Type 0
ReadsWhole limit bytes (Ok whole) = (payloads : List Payload) × IsLogWithin limit (map text_of payloads) bytes × IsMadeOf payloads whole
ReadsWhole limit bytes (Err FromBad) = IsNoLog limit bytes
ReadsWhole limit bytes (Err (FromDisk fault)) = ⊤
ReadsWhole limit bytes (Err Memory) = ⊤
ReadsWhole limit bytes (Err _) = ⊥

-- the log that is read refuses it, or memory is wanted
abbrev pub IsOfReading : Compacted → Type 0
IsOfReading FromBad = ⊤
IsOfReading (FromDisk fault) = ⊤
IsOfReading Memory = ⊤
IsOfReading _ = ⊥

-- the answer where it is written to a log that has these batches then
abbrev pub written_to : PlainWhole → List (List ℕ) → Shrunk
written_to whole texts = record { master = whole.master; others = whole.others; length_from = whole.length; length_to = log_length texts }

-- what is answered where it is stored in a log without batches
abbrev pub StoresWhole : ℕ → PlainWhole → Compacted → Type 0
StoresWhole limit whole (Done shrunk) = (shrunk ≡ written_to whole (batch_of whole.text)) × (log_length (batch_of whole.text) ≤ limit)
StoresWhole limit whole (FromDisk fault) = ⊥
StoresWhole limit whole FromBad = ⊥
StoresWhole limit whole (ToDisk fault) = ⊤
StoresWhole limit whole NotFresh = ⊥
StoresWhole limit whole (Full most) = (most ≡ limit) × (whole.text ≢ []) × (limit < length whole.text + 10)
StoresWhole limit whole Memory = ⊤

-- what is answered where it is to be stored in any log
abbrev pub AnswersWhole : ℕ → PlainWhole → Compacted → Type 0
AnswersWhole limit whole (Done shrunk) = StoresWhole limit whole (Done shrunk)
AnswersWhole limit whole (FromDisk fault) = ⊥
AnswersWhole limit whole FromBad = ⊥
AnswersWhole limit whole (ToDisk fault) = ⊤
AnswersWhole limit whole NotFresh = ⊤
AnswersWhole limit whole (Full most) = StoresWhole limit whole (Full most)
AnswersWhole limit whole Memory = ⊤

-- what is answered where these are the bytes of that log
abbrev pub WritesWhole : ℕ → List ℕ → PlainWhole → Compacted → Type 0
WritesWhole limit bytes whole (Done shrunk) = IsLogWithin limit [] bytes × StoresWhole limit whole (Done shrunk)
WritesWhole limit bytes whole (FromDisk fault) = ⊥
WritesWhole limit bytes whole FromBad = ⊥
WritesWhole limit bytes whole (ToDisk fault) = ⊤
WritesWhole limit bytes whole NotFresh = IsTaken limit bytes
WritesWhole limit bytes whole (Full most) = IsLogWithin limit [] bytes × StoresWhole limit whole (Full most)
WritesWhole limit bytes whole Memory = ⊤

-- each list that a crash leaves since has no batch, or that of the text
abbrev pub IsNoneOrNew : ℕ → List ℕ → List ℕ → Type 0
IsNoneOrNew limit text image = IsLogWithin limit [] image ⊎ IsLogWithin limit (batch_of text) image

abbrev pub KeepsNoneOrNew : ℕ → List ℕ → Told → Told → Type 0
KeepsNoneOrNew limit text old new = HasPayloads limit old [] → SureSince (λ moment. IsNoneOrNew limit text) old new

-- whatever a crash leaves in the end has that of the text
abbrev pub HasText : ℕ → List ℕ → Told → Told → Type 0
HasText limit text old new = HasPayloads limit new (batch_of text)

-- what the fault of the log that is read answers, and that of the other
abbrev pub from_answer : LoadLog → Compacted
from_answer (logs.Damaged at) = FromBad
from_answer (logs.TooLarge size) = FromBad
from_answer (logs.Disk fault) = FromDisk fault
from_answer logs.Memory = Memory

abbrev pub to_answer : LoadLog → Compacted
to_answer (logs.Damaged at) = NotFresh
to_answer (logs.TooLarge size) = NotFresh
to_answer (logs.Disk fault) = ToDisk fault
to_answer logs.Memory = Memory
