-- One read of a log, of those that follow each other while it grows.
use Rattle.std.specs.Prelude.{◌≡◌, ◌<◌, ◌≤◌, ◌⊎◌, ◌+◌, ℕ, List, [], ◌++◌, length, Result, Ok, Err, ⊤}
use Rattle.disk_trait.specs.Meanwhile.{Meanwhile, Lasts, IsBetween, IsLengthBetween, AreRead}
use Rattle.gated_log.specs.Log.{batches}
use Rattle.gated_log.specs.Growing.{AreOfMoment}
use Rattle.gated_log.specs.Load.{Loads}
use Rattle.gated_log.specs.declared.LoadLog.{LoadLog}
use Rattle.gated_log.specs.declared.LoadLog.TheVariants.{Damaged, TooLarge, Disk, Memory}
use Rattle.gated_log.specs.declared.turn.Turn.{Turn}
use Rattle.gated_log.specs.declared.turn.Turn.TheVariants.{Whole, Open}

-- over bytes that nobody else writes it ends with the first read
abbrev pub TurnLoads : ℕ → List ℕ → Result Turn LoadLog → Type 0
TurnLoads limit bytes (Ok (Whole log)) = Loads limit bytes (Ok log)
TurnLoads limit bytes (Ok (Open at size)) = ⊥
TurnLoads limit bytes (Err (TooLarge size)) = ⊥
TurnLoads limit bytes (Err fault) = Loads limit bytes (Err fault)

-- So many reads were made from a moment on, and one more is to come, up to that size. The size was there by now, and is more than
-- the payloads of a moment take at which a payload more was there for each read; or it is that of a fresh file, and no read was made.
pub record IsReading (film : ℕ → List ℕ) (payloads : ℕ → List (List ℕ)) (from start now turns : ℕ) (bytes : List ℕ) (size : ℕ) : Type 0 where
  pub begun : IsBetween from now start
  pub read : AreRead film start now 0 bytes
  pub there : size ≤ length (film now)
  pub reached : ((turns ≡ 0) × (size ≤ 1) × (payloads start ≡ []))
      ⊎ ((2 ≤ size) × (2 ≤ length (film start))
      × (moment : ℕ) × IsBetween from now moment × (length (payloads from) + turns ≤ length (payloads moment)) × (length (batches (payloads moment)) < size))

-- what one read answers: the log of some moment meanwhile, or where to read on
abbrev pub TurnAnswers : ℕ → (ℕ → List ℕ) → (ℕ → List (List ℕ)) → ℕ → ℕ → ℕ → ℕ → List ℕ → Result Turn LoadLog → Type 0
TurnAnswers limit film payloads from start now turns bytes (Ok (Whole log)) = AreOfMoment payloads from now log.payloads
TurnAnswers limit film payloads from start now turns bytes (Ok (Open at size)) = IsReading film payloads from start now (turns + 1) bytes size
TurnAnswers limit film payloads from start now turns bytes (Err (Damaged at)) = ⊥
TurnAnswers limit film payloads from start now turns bytes (Err (TooLarge size)) = (limit < size) × IsLengthBetween film from now size
TurnAnswers limit film payloads from start now turns bytes (Err Memory) = ⊤
TurnAnswers limit film payloads from start now turns bytes (Err (Disk fault)) = ⊤

-- what there is behind the bytes was read, up to the size
abbrev pub ReadsBehind : List ℕ → ℕ → List ℕ → Meanwhile → Meanwhile → Type 0
ReadsBehind before size after old new =
    (more : List ℕ) × (after ≡ before ++ more) × AreRead old.film old.now new.now (length before) more × (size ≤ length (old.film old.now) → length after ≡ size)

-- the gate there is damage, unless the disk fails
abbrev pub IsDamage : ℕ → Result Turn LoadLog → Type 0
IsDamage at (Ok turn) = ⊥
IsDamage at (Err (Damaged place)) = place ≡ at
IsDamage at (Err (TooLarge size)) = ⊥
IsDamage at (Err Memory) = ⊥
IsDamage at (Err (Disk fault)) = ⊤

-- more is there at some moment than was read, or no more, or too much
abbrev pub IsMore : ℕ → ℕ → Result Turn LoadLog → Meanwhile → Meanwhile → Type 0
IsMore read limit (Ok (Whole log)) old new = ⊥
IsMore read limit (Ok (Open at size)) old new = Lasts old new × IsLengthBetween old.film old.now new.now size
IsMore read limit (Err (Damaged place)) old new =
    Lasts old new × (moment : ℕ) × IsBetween old.now new.now moment × (length (old.film moment) ≤ read)
IsMore read limit (Err (TooLarge size)) old new = Lasts old new × (limit < size) × IsLengthBetween old.film old.now new.now size
IsMore read limit (Err Memory) old new = Lasts old new
IsMore read limit (Err (Disk fault)) old new = Lasts old new
