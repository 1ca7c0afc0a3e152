-- Bytes of a file that a log may not have.
use Rattle.std.specs.Prelude.{◌<◌, ◌⊎◌, ℕ, zero, suc, List, [], ◌∷◌, ◌++◌, length}
use Rattle.gated_log.specs.Log.{IsLog, IsDamaged}
use Rattle.batch_codec.specs.Payload.{Payload}
use Rattle.change_rules.specs.Lawful.{MayFollow}
use Rattle.change_rules.specs.Holding.{IsSpelled}

-- a text is a payload that may come behind these
abbrev pub MayStand : List Payload → List ℕ → Payload → Type 0
MayStand before text p = IsSpelled text p × MayFollow before p

-- So many texts are payloads, each of which may come behind those before it, and the next one is none that may.
abbrev pub IsFirstUnlawful : List Payload → List (List ℕ) → ℕ → Type 0
IsFirstUnlawful before [] k = ⊥
IsFirstUnlawful before (text ∷ more) zero = (p : Payload) → MayStand before text p → ⊥
IsFirstUnlawful before (text ∷ more) (suc k) = (p : Payload) × MayStand before text p × IsFirstUnlawful (before ++ p ∷ []) more k

-- Why a file is no log: it is longer than the limit; or an open gate's batch runs past its end; or a payload is outside the
-- grammar, or may not come behind those before it.
abbrev pub IsNoLog : ℕ → List ℕ → Type 0
IsNoLog limit bytes =
    (limit < length bytes)
    ⊎ (((at : ℕ) × IsDamaged bytes at)
    ⊎ ((texts : List (List ℕ)) × (k : ℕ) × IsLog bytes texts × IsFirstUnlawful [] texts k))
