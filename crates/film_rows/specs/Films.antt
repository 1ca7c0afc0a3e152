-- Films of two moments.
use Rattle.std.specs.Prelude.{◌≤◌, ℕ, take, drop, List, [], ◌∷◌, ◌++◌, length, nat_lt, if◌then◌else◌}
use Rattle.gated_log.specs.Log.{IsLog}

-- one list before a moment, and another from then on
abbrev pub turning : {X : Type 0} → ℕ → List X → List X → ℕ → List X
turning change first later moment = if nat_lt moment change then first else later

-- so many bytes of the later ones from that place on, and then what was there before; in front of them some of the earlier ones
abbrev pub of_two : ℕ → ℕ → ℕ → List ℕ → List ℕ → List ℕ → List ℕ
of_two at front count earlier later old = take front (drop at earlier) ++ drop front (take count (drop at later) ++ drop count old)

-- the first bytes are the log of some payloads, and the later ones, which aren't fewer, that of these and of some behind them
abbrev pub GoOn : List ℕ → List ℕ → List (List ℕ) → List (List ℕ) → Type 0
GoOn first later payloads behind = IsLog first payloads × IsLog later (payloads ++ behind) × (length first ≤ length later)

-- the log of one payload of one byte
abbrev pub one_payload : List ℕ
one_payload = 1 ∷ 0 ∷ 0 ∷ 0 ∷ 0 ∷ 0 ∷ 0 ∷ 0 ∷ 1 ∷ 170 ∷ 0 ∷ []

-- that of two
abbrev pub two_payloads : List ℕ
two_payloads = 1 ∷ 0 ∷ 0 ∷ 0 ∷ 0 ∷ 0 ∷ 0 ∷ 0 ∷ 1 ∷ 170 ∷ 1 ∷ 0 ∷ 0 ∷ 0 ∷ 0 ∷ 0 ∷ 0 ∷ 0 ∷ 1 ∷ 187 ∷ 0 ∷ []
