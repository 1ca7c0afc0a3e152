-- The bytes of a log: payloads behind open gates, and a closed gate.
use Rattle.std.specs.Prelude.{◌≡◌, ◌≢◌, ◌<◌, ◌≤◌, ◌⊎◌, ◌^◌, ◌+◌, ℕ, List, [], ◌∷◌, ◌++◌, length, take, drop, flat_map, ⊤}
use Rattle.std.specs.List.{AllByRecursion}
use Rattle.std.specs.Int.{w64, to_be_bytes, from_be_bytes}

-- an open gate, the length in eight bytes, and the payload
abbrev pub batch : List ℕ → List ℕ
batch payload = 1 ∷ to_be_bytes w64 (length payload) ++ payload

-- the batches of these payloads, one after another
abbrev pub batches : List (List ℕ) → List ℕ
batches payloads = flat_map batch payloads

-- the length fits its field
abbrev pub HasLength : List ℕ → Type 0
HasLength payload = length payload < 2 ^ 64

-- A file of at most one byte is a fresh log. Any other has these payloads where a closed gate stands
-- behind them. What follows that means nothing.
abbrev pub IsLog : List ℕ → List (List ℕ) → Type 0
IsLog bytes payloads =
    ((length bytes ≤ 1) × (payloads ≡ []))
    ⊎ ((2 ≤ length bytes) × AllByRecursion HasLength payloads × (gate : ℕ) × (behind : List ℕ)
    × (gate ≢ 1) × (bytes ≡ batches payloads ++ gate ∷ behind))

-- behind an open gate no whole batch stands, with its next gate
abbrev pub RunsPastEnd : List ℕ → Type 0
RunsPastEnd behind = (length behind < 8) ⊎ (length behind < 8 + from_be_bytes w64 (take 8 behind) + 1)

-- the gate at this place is open, and its batch with the next gate runs past the end
abbrev pub IsDamaged : List ℕ → ℕ → Type 0
IsDamaged bytes at =
    (2 ≤ length bytes) × (payloads : List (List ℕ)) × (behind : List ℕ) × AllByRecursion HasLength payloads
    × (bytes ≡ batches payloads ++ 1 ∷ behind) × (at ≡ length (batches payloads)) × RunsPastEnd behind

-- how long a log of these payloads is, its closed gate included
abbrev pub log_length : List (List ℕ) → ℕ
log_length [] = 1
log_length (payload ∷ payloads) = 9 + length payload + log_length payloads

-- Where the gates of these payloads stand, the first of them at that place. Each payload stands nine places behind
-- its gate, and the next gate right behind the payload.
abbrev pub gates_of : ℕ → List (List ℕ) → List ℕ
gates_of at [] = []
gates_of at (payload ∷ payloads) = at ∷ gates_of (at + 9 + length payload) payloads

-- the payload's bytes are there from that place on
abbrev pub StandsFrom : ℕ → List ℕ → List ℕ → Type 0
StandsFrom place payload bytes = take (length payload) (drop place bytes) ≡ payload

-- the first payload stands nine places behind that one, and each further one nine places behind the end of the one before
abbrev pub StandBehind : ℕ → List (List ℕ) → List ℕ → Type 0
StandBehind end [] bytes = ⊤
StandBehind end (payload ∷ payloads) bytes = StandsFrom (end + 9) payload bytes × StandBehind (end + 9 + length payload) payloads bytes
