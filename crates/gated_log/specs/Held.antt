-- What contracts see of a log.
use Rattle.std.specs.Prelude.{◌≡◌, ◌≢◌, ◌≤◌, ◌^◌, ◌+◌, ◌-◌, if◌then◌else◌, nat_lt, ℕ, List, [], ◌∷◌, ◌++◌, length, take, drop, map, slice_index_or}
use Rattle.std.specs.List.{AllByRecursion}
use Rattle.std.specs.Int.{w64, to_be_bytes, from_be_bytes}
use Rattle.gated_log.specs.Log.{batches, HasLength, gates_of}

-- what contracts see of a log that is held in memory
pub record Held : Type 0 where
  pub payloads : List (List ℕ)
  -- its closed gate
  pub gate : ℕ
  -- how long it may become
  pub limit : ℕ
  -- how long it may become by one payload without more memory
  pub room : ℕ

-- the bytes up to and including the first closed gate
abbrev pub log_bytes : Held → List ℕ
log_bytes log = batches log.payloads ++ log.gate ∷ []

-- how long the log is with one payload more
abbrev pub longer : Held → List ℕ → ℕ
longer log payload = length (log_bytes log) + length payload + 9

-- what is written behind the gate: the length, the payload and a closed gate
abbrev pub staged : List ℕ → List ℕ
staged payload = to_be_bytes w64 (length payload) ++ (payload ++ 0 ∷ [])

-- the length field behind the gate at this place
abbrev pub length_behind : List ℕ → ℕ → ℕ
length_behind bytes at = from_be_bytes w64 (take 8 (drop (at + 1) bytes))

-- the payload behind the gate at this place
abbrev pub payload_behind : List ℕ → ℕ → List ℕ
payload_behind bytes at = take (length_behind bytes at) (drop (at + 9) bytes)

-- the payloads behind the gates at these places
unfoldable pub payloads_at : List ℕ → List ℕ → List (List ℕ)
payloads_at gates bytes = map (payload_behind bytes) gates

-- the last byte
unfoldable pub gate_of : List ℕ → ℕ
gate_of bytes = slice_index_or bytes (length bytes - 1) 0

-- A payload needs room for its bytes and for the place of its gate.
unfoldable pub room_of : ℕ → ℕ → ℕ → ℕ
room_of capacity places used = if nat_lt used places then capacity else 0

-- the log whose gates stand at these places in these bytes, with a limit and room
abbrev pub held : List ℕ → List ℕ → ℕ → ℕ → Held
held gates bytes limit room = record { payloads = payloads_at gates bytes; gate = gate_of bytes; limit = limit; room = room }

-- the bytes are whole batches, whose gates stand at these places, and a closed gate, within the limit
pub record IsWhole (gates bytes : List ℕ) (limit : ℕ) : Type 0 where
  pub whole : bytes ≡ batches (payloads_at gates bytes) ++ gate_of bytes ∷ []
  pub opened : gates ≡ gates_of 0 (payloads_at gates bytes)
  pub closed : gate_of bytes ≢ 1
  pub lengths : AllByRecursion HasLength (payloads_at gates bytes)
  pub within : length bytes ≤ limit
  pub largest : limit ≤ 2 ^ 32
