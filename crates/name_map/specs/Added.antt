-- The payloads that were added to a map, and what the log has of their names.
use Rattle.std.specs.Prelude.{◌≡◌, ◌+◌, ℕ, zero, suc, List, [], ◌∷◌, ⊤, length, map, take, drop, flat_map}
use Rattle.id_groups.specs.Name.{Name}
use Rattle.batch_codec.specs.Payload.{Known, Payload, payload_bytes, known_start}
use Rattle.batch_codec.specs.Grammar.{IsPayload}
use Rattle.name_index.specs.Index.{NamedPlace}

-- a payload, and the place of its bytes in the log
pub record Placed : Type 0 where
  pub at : ℕ
  pub payload : Payload

-- the payloads alone
abbrev pub payloads_of : List Placed → List Payload
payloads_of added = map (λ a. a.payload) added

-- the payload's bytes stand in the log at its place
abbrev pub StandsAt : List ℕ → Placed → Type 0
StandsAt bytes a = take (length (payload_bytes a.payload)) (drop a.at bytes) ≡ payload_bytes a.payload

-- the bytes of each payload stand in the log at its place
abbrev pub AllStand : List ℕ → List Placed → Type 0
AllStand bytes [] = ⊤
AllStand bytes (a ∷ more) = StandsAt bytes a × AllStand bytes more

-- all known ids with their names, in order
abbrev pub known_of : List Placed → List Known
known_of added = flat_map (λ a. a.payload.known) added

-- the names of known ids, with their places: the ids, each with its name behind it, stand one after another from this place on
abbrev pub named_from : ℕ → List Known → List NamedPlace
named_from place [] = []
named_from place (k ∷ more) = record { place = place + 8; name = k.name } ∷ named_from (place + 28) more

-- where the first known id of the payload stands
abbrev pub start_of : Placed → ℕ
start_of a = a.at + known_start a.payload

-- all names of known ids, with their places
abbrev pub named_of : List Placed → List NamedPlace
named_of added = flat_map (λ a. named_from (start_of a) a.payload.known) added

-- each is a payload in the grammar, and begins with the master id behind those of the ones before it
abbrev pub FollowInLog : ℕ → List Placed → Type 0
FollowInLog count [] = ⊤
FollowInLog count (a ∷ more) = IsPayload a.payload × (a.payload.before ≡ count) × FollowInLog a.payload.after more

-- so many numbers from the first on, each so much greater than the one before
abbrev pub every : ℕ → ℕ → ℕ → List ℕ
every first step zero = []
every first step (suc n) = first ∷ every (first + step) step n

-- names that stand one after another from this place on
abbrev pub names_from : ℕ → List Name → List NamedPlace
names_from place [] = []
names_from place (name ∷ more) = record { place = place; name = name } ∷ names_from (place + 20) more
