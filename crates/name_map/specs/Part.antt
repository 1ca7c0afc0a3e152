-- The known ids of one payload, as a map of names keeps them.
use Rattle.std.specs.Prelude.{◌≡◌, ◌<◌, ◌+◌, ◌*◌, ◌^◌, ℕ, zero, suc, true, List, [], ◌∷◌, length, get_or, filter, nat_lt, Option, Some, None}
use Rattle.id_groups.specs.Lists.{IsIn}
use Rattle.batch_codec.specs.Reading.{ids_ascend}
use Rattle.name_map.specs.declared.part.KnownIds.{KnownIds}
use Rattle.name_map.specs.declared.part.KnownIds.TheVariants.{All, Listed}

-- what is kept of one payload
pub record PlainPart : Type 0 where
  -- the master ids of the payload begin here
  pub first : ℕ
  -- how many known ids the payloads before it have
  pub rank : ℕ
  -- the place in the log of the first known id
  pub start : ℕ
  -- the known ids
  pub ids : List ℕ

-- so many ids, from the first on
abbrev pub upward : ℕ → ℕ → List ℕ
upward first zero = []
upward first (suc n) = first ∷ upward (first + 1) n

-- the ids that are kept, or those from the first on where none is left out
abbrev pub ids_of : ℕ → KnownIds → List ℕ
ids_of first (All n) = upward first n
ids_of first (Listed ids) = ids.items

-- how many of the ids are below the bound
abbrev pub count_below : ℕ → List ℕ → ℕ
count_below below ids = length (filter (λ id. nat_lt id below) ids)

-- what holds of each part: its ids ascend from its first on, and its places and counts are numbers of 64 bits
pub record IsPart (p : PlainPart) : Type 0 where
  pub ascend : ids_ascend p.first (2 ^ 57) p.ids ≡ true
  pub places : p.start + 28 * length p.ids < 2 ^ 63
  pub counts : p.rank + length p.ids < 2 ^ 63

-- the id has this index among the ids; none where it isn't among them
abbrev pub IsIndexIn : List ℕ → ℕ → Option ℕ → Type 0
IsIndexIn ids id None = IsIn id ids → ⊥
IsIndexIn ids id (Some k) = (k < length ids) × (get_or ids k 0 ≡ id)

-- the name of the id stands here in the log; none where the part doesn't know the id
abbrev pub IsPlaceIn : PlainPart → ℕ → Option ℕ → Type 0
IsPlaceIn p id None = IsIn id p.ids → ⊥
IsPlaceIn p id (Some place) = (k : ℕ) × (k < length p.ids) × (get_or p.ids k 0 ≡ id) × (place ≡ p.start + 28 * k + 8)
