-- What a map of names keeps, and what its answers mean.
use Rattle.std.specs.Prelude.{◌≡◌, ◌<◌, ◌+◌, ℕ, List, [], ◌∷◌, ◌++◌, length, filter, flat_map, nat_lt, Option, Some, None}
use Rattle.id_groups.specs.Lists.{IsIn}
use Rattle.id_groups.specs.Name.{Name}
use Rattle.id_groups.specs.declared.name.NameRef.{NameRef}
use Rattle.batch_codec.specs.Payload.{Known, Payload, known_ids, known_names}
use Rattle.batch_codec.specs.Grammar.{count_after}
use Rattle.name_index.specs.declared.entry.Entry.{Entry}
use Rattle.name_index.specs.Index.{IsIndexOf}
use Rattle.name_map.specs.Part.{PlainPart}
use Rattle.name_map.specs.Added.{Placed, payloads_of, known_of, named_of, start_of, FollowInLog}

-- what is kept of one payload, behind so many known ids
abbrev pub part_of : ℕ → Placed → PlainPart
part_of rank a = record { first = a.payload.before; rank = rank; start = start_of a; ids = known_ids a.payload }

-- what is kept of each payload, behind so many known ids
abbrev pub parts_of : ℕ → List Placed → List PlainPart
parts_of rank [] = []
parts_of rank (a ∷ more) = part_of rank a ∷ parts_of (rank + length a.payload.known) more

-- what a map keeps
pub record PlainMap : Type 0 where
  -- the payloads' known ids
  pub parts : List PlainPart
  -- the runs of the index of their names
  pub index : List (List Entry)
  -- how many master ids the payloads have
  pub masters : ℕ
  -- and how many known ones
  pub known : ℕ

-- the known names of payloads, and the other names of the last one
abbrev pub names_with : List Payload → Payload → List Name
names_with before p = flat_map known_names (before ++ p ∷ []) ++ p.other_names

-- the map is that of the payloads that were added, in this order
pub record IsMapOf (map : PlainMap) (added : List Placed) : Type 0 where
  pub follow : FollowInLog 0 added
  pub parts : map.parts ≡ parts_of 0 added
  pub index : IsIndexOf map.index (named_of added)
  pub masters : map.masters ≡ count_after 0 (payloads_of added)
  pub known : map.known ≡ length (known_of added)

-- the known name of the id; none exactly where the id has none
abbrev pub IsNameOf : List Known → ℕ → Option Name → Type 0
IsNameOf known id None = (name : Name) → IsIn (record { id = id; name = name }) known → ⊥
IsNameOf known id (Some name) = IsIn (record { id = id; name = name }) known

-- the id below the bound with the known name; none exactly where there is none
abbrev pub IsIdOf : List Known → Name → ℕ → Option ℕ → Type 0
IsIdOf known name below None = (id : ℕ) → id < below → IsIn (record { id = id; name = name }) known → ⊥
IsIdOf known name below (Some id) = (id < below) × IsIn (record { id = id; name = name }) known

-- how many known ids are below the bound
abbrev pub count_known : ℕ → List Known → ℕ
count_known below known = length (filter (λ k. nat_lt k.id below) known)

-- the lent name is the known name of the id
abbrev pub NamesAs : List Known → ℕ → Option NameRef → Type 0
NamesAs known id None = IsNameOf known id None
NamesAs known id (Some name) = IsNameOf known id (Some name.bytes.now)
