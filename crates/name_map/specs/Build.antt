-- What is kept of payloads that are added before their names are looked at, and what is looked at then.
use Rattle.std.specs.Prelude.{◌≡◌, ◌<◌, ◌+◌, ℕ, List, [], ◌∷◌, ◌++◌, ⊤, length, map, flat_map, None}
use Rattle.std.specs.List.{AllByRecursion}
use Rattle.id_groups.specs.Lists.{IsIn, AreDistinct}
use Rattle.id_groups.specs.Name.{Name}
use Rattle.batch_codec.specs.Payload.{Known, Payload, names_start}
use Rattle.batch_codec.specs.Grammar.{count_after}
use Rattle.name_map.specs.declared.build.OtherNames.{OtherNames}
use Rattle.name_map.specs.Part.{PlainPart}
use Rattle.name_map.specs.Added.{Placed, payloads_of, known_of, every, FollowInLog}
use Rattle.name_map.specs.Map.{parts_of, names_with, IsIdOf}

-- where the names of the payload's other ids stand, how many there are, and where its master ids end
abbrev pub others_of : Placed → OtherNames
others_of a = record { place = a.at + names_start a.payload; count = length a.payload.other_names; after = a.payload.after }

-- what is kept
pub record PlainNames : Type 0 where
  -- the payloads' known ids
  pub parts : List PlainPart
  -- the names of their other ids
  pub others : List OtherNames
  -- how many master ids the payloads have
  pub masters : ℕ
  -- and how many known ones
  pub known : ℕ

-- It is kept of the payloads that were added, in this order. No two other names of one of them are the same.
pub record AreNamesOf (build : PlainNames) (added : List Placed) : Type 0 where
  pub follow : FollowInLog 0 added
  pub parts : build.parts ≡ parts_of 0 added
  pub others : build.others ≡ map others_of added
  pub masters : build.masters ≡ count_after 0 (payloads_of added)
  pub known : build.known ≡ length (known_of added)
  pub distinct : AllByRecursion (λ a. AreDistinct a.payload.other_names) added

-- of each payload behind those before it: no two of its names and of the known ones before it are the same
abbrev pub NamesFit : List Payload → List Payload → Type 0
NamesFit before [] = ⊤
NamesFit before (p ∷ more) = AreDistinct (names_with before p) × NamesFit (before ++ p ∷ []) more

-- the places of the names of known ids, part by part
abbrev pub entry_places : List PlainPart → List ℕ
entry_places parts = flat_map (λ p. every (p.start + 8) 28 (length p.ids)) parts

-- none of the payload's other names is the known name of an id below its end
abbrev pub AreUnknown : List Known → Placed → Type 0
AreUnknown known a = AllByRecursion (λ name. IsIdOf known name a.payload.after None) a.payload.other_names

-- one of them is
pub record MeetKnown (known : List Known) (a : Placed) : Type 0 where
  pub name : Name
  pub other : IsIn name a.payload.other_names
  pub id : ℕ
  pub below : id < a.payload.after
  pub is_known : IsIn (record { id = id; name = name }) known
