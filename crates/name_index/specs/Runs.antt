-- Runs of an index: entries in ascending order of their names, and how a name is read from lent bytes.
use Rattle.std.specs.Prelude.{◌≡◌, ◌-◌, ◌+◌, ◌*◌, ◌%◌, ◌^◌, ℕ, List, [], ◌∷◌, ◌++◌, ◌⊎◌, map, length, take, drop, nat_lt, if◌then◌else◌, ⊤, true, false}
use Rattle.std.specs.Int.{w64, from_be_bytes}
use Rattle.std.specs.List.{AllByRecursion}
use Rattle.std.specs.List.Sorted.{IsPermutation}
use Rattle.std.specs.Ordering.{nat_cmp, is_lt}
use Rattle.std.specs.Cmp.Lexicographic.{slice_cmp}
use Rattle.id_groups.specs.Lists.{IsIn}
use Rattle.id_groups.specs.Name.{Name}
use Rattle.name_index.specs.Named.{NamedPlace}
use Rattle.name_index.specs.declared.entry.Entry.{Entry}

-- the first eight bytes as a number; 0 where there are fewer
unfoldable pub leading : List ℕ → ℕ
leading bytes = if nat_lt (length bytes) 8 then 0 else from_be_bytes w64 (take 8 bytes)

-- a number spread over all of 64 bits, and another one added
unfoldable pub mixed : ℕ → ℕ → ℕ
mixed number added = (number * 11400714819323198485 % 2 ^ 64 + added) % 2 ^ 64

-- all bytes of a name in a number: the last eight, then those behind the first eight, then the first eight
unfoldable pub front_of : Name → ℕ
front_of name = mixed (mixed (leading (drop 12 name)) (leading (drop 8 name))) (leading name)

-- what names are ordered by: the front decides, and then the bytes
abbrev pub sort_key : Name → List ℕ
sort_key name = front_of name ∷ name

-- what an index keeps of a named place
abbrev pub entry_of : NamedPlace → Entry
entry_of named = record { front = front_of named.name; place = named.place }

-- the 20 bytes at a place, in bytes that stand at `at`; fewer at the end
abbrev pub name_in : List ℕ → ℕ → ℕ → Name
name_in bytes at place = take 20 (drop (place - at) bytes)

-- what an entry is ordered by, its name read from bytes that stand at `at`
abbrev pub key_in : List ℕ → ℕ → Entry → List ℕ
key_in bytes at entry = entry.front ∷ name_in bytes at entry.place

-- what each of the entries is ordered by
abbrev pub keys_in : List ℕ → ℕ → List Entry → List (List ℕ)
keys_in bytes at entries = map (key_in bytes at) entries

-- what each of the named places is ordered by
abbrev pub keys_of : List NamedPlace → List (List ℕ)
keys_of named = map (λ n. sort_key n.name) named

-- no key is less than one before it
abbrev pub IsAscending : List (List ℕ) → Type 0
IsAscending [] = ⊤
IsAscending (k ∷ ks) = AllByRecursion (λ m. is_lt (slice_cmp nat_cmp m k) ≡ false) ks × IsAscending ks

-- the first of the keys, if there is one, isn't less than this one
abbrev pub StandsFirst : List ℕ → List (List ℕ) → Type 0
StandsFirst k [] = ⊤
StandsFirst k (m ∷ ms) = is_lt (slice_cmp nat_cmp m k) ≡ false

-- a key may stand behind so many of these: each of them is less, and none behind them is
pub record MayStandAt (k : List ℕ) (ks : List (List ℕ)) (at : ℕ) : Type 0 where
  pub front : AllByRecursion (λ m. is_lt (slice_cmp nat_cmp m k) ≡ true) (take at ks)
  pub back : AllByRecursion (λ m. is_lt (slice_cmp nat_cmp m k) ≡ false) (drop at ks)

-- the key is the first of them
abbrev pub IsHead : List ℕ → List (List ℕ) → Type 0
IsHead k [] = ⊥
IsHead k (m ∷ ms) = k ≡ m

-- the entries are those of the named places, whose names ascend
pub record IsRun (entries : List Entry) (named : List NamedPlace) : Type 0 where
  pub entries_of : entries ≡ map entry_of named
  pub ascending : IsAscending (keys_of named)

-- the run holds just these named places, in its own order
pub record Holds (entries : List Entry) (named : List NamedPlace) : Type 0 where
  pub held : List NamedPlace
  pub run : IsRun entries held
  pub same : IsPermutation named held

-- the lists end to end
abbrev pub joined : List (List NamedPlace) → List NamedPlace
joined [] = []
joined (h ∷ hs) = h ++ joined hs

-- the runs are those of the lists of named places, one of each
abbrev pub AreRuns : List (List Entry) → List (List NamedPlace) → Type 0
AreRuns [] [] = ⊤
AreRuns [] (h ∷ hs) = ⊥
AreRuns (r ∷ rs) [] = ⊥
AreRuns (r ∷ rs) (h ∷ hs) = IsRun r h × AreRuns rs hs

-- some name is in both lists
abbrev pub HaveCommon : List Name → List Name → Type 0
HaveCommon [] others = ⊥
HaveCommon (name ∷ names) others = IsIn name others ⊎ HaveCommon names others
