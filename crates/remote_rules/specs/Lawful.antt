-- Clone data that break no rule, by what holds of each item.
use Rattle.std.specs.Prelude.{◌≡◌, ◌<◌, ◌≤◌, ℕ, false, List, [], ◌∷◌, ◌++◌, map, ⊤}
use Rattle.std.specs.List.{AllZip}
use Rattle.id_groups.specs.Lists.{IsIn, AreDistinct}
use Rattle.id_groups.specs.Name.{Name}
use Rattle.segment_codec.specs.Record.{Segment}
use Rattle.segment_codec.specs.Turns.{StandInTurn, goes_on, place_behind}
use Rattle.remote_rules.specs.CloneData.{CloneData, KnownName, head_ids, merge_parents}

-- a segment that may stand at this place: its parents are distinct and lie below it, and it doesn't go on from the id before
pub record MayStandHere (place : ℕ) (s : Segment) : Type 0 where
  pub begins : s.low ≡ place
  pub order : s.low ≤ s.high
  pub distinct : AreDistinct s.parents
  pub below : (p : ℕ) → IsIn p s.parents → p < s.low
  pub apart : goes_on s ≡ false

-- a name that may stand behind these: its id is above theirs and below the end of the segments, and it is none of them
pub record MayBeName (end : ℕ) (before : List KnownName) (k : KnownName) : Type 0 where
  pub within : k.id < end
  pub above : (b : KnownName) → IsIn b before → b.id < k.id
  pub new : (b : KnownName) → IsIn b before → b.name ≡ k.name → ⊥

-- each name may stand behind those before it
abbrev pub NamesInTurn : ℕ → List KnownName → List KnownName → Type 0
NamesInTurn end before [] = ⊤
NamesInTurn end before (k ∷ more) = MayBeName end before k × NamesInTurn end (before ++ k ∷ []) more

-- the id has this name
abbrev pub HasName : List KnownName → ℕ → Name → Type 0
HasName names id name = (k : KnownName) × IsIn k names × (k.id ≡ id) × (k.name ≡ name)

-- Segments, names and heads keep their rules: the names have the highest id of each segment and each parent of a merge, and the
-- heads are the names of the ids that are no parent, one each.
pub record IsLawfulClone (told : CloneData) : Type 0 where
  pub segments : StandInTurn MayStandHere 0 told.segments
  pub names : NamesInTurn (place_behind 0 told.segments) [] told.names
  pub needed : (s : Segment) (id : ℕ) → IsIn s told.segments → IsIn id (s.high ∷ merge_parents s.parents) → IsIn id (map (λ k. k.id) told.names)
  pub heads : AllZip (HasName told.names) (head_ids told.segments) told.heads
