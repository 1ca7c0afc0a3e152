-- Which payloads a log may have, and which one after others.
use Rattle.std.specs.Prelude.{◌≡◌, ◌≢◌, ◌<◌, ◌≤◌, ◌⊎◌, ◌+◌, ◌-◌, ◌^◌, ℕ, not, ◌&&◌, List, [], ◌∷◌, ◌++◌, ⊤, length, map, filter, flat_map, min, nat_eq, nat_lt, if◌then◌else◌}
use Rattle.std.specs.List.{AllByRecursion}
use Rattle.std.specs.List.Sorted.{IsStrictlyIncreasing}
use Rattle.id_groups.specs.Lists.{IsIn, is_in, AreAllIn, AreDistinct}
use Rattle.id_groups.specs.Name.{Name, IsName}
use Rattle.segment_codec.specs.Record.{Segment, IsSegment}
use Rattle.segment_codec.specs.Table.{Follow}
use Rattle.batch_codec.specs.Payload.{Known, Payload, known_ids, known_names}

-- no segment but the first goes on from the id before it
abbrev pub AreMaximal : List Segment → Type 0
AreMaximal [] = ⊤
AreMaximal (first ∷ more) = AllByRecursion (λ s. s.parents ≢ (s.low - 1) ∷ []) more

abbrev pub AreFlat : List Segment → Type 0
AreFlat segments = AllByRecursion (λ s. IsSegment s × (s.level ≡ 0)) segments

-- a parent is a master id below after, or one of the others below the segment
abbrev pub HasOthersParents : ℕ → Segment → Type 0
HasOthersParents after s = AllByRecursion (λ p. (p < after) ⊎ ((2 ^ 56 ≤ p) × (p < s.low))) s.parents

-- the counts: the master group never shrinks, and both groups have their bounds
pub record HasCounts (p : Payload) : Type 0 where
  pub grows : p.before ≤ p.after
  pub master : p.after ≤ 16777216
  pub others : length p.other_names ≤ 65536

-- coverage: flat records cover the new master ids, and all other ids
pub record HasCover (p : Payload) : Type 0 where
  pub flat_master : AreFlat p.master
  pub flat_others : AreFlat p.others
  pub master : Follow p.before p.after p.master
  pub others : Follow (2 ^ 56) (2 ^ 56 + length p.other_names) p.others

-- parents below: those of a master record are below its low, being ids of a segment; those of another are of either group
pub record HasParentsBelow (p : Payload) : Type 0 where
  pub master : AllByRecursion (λ s. AllByRecursion (λ q. q < s.low) s.parents) p.master
  pub others : AllByRecursion (HasOthersParents p.after) p.others

-- maximal records: none goes on from the one before it
pub record IsMaximal (p : Payload) : Type 0 where
  pub master : AreMaximal p.master
  pub others : AreMaximal p.others

-- order of known ids: they ascend among the new master ids
pub record HasKnownInOrder (p : Payload) : Type 0 where
  pub ascend : IsStrictlyIncreasing (known_ids p)
  pub within : AllByRecursion (λ id. (p.before ≤ id) × (id < p.after)) (known_ids p)

-- one record stands before another of the levels: on a lower level, or before it on the same one
abbrev pub StandsBefore : Segment → Segment → Type 0
StandsBefore s t = (s.level < t.level) ⊎ ((s.level ≡ t.level) × (s.low < t.low))

-- each record stands before the next one
abbrev pub AscendByLevel : List Segment → Type 0
AscendByLevel [] = ⊤
AscendByLevel (s ∷ []) = ⊤
AscendByLevel (s ∷ t ∷ more) = StandsBefore s t × AscendByLevel (t ∷ more)

-- a segment of a level above the flat ones, which lies below after; its parents ascend and lie below it, being those of a segment
pub record IsOfLevel (after : ℕ) (s : Segment) : Type 0 where
  pub segment : IsSegment s
  pub above : 1 ≤ s.level
  pub below : s.high < after

-- order of levels: by level and then by low
pub record HasLevelsInOrder (p : Payload) : Type 0 where
  pub each : AllByRecursion (IsOfLevel p.after) p.levels
  pub ascend : AscendByLevel p.levels

-- the format: version 1 has no levels
pub record HasFormat (p : Payload) : Type 0 where
  pub version : (p.version ≡ 1) ⊎ (p.version ≡ 2)
  pub no_levels : p.version ≡ 1 → p.levels ≡ []

-- a flush clones nothing, knows each new master id, has no heads, and stores something
pub record IsFlush (p : Payload) : Type 0 where
  pub kind : p.kind ≡ 1
  pub cloned : p.cloned ≡ 0
  pub all_known : (id : ℕ) → p.before ≤ id → id < p.after → IsIn id (known_ids p)
  pub no_heads : p.heads ≡ []
  pub something : (0 < p.after) ⊎ (0 < length p.other_names)

-- the parents of a merge
abbrev pub merge_parents : List ℕ → List ℕ
merge_parents (p ∷ q ∷ more) = p ∷ q ∷ more
merge_parents parents = []

-- a clone is the first, has master ids alone, all of them cloned, and knows the highest of each segment and the parents of each merge
pub record IsClone (p : Payload) : Type 0 where
  pub kind : p.kind ≡ 2
  pub cloned : p.cloned ≡ p.after
  pub first : p.before ≡ 0
  pub something : 0 < p.after
  pub no_others : length p.other_names ≡ 0
  pub known : AllByRecursion (λ s. IsIn s.high (known_ids p) × AreAllIn (merge_parents s.parents) (known_ids p)) p.master

-- A segment that begins below the cloned count has its greatest cloned id known, and its parents if it begins with a merge.
abbrev pub KnowsCloned : ℕ → List ℕ → Segment → Type 0
KnowsCloned cloned ids s = s.low < cloned → IsIn (min s.high (cloned - 1)) ids × AreAllIn (merge_parents s.parents) ids

-- a whole store is the first, stores something, and knows each master id that wasn't cloned, and of the cloned ones what a clone would
pub record IsWholePayload (p : Payload) : Type 0 where
  pub kind : p.kind ≡ 3
  pub version : p.version ≡ 2
  pub cloned : p.cloned ≤ p.after
  pub first : p.before ≡ 0
  pub something : (0 < p.after) ⊎ (0 < length p.other_names)
  pub all_known : (id : ℕ) → p.cloned ≤ id → id < p.after → IsIn id (known_ids p)
  pub known : AllByRecursion (KnowsCloned p.cloned (known_ids p)) p.master

-- what is in the grammar
pub record IsPayload (p : Payload) : Type 0 where
  pub format : HasFormat p
  pub counts : HasCounts p
  pub cover : HasCover p
  pub parents : HasParentsBelow p
  pub maximal : IsMaximal p
  pub levels : HasLevelsInOrder p
  pub known : HasKnownInOrder p
  pub by_kind : IsFlush p ⊎ (IsClone p ⊎ IsWholePayload p)
  -- what the table of the fields has room for: a count of heads of 16 bits, and names of 20 bytes
  pub heads_fit : length p.heads < 2 ^ 16
  pub names : AllByRecursion IsName (known_names p)
  pub head_names : AllByRecursion IsName p.heads
  pub other_names : AllByRecursion IsName p.other_names

-- the master count after these payloads
abbrev pub count_after : ℕ → List Payload → ℕ
count_after n [] = n
count_after n (p ∷ more) = count_after p.after more

-- the known names of the ids of these segments that are no parent of another one: these are highest of their segments
abbrev pub heads_among : List Segment → List Known → List Name
heads_among segments known =
    map (λ k. k.name) (filter (λ k. is_in nat_eq k.id (map (λ s. s.high) segments) && not (is_in nat_eq k.id (flat_map (λ s. s.parents) segments))) known)

-- the known names of the ids that are no parent of any id
abbrev pub head_names : Payload → List Name
head_names p = heads_among p.master p.known

-- the part of segments that lies below an id
abbrev pub cut_below : ℕ → List Segment → List Segment
cut_below end [] = []
cut_below end (s ∷ more) = if nat_lt s.low end then record s { high = min s.high (end - 1) } ∷ cut_below end more else cut_below end more

-- the known names of the cloned ids that are no parent of a cloned id
abbrev pub cloned_head_names : Payload → List Name
cloned_head_names p = heads_among (cut_below p.cloned p.master) p.known

-- A payload that may come behind these. Which segments of levels it has is no part of this: the levels say it.
pub record MayFollow (before : List Payload) (p : Payload) : Type 0 where
  pub whole : IsPayload p
  pub count : p.before ≡ count_after 0 before
  -- a version is followed by the same one, or by a later one
  pub version : AllByRecursion (λ (q : Payload). q.version ≤ p.version) before
  pub clone_first : p.kind ≡ 2 → before ≡ []
  pub clone_heads : p.kind ≡ 2 → p.heads ≡ head_names p
  pub whole_first : p.kind ≡ 3 → before ≡ []
  pub whole_heads : p.kind ≡ 3 → p.heads ≡ cloned_head_names p
  pub distinct : AreDistinct (flat_map known_names (before ++ p ∷ []) ++ p.other_names)

-- each payload may come behind those before it
abbrev pub AreLawful : List Payload → List Payload → Type 0
AreLawful before [] = ⊤
AreLawful before (p ∷ more) = MayFollow before p × AreLawful (before ++ p ∷ []) more
