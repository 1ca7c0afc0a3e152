-- Reading a payload from left to right: a value and the bytes behind it, or nothing where none stands in front.
use Rattle.std.specs.Prelude.{◌^◌, ℕ, zero, suc, ◌+◌, ◌-◌, ◌*◌, ◌&&◌, ◌||◌, Bool, true, false, not, List, [], ◌∷◌, length, map, take, drop, Option, Some, None, nat_lt, nat_le, nat_eq, min, slice_index, if◌then◌else◌}
use Rattle.std.specs.Int.{Width, w16, w32, w64, byte_len, from_be_bytes}
use Rattle.id_groups.specs.Lists.{is_in}
use Rattle.id_groups.specs.Name.{Name}
use Rattle.segment_codec.specs.Record.{Segment}
use Rattle.segment_codec.specs.Reading.{◌>>=◌, record_at}
use Rattle.segment_codec.specs.Turns.{goes_on, place_behind}
use Rattle.batch_codec.specs.declared.counts.Counts.{Counts}
use Rattle.batch_codec.specs.Payload.{Known, Payload, known_ids}

-- a number of so many bytes
abbrev pub fixed_at : Width → List ℕ → Option (ℕ × List ℕ)
fixed_at w bytes = if nat_lt (length bytes) (byte_len w) then None else Some (from_be_bytes w (take (byte_len w) bytes), drop (byte_len w) bytes)

-- so many bytes
abbrev pub piece_at : ℕ → List ℕ → Option (List ℕ × List ℕ)
piece_at n bytes = if nat_lt (length bytes) n then None else Some (take n bytes, drop n bytes)

-- so many names that stand one after another
abbrev pub names_read : ℕ → List ℕ → List Name
names_read zero bytes = []
names_read (suc n) bytes = take 20 bytes ∷ names_read n (drop 20 bytes)

abbrev pub known_in : List ℕ → Known
known_in bytes = record { id = from_be_bytes w64 (take 8 bytes); name = take 20 (drop 8 bytes) }

-- so many ids with their names
abbrev pub knowns_in : ℕ → List ℕ → List Known
knowns_in zero bytes = []
knowns_in (suc n) bytes = known_in bytes ∷ knowns_in n (drop 28 bytes)

abbrev pub ids_in : ℕ → List ℕ → List ℕ
ids_in n bytes = map (λ k. k.id) (knowns_in n bytes)

-- the ids ascend from least on, below end
abbrev pub ids_ascend : ℕ → ℕ → List ℕ → Bool
ids_ascend least end [] = true
ids_ascend least end (id ∷ ids) = nat_le least id && nat_lt id end && ids_ascend (id + 1) end ids

-- the first of records, and those behind it
abbrev pub with_first : Option (Segment × List ℕ) → (List ℕ → List Segment) → List Segment
with_first None others = []
with_first (Some x) others = x.0 ∷ others x.1

-- so many records that stand one after another
unfoldable pub segments_in : ℕ → List ℕ → List Segment
segments_in zero bytes = []
segments_in (suc n) bytes = with_first (record_at bytes) (segments_in n)

-- each is a master id below end, or of the other group
abbrev pub are_within : ℕ → List ℕ → Bool
are_within end [] = true
are_within end (p ∷ more) = (nat_lt p end || nat_le (2 ^ 56) p) && are_within end more

-- a record may come at this place of a section that begins at first and whose master parents are below end
abbrev pub may_stand : ℕ → ℕ → ℕ → Segment → Bool
may_stand end first place s = nat_eq s.level 0 && nat_eq s.low place && (nat_eq place first || not (goes_on s)) && are_within end s.parents

-- so many records, each of which may come at its place; behind tells the place behind one
unfoldable pub records_at : {Place : Type 0} → (Place → Segment → Bool) → (Segment → Place) → Place → ℕ → List ℕ → Option (List Segment × List ℕ)
records_at may_come behind place zero bytes = Some ([], bytes)
records_at may_come behind place (suc count) bytes = do
  segment ← record_at bytes
  others ← (if may_come place segment.0 then records_at may_come behind (behind segment.0) count segment.1 else None)
  Some (segment.0 ∷ others.0, others.1)

-- the place behind a record of a section that covers ids
abbrev pub behind_segment : Segment → ℕ
behind_segment s = s.high + 1

-- the count of records, and the records
unfoldable pub section_at : ℕ → ℕ → List ℕ → Option (List Segment × List ℕ)
section_at end first bytes = do
  count ← fixed_at w32 bytes
  records_at (may_stand end first) behind_segment first count.0 count.1

-- a record may come among those of the levels, where the least that may has this level and this low; its ids are below end
abbrev pub may_rise : ℕ → ℕ × ℕ → Segment → Bool
may_rise end least s = (nat_lt least.0 s.level || (nat_eq least.0 s.level && nat_le least.1 s.low)) && nat_lt s.high end

-- the least that may come behind a record
abbrev pub behind_level : Segment → ℕ × ℕ
behind_level s = (s.level, s.low + 1)

-- the count of records of the levels, and these, from level 1 on
unfoldable pub level_section_at : ℕ → List ℕ → Option (List Segment × List ℕ)
level_section_at end bytes = do
  count ← fixed_at w32 bytes
  records_at (may_rise end) behind_level (1, 0) count.0 count.1

-- the section of the levels, which version 1 leaves out
unfoldable pub levels_at : ℕ → ℕ → List ℕ → Option (List Segment × List ℕ)
levels_at version end bytes = if nat_eq version 1 then Some ([], bytes) else level_section_at end bytes

-- the names of a section
unfoldable pub names_at : ℕ → List ℕ → Option (List Name × List ℕ)
names_at count bytes = do
  piece ← piece_at (20 * count) bytes
  Some (names_read count piece.0, piece.1)

-- the count of known ids, and these with their names
unfoldable pub known_at : ℕ → ℕ → List ℕ → Option (List Known × List ℕ)
known_at before after bytes = do
  count ← fixed_at w32 bytes
  piece ← piece_at (28 * count.0) count.1
  if ids_ascend before after (ids_in count.0 piece.0) then Some (knowns_in count.0 piece.0, piece.1) else None

-- the count of heads, and these
unfoldable pub heads_at : List ℕ → Option (List Name × List ℕ)
heads_at bytes = do
  count ← fixed_at w16 bytes
  names_at count.0 count.1

-- the cloned count; version 1, which leaves it out, means all of a clone
unfoldable pub cloned_at : ℕ → ℕ → ℕ → List ℕ → Option (ℕ × List ℕ)
cloned_at version kind after bytes = if nat_eq version 1 then Some (if nat_eq kind 2 then after else 0, bytes) else fixed_at w64 bytes

-- the version, the kind, the master counts and the cloned count
unfoldable pub counts_at : List ℕ → Option (Counts × List ℕ)
counts_at (version ∷ kind ∷ bytes) = do
  before ← fixed_at w64 bytes
  after ← fixed_at w64 before.1
  cloned ← cloned_at version kind after.0 after.1
  if (nat_eq version 1 || nat_eq version 2) && nat_le before.0 after.0 && nat_le after.0 16777216
      then Some (record { version = version; kind = kind; before = before.0; after = after.0; cloned = cloned.0 }, cloned.1)
      else None
counts_at _ = None

pub record Others : Type 0 where
  pub others : List Segment
  pub other_names : List Name

-- the count of the other ids, their records and their names
unfoldable pub others_at : ℕ → List ℕ → Option (Others × List ℕ)
others_at after bytes = do
  count ← fixed_at w32 bytes
  others ← section_at after (2 ^ 56) count.1
  names ← names_at count.0 others.1
  Some (record { others = others.0; other_names = names.0 }, names.1)

pub record Masters : Type 0 where
  pub counts : Counts
  pub master : List Segment
  pub levels : List Segment
  pub known : List Known

-- the counts, the records of the new master ids, those of the levels, and the known ids
unfoldable pub masters_at : List ℕ → Option (Masters × List ℕ)
masters_at bytes = do
  counts ← counts_at bytes
  master ← section_at (2 ^ 56) counts.0.before counts.1
  levels ← levels_at counts.0.version counts.0.after master.1
  known ← known_at counts.0.before counts.0.after levels.1
  Some (record { counts = counts.0; master = master.0; levels = levels.0; known = known.0 }, known.1)

-- the payload of these sections
abbrev pub joined : Masters → List Name → Others → Payload
joined masters heads others = record {
  version = masters.counts.version;
  kind = masters.counts.kind;
  before = masters.counts.before;
  after = masters.counts.after;
  cloned = masters.counts.cloned;
  master = masters.master;
  levels = masters.levels;
  known = masters.known;
  heads = heads;
  others = others.others;
  other_names = others.other_names;
}

-- the sections of a payload, and nothing behind them
unfoldable pub parts_at : List ℕ → Option Payload
parts_at bytes = do
  masters ← masters_at bytes
  heads ← heads_at masters.1
  others ← others_at masters.0.counts.after heads.1
  if nat_eq (length others.1) 0
      then Some (joined masters.0 heads.0 others.0)
      else None

-- each stands among the known ids
abbrev pub are_known : List ℕ → List ℕ → Bool
are_known ids [] = true
are_known ids (p ∷ more) = is_in nat_eq p ids && are_known ids more

-- the parents are those of a row that is no merge, or are known
abbrev pub knows_merge : List ℕ → List ℕ → Bool
knows_merge ids (p ∷ q ∷ more) = are_known ids (p ∷ q ∷ more)
knows_merge ids parents = true

-- a segment begins behind the cloned ids, or its greatest cloned id is known, and its parents where it begins with a merge
abbrev pub knows_segment : ℕ → List ℕ → Segment → Bool
knows_segment cloned ids s = nat_le cloned s.low || (is_in nat_eq (min s.high (cloned - 1)) ids && knows_merge ids s.parents)

abbrev pub knows_needed : ℕ → List ℕ → List Segment → Bool
knows_needed cloned ids [] = true
knows_needed cloned ids (s ∷ more) = knows_segment cloned ids s && knows_needed cloned ids more

-- ids that ascend below after are all those from cloned on: so many from the end is the cloned count itself
abbrev pub knows_from : ℕ → ℕ → List ℕ → Bool
knows_from cloned after ids =
    nat_le after cloned || (nat_le (after - cloned) (length ids) && nat_eq (slice_index ids (length ids - (after - cloned))) cloned)

-- the records end where the groups do
abbrev pub ends_fit : Payload → Bool
ends_fit p = nat_eq (place_behind p.before p.master) p.after && nat_le (length p.other_names) 65536
    && nat_eq (place_behind (2 ^ 56) p.others) (2 ^ 56 + length p.other_names)

abbrev pub flush_fits : Payload → Bool
flush_fits p =
    nat_eq p.cloned 0 && nat_eq (length p.known) (p.after - p.before) && nat_eq (length p.heads) 0
    && (nat_lt 0 p.after || nat_lt 0 (length p.other_names))

abbrev pub clone_fits : Payload → Bool
clone_fits p =
    nat_eq p.cloned p.after && nat_eq p.before 0 && nat_lt 0 p.after && nat_eq (length p.other_names) 0
    && knows_needed p.cloned (known_ids p) p.master

abbrev pub whole_fits : Payload → Bool
whole_fits p =
    nat_eq p.version 2 && nat_le p.cloned p.after && nat_eq p.before 0 && (nat_lt 0 p.after || nat_lt 0 (length p.other_names))
    && knows_from p.cloned p.after (known_ids p) && knows_needed p.cloned (known_ids p) p.master

abbrev pub kind_fits : Payload → Bool
kind_fits p =
    if nat_eq p.kind 1
    then flush_fits p
    else (if nat_eq p.kind 2 then clone_fits p else (if nat_eq p.kind 3 then whole_fits p else false))

-- a payload
unfoldable pub payload_at : List ℕ → Option Payload
payload_at bytes = do
  p ← parts_at bytes
  if ends_fit p && kind_fits p then Some p else None
