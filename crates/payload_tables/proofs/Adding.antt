-- A payload that is added to the table of segments and to the map of names.
use Rattle.std.proofs.Common.{◌≡◌, ◌<◌, ◌≤◌, ℕ, ◌+◌, ◌^◌, not, List, [], ◌∷◌, ◌++◌, map, length, take, filter, flat_map, refl, sym, ap, ap₂, ◌∙◌, subst, arith, length-append, lit≤}
use Rattle.std.specs.List.{AllByRecursion}
use Rattle.std.proofs.lemmas.List.{map-append, length-map, take_at}
use Rattle.std.proofs.lemmas.List.Elements.{filter-append}
use Rattle.segment_codec.specs.Record.{Segment, IsSegment, segment_bytes}
use Rattle.segment_codec.specs.Table.{Follow}
use Rattle.segment_codec.specs.Turns.{MayStandAt, StandInTurn, IsFirstBroken, goes_on}
use Rattle.segment_codec.proofs.Turns.{none-broken}
use Rattle.batch_codec.specs.Payload.{Payload, payload_bytes, master_start}
use Rattle.batch_codec.specs.Grammar.{IsPayload, count_after}
use Rattle.batch_codec.proofs.Turns.{stand-in-turn}
use Rattle.flat_segments.specs.Placed.{PlacedSegment, placed_segments, segments_of, AreRecords, MasterMayStandAt}
use Rattle.flat_segments.specs.Kept.{KeptFlats, entry_of, kept_of, IsTableOf, MayExtend}
use Rattle.flat_segments.proofs.Callers.{follow-few}
use Rattle.name_map.specs.Added.{Placed, payloads_of}
use Rattle.payload_tables.specs.Kept.{AreMastersOf, master_records}
use Rattle.payload_tables.proofs.Lists.{flat-snoc}
use Rattle.payload_tables.proofs.Joined.{follow-once}
use Rattle.segment_levels.specs.Kept.{KeptLevels}
use Rattle.payload_tables.proofs.Standing.{lawful-follow, masters-segments, masters-in}

pub both-end : (table : KeptFlats) (levels : KeptLevels) (map : _) (added : List Placed) → AreMastersOf table levels map added → table.end ≡ count_after 0 (payloads_of added)
both-end table levels map added b =
    follow-once 0 table.end (count_after 0 (payloads_of added)) (segments_of (master_records added)) b.flat.in_turn
    (subst (Follow 0 (count_after 0 (payloads_of added))) (sym (masters-segments added)) (lawful-follow [] (payloads_of added) b.lawful))

all-first : (segments : List Segment) → AllByRecursion (λ s. IsSegment s × (s.level ≡ 0)) segments → AllByRecursion IsSegment segments
all-first [] h = tt
all-first (s ∷ more) h = (h.0.0, all-first more h.1)

-- with the payload's records there are few enough
pub few-masters : (table : KeptFlats) (added : List Placed) (p : Payload) → IsTableOf table (master_records added) → IsPayload p → p.before ≡ table.end → length (master_records added) + length p.master < 2 ^ 32
few-masters table added p is h e =
    let x = follow-few 0 table.end (segments_of (master_records added)) is.in_turn in let y = length-map (master_records added) (λ (r : PlacedSegment). r.segment) in
    let z = follow-few p.before p.after p.master h.cover.master in let most = h.counts.master in omega (arith, x, y, z, most, e)

-- the records of the payload may extend the table
pub may-extend : (table : KeptFlats) (added : List Placed) (p : Payload) (bytes : List ℕ) → IsTableOf table (master_records added) → IsPayload p → p.before ≡ table.end → bytes ≡ flat_map segment_bytes p.master
    → MayExtend table bytes
may-extend table added p bytes is h e b = record {
  before = master_records added;
  table_of = is;
  segments = p.master;
  records = record { each = all-first p.master h.cover.flat_master; bytes_are = b };
  few = few-masters table added p is h e;
}

pub are-records : (p : Payload) (bytes : List ℕ) → IsPayload p → bytes ≡ flat_map segment_bytes p.master → AreRecords p.master bytes
are-records p bytes h b = record { each = all-first p.master h.cover.flat_master; bytes_are = b }

-- they end where the payload does
pub masters-fit : (p : Payload) → master_start p + length (flat_map segment_bytes p.master) ≤ length (payload_bytes p)
masters-fit p =
    let s = masters-in p in
    let whole = ap (length {A = ℕ}) s.whole in let a = length-append s.front (flat_map segment_bytes p.master ++ s.behind) in let b = length-append (flat_map segment_bytes p.master) s.behind in let c = s.size in
    omega (arith, whole, a, b, c)

turn-master : (first place end : ℕ) (segments : List Segment) → Follow place end segments → end ≤ 2 ^ 56 → StandInTurn (MayStandAt first) place segments → StandInTurn (MasterMayStandAt first) place segments
turn-master first place end [] f le h = tt
turn-master first place end (s ∷ more) f le h =
    ((h.0, (let e = follow-few (s.high + 1) end more f.2 in omega (arith, e, le))), turn-master first (s.high + 1) end more f.2 le h.1)

-- they stand in turn
pub masters-turn : (p : Payload) (first : ℕ) → IsPayload p → first ≡ p.before → StandInTurn (MasterMayStandAt first) first p.master
masters-turn p first h e =
    subst (λ n. StandInTurn (MasterMayStandAt n) n p.master) (sym e)
    (turn-master p.before p.before p.after p.master h.cover.master (let most = h.counts.master in let l : 16777216 ≤ 2 ^ 56 = lit≤ tt in omega (arith, most, l)) (stand-in-turn p.before p.after p.master h.cover.master h.maximal.master h.cover.flat_master))

-- records that stand in turn break no rule
pub never-broken : (first k : ℕ) (segments : List Segment) → StandInTurn (MasterMayStandAt first) first segments → IsFirstBroken (MasterMayStandAt first) first segments k → ⊥
never-broken first k segments h broken = none-broken (MasterMayStandAt first) first segments k h broken

-- the records with them
pub records-more : (added : List Placed) (a : Placed) (place : ℕ) → place ≡ a.at + master_start a.payload → master_records added ++ placed_segments place a.payload.master ≡ master_records (added ++ a ∷ [])
records-more added a place e =
    ap (λ n. master_records added ++ placed_segments n a.payload.master) e ∙ sym (flat-snoc (λ (b : Placed). placed_segments (b.at + master_start b.payload) b.payload.master) added a)

kept-append : (xs ys : List PlacedSegment) → kept_of (xs ++ ys) ≡ kept_of xs ++ kept_of ys
kept-append xs ys = ap (map entry_of) (filter-append (λ (r : PlacedSegment). not (goes_on r.segment)) xs ys)
    ∙ map-append entry_of (filter (λ (r : PlacedSegment). not (goes_on r.segment)) xs) (filter (λ (r : PlacedSegment). not (goes_on r.segment)) ys)

-- what the table had stands in front of what it has
pub kept-front : (old new : KeptFlats) (before more : List PlacedSegment) → IsTableOf old before → IsTableOf new (before ++ more) → take (length old.entries) new.entries ≡ old.entries
kept-front old new before more is next =
    ap (take (length old.entries)) (next.kept ∙ kept-append before more ∙ ap (λ l. l ++ kept_of more) (sym is.kept)) ∙ take_at old.entries (kept_of more) (length old.entries) refl

-- what is taken back leaves the table as it was
pub cut-again : (old new : KeptFlats) (len count : ℕ) → take (length old.entries) new.entries ≡ old.entries → len ≡ length old.entries → count ≡ old.end
    → ◌≡◌ {A = KeptFlats} (record { entries = take len new.entries; end = count }) old
cut-again old new len count front e f = ap₂ {C = KeptFlats} (λ l n. record { entries = l; end = n }) (ap (λ n. take n new.entries) e ∙ front) f
