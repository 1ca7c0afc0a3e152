-- Levels of the master group: of a table to which a payload comes, of a view, and of a world.
use Rattle.std.proofs.Common.{◌≡◌, ◌<◌, ◌≤◌, ℕ, zero, suc, ◌+◌, ◌-◌, List, [], ◌∷◌, ◌++◌, length, map, flat_map, Option, Some, None, slice_get, refl, sym, ap, ap₂, subst, ◌∙◌, arith, length-append, zero-lt-suc}
use Rattle.std.specs.List.{range_with_len}
use Rattle.std.proofs.lemmas.List.{map-append}
use Rattle.id_groups.specs.Name.{Name, same_name}
use Rattle.commit_graph.specs.World.{World}
use Rattle.commit_graph.specs.Ids.{parent_ids}
use Rattle.segment_codec.specs.Record.{Segment, segment_bytes}
use Rattle.segment_codec.specs.Table.{Follow, parents_at}
use Rattle.segment_codec.specs.Turns.{place_behind}
use Rattle.segment_codec.proofs.Turns.{follow-behind}
use Rattle.segment_rules.specs.Flat.{flat_segments_of, segment_parents, parents_listed}
use Rattle.batch_codec.specs.Payload.{Payload}
use Rattle.batch_codec.specs.Grammar.{IsPayload, count_after}
use Rattle.flat_segments.specs.Maximal.{maximal}
use Rattle.flat_segments.specs.Placed.{PlacedSegment, placed_segments, segments_of}
use Rattle.flat_segments.specs.Kept.{KeptFlats, IsTableOf}
use Rattle.flat_segments.proofs.Standing.{all-segments}
use Rattle.segment_levels.specs.Kept.{AreLevelsOf}
use Rattle.segment_levels.specs.Flats.{flats_of, extended}
use Rattle.segment_levels.proofs.ByGraph.{maximal-of}
use Rattle.high_segments.specs.Extending.{MayGrowBy}
use Rattle.name_map.specs.Added.{Placed, AllStand, payloads_of, FollowInLog as Following}
use Rattle.change_rules.specs.Tables.{StandFor}
use Rattle.payload_tables.specs.Kept.{PlainTables, AreTablesOf, master_records}
use Rattle.payload_tables.proofs.Joined.{listed-parents, followers-long}
use Rattle.payload_tables.proofs.Standing.{masters-stand, masters-segments, placed-segments}
use Rattle.payload_tables.proofs.Adding.{few-masters, are-records, masters-turn}

behind-join : (first : ℕ) (xs ys : List Segment) → place_behind first (xs ++ ys) ≡ place_behind (place_behind first xs) ys
behind-join first [] ys = refl
behind-join first (s ∷ xs) ys = behind-join (s.high + 1) xs ys

-- the payload's records may follow those of the table
pub records-follow : (table : KeptFlats) (added : List Placed) (p : Payload) (bytes records : List ℕ) → IsTableOf table (master_records added) → AllStand bytes added
    → IsPayload p → p.before ≡ table.end → records ≡ flat_map segment_bytes p.master → MayGrowBy table bytes records (master_records added) p.master
records-follow table added p bytes records is stand h e r =
    record {
      table_of = is;
      stand = masters-stand bytes added stand;
      are = are-records p records h r;
      in_turn = masters-turn p table.end h (sym e);
      small = subst (λ n. place_behind n p.master ≤ 16777216) e (subst (λ n. n ≤ 16777216) (sym (follow-behind p.before p.after p.master h.cover.master)) h.counts.master);
      few = few-masters table added p is h e;
    }

-- the flat segments of the table with more records
pub extended-are : (old new : KeptFlats) (before : List PlacedSegment) (at : ℕ) (segments : List Segment) → IsTableOf old before → IsTableOf new (before ++ placed_segments at segments)
    → extended old before segments ≡ flats_of new (before ++ placed_segments at segments)
extended-are old new before at segments is next =
    let all : segments_of (before ++ placed_segments at segments) ≡ segments_of before ++ segments =
    map-append (λ (r : PlacedSegment). r.segment) before (placed_segments at segments) ∙ ap (λ l. segments_of before ++ l) (placed-segments at segments) in
    let end : place_behind old.end segments ≡ new.end =
    ap (λ n. place_behind n segments) (sym (follow-behind 0 old.end (segments_of before) is.in_turn)) ∙ sym (behind-join 0 (segments_of before) segments)
    ∙ ap (place_behind 0) (sym all) ∙ follow-behind 0 new.end (segments_of (before ++ placed_segments at segments)) next.in_turn in
    ap₂ maximal end (sym all)

-- ---- of a world

pub listed : {X : Type 0} (f : ℕ → X) (first n : ℕ) (xs : List X) → length xs ≡ n → ((k : ℕ) → k < n → slice_get xs k ≡ Some (f (first + k))) → xs ≡ map f (range_with_len first n)
listed f first zero [] e h = refl
listed f first zero (x ∷ xs) e h = absurd (omega (arith, e))
listed f first (suc n) [] e h = absurd (omega (arith, e))
listed {X} f first (suc n) (x ∷ xs) e h =
    ap₂ (λ a b. a ∷ b) (some-same x (f first) (h 0 (zero-lt-suc n) ∙ ap (λ k. Some (f k)) (let z : first + 0 ≡ first = omega arith in z)))
    (listed f (first + 1) n xs (omega (arith, e)) (λ k lt. h (suc k) (omega (arith, lt)) ∙ ap (λ j. Some (f j)) (let z : first + suc k ≡ first + 1 + k = omega arith in z)))
  where
    some_or : X → Option X → X
    some_or d None = d
    some_or d (Some a) = a

    some-same : (a b : X) → ◌≡◌ {A = Option X} (Some a) (Some b) → a ≡ b
    some-same a b e = ap (some_or a) e

pub listed-long : (first end : ℕ) (xs : List Segment) → Follow first end xs → length (parents_listed xs) + first ≡ end
listed-long first end [] h = omega (arith, h)
listed-long first end (s ∷ more) h =
    let r = listed-long (s.high + 1) end more h.2 in
    let a = length-append (segment_parents s) (parents_listed more) in
    let f = followers-long s.low (s.high - s.low) in let low = h.0 in let order = h.1 in omega (arith, r, a, f, low, order)

-- the levels of the table are those of the graph of each world for which the payloads stand
pub levels-graph : (tables : PlainTables) (added : List Placed) (w : World Name) → AreTablesOf tables added → StandFor (payloads_of added) w
    → AreLevelsOf tables.levels (flat_segments_of 0 (parent_ids same_name w w.master))
levels-graph tables added w t stand =
    let segments = segments_of (master_records added) in
    let f = t.flat.in_turn in
    let parents : map (parents_at segments) (range_with_len 0 tables.flat.end) ≡ parent_ids same_name w w.master =
    sym (listed (parents_at segments) 0 tables.flat.end (parents_listed segments) (let l = listed-long 0 tables.flat.end segments f in omega (arith, l))
    (λ k lt. listed-parents 0 tables.flat.end segments k f (omega (arith, lt))))
    ∙ ap parents_listed (masters-segments added) ∙ stand.master in
    subst (AreLevelsOf tables.levels) (maximal-of tables.flat.end segments (all-segments (master_records added) t.flat.flat) f ∙ ap (flat_segments_of 0) parents) t.levels

-- ---- of a view

-- there are no more master ids than a payload may count
pub counts-small : (n : ℕ) (added : List Placed) → Following n added → n ≤ 16777216 → count_after n (payloads_of added) ≤ 16777216
counts-small n [] h le = le
counts-small n (a ∷ added) h le = counts-small a.payload.after added h.2 h.0.counts.master
