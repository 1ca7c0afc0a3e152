-- The segments of levels that come with a payload, by the tables before and behind it.
use Rattle.std.proofs.Common.{◌≡◌, ◌≤◌, ◌^◌, ◌-◌, ℕ, List, [], ◌∷◌, ◌++◌, length, flat_map, refl, sym, ap, ap₂, subst, subst₂, ◌∙◌, arith, lit≤}
use Rattle.std.proofs.lemmas.Grind.{flat_map-append}
use Rattle.std.proofs.lemmas.List.{map-append, length-append}
use Rattle.segment_codec.specs.Record.{Segment, IsSegment, segment_bytes}
use Rattle.segment_codec.specs.Flat.{IsFlat}
use Rattle.segment_codec.specs.Table.{Follow, parents_at}
use Rattle.segment_codec.specs.Turns.{place_behind}
use Rattle.segment_codec.proofs.Records.{one-record}
use Rattle.segment_codec.proofs.Turns.{follow-behind}
use Rattle.std.specs.List.{AllByRecursion}
use Rattle.segment_rules.specs.Flat.{flat_segments_of, segment_parents, parents_listed}
use Rattle.segment_rules.specs.NewLevels.{new_levels}
use Rattle.batch_codec.specs.Payload.{Payload}
use Rattle.batch_codec.specs.Grammar.{IsPayload, AreFlat, IsOfLevel}
use Rattle.change_rules.proofs.LevelSections.{new-each}
use Rattle.high_segments.specs.declared.kept.Mark.{Mark}
use Rattle.segment_levels.specs.Kept.{PlainGroups}
use Rattle.batch_codec.proofs.Built.{segment-some}
use Rattle.flat_segments.specs.Placed.{segments_of}
use Rattle.flat_segments.specs.Maximal.{maximal}
use Rattle.flat_segments.specs.Kept.{KeptFlats, IsTableOf}
use Rattle.flat_segments.proofs.Callers.{follow-few}
use Rattle.flat_segments.proofs.Standing.{all-segments}
use Rattle.segment_levels.specs.Kept.{KeptLevels, AreLevelsOf}
use Rattle.segment_levels.specs.Flats.{flats_of, extended}
use Rattle.segment_levels.specs.Whole.{Grows}
use Rattle.segment_levels.proofs.ByGraph.{maximal-of}
use Rattle.segment_levels.proofs.Continuing.{flats-grow}
use Rattle.high_segments.specs.declared.levels.LevelsMark.{LevelsMark}
use Rattle.high_segments.specs.Growing.{MayBecome}
use Rattle.high_segments.specs.Marks.{IsMarkOfAll}
use Rattle.high_segments.specs.Storing.{CameSince}
use Rattle.high_segments.proofs.Batch.{table-whole, whole-of}
use Rattle.high_segments.specs.Extending.{MayGrowBy, MayExtendLevels}
use Rattle.name_map.specs.Added.{Placed, payloads_of}
use Rattle.change_rules.specs.Lawful.{master_flats, levels_with}
use Rattle.payload_tables.specs.Kept.{HaveMasters, master_records}
use Rattle.payload_tables.proofs.Joined.{follow-join, follow-once, listed-parents}
use Rattle.payload_tables.specs.Places.{BringsMasters}
use Rattle.payload_tables.proofs.Leveling.{listed, listed-long, records-follow}
use Rattle.payload_tables.proofs.Lists.{flat-snoc, all-append}
use Rattle.payload_tables.proofs.Standing.{masters-segments}

no-bytes : (s : Segment) (rest : List ℕ) → [] ≡ segment_bytes s ++ rest → ⊥
no-bytes s rest e = let a = ap length e in let b = length-append (segment_bytes s) rest in let c = segment-some s in absurd (omega (arith, a, b, c))

-- the flat segments of records are those of the parents that they list
graph-flats : (end : ℕ) (segments : List Segment) → AllByRecursion IsFlat segments → Follow 0 end segments → maximal end segments ≡ flat_segments_of 0 (parents_listed segments)
graph-flats end segments flat f =
    maximal-of end segments flat f
    ∙ ap (flat_segments_of 0)
    (sym (listed (parents_at segments) 0 end (parents_listed segments) (let l = listed-long 0 end segments f in omega (arith, l))
    (λ k lt. listed-parents 0 end segments k f (omega (arith, lt)))))

-- the flat segments of a table are those of its payloads
pub flats-are : (table : KeptFlats) (added : List Placed) → IsTableOf table (master_records added) → flats_of table (master_records added) ≡ master_flats (payloads_of added)
flats-are table added is =
    graph-flats table.end (segments_of (master_records added)) (all-segments (master_records added) is.flat) is.in_turn
    ∙ ap (λ l. flat_segments_of 0 (parents_listed l)) (masters-segments added)

all-flat : (segments : List Segment) → AreFlat segments → AllByRecursion IsFlat segments
all-flat [] h = tt
all-flat (s ∷ more) h = (record { segment = h.0.0; flat = h.0.1 }, all-flat more h.1)

payloads-more : (added : List Placed) (a : Placed) → payloads_of (added ++ a ∷ []) ≡ payloads_of added ++ a.payload ∷ []
payloads-more added a = map-append (λ (b : Placed). b.payload) added (a ∷ [])

flats-more : (before : List Payload) (p : Payload) → Grows (master_flats before) (master_flats (before ++ p ∷ []))
flats-more before p =
    subst (λ l. Grows (master_flats before) (flat_segments_of 0 l))
    (sym (ap parents_listed (flat-snoc (λ (q : Payload). q.master) before p) ∙ flat_map-append segment_parents (flat_map (λ q. q.master) before) p.master))
    (flats-grow 0 (parents_listed (flat_map (λ q. q.master) before)) (parents_listed p.master))

module _ (old new : KeptFlats) (was now : KeptLevels) (added : List Placed) (a : Placed) (h : HaveMasters old was added) (g : HaveMasters new now (added ++ a ∷ [])) (p : IsPayload a.payload) (e : a.payload.before ≡ old.end) where
  pub lists-same : new_levels (flats_of old (master_records added)) (flats_of new (master_records (added ++ a ∷ []))) ≡ levels_with (payloads_of added) a.payload
  lists-same = ap₂ new_levels (flats-are old added h.flat) (flats-are new (added ++ a ∷ []) g.flat ∙ ap master_flats (payloads-more added a))

  -- the table ends where the payload does
  new-end : new.end ≡ a.payload.after
  new-end =
      follow-once 0 new.end a.payload.after (segments_of (master_records (added ++ a ∷ []))) g.flat.in_turn
      (subst (Follow 0 a.payload.after)
      (ap (λ l. l ++ a.payload.master) (masters-segments added)
      ∙ sym (masters-segments (added ++ a ∷ []) ∙ ap (flat_map (λ q. q.master)) (payloads-more added a) ∙ flat-snoc (λ (q : Payload). q.master) (payloads_of added) a.payload))
      (follow-join 0 old.end a.payload.after (segments_of (master_records added)) a.payload.master h.flat.in_turn (subst (λ n. Follow n a.payload.after a.payload.master) e p.cover.master)))

  became : MayBecome (flats_of old (master_records added)) (flats_of new (master_records (added ++ a ∷ [])))
  became =
      let whole = table-whole new (master_records (added ++ a ∷ [])) g.flat in
      let n = follow-few 0 new.end (flats_of new (master_records (added ++ a ∷ []))) whole.follow in
      let most = p.counts.master in let up = p.counts.grows in let end = new-end in let k : 16777216 ≤ 2 ^ 32 - 1 = lit≤ tt in
      record {
        old_end = old.end;
        new_end = new.end;
        old_whole = table-whole old (master_records added) h.flat;
        new_whole = whole;
        grows = subst₂ Grows (sym (flats-are old added h.flat)) (sym (flats-are new (added ++ a ∷ []) g.flat ∙ ap master_flats (payloads-more added a))) (flats-more (payloads_of added) a.payload);
        order = omega (arith, e, up, end);
        small = omega (arith, end, most);
        few = omega (arith, n, end, most, k);
      }

  pub came : (mark : LevelsMark) → IsMarkOfAll mark was → CameSince mark.marks now.levels (flats_of old (master_records added)) (flats_of new (master_records (added ++ a ∷ [])))
  came mark m = record { before = was.levels; marks_of = m.marks; old_levels = h.levels_of.levels; new_levels = g.levels_of.levels; may = became }

-- ---- before the records are added

module _ (table : KeptFlats) (levels : KeptLevels) (bytes records : List ℕ) (added : List Placed) (p : Payload) (h : BringsMasters table levels bytes records added p) where
  segments : List Segment
  segments = segments_of (master_records added) ++ p.master

  end-is : place_behind table.end p.master ≡ p.after
  end-is = ap (λ n. place_behind n p.master) (sym h.begins) ∙ follow-behind p.before p.after p.master h.payload.cover.master

  all-follow : Follow 0 (place_behind table.end p.master) (segments_of (master_records added) ++ p.master)
  all-follow =
      follow-join 0 table.end (place_behind table.end p.master) (segments_of (master_records added)) p.master h.have.flat.in_turn
      (subst₂ (λ m n. Follow m n p.master) h.begins (sym end-is) h.payload.cover.master)

  all-are-flat : AllByRecursion IsFlat (segments_of (master_records added) ++ p.master)
  all-are-flat = all-append IsFlat (segments_of (master_records added)) p.master (all-segments (master_records added) h.have.flat.flat) (all-flat p.master h.payload.cover.flat_master)

  extended-flats : extended table (master_records added) p.master ≡ master_flats (payloads_of added ++ p ∷ [])
  extended-flats =
      graph-flats (place_behind table.end p.master) (segments_of (master_records added) ++ p.master) all-are-flat all-follow
      ∙ ap (λ l. flat_segments_of 0 (parents_listed l)) (ap (λ l. l ++ p.master) (masters-segments added) ∙ sym (flat-snoc (λ (q : Payload). q.master) (payloads_of added) p))

  pub written-same : new_levels (flats_of table (master_records added)) (extended table (master_records added) p.master) ≡ levels_with (payloads_of added) p
  written-same = ap₂ new_levels (flats-are table added h.have.flat) extended-flats

  becomes : MayBecome (flats_of table (master_records added)) (extended table (master_records added) p.master)
  becomes =
      let most = h.payload.counts.master in let end = end-is in let up = h.payload.counts.grows in let begins = h.begins in
      let k : 16777216 ≤ 2 ^ 56 = lit≤ tt in let j : 16777216 ≤ 2 ^ 32 - 1 = lit≤ tt in
      let whole = whole-of (place_behind table.end p.master) (segments_of (master_records added) ++ p.master) all-are-flat all-follow (omega (arith, end, most, k)) in
      let n = follow-few 0 (place_behind table.end p.master) (extended table (master_records added) p.master) whole.follow in
      record {
        old_end = table.end;
        new_end = place_behind table.end p.master;
        old_whole = table-whole table (master_records added) h.have.flat;
        new_whole = whole;
        grows = subst₂ Grows (sym (flats-are table added h.have.flat)) (sym extended-flats) (flats-more (payloads_of added) p);
        order = omega (arith, end, up, begins);
        small = omega (arith, end, most);
        few = omega (arith, n, end, most, j);
      }

  pub brings-follow : MayGrowBy table bytes records (master_records added) p.master
  brings-follow = records-follow table added p bytes records h.have.flat h.stand h.payload h.begins h.records_are

  pub brings-extend : MayExtendLevels levels table bytes records
  brings-extend = record { before = master_records added; segments = p.master; follow = brings-follow; levels_of = h.have.levels_of }

  pub will-come : (mark : LevelsMark) (now : KeptLevels) → IsMarkOfAll mark levels → AreLevelsOf now (extended table (master_records added) p.master)
      → CameSince mark.marks now.levels (flats_of table (master_records added)) (extended table (master_records added) p.master)
  will-come mark now m is = record { before = levels.levels; marks_of = m.marks; old_levels = h.have.levels_of.levels; new_levels = is.levels; may = becomes }

-- ---- records that are spelled alike

pub same-records : (xs ys : List Segment) → AllByRecursion IsSegment xs → AllByRecursion IsSegment ys → flat_map segment_bytes xs ≡ flat_map segment_bytes ys → xs ≡ ys
same-records [] [] a b e = refl
same-records [] (y ∷ ys) a b e = absurd (no-bytes y (flat_map segment_bytes ys) e)
same-records (x ∷ xs) [] a b e = absurd (no-bytes x (flat_map segment_bytes xs) (sym e))
same-records (x ∷ xs) (y ∷ ys) a b e =
    let one = one-record x y (flat_map segment_bytes xs) (flat_map segment_bytes ys) a.0 b.0 e in
    ap₂ (λ s l. s ∷ l) one.0 (same-records xs ys a.1 b.1 one.1)

pub listed-records : (p : Payload) → IsPayload p → AllByRecursion IsSegment p.levels
listed-records p h = go p.levels h.levels.each
  where
    go : (xs : List Segment) → AllByRecursion (IsOfLevel p.after) xs → AllByRecursion IsSegment xs
    go [] k = tt
    go (x ∷ xs) k = (k.0.segment, go xs k.1)

pub come-records : (marks : List Mark) (levels : List PlainGroups) (old new : List Segment) → CameSince marks levels old new → AllByRecursion IsSegment (new_levels old new)
come-records marks levels old new c = go (new_levels old new) (new-each old new c.may.new_end c.may.new_whole c.may.small)
  where
    go : (xs : List Segment) → AllByRecursion (IsOfLevel c.may.new_end) xs → AllByRecursion IsSegment xs
    go [] k = tt
    go (x ∷ xs) k = (k.0.segment, go xs k.1)
