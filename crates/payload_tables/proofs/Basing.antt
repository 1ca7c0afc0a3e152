-- What holds of a base: where its records stand, and that pending rows may be joined to it.
use Rattle.std.proofs.Common.{◌≡◌, ◌<◌, ◌≤◌, ℕ, suc, ◌+◌, ◌*◌, ◌^◌, ◌⊎◌, inl, inr, List, [], ◌∷◌, ◌++◌, map, length, take, drop, flat_map, slice_get, Option, Some, None, refl, sym, ap, ap₂, ◌∙◌, subst, ⊎_elim, arith, append-nil, append_assoc, lit≤, zero-le}
use Rattle.std.specs.List.{AllByRecursion, last_or, range_with_len}
use Rattle.std.proofs.lemmas.List.{map-append, length-map}
use Rattle.id_groups.specs.Lists.{IsIn}
use Rattle.id_groups.specs.Name.{Name, IsName, same_name}
use Rattle.id_groups.specs.Id.{other_id}
use Rattle.segment_codec.specs.Record.{Segment, segment_bytes}
use Rattle.segment_codec.specs.Table.{Follow, parents_at}
use Rattle.segment_codec.specs.Flat.{IsFlat}
use Rattle.commit_graph.specs.World.{Row, World, IsWorld, IsHistory, names_of, rows_of, with_pending}
use Rattle.commit_graph.specs.Ids.{id_in, parent_ids}
use Rattle.commit_graph.proofs.Histories.{history-front, in-all}
use Rattle.std.proofs.lemmas.Grind.{flat_map-append}
use Rattle.flat_segments.specs.Maximal.{maximal, cut}
use Rattle.flat_segments.proofs.Graphs.{maximal-ids, maximal-parents, cut-ids, cut-parents}
use Rattle.flat_segments.proofs.Standing.{all-segments}
use Rattle.batch_codec.specs.Payload.{Payload, names_bytes}
use Rattle.batch_codec.specs.Grammar.{IsPayload, HasOthersParents, count_after}
use Rattle.change_rules.specs.Lawful.{AreLawful}
use Rattle.flat_segments.specs.Placed.{PlacedSegment, placed_segments, segments_of, Stand}
use Rattle.flat_segments.specs.Kept.{IsTableOf, IsSectionOf}
use Rattle.flat_segments.specs.Joined.{MayJoin}
use Rattle.flat_segments.specs.declared.view.FlatView.{FlatView}
use Rattle.flat_segments.specs.Views.{master_count}
use Rattle.flat_segments.proofs.Callers.{placed-stand, follow-few, few-flats}
use Rattle.segment_rules.specs.Flat.{flat_segments_of, parents_listed}
use Rattle.segment_rules.specs.Levels.{level_segments}
use Rattle.segment_levels.specs.Flats.{flats_of}
use Rattle.segment_levels.specs.Endings.{level_ending}
use Rattle.segment_levels.proofs.ByGraph.{cut-of}
use Rattle.high_segments.proofs.Batch.{table-whole}
use Rattle.name_map.specs.Added.{Placed, StandsAt, AllStand, payloads_of, FollowInLog as Following}
use Rattle.change_rules.specs.Tables.{StandFor, newest, others_in, other_names_in}
use Rattle.payload_tables.specs.Kept.{PlainTables, PlainOthers, AreTablesOf, AreOthersIn, master_records, other_records}
use Rattle.payload_tables.specs.Pending.{HeldRow, PlainPending, HoldsRows, segments_from}
use Rattle.payload_tables.specs.Bases.{MayBase, held_row, AreSegmentsOf, flat_segments_in}
use Rattle.payload_tables.proofs.Lists.{all-append, names-length, parents-known, get-below}
use Rattle.payload_tables.proofs.Joined.{follow-join, follow-once, rows-follow, front-parents, row-parents, listed-parents, view-segments}
use Rattle.payload_tables.proofs.Leveling.{listed, listed-long}
use Rattle.change_rules.proofs.Again.{made-again}
use Rattle.payload_tables.proofs.Viewing.{level-ends}
use Rattle.payload_tables.proofs.Standing.{masters-segments, placed-segments, lawful-follow, others-stand, names-stand, names-within}

-- the other ids of a base
pub record OthersFacts (bytes : List ℕ) (others : PlainOthers) (below : ℕ) (last : Option Payload) : Type 0 where
  pub records : List PlacedSegment
  pub section : IsSectionOf others.section records
  pub stand : Stand bytes records
  pub segments : segments_of records ≡ others_in last
  pub ids : Follow (2 ^ 56) (other_id (length (other_names_in last))) (segments_of records)
  pub parents : AllByRecursion (λ s. AllByRecursion (λ p. (p < below) ⊎ (2 ^ 56 ≤ p)) s.parents) (segments_of records)
  pub few : length (other_names_in last) ≤ 65536
  pub small : below ≤ 16777216
  pub count : others.count ≡ length (other_names_in last)
  pub room : others.names + 20 * others.count ≤ length bytes
  pub names : take (20 * others.count) (drop others.names bytes) ≡ names_bytes (other_names_in last)
  pub whole : AllByRecursion IsName (other_names_in last)
  pub again : flat_segments_of (2 ^ 56) (parents_listed (others_in last)) ≡ others_in last

all-weaker : {X : Type 0} (P Q : X → Type 0) → ((x : X) → P x → Q x) → (xs : List X) → AllByRecursion P xs → AllByRecursion Q xs
all-weaker P Q f [] h = tt
all-weaker P Q f (x ∷ xs) h = (f x h.0, all-weaker P Q f xs h.1)

pub facts-of : (bytes : List ℕ) (others : PlainOthers) (a : Placed) → IsPayload a.payload → StandsAt bytes a → AreOthersIn others (Some a) → OthersFacts bytes others a.payload.after (Some a.payload)
facts-of bytes others a h stand are =
    let same = placed-segments (a.at + _) a.payload.others in
    record {
      records = other_records a;
      section = are.section;
      stand = others-stand bytes a h stand;
      segments = same;
      ids = subst (Follow (2 ^ 56) (2 ^ 56 + length a.payload.other_names)) (sym same) h.cover.others;
      parents = subst (AllByRecursion (λ s. AllByRecursion (λ p. (p < a.payload.after) ⊎ (2 ^ 56 ≤ p)) s.parents)) (sym same)
          (all-weaker (HasOthersParents a.payload.after) _ (λ s k. all-weaker _ _ (λ p d. ⊎_elim (λ l. inl l) (λ r. inr r.0) d) s.parents k) a.payload.others h.parents.others);
      few = h.counts.others;
      small = h.counts.master;
      count = are.count;
      room = (let w = names-within bytes a h stand in let x = are.names in let y = are.count in omega (arith, w, x, y));
      names = ap₂ (λ n m. take (20 * n) (drop m bytes)) are.count are.names ∙ names-stand bytes a h stand;
      whole = h.other_names;
      again = made-again (2 ^ 56) (2 ^ 56 + length a.payload.other_names) a.payload.others h.cover.others (all-weaker _ _ (λ s k. k.1) a.payload.others h.cover.flat_others) h.maximal.others;
    }

pub no-facts : (bytes : List ℕ) (others : PlainOthers) → AreOthersIn others None → OthersFacts bytes others 0 None
no-facts bytes others are = record { records = []; section = are.section; stand = tt; segments = refl; ids = refl; parents = tt; few = zero-le; small = zero-le; count = are.count; room = (let x = are.names in let y = are.count in omega (arith, x, y)); names = ap (λ n. take (20 * n) (drop others.names bytes)) are.count; whole = tt; again = refl }

abbrev payload_of : Option Placed → Option Payload
payload_of None = None
payload_of (Some a) = Some a.payload

abbrev end_of : ℕ → Option Placed → ℕ
end_of n None = n
end_of n (Some a) = a.payload.after

last-facts : (bytes : List ℕ) (others : PlainOthers) (count : ℕ) (o : Option Placed) (added : List Placed) → Following count added → AllStand bytes added
    → (AreOthersIn others o → OthersFacts bytes others count (payload_of o))
    → AreOthersIn others (last_or o added) → OthersFacts bytes others (count_after count (payloads_of added)) (last_or (payload_of o) (payloads_of added))
last-facts bytes others count o [] f s known are = known are
last-facts bytes others count o (a ∷ added) f s known are = last-facts bytes others a.payload.after (Some a) added f.2 s.1 (λ h. facts-of bytes others a f.0 s.0 h) are

pub following-front : (count : ℕ) (front behind : List Placed) → Following count (front ++ behind) → Following count front
following-front count [] behind h = tt
following-front count (a ∷ front) behind h = (h.0, h.1, following-front a.payload.after front behind h.2)

pub stand-front : (bytes : List ℕ) (front behind : List Placed) → AllStand bytes (front ++ behind) → AllStand bytes front
stand-front bytes [] behind h = tt
stand-front bytes (a ∷ front) behind h = (h.0, stand-front bytes front behind h.1)

lawful-front : (before front behind : List Payload) → AreLawful before (front ++ behind) → AreLawful before front
lawful-front before [] behind h = tt
lawful-front before (p ∷ front) behind h = (h.0, lawful-front (before ++ p ∷ []) front behind h.1)

pub base-others : (bytes : List ℕ) (tables : PlainTables) (others : PlainOthers) (below : ℕ) (added : List Placed) → MayBase bytes tables others below added
    → OthersFacts bytes others below (newest (payloads_of added))
base-others bytes tables others below added b =
    subst (λ n. OthersFacts bytes others n (newest (payloads_of added))) (sym b.count)
    (last-facts bytes others 0 None added (following-front 0 added b.behind b.tables_of.names.follow) (stand-front bytes added b.behind b.stand) (λ h. no-facts bytes others h) b.others_of)

-- the table has all master ids that its payloads count
pub table-end : (tables : PlainTables) (added : List Placed) → AreTablesOf tables added → tables.flat.end ≡ count_after 0 (payloads_of added)
table-end tables added t =
    follow-once 0 tables.flat.end (count_after 0 (payloads_of added)) (segments_of (master_records added)) t.flat.in_turn
    (subst (Follow 0 (count_after 0 (payloads_of added))) (sym (masters-segments added)) (lawful-follow [] (payloads_of added) t.lawful))

pub count-front : (n : ℕ) (front behind : List Placed) → Following n (front ++ behind) → count_after n (payloads_of front) ≤ count_after n (payloads_of (front ++ behind))
count-front n [] behind h = grows n behind h
  where
    grows : (n : ℕ) (added : List Placed) → Following n added → n ≤ count_after n (payloads_of added)
    grows n [] h = omega arith
    grows n (a ∷ added) h = let r = grows a.payload.after added h.2 in let g = h.0.counts.grows in let e = h.1 in omega (arith, r, g, e)
count-front n (a ∷ front) behind h = count-front a.payload.after front behind h.2

pub base-below : (bytes : List ℕ) (tables : PlainTables) (others : PlainOthers) (below : ℕ) (added : List Placed) → MayBase bytes tables others below added → below ≤ tables.flat.end
base-below bytes tables others below added b =
    subst₂ b.count (table-end tables (added ++ b.behind) b.tables_of) (count-front 0 added b.behind b.tables_of.names.follow)
  where
    subst₂ : {m n x y : ℕ} → m ≡ x → n ≡ y → x ≤ y → m ≤ n
    subst₂ e f le = omega (arith, e, f, le)

row-parents-all : (P : ℕ → Type 0) (id : ℕ) (rows : List HeldRow) → AllByRecursion (λ (row : HeldRow). AllByRecursion P row.parents) rows → AllByRecursion (λ (s : Segment). AllByRecursion P s.parents) (segments_from id rows)
row-parents-all P id [] h = tt
row-parents-all P id (row ∷ rows) h = (h.0, row-parents-all P (id + 1) rows h.1)

pub may-join : (view : FlatView) (bytes : List ℕ) (others : PlainOthers) (below : ℕ) (last : Option Payload) (facts : OthersFacts bytes others below last) (pending : PlainPending) (rows : List HeldRow) (records : List ℕ)
    → HoldsRows pending rows → pending.first ≡ length (other_names_in last) → AllByRecursion (λ (row : HeldRow). AllByRecursion (λ p. (p < below) ⊎ (2 ^ 56 ≤ p)) row.parents) rows
    → master_count view ≡ below → records ≡ pending.records → MayJoin view others.section bytes pending.section records
may-join view bytes others below last facts pending rows records held first parents count are =
    let segs = segments_from (other_id pending.first) rows in
    let same = placed-segments 0 segs in
    record {
      first = facts.records;
      second = placed_segments 0 segs;
      others_stand = record { section_of = facts.section; stand = facts.stand };
      pending_stand = record { section_of = held.section; stand = placed-stand records [] 0 segs (are ∙ held.records ∙ sym (append-nil (flat_map segment_bytes segs))) };
      end = other_id pending.first + length rows;
      in_turn = follow-join (2 ^ 56) (other_id (length (other_names_in last))) (other_id pending.first + length rows) (segments_of facts.records) (segments_of (placed_segments 0 segs)) facts.ids
          (subst (λ n. Follow n (other_id pending.first + length rows) (segments_of (placed_segments 0 segs))) (ap other_id first) (subst (Follow (other_id pending.first) (other_id pending.first + length rows)) (sym same) (rows-follow (other_id pending.first) rows)));
      parents = subst (λ n. AllByRecursion (λ s. AllByRecursion (λ p. (p < n) ⊎ (2 ^ 56 ≤ p)) s.parents) (segments_of facts.records ++ segments_of (placed_segments 0 segs))) (sym count)
          (all-append _ (segments_of facts.records) (segments_of (placed_segments 0 segs)) facts.parents
          (subst (AllByRecursion (λ (s : Segment). AllByRecursion (λ p. (p < below) ⊎ (2 ^ 56 ≤ p)) s.parents)) (sym same) (row-parents-all (λ p. (p < below) ⊎ (2 ^ 56 ≤ p)) (other_id pending.first) rows parents)));
      few = (let a = few-flats view in let b = follow-few (2 ^ 56) (other_id (length (other_names_in last))) (segments_of facts.records) facts.ids in let c = length-map facts.records (λ (r : PlacedSegment). r.segment) in
          let d = follow-few (other_id pending.first) (other_id pending.first + length rows) segs (rows-follow (other_id pending.first) rows) in let e = ap (length {A = Segment}) same in
          let f = length-map (placed_segments 0 segs) (λ (r : PlacedSegment). r.segment) in let g = held.few in let h = facts.few in let i = facts.small in omega (arith, a, b, c, d, e, f, g, h, i, count));
    }

module _ (bytes : List ℕ) (tables : PlainTables) (others : PlainOthers) (below : ℕ) (added : List Placed) (b : MayBase bytes tables others below added)
    (w : World Name) (stand : StandFor (payloads_of added) w) where
  abbrev pub masters : List Segment
  masters = cut below (maximal tables.flat.end (segments_of (master_records (added ++ b.behind))))

  facts : OthersFacts bytes others below (newest (payloads_of added))
  facts = base-others bytes tables others below added b

  count : below ≡ length w.master
  count = b.count ∙ stand.count

  flat : IsTableOf tables.flat (master_records (added ++ b.behind))
  flat = b.tables_of.flat

  flats : AllByRecursion IsFlat (segments_of (master_records (added ++ b.behind)))
  flats = all-segments (master_records (added ++ b.behind)) flat.flat

  end-over : below ≤ tables.flat.end
  end-over = base-below bytes tables others below added b

  maximal-follow : Follow 0 tables.flat.end (maximal tables.flat.end (segments_of (master_records (added ++ b.behind))))
  maximal-follow = maximal-ids tables.flat.end (segments_of (master_records (added ++ b.behind))) flats flat.in_turn

  first-follow : Follow 0 (length w.master) (flat_map (λ p. p.master) (payloads_of added))
  first-follow = subst (λ n. Follow 0 n (flat_map (λ p. p.master) (payloads_of added))) stand.count
      (lawful-follow [] (payloads_of added) (lawful-front [] (payloads_of added) (payloads_of b.behind) (subst (AreLawful []) (map-append (λ (a : Placed). a.payload) added b.behind) b.tables_of.lawful)))

  first-parts : segments_of (master_records (added ++ b.behind)) ≡ flat_map (λ p. p.master) (payloads_of added) ++ flat_map (λ p. p.master) (payloads_of b.behind)
  first-parts = masters-segments (added ++ b.behind) ∙ ap (flat_map (λ p. p.master)) (map-append (λ (a : Placed). a.payload) added b.behind)
      ∙ flat_map-append (λ (p : Payload). p.master) (payloads_of added) (payloads_of b.behind)

  master-parents : (k : ℕ) (r : Row Name) → slice_get w.master k ≡ Some r → parents_at masters k ≡ map (id_in same_name w) r.parents
  master-parents k r e =
      let lt = get-below w.master k r e in let c = count in let over = end-over in
      cut-parents below 0 tables.flat.end k (maximal tables.flat.end (segments_of (master_records (added ++ b.behind)))) maximal-follow (omega (arith, lt, c))
      ∙ maximal-parents tables.flat.end k (segments_of (master_records (added ++ b.behind))) flats flat.in_turn (omega (arith, lt, c, over))
      ∙ ap (λ l. parents_at l k) first-parts
      ∙ front-parents 0 (length w.master) (flat_map (λ p. p.master) (payloads_of added)) (flat_map (λ p. p.master) (payloads_of b.behind)) k first-follow (omega arith) lt
      ∙ ap (parents_at (flat_map (λ p. p.master) (payloads_of added))) (let z : k ≡ 0 + k = omega arith in z)
      ∙ row-parents w w.master 0 (length w.master) (flat_map (λ p. p.master) (payloads_of added)) first-follow (omega arith) stand.master k r e

  other-names : length (other_names_in (newest (payloads_of added))) ≡ length w.others
  other-names = ap (length {A = Name}) stand.names ∙ names-length w.others

  -- the segments kept of the master ids are the flat segments of the world's
  pub masters-are : masters ≡ flat_segments_of 0 (parent_ids same_name w w.master)
  masters-are =
      let parents : map (parents_at (segments_of (master_records (added ++ b.behind)))) (range_with_len 0 below) ≡ parent_ids same_name w w.master =
      sym (listed (parents_at (segments_of (master_records (added ++ b.behind)))) 0 below (parents_listed (flat_map (λ p. p.master) (payloads_of added)))
      (let l = listed-long 0 (length w.master) (flat_map (λ p. p.master) (payloads_of added)) first-follow in let c = count in omega (arith, l, c))
      (λ k lt. let c = count in
      listed-parents 0 (length w.master) (flat_map (λ p. p.master) (payloads_of added)) k first-follow (omega (arith, lt, c))
      ∙ ap Some (sym (ap (λ l. parents_at l (0 + k)) first-parts
      ∙ front-parents 0 (length w.master) (flat_map (λ p. p.master) (payloads_of added)) (flat_map (λ p. p.master) (payloads_of b.behind)) (0 + k) first-follow (omega arith) (omega (arith, lt, c))))))
      ∙ stand.master in
      cut-of below tables.flat.end (segments_of (master_records (added ++ b.behind))) flats flat.in_turn end-over ∙ ap (flat_segments_of 0) parents

  -- those kept of the others are the world's too
  pub others-are : others_in (newest (payloads_of added)) ≡ flat_segments_of (2 ^ 56) (parent_ids same_name w w.others)
  others-are = sym facts.again ∙ ap (flat_segments_of (2 ^ 56)) stand.others

  -- each segment of a level of the world ends in the levels of the whole table
  pub base-levels : (level : ℕ) (s : Segment) → suc level ≤ 7 → IsIn s (level_segments (flat_segments_of 0 (parent_ids same_name w w.master)) (suc level))
      → level_ending (flats_of tables.flat (master_records (added ++ b.behind))) below (suc level) s.high ≡ Some s
  base-levels level s known i =
      level-ends (flats_of tables.flat (master_records (added ++ b.behind))) tables.flat.end below (table-whole tables.flat (master_records (added ++ b.behind)) flat)
      (cut-ids below 0 tables.flat.end (maximal tables.flat.end (segments_of (master_records (added ++ b.behind)))) maximal-follow (omega arith) end-over) level s known
      (subst (λ l. IsIn s (level_segments l (suc level))) (sym masters-are) i)

  module _ (rows : List (Row Name)) (whole : IsWorld (with_pending w rows)) where
    world : IsWorld w
    world = history-front [] (w.master ++ w.others) rows (subst (IsHistory []) (sym (append_assoc w.master w.others rows)) whole)

    pub base-view : AreSegmentsOf (with_pending w rows) (flat_segments_in w ++ segments_from (other_id (length w.others)) (map (held_row (with_pending w rows)) rows))
    base-view = subst (AreSegmentsOf (with_pending w rows))
        (ap₂ (λ x y. x ++ (y ++ segments_from (other_id (length w.others)) (map (held_row (with_pending w rows)) rows))) masters-are others-are
        ∙ sym (append_assoc (flat_segments_of 0 (parent_ids same_name w w.master)) (flat_segments_of (2 ^ 56) (parent_ids same_name w w.others)) (segments_from (other_id (length w.others)) (map (held_row (with_pending w rows)) rows))))
        (view-segments w rows whole masters (others_in (newest (payloads_of added)))
        (subst (λ n. Follow 0 n masters) count (cut-ids below 0 tables.flat.end (maximal tables.flat.end (segments_of (master_records (added ++ b.behind)))) maximal-follow (omega arith) end-over))
        master-parents
        (subst (λ n. Follow (2 ^ 56) (other_id n) (others_in (newest (payloads_of added)))) other-names (subst (Follow (2 ^ 56) (other_id (length (other_names_in (newest (payloads_of added)))))) facts.segments facts.ids))
        stand.others
        (λ r i p j. in-all p r.parents (names_of (rows_of w)) j (parents-known [] (rows_of w) world r i))
        (let s = facts.small in let c = count in let k : 16777216 ≤ 2 ^ 56 = lit≤ tt in omega (arith, s, c, k)))
