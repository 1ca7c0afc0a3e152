-- The plan over the segments and the names of a view.
use Rattle.std.proofs.Common.{◌≡◌, ◌<◌, ◌≤◌, ℕ, zero, suc, ◌+◌, ◌-◌, ◌*◌, ◌^◌, ◌⊎◌, inl, inr, List, [], ◌∷◌, ◌++◌, length, map, take, drop, Option, Some, None, slice_get, get_or, refl, sym, ap, ap₂, subst, ◌∙◌, ⊎_elim, arith, append-nil, length-append, is_some, true≢false, nat_eq, lit≤, if◌then◌else◌}
use Rattle.std.specs.List.{AllByRecursion, range_with_len}
use Rattle.std.proofs.lemmas.List.{map-append, length-map}
use Rattle.std.proofs.lemmas.Grind.{flat_map-append}
use Rattle.id_groups.specs.Lists.{AreAllIn}
use Rattle.id_groups.specs.Name.{Name, IsName, same_name}
use Rattle.id_groups.specs.Id.{other_id}
use Rattle.commit_graph.specs.World.{Row, World, IsWorld, names_of, rows_of, with_pending}
use Rattle.commit_graph.specs.Ids.{id_in, parent_ids}
use Rattle.commit_graph.proofs.Places.{below-master, over-master, other-place}
use Rattle.commit_graph.proofs.Histories.{history-front}
use Rattle.std.specs.Option.{option_map}
use Rattle.segment_rules.specs.Flat.{flat_segments_of}
use Rattle.segment_rules.specs.NewLevels.{new_levels}
use Rattle.change_rules.proofs.Changes.{rows-front, parents-known}
use Rattle.change_rules.proofs.Cloned.{get-some}
use Rattle.payload_tables.proofs.Leveling.{listed as all-listed}
use Rattle.segment_codec.specs.Record.{Segment, segment_bytes}
use Rattle.segment_codec.specs.Table.{parents_at}
use Rattle.batch_codec.specs.Payload.{names_bytes}
use Rattle.assign_ids.specs.Numbers.{AreBelow, HaveOlderParents, others_of, rows_below, order_of}
use Rattle.assign_ids.specs.Placing.{place_all}
use Rattle.assign_ids.specs.declared.graph.Node.{Node}
use Rattle.name_map.specs.Part.{upward}
use Rattle.change_rules.specs.Flush.{flushed}
use Rattle.change_rules.specs.Change.{flush_change}
use Rattle.change_rules.specs.Tables.{StandFor, newest, other_names_in}
use Rattle.payload_tables.specs.Kept.{PlainTables, AreTablesOf}
use Rattle.payload_tables.specs.Pending.{HeldRow, PlainPending, row_names, segments_from}
use Rattle.change_parts.specs.Plans.{MayMove}
use Rattle.change_parts.specs.Facts.{MoveFacts}
use Rattle.name_map.specs.Added.{Placed, AllStand, payloads_of}
use Rattle.flat_segments.specs.Placed.{PlacedSegment, placed_segments}
use Rattle.payload_tables.proofs.Basing.{table-end, base-others}
use Rattle.payload_tables.proofs.Lists.{all-append, names-length}
use Rattle.change_parts.specs.Moves.{node_of, nodes_in, name_at, rest_of, change_in}
use Rattle.payload_tables.specs.Bases.{MayBase, ArePending, AreSegmentsOf, held_row}
use Rattle.payload_tables.proofs.Joined.{back-parents}
use Rattle.change_parts.proofs.Moving.{older, at-below, order-below, change-same, master-size, others-size, master-rows, others-rows}
use Rattle.payload_tables.proofs.Naming.{name-in-bytes}

get-names : (rows : List (Row Name)) (k : ℕ) (r : Row Name) → slice_get rows k ≡ Some r → slice_get (names_of rows) k ≡ Some r.name
get-names [] k r e = absurd (true≢false (sym (ap is_some e)))
get-names (q ∷ rows) zero r e = ap names_or e
  where
    names_or : Option (Row Name) → Option Name
    names_or None = None
    names_or (Some x) = Some x.name
get-names (q ∷ rows) (suc k) r e = get-names rows k r e

-- parents that are listed, and read again by numbers
upward-get : (f : ℕ → List Node) (first n k : ℕ) → k < n → get_or (map f (upward first n)) k [] ≡ f (first + k)
upward-get f first zero k lt = absurd (omega (arith, lt))
upward-get f first (suc n) zero lt = ap f (let z : first ≡ first + 0 = omega arith in z)
upward-get f first (suc n) (suc k) lt = upward-get f (first + 1) n k (omega (arith, lt)) ∙ ap f (let z : first + 1 + k ≡ first + suc k = omega arith in z)

upward-none : (f : ℕ → List Node) (first n k : ℕ) → n ≤ k → get_or (map f (upward first n)) k [] ≡ []
upward-none f first zero k le = refl
upward-none f first (suc n) zero le = absurd (omega (arith, le))
upward-none f first (suc n) (suc k) le = upward-none f (first + 1) n k (omega (arith, le))

rows-same : (f g : ℕ → List Node) (n : ℕ) → ((k : ℕ) → k < n → f k ≡ g k) → rows_below f n ≡ rows_below g n
rows-same f g zero e = refl
rows-same f g (suc n) e = ap₂ (λ p l. record { name = n; parents = others_of p } ∷ l) (e n (omega arith)) (rows-same f g n (λ k lt. e k (omega (arith, lt))))

lt-or-le : (a b : ℕ) → (a < b) ⊎ (b ≤ a)
lt-or-le zero zero = inr (omega arith)
lt-or-le zero (suc b) = inl (omega arith)
lt-or-le (suc a) zero = inr (omega arith)
lt-or-le (suc a) (suc b) = ⊎_elim (λ l. inl (omega (arith, l))) (λ l. inr (omega (arith, l))) (lt-or-le a b)

get-mapped : {X Y : Type 0} (f : X → Y) (xs : List X) (k : ℕ) (x : X) → slice_get xs k ≡ Some x → slice_get (map f xs) k ≡ Some (f x)
get-mapped f [] k x e = absurd (true≢false (sym (ap is_some e)))
get-mapped f (y ∷ xs) zero x e = ap (option_map f) e
get-mapped f (y ∷ xs) (suc k) x e = get-mapped f xs k x e

module _ (w : World Name) (rows : List (Row Name)) (whole : IsWorld (with_pending w rows)) (flats : List Segment) (segs : AreSegmentsOf (with_pending w rows) flats) (small : length w.master ≤ 16777216)
    (names_whole : AllByRecursion IsName (names_of (w.others ++ rows)))
    (heads : List Name) (known : AreAllIn heads (names_of (rows_of (with_pending w rows)))) where
  abbrev pub view : World Name
  view = with_pending w rows

  abbrev pub n : ℕ
  n = length (w.others ++ rows)

  abbrev pub bytes : List ℕ
  bytes = names_bytes (names_of (w.others ++ rows))

  abbrev pub parents : ℕ → List ℕ
  parents k = parents_at flats (other_id k)

  pub parents-are : (k : ℕ) (r : Row Name) → slice_get (w.others ++ rows) k ≡ Some r → parents k ≡ map (id_in same_name view) r.parents
  parents-are k r e = segs.parents (other_id k) r
      (ap (λ b. if b then slice_get w.master (other_id k) else slice_get (w.others ++ rows) (other_id k - 2 ^ 56)) (over-master k) ∙ ap (slice_get (w.others ++ rows)) (other-place k) ∙ e)

  pub no-parents : (k : ℕ) → length (w.others ++ rows) ≤ k → parents k ≡ []
  no-parents k le =
      ap (λ l. parents_at l (other_id k)) (segs.parts ∙ ap (λ l. segs.masters ++ l) (sym (append-nil segs.others)))
      ∙ back-parents 0 (length w.master) segs.masters (segs.others ++ []) (other_id k) segs.master_ids (let s = small in let l : 16777216 ≤ 2 ^ 56 = lit≤ tt in omega (arith, s, l))
      ∙ back-parents (2 ^ 56) (other_id (length (w.others ++ rows))) segs.others [] (other_id k) segs.other_ids (omega (arith, le))

  pub names-are : (k : ℕ) (r : Row Name) → slice_get (w.others ++ rows) k ≡ Some r → name_at bytes k ≡ r.name
  names-are k r e = name-in-bytes (names_of (w.others ++ rows)) k r.name names_whole (get-names (w.others ++ rows) k r e)

  abbrev pub nodes : ℕ → List Node
  nodes k = map node_of (parents k)

  abbrev pub numbers : List ℕ
  numbers = others_of (map node_of (map (id_in same_name view) heads))

  abbrev pub order : List ℕ
  order = order_of nodes n numbers

  abbrev pub new : World Name
  new = flushed same_name view heads

  -- the graph that was listed
  listed : ℕ → List Node
  listed k = get_or (nodes_in flats n) k []

  pub listed-is : (k : ℕ) → get_or (nodes_in flats n) k [] ≡ nodes k
  listed-is k = ⊎_elim
      (λ lt. upward-get nodes 0 n k lt ∙ ap nodes (let z : 0 + k ≡ k = omega arith in z))
      (λ le. upward-none nodes 0 n k le ∙ ap (map node_of) (sym (no-parents k le)))
      (lt-or-le k n)

  pub listed-older : HaveOlderParents (λ k. get_or (nodes_in flats n) k [])
  listed-older k = subst (λ l. AreBelow k (others_of l)) (sym (listed-is k)) (older view whole small parents (name_at bytes) parents-are no-parents names-are heads known k)

  pub numbers-below : AreBelow n numbers
  numbers-below = at-below view whole small parents (name_at bytes) parents-are no-parents names-are heads known

  pub order-is : order_of (λ k. get_or (nodes_in flats n) k []) n numbers ≡ order
  order-is = ap (λ r. place_all nat_eq r [] numbers) (rows-same (λ k. get_or (nodes_in flats n) k []) nodes n (λ k lt. listed-is k))

  pub below-order : AreBelow n order
  below-order = order-below view whole small parents (name_at bytes) parents-are no-parents names-are heads known

  master-parent : (k : ℕ) → k < length w.master → slice_get (parent_ids same_name view w.master) k ≡ Some (parents_at flats (0 + k))
  master-parent k lt =
      let r = get-some w.master k lt in
      get-mapped (λ (row : Row Name). map (id_in same_name view) row.parents) w.master k r.0 r.1
      ∙ ap (λ z. Some z) (sym (segs.parents k r.0 (ap (λ b. if b then slice_get w.master k else slice_get (w.others ++ rows) (k - 2 ^ 56)) (below-master k (let s = small in let l : 16777216 ≤ 2 ^ 56 = lit≤ tt in omega (arith, lt, s, l))) ∙ r.1)))
      ∙ ap (λ j. Some (parents_at flats j)) (let z : k ≡ 0 + k = omega arith in z)

  -- the parents of the master ids, as the segments give them
  masters-are : map (parents_at flats) (range_with_len 0 (length w.master)) ≡ parent_ids same_name view w.master
  masters-are = sym (all-listed (parents_at flats) 0 (length w.master) (parent_ids same_name view w.master) (length-map w.master (λ (row : Row Name). map (id_in same_name view) row.parents)) master-parent)

  pub change-is : flush_change w new ≡ change_in flats bytes (length w.master) n order
  change-is =
      ap (λ l. record (flush_change view new) { levels = new_levels (flat_segments_of 0 l) (flat_segments_of 0 (parent_ids same_name new new.master)) })
      (rows-front w view [] (sym (append-nil (names_of w.master))) w.master (parents-known [] w.master (history-front [] w.master (w.others ++ rows) whole)))
      ∙ change-same view whole small parents (name_at bytes) parents-are no-parents names-are heads known (map (parents_at flats) (range_with_len 0 (length w.master))) masters-are

  pub new-master : length new.master ≡ length w.master + length order
  new-master = master-size view whole small parents (name_at bytes) parents-are no-parents names-are heads known

  pub new-others : length new.others ≡ length (rest_of n order)
  new-others = others-size view whole small parents (name_at bytes) parents-are no-parents names-are heads known

  abbrev pub blank : Row Name
  blank = record { name = []; parents = [] }

  pub new-master-rows : new.master ≡ w.master ++ map (λ k. get_or (w.others ++ rows) k blank) order
  new-master-rows = master-rows view whole small parents (name_at bytes) parents-are no-parents names-are heads known

  pub new-others-rows : new.others ≡ map (λ k. get_or (w.others ++ rows) k blank) (rest_of n order)
  new-others-rows = others-rows view whole small parents (name_at bytes) parents-are no-parents names-are heads known

-- What the code has of a session, for a world that it may stand for.
names-of-rows : (v : World Name) (rows : List (Row Name)) → row_names (map (held_row v) rows) ≡ names_of rows
names-of-rows v [] = refl
names-of-rows v (r ∷ rows) = ap (λ l. r.name ∷ l) (names-of-rows v rows)

pub whole-names : (v : World Name) (rows : List (Row Name)) → AllByRecursion (λ (row : HeldRow). IsName row.name) (map (held_row v) rows) → AllByRecursion IsName (names_of rows)
whole-names v [] h = tt
whole-names v (r ∷ rows) h = (h.0, whole-names v rows h.1)

pub placed-long : (at : ℕ) (segments : List Segment) → length (placed_segments at segments) ≡ length segments
placed-long at [] = refl
placed-long at (s ∷ more) = ap suc (placed-long (at + length (segment_bytes s)) more)

pub segments-long : (id : ℕ) (rows : List HeldRow) → length (segments_from id rows) ≡ length rows
segments-long id [] = refl
segments-long id (r ∷ rows) = ap suc (segments-long (id + 1) rows)

pub move-facts : (tables : PlainTables) (bytes : List ℕ) (pending : PlainPending) (numbers : List ℕ) (flats : List Segment) (stored behind : List ℕ) (count more before : ℕ) (w : World Name) (rows : List (Row Name)) (heads : List Name)
    → (m : MayMove tables bytes pending numbers w rows heads)
    → ((added : List Placed) → AreTablesOf tables added → AllStand bytes added → StandFor (payloads_of added) w → ArePending w pending rows → AreSegmentsOf (with_pending w rows) flats)
    → stored ≡ take (20 * tables.others.count) (drop tables.others.names bytes) → behind ≡ pending.names → count ≡ tables.others.count → more ≡ length pending.places → before ≡ tables.flat.end
    → MoveFacts tables bytes pending numbers flats (stored ++ behind) (count + more) before w rows heads
move-facts tables bytes pending numbers flats stored behind count more before w rows heads m view hs hb hc hm he =
    let v = with_pending w rows in
    let base : MayBase bytes tables tables.others tables.flat.end m.added = record {
      behind = [];
      tables_of = subst (AreTablesOf tables) (sym (append-nil m.added)) m.tables_of;
      stand = subst (AllStand bytes) (sym (append-nil m.added)) m.stand;
      others_of = m.tables_of.others;
      count = table-end tables m.added m.tables_of;
    } in
    let facts = base-others bytes tables tables.others tables.flat.end m.added base in
    let held = m.pending_rows.held in
    let parts : names_of (w.others ++ rows) ≡ names_of w.others ++ names_of rows = map-append (λ (r : Row Name). r.name) w.others rows in
    let end = table-end tables m.added m.tables_of in
    let stand = m.stand_for.count in
    let places = ap (length {A = ℕ}) held.places ∙ length-map (placed_segments 0 (segments_from (other_id pending.first) (map (held_row v) rows))) (λ (r : PlacedSegment). r.place)
    ∙ placed-long 0 (segments_from (other_id pending.first) (map (held_row v) rows)) ∙ segments-long (other_id pending.first) (map (held_row v) rows) ∙ length-map rows (held_row v) in
    let others : length (other_names_in (newest (payloads_of m.added))) ≡ length w.others = ap (length {A = Name}) m.stand_for.names ∙ names-length w.others in
    record {
      may = m;
      segments = view m.added m.tables_of m.stand m.stand_for m.pending_rows;
      names_are = ap₂ (λ a b. a ++ b) (hs ∙ facts.names ∙ ap names_bytes m.stand_for.names) (hb ∙ held.names ∙ ap names_bytes (names-of-rows v rows))
          ∙ sym (ap names_bytes parts ∙ flat_map-append (λ (x : Name). x) (names_of w.others) (names_of rows));
      n_is = (let c = facts.count in let l = length-append w.others rows in omega (arith, hc, hm, c, others, places, l));
      before_is = he ∙ end ∙ stand;
      small = (let s = facts.small in omega (arith, s, end, stand));
      names_whole = subst (AllByRecursion IsName) (sym parts) (all-append IsName (names_of w.others) (names_of rows) (subst (AllByRecursion IsName) m.stand_for.names facts.whole) (whole-names v rows held.whole));
      few = (let a = facts.few in let b = held.few in let c = length-map rows (held_row v) in let l = length-append w.others rows in omega (arith, a, b, c, l, others));
    }

-- the names of the stored other ids stand within the log
pub names-room : (tables : PlainTables) (bytes : List ℕ) (pending : PlainPending) (numbers : List ℕ) (w : World Name) (rows : List (Row Name)) (heads : List Name) → MayMove tables bytes pending numbers w rows heads
    → tables.others.names + 20 * tables.others.count ≤ length bytes
names-room tables bytes pending numbers w rows heads m =
    (base-others bytes tables tables.others tables.flat.end m.added (record {
      behind = [];
      tables_of = subst (AreTablesOf tables) (sym (append-nil m.added)) m.tables_of;
      stand = subst (AllStand bytes) (sym (append-nil m.added)) m.stand;
      others_of = m.tables_of.others;
      count = table-end tables m.added m.tables_of;
    })).room

pub flush-small : (tables : PlainTables) (bytes : List ℕ) (added : List Placed) (w : World Name) → AreTablesOf tables added → AllStand bytes added → StandFor (payloads_of added) w → length w.master ≤ 16777216
flush-small tables bytes added w t stand for_w =
    let facts = base-others bytes tables tables.others tables.flat.end added (record {
      behind = [];
      tables_of = subst (AreTablesOf tables) (sym (append-nil added)) t;
      stand = subst (AllStand bytes) (sym (append-nil added)) stand;
      others_of = t.others;
      count = table-end tables added t;
    }) in
    let s = facts.small in let e = table-end tables added t in let c = for_w.count in omega (arith, s, e, c)
