-- What the plan's numbers say of the worlds.
use Rattle.std.proofs.Common.{◌≡◌, ◌<◌, ◌≤◌, ℕ, zero, suc, ◌+◌, ◌*◌, ◌^◌, Bool, true, false, not, ◌⊎◌, inl, inr, List, [], ◌∷◌, ◌++◌, length, map, filter, get_or, refl, sym, ap, ap₂, subst, ◌∙◌, ⊎_elim, arith, append-nil, length-append, nat_eq, if◌then◌else◌}
use Rattle.std.specs.List.{AllByRecursion}
use Rattle.std.proofs.lemmas.List.{length-map, map-append}
use Rattle.commit_graph.proofs.Down.{in-right}
use Rattle.id_groups.specs.Lists.{IsIn, is_in}
use Rattle.id_groups.specs.Name.{Name, IsName, same_name}
use Rattle.id_groups.proofs.Names.{same_name-exact, same_name-self}
use Rattle.commit_graph.specs.World.{Row, World, IsNamedWorld, names_of, rows_of, with_pending}
use Rattle.commit_graph.proofs.Naming.{each, named-by, name-of, pending-names}
use Rattle.segment_codec.specs.Record.{Segment}
use Rattle.batch_codec.specs.Payload.{names_bytes, payload_bytes}
use Rattle.assign_ids.specs.Numbers.{AreBelow, HaveOlderParents, others_of, order_of}
use Rattle.assign_ids.specs.declared.graph.Node.{Node}
use Rattle.name_map.specs.Part.{upward}
use Rattle.change_rules.specs.Flush.{flushed}
use Rattle.change_rules.specs.Change.{flush_change}
use Rattle.payload_tables.specs.Kept.{PlainTables}
use Rattle.change_parts.specs.Plans.{IsChangeOf}
use Rattle.payload_tables.specs.Pending.{PlainPending, HeldRow, row_names, segments_from}
use Rattle.change_parts.specs.Moves.{node_of, nodes_in, rest_of, change_in}
use Rattle.commit_graph.specs.Ids.{id_in, place_of}
use Rattle.change_rules.proofs.Flushes.{flush-world, flush-names}
use Rattle.change_parts.proofs.Spans.{place-below}
use Rattle.id_groups.specs.Id.{other_id}
use Rattle.id_groups.proofs.Listing.{found}
use Rattle.segment_codec.specs.Table.{parents_at}
use Rattle.batch_codec.proofs.Entries.{names-size}
use Rattle.flat_segments.specs.Placed.{PlacedSegment, placed_segments}
use Rattle.name_map.specs.Added.{Placed, payloads_of}
use Rattle.payload_tables.specs.declared.base.BaseRef.{BaseRef}
use Rattle.change_rules.specs.Tables.{StandFor}
use Rattle.payload_tables.specs.Bases.{MayBase, MayView, ArePending, held_row}
use Rattle.payload_tables.proofs.Lists.{names-length}
use Rattle.change_parts.proofs.Moving.{by-numbers}
use Rattle.change_parts.specs.Facts.{MoveFacts}
use Rattle.change_parts.proofs.Planning.{placed-long, segments-long, new-master-rows, new-others-rows, listed-older, numbers-below, order-is, below-order, change-is, new-master, new-others}

module _ (tables : PlainTables) (bytes : List ℕ) (pending : PlainPending) (numbers : List ℕ) (flats : List Segment) (names : List ℕ) (n before : ℕ) (w : World Name) (rows : List (Row Name)) (heads : List Name)
    (f : MoveFacts tables bytes pending numbers flats names n before w rows heads) where
  abbrev pub graph : ℕ → ℕ → List Node
  graph m k = get_or (nodes_in flats m) k []

  abbrev pub moving : List ℕ
  moving = order_of (λ k. get_or (nodes_in flats n) k []) n numbers

  abbrev pub next : World Name
  next = flushed same_name (with_pending w rows) heads

  abbrev count : ℕ
  count = length (w.others ++ rows)

  pub f-older : HaveOlderParents (λ k. get_or (nodes_in flats n) k [])
  f-older = subst (λ m. HaveOlderParents (λ k. get_or (nodes_in flats m) k [])) (sym f.n_is)
      (listed-older w rows f.may.pending_rows.view flats f.segments f.small f.names_whole heads f.may.known)

  pub f-numbers : AreBelow n numbers
  f-numbers = subst (λ m. AreBelow m numbers) (sym f.n_is) (subst (AreBelow count) (sym f.may.numbers_are) (numbers-below w rows f.may.pending_rows.view flats f.segments f.small f.names_whole heads f.may.known))

  -- the order, by what the code has
  moving-is : moving ≡ order_of (λ k. get_or (nodes_in flats count) k []) count (others_of (map node_of (map (id_in same_name (with_pending w rows)) heads)))
  moving-is = ap (λ m. order_of (λ k. get_or (nodes_in flats m) k []) m numbers) f.n_is ∙ ap (order_of (λ k. get_or (nodes_in flats count) k []) count) f.may.numbers_are

  pub f-order : AreBelow n moving
  f-order = subst (λ m. AreBelow m moving) (sym f.n_is) (subst (AreBelow count) (sym (moving-is ∙ order-is w rows f.may.pending_rows.view flats f.segments f.small f.names_whole heads f.may.known))
      (below-order w rows f.may.pending_rows.view flats f.segments f.small f.names_whole heads f.may.known))

  pub f-master : length next.master ≡ before + length moving
  f-master = new-master w rows f.may.pending_rows.view flats f.segments f.small f.names_whole heads f.may.known
      ∙ ap₂ (λ a b. a + length b) (sym f.before_is) (sym (moving-is ∙ order-is w rows f.may.pending_rows.view flats f.segments f.small f.names_whole heads f.may.known))

  pub f-others : length next.others ≡ length (rest_of n moving)
  f-others = new-others w rows f.may.pending_rows.view flats f.segments f.small f.names_whole heads f.may.known
      ∙ ap₂ (λ a b. length (rest_of a b)) (sym f.n_is) (sym (moving-is ∙ order-is w rows f.may.pending_rows.view flats f.segments f.small f.names_whole heads f.may.known))

  pub f-change : flush_change w next ≡ change_in flats names before n moving
  f-change = change-is w rows f.may.pending_rows.view flats f.segments f.small f.names_whole heads f.may.known
      ∙ ap (change_in flats (names_bytes (names_of (w.others ++ rows))) (length w.master) count) (sym (moving-is ∙ order-is w rows f.may.pending_rows.view flats f.segments f.small f.names_whole heads f.may.known))
      ∙ ap (λ x. change_in flats x (length w.master) count moving) (sym f.names_are)
      ∙ ap (λ x. change_in flats names (length w.master) x moving) (sym f.n_is)
      ∙ ap (λ x. change_in flats names x n moving) (sym f.before_is)

  view-named : IsNamedWorld (with_pending w rows)
  view-named = named-by (with_pending w rows) f.may.pending_rows.view
      (λ x i. ⊎_elim (λ j. name-of w f.may.world x j) (λ j. each IsName (names_of (w.others ++ rows)) f.names_whole x (pending-in x j)) (pending-names w rows x i))
    where
      pending-in : (x : Name) → IsIn x (names_of rows) → IsIn x (names_of (w.others ++ rows))
      pending-in x j = subst (IsIn x) (sym (map-append (λ (r : Row Name). r.name) w.others rows)) (in-right x (names_of w.others) (names_of rows) j)

  pub next-named : IsNamedWorld next
  next-named = named-by next (flush-world same_name same_name-exact same_name-self (with_pending w rows) f.may.pending_rows.view heads f.may.known)
      (λ x i. name-of (with_pending w rows) view-named x (flush-names same_name same_name-exact same_name-self (with_pending w rows) f.may.pending_rows.view heads f.may.known x i))

  upward-all : (first m : ℕ) → filter (λ k. not (is_in nat_eq k [])) (upward first m) ≡ upward first m
  upward-all first zero = refl
  upward-all first (suc m) = ap (λ l. first ∷ l) (upward-all (first + 1) m)

  upward-long : (first m : ℕ) → length (upward first m) ≡ m
  upward-long first zero = refl
  upward-long first (suc m) = ap suc (upward-long (first + 1) m)

  nothing : (xs : List ℕ) → length xs ≡ 0 → xs ≡ []
  nothing [] e = refl
  nothing (x ∷ xs) e = absurd (omega (arith, e))

  no-rows : (xs : List (Row Name)) → length xs ≡ 0 → xs ≡ []
  no-rows [] e = refl
  no-rows (x ∷ xs) e = absurd (omega (arith, e))

  rest-whole : length moving ≡ 0 → length (rest_of n moving) ≡ n
  rest-whole e = ap (λ l. length (rest_of n l)) (nothing moving e) ∙ ap length (upward-all 0 n) ∙ upward-long 0 n

  -- something is there unless nothing moves and nothing is pending
  pub f-some : (0 < length moving) ⊎ (0 < length rows) → 0 < length (rows_of next)
  f-some s =
      let m = f-master in let o = f-others in let l = length-append next.master next.others in
      ⊎_elim (λ a. omega (arith, a, m, l))
      (λ b. by_count (length moving) refl b)
      s
    where
      by_count : (k : ℕ) → length moving ≡ k → 0 < length rows → 0 < length (rows_of next)
      by_count zero e b = let r = rest-whole e in let o = f-others in let l = length-append next.master next.others in let i = f.n_is in let j = length-append w.others rows in omega (arith, r, o, l, i, j, b)
      by_count (suc k) e b = let m = f-master in let l = length-append next.master next.others in omega (arith, e, m, l)

  -- a flush that changes nothing moves nothing, and has no pending row
  pub f-none : next ≡ w → (length moving ≡ 0) × (length rows ≡ 0)
  f-none e =
      let m = f-master in let o = f-others in let b = f.before_is in
      let ms : length next.master ≡ length w.master = ap (λ (x : World Name). length x.master) e in
      let os : length next.others ≡ length w.others = ap (λ (x : World Name). length x.others) e in
      let none : length moving ≡ 0 = omega (arith, m, b, ms) in
      let r = rest-whole none in let i = f.n_is in let j = length-append w.others rows in
      (none, omega (arith, r, o, os, i, j))

  pub f-same : length moving ≡ 0 → length rows ≡ 0 → next ≡ w
  f-same e r =
      let none : order_of (λ k. map node_of (parents_at flats (other_id k))) count (others_of (map node_of (map (id_in same_name (with_pending w rows)) heads))) ≡ [] =
      sym (moving-is ∙ order-is w rows f.may.pending_rows.view flats f.segments f.small f.names_whole heads f.may.known) ∙ nothing moving e in
      let row : ℕ → Row Name = λ k. get_or (w.others ++ rows) k (record { name = []; parents = [] }) in
      ap₂ {C = World Name} (λ m o. record { master = m; others = o })
      (new-master-rows w rows f.may.pending_rows.view flats f.segments f.small f.names_whole heads f.may.known ∙ ap (λ l. w.master ++ map row l) none ∙ append-nil w.master)
      (new-others-rows w rows f.may.pending_rows.view flats f.segments f.small f.names_whole heads f.may.known ∙ ap (λ l. map row (rest_of count l)) none ∙ ap (map row) (upward-all 0 count)
      ∙ sym (by-numbers (record { name = []; parents = [] }) [] (w.others ++ rows)) ∙ ap (λ l. w.others ++ l) (no-rows rows r) ∙ append-nil w.others)

  -- something moves, or is pending
  abbrev pub Changes : Type 0
  Changes = (0 < length moving) ⊎ (0 < length rows)

  pub f-differs : Changes → next ≡ w → ⊥
  f-differs c e = let none = f-none e in let a = none.0 in let b = none.1 in ⊎_elim (λ lt. omega (arith, lt, a)) (λ lt. omega (arith, lt, b)) c

  pub f-written : (payload : List ℕ) → IsChangeOf w next payload → Changes → payload ≡ payload_bytes (change_in flats names before n moving)
  f-written payload h c = h.some (f-differs c) ∙ ap payload_bytes f-change

-- ---- what the calls of the plan ask

pub pending-count : (w : World Name) (pending : PlainPending) (rows : List (Row Name)) → ArePending w pending rows → length pending.places ≡ length rows
pending-count w pending rows p =
    ap (length {A = ℕ}) p.held.places ∙ length-map (placed_segments 0 (segments_from (other_id pending.first) (map (held_row (with_pending w rows)) rows))) (λ (r : PlacedSegment). r.place)
    ∙ placed-long 0 (segments_from (other_id pending.first) (map (held_row (with_pending w rows)) rows)) ∙ segments-long (other_id pending.first) (map (held_row (with_pending w rows)) rows) ∙ length-map rows (held_row (with_pending w rows))

pub pending-size : (w : World Name) (pending : PlainPending) (rows : List (Row Name)) → ArePending w pending rows → length pending.names ≡ 20 * length pending.places
pending-size w pending rows p =
    ap (length {A = ℕ}) p.held.names ∙ names-size (row_names (map (held_row (with_pending w rows)) rows)) (names-whole (map (held_row (with_pending w rows)) rows) p.held.whole)
    ∙ ap (λ n. 20 * n) (length-map (map (held_row (with_pending w rows)) rows) (λ (r : HeldRow). r.name) ∙ length-map rows (held_row (with_pending w rows)) ∙ sym (pending-count w pending rows p))
  where
    names-whole : (rows : List HeldRow) → AllByRecursion (λ (row : HeldRow). IsName row.name) rows → AllByRecursion IsName (row_names rows)
    names-whole [] h = tt
    names-whole (r ∷ rows) h = (h.0, names-whole rows h.1)

id-bounds : (v : World Name) (x : Name) → (id_in same_name v x < length v.master) ⊎ (2 ^ 56 ≤ id_in same_name v x)
id-bounds v x = by_test (is_in same_name x (names_of v.master)) refl
  where
    by_test : (b : Bool) → is_in same_name x (names_of v.master) ≡ b
        → ((if is_in same_name x (names_of v.master) then place_of same_name x (names_of v.master) else other_id (place_of same_name x (names_of v.others))) < length v.master)
        ⊎ (2 ^ 56 ≤ (if is_in same_name x (names_of v.master) then place_of same_name x (names_of v.master) else other_id (place_of same_name x (names_of v.others))))
    by_test true e = inl (subst (λ b. (if b then place_of same_name x (names_of v.master) else other_id (place_of same_name x (names_of v.others))) < length v.master) (sym e)
        (let p = place-below x (names_of v.master) (found same_name same_name-exact same_name-self x (names_of v.master) e) in let n = names-length v.master in omega (arith, p, n)))
    by_test false e = inr (subst (λ b. 2 ^ 56 ≤ (if b then place_of same_name x (names_of v.master) else other_id (place_of same_name x (names_of v.others)))) (sym e) (omega arith))

pub may-view : (b : BaseRef) (added : List Placed) (pending : PlainPending) (w : World Name) (rows : List (Row Name)) → MayBase b.bytes.now b.tables.now b.others.now b.below added
    → StandFor (payloads_of added) w → ArePending w pending rows → MayView b added pending
may-view b added pending w rows base stand p = record {
  rows = map (held_row (with_pending w rows)) rows;
  held = p.held;
  first = p.first ∙ sym (ap (length {A = Name}) stand.names ∙ names-length w.others);
  parents = each-row rows;
}
  where
    each-parent : (xs : List Name) → AllByRecursion (λ q. (q < b.below) ⊎ (2 ^ 56 ≤ q)) (map (id_in same_name (with_pending w rows)) xs)
    each-parent [] = tt
    each-parent (x ∷ xs) = (⊎_elim (λ l. inl (let c = base.count in let s = stand.count in omega (arith, l, c, s))) (λ r. inr r) (id-bounds (with_pending w rows) x), each-parent xs)

    each-row : (some : List (Row Name)) → AllByRecursion (λ (row : HeldRow). AllByRecursion (λ q. (q < b.below) ⊎ (2 ^ 56 ≤ q)) row.parents) (map (held_row (with_pending w rows)) some)
    each-row [] = tt
    each-row (r ∷ some) = (each-parent r.parents, each-row some)
