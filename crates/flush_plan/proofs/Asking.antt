-- What is asked of tables and payloads is met by a world for which they stand.
use Rattle.std.proofs.Common.{◌≡◌, ◌<◌, ◌≤◌, ◌+◌, ◌^◌, ℕ, ◌⊎◌, inl, inr, List, [], ◌∷◌, ◌++◌, length, flat_map, Option, Some, None, refl, sym, ap, subst, ◌∙◌, ⊎_elim, arith, length-append}
use Rattle.std.specs.Prelude.{IfSome}
use Rattle.std.specs.List.{AllByRecursion, AllZip}
use Rattle.std.proofs.lemmas.List.{length-map}
use Rattle.id_groups.specs.Lists.{IsIn}
use Rattle.id_groups.specs.Name.{Name}
use Rattle.id_groups.specs.Id.{other_id}
use Rattle.commit_graph.specs.World.{Row, World, with_pending}
use Rattle.commit_graph.proofs.Down.{in-left, in-right}
use Rattle.segment_codec.specs.Record.{segment_bytes}
use Rattle.segment_codec.specs.Flat.{IsFlat}
use Rattle.batch_codec.specs.Payload.{known_names}
use Rattle.batch_codec.specs.Grammar.{count_after}
use Rattle.name_map.specs.Added.{Placed, AllStand, payloads_of}
use Rattle.flat_segments.specs.Placed.{PlacedSegment, placed_segments}
use Rattle.assign_ids.specs.Numbers.{AreBelow}
use Rattle.change_rules.specs.Tables.{newest, other_names_in}
use Rattle.payload_tables.specs.Kept.{PlainTables, AreTablesOf}
use Rattle.payload_tables.specs.Pending.{HeldRow, PlainPending, HoldsRows, segments_from}
use Rattle.payload_tables.specs.Bases.{held_row}
use Rattle.payload_tables.proofs.Lists.{names-length}
use Rattle.payload_tables.proofs.Naming.{whole-names}
use Rattle.change_parts.specs.Asked.{others_count, IsFoundIn, HaveParents, MayStore}
use Rattle.flush_plan.specs.Flushing.{MayPlan, MayLook}
use Rattle.change_parts.specs.Plans.{MayMove}
use Rattle.change_parts.proofs.NumberedRows.{AllRows, Behind}
use Rattle.change_parts.proofs.Invented.{FitBehind, some-world}
use Rattle.flush_plan.proofs.Looking.{heads-of}
use Rattle.change_parts.proofs.StoredNames.{lawful-small, stored-names}

parents-fit : (m k id : ℕ) → id ≡ 2 ^ 56 + k → (ps : List ℕ) → AllByRecursion (λ p. p < id) ps → AllByRecursion (λ p. (p < m) ⊎ (2 ^ 56 ≤ p)) ps → AllByRecursion (λ p. (p < m) ⊎ ((2 ^ 56 ≤ p) × (p < 2 ^ 56 + k))) ps
parents-fit m k id e [] h g = tt
parents-fit m k id e (p ∷ ps) h g = (⊎_elim (λ a. inl a) (λ b. inr (b, (let lt = h.0 in omega (arith, lt, e)))) g.0, parents-fit m k id e ps h.1 g.1)

rows-fit : (m k id at : ℕ) → id ≡ 2 ^ 56 + k → (rows : List HeldRow) → AllByRecursion (λ (r : PlacedSegment). IsFlat r.segment) (placed_segments at (segments_from id rows)) → HaveParents m rows → AllRows (Behind m) k rows
rows-fit m k id at e [] h g = tt
rows-fit m k id at e (r ∷ rows) h g = (
  (parents-fit m k id e r.parents h.0.segment.below g.0, h.0.segment.distinct, h.0.segment.level_parents),
  rows-fit m (k + 1) (id + 1) (at + length (segment_bytes (record { low = id; high = id; level = 0; parents = r.parents }))) (omega (arith, e)) rows h.1 g.1,
)

fit-of : (added : List Placed) (pending : PlainPending) (s : MayStore pending added) → FitBehind (payloads_of added) s.rows
fit-of added pending s = record {
  parents = rows-fit (count_after 0 (payloads_of added)) (others_count added) (other_id pending.first) 0 (ap other_id s.first) s.rows s.held.section.flat s.parents;
  distinct = s.distinct;
  whole = whole-names s.rows s.held.whole;
  few = s.held.few;
  new = λ x i d. s.fresh x i (subst (IsIn x) (sym (stored-names added))
      (⊎_elim (λ j. in-left x (flat_map known_names (payloads_of added)) (other_names_in (newest (payloads_of added))) j)
      (λ j. in-right x (flat_map known_names (payloads_of added)) (other_names_in (newest (payloads_of added))) j) d));
}

-- A world for which the tables stand, rows of a session that sees it, and heads with these numbers.
pub asked : (tables : PlainTables) (bytes : List ℕ) (pending : PlainPending) (numbers : List ℕ) (added : List Placed) → AreTablesOf tables added → AllStand bytes added → (s : MayStore pending added)
    → AreBelow (pending.first + length s.rows) numbers
    → (w : World Name) × (rows : List (Row Name)) × (heads : List Name) × (m : MayMove tables bytes pending numbers w rows heads) × (m.added ≡ added)
asked tables bytes pending numbers added t stand s below =
    let st = some-world (payloads_of added) t.lawful s.rows (fit-of added pending s) in
    let w = st.of_world in
    let rows = st.pending in
    let first : pending.first ≡ length w.others = s.first ∙ ap (length {A = Name}) st.stand.names ∙ names-length w.others in
    let many : length s.rows ≡ length rows = ap (length {A = HeldRow}) st.rows_are ∙ length-map rows (held_row (with_pending w rows)) in
    let h = heads-of w rows st.view numbers (subst (λ n. AreBelow n numbers) (let l = length-append w.others rows in let z : pending.first + length s.rows ≡ length (w.others ++ rows) = omega (arith, first, many, l) in z) below) in (
      w,
      rows,
      h.heads,
      record {
        added = added;
        tables_of = t;
        stand = stand;
        stand_for = st.stand;
        world = st.named;
        pending_rows = record { first = first; held = subst (HoldsRows pending) st.rows_are s.held; view = st.view };
        known = h.known;
        numbers_are = h.numbers_are;
      },
      refl,
    )

zip-weaker : {A B : Type 0} (R Q : A → B → Type 0) → ((x : A) (y : B) → R x y → Q x y) → (xs : List A) (ys : List B) → AllZip R xs ys → AllZip Q xs ys
zip-weaker R Q f [] [] h = tt
zip-weaker R Q f [] (y ∷ ys) h = absurd h
zip-weaker R Q f (x ∷ xs) [] h = absurd h
zip-weaker R Q f (x ∷ xs) (y ∷ ys) h = (f x y h.0, zip-weaker R Q f xs ys h.1)

pub may-look : (tables : PlainTables) (bytes : List ℕ) (pending : PlainPending) (heads : List Name) (found : List (Option ℕ)) (added : List Placed) → MayPlan tables bytes pending heads found added → MayLook pending heads found
may-look tables bytes pending heads found added p = record {
  rows = p.pending_rows.rows;
  held = p.pending_rows.held;
  found_are = zip-weaker (IsFoundIn added) (λ name o. IfSome o (λ id. (id < 2 ^ 56) ⊎ ((2 ^ 56 ≤ id) × (id < other_id pending.first)))) each-found heads found p.found_are;
}
  where
    each-found : (x : Name) (o : Option ℕ) → IsFoundIn added x o → IfSome o (λ id. (id < 2 ^ 56) ⊎ ((2 ^ 56 ≤ id) × (id < other_id pending.first)))
    each-found x None h = tt
    each-found x (Some id) (inl a) = let s = lawful-small added p.tables_of.lawful in inl (omega (arith, a, s))
    each-found x (Some id) (inr b) = let e = p.pending_rows.first in let hi = b.1 in inr (b.0, omega (arith, hi, e))
