-- What is kept of a session is what it sees of some world.
use Rattle.std.proofs.Common.{◌≡◌, ◌<◌, ◌≤◌, ◌+◌, ◌^◌, ℕ, ◌⊎◌, inl, inr, List, [], ◌∷◌, length, map, take, drop, flat_map, refl, sym, ap, subst, ◌∙◌, ⊎_elim, arith}
use Rattle.std.specs.List.{AllByRecursion}
use Rattle.std.proofs.lemmas.List.{take-append-drop, map-append}
use Rattle.id_groups.specs.Lists.{IsIn}
use Rattle.id_groups.specs.Name.{Name, IsName}
use Rattle.id_groups.specs.Id.{other_id}
use Rattle.commit_graph.specs.World.{Row, World, names_of, with_pending}
use Rattle.commit_graph.proofs.Down.{in-left, in-right}
use Rattle.commit_graph.proofs.Naming.{each, named-by, name-of, pending-names}
use Rattle.segment_codec.specs.Record.{segment_bytes}
use Rattle.segment_codec.specs.Flat.{IsFlat}
use Rattle.flat_segments.specs.Placed.{PlacedSegment, placed_segments}
use Rattle.batch_codec.specs.Payload.{known_names}
use Rattle.batch_codec.specs.Grammar.{count_after}
use Rattle.change_rules.specs.Lawful.{AreLawful}
use Rattle.name_map.specs.Added.{Placed, payloads_of}
use Rattle.change_rules.specs.Tables.{newest, other_names_in}
use Rattle.payload_tables.specs.Kept.{PlainTables, AreTablesOf}
use Rattle.payload_tables.specs.Pending.{HeldRow, PlainPending, HoldsRows, row_names, segments_from}
use Rattle.payload_tables.specs.Bases.{held_row}
use Rattle.payload_tables.proofs.Lists.{names-length}
use Rattle.payload_tables.proofs.Naming.{whole-names}
use Rattle.change_parts.specs.Asked.{others_count, HaveParents, MayStore}
use Rattle.change_parts.proofs.StoredNames.{stored-names}
use Rattle.change_parts.proofs.NumberedRows.{AllRows, Behind}
use Rattle.change_parts.proofs.Invented.{FitBehind, some-world}
use Rattle.store_plans.specs.Sessions.{PlainSession, IsSessionOf, base_added}
use Rattle.store_plans.specs.Looking.{IsSeen}
use Rattle.store_plans.proofs.LawfulParts.{lawful-front}

parents-fit : (m k id : ℕ) → id ≡ 2 ^ 56 + k → (ps : List ℕ) → AllByRecursion (λ p. p < id) ps → AllByRecursion (λ p. (p < m) ⊎ (2 ^ 56 ≤ p)) ps → AllByRecursion (λ p. (p < m) ⊎ ((2 ^ 56 ≤ p) × (p < 2 ^ 56 + k))) ps
parents-fit m k id e [] h g = tt
parents-fit m k id e (p ∷ ps) h g = (⊎_elim (λ a. inl a) (λ b. inr (b, (let lt = h.0 in omega (arith, lt, e)))) g.0, parents-fit m k id e ps h.1 g.1)

rows-fit : (m k id at : ℕ) → id ≡ 2 ^ 56 + k → (rows : List HeldRow) → AllByRecursion (λ (r : PlacedSegment). IsFlat r.segment) (placed_segments at (segments_from id rows)) → HaveParents m rows → AllRows (Behind m) k rows
rows-fit m k id at e [] h g = tt
rows-fit m k id at e (r ∷ rows) h g = (
  (parents-fit m k id e r.parents h.0.segment.below g.0, h.0.segment.distinct, h.0.segment.level_parents),
  rows-fit m (k + 1) (id + 1) (at + length (segment_bytes (record { low = id; high = id; level = 0; parents = r.parents }))) (omega (arith, e)) rows h.1 g.1,
)

fit-of : (added : List Placed) (pending : PlainPending) (s : MayStore pending added) → FitBehind (payloads_of added) s.rows
fit-of added pending s = record {
  parents = rows-fit (count_after 0 (payloads_of added)) (others_count added) (other_id pending.first) 0 (ap other_id s.first) s.rows s.held.section.flat s.parents;
  distinct = s.distinct;
  whole = whole-names s.rows s.held.whole;
  few = s.held.few;
  new = λ x i d. s.fresh x i (subst (IsIn x) (sym (stored-names added))
      (⊎_elim (λ j. in-left x (flat_map known_names (payloads_of added)) (other_names_in (newest (payloads_of added))) j)
      (λ j. in-right x (flat_map known_names (payloads_of added)) (other_names_in (newest (payloads_of added))) j) d));
}

names-again : (v : World Name) (rows : List (Row Name)) → row_names (map (held_row v) rows) ≡ names_of rows
names-again v [] = refl
names-again v (r ∷ rows) = ap (λ l. r.name ∷ l) (names-again v rows)

module _ (tables : PlainTables) (added : List Placed) (x : PlainSession) (t : AreTablesOf tables added) (of : IsSessionOf added x) where
  lawful : AreLawful [] (payloads_of (base_added added x))
  lawful =
      let split = ap payloads_of (sym (take-append-drop x.payloads added)) ∙ map-append (λ (a : Placed). a.payload) (take x.payloads added) (drop x.payloads added) in
      lawful-front [] (payloads_of (base_added added x)) (payloads_of (drop x.payloads added)) (subst (AreLawful []) split t.lawful)

  -- a world that the session sees, with the rows that are its pending ones
  pub some-seen : (w : World Name) × (rows : List (Row Name)) × IsSeen added x w rows
  some-seen =
      let s = of.pending in
      let st = some-world (payloads_of (base_added added x)) lawful s.rows (fit-of (base_added added x) x.pending s) in
      let w = st.of_world in
      let rows = st.pending in
      let same : row_names s.rows ≡ names_of rows = ap row_names st.rows_are ∙ names-again (with_pending w rows) rows in (
        w,
        rows,
        record {
          stand = st.stand;
          world = st.named;
          pending_rows = record { first = s.first ∙ ap (length {A = Name}) st.stand.names ∙ names-length w.others; held = subst (HoldsRows x.pending) st.rows_are s.held; view = st.view };
          view = named-by (with_pending w rows) st.view (λ n i. ⊎_elim
              (λ j. name-of w st.named n j)
              (λ j. each IsName (row_names s.rows) (whole-names s.rows s.held.whole) n (subst (IsIn n) (sym same) j))
              (pending-names w rows n i));
        },
      )
