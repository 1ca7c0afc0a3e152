-- One step of a rebase's loop, for a world.
use Rattle.std.proofs.Common.{Bool, true, false, not, ◌&&◌, ◌≡◌, ◌<◌, ◌≤◌, ◌+◌, ℕ, suc, ◌⊎◌, inl, inr, List, [], ◌∷◌, ◌++◌, length, map, take, drop, Option, Some, None, slice_get, refl, sym, ap, subst, ◌∙◌, ⊎_elim, arith, append-nil, true≢false}
use Rattle.std.specs.List.{AllZip}
use Rattle.std.proofs.lemmas.List.{length-map}
use Rattle.id_groups.specs.Name.{Name, same_name}
use Rattle.commit_graph.specs.World.{Row, World, IsWorld, names_of, rows_of, row_named, with_pending}
use Rattle.commit_graph.specs.Ids.{id_in}
use Rattle.segment_codec.specs.Record.{Segment}
use Rattle.id_groups.specs.Lists.{IsIn}
use Rattle.segment_codec.specs.Table.{parents_at}
use Rattle.change_rules.specs.Rebase.{left_of, has_parents, conflicts, first_conflict, first_lost}
use Rattle.payload_tables.specs.declared.base.BaseRef.{BaseRef}
use Rattle.payload_tables.specs.Kept.{PlainTables}
use Rattle.payload_tables.specs.Pending.{PlainPending, HoldsRows}
use Rattle.payload_tables.specs.Bases.{ArePending, AreSegmentsOf, held_row}
use Rattle.payload_tables.proofs.Lists.{names-length}
use Rattle.payload_tables.proofs.Joined.{get-map}
use Rattle.payload_tables.proofs.Rows.{get-below}
use Rattle.change_parts.specs.declared.fault.PlanFault.{PlanFault}
use Rattle.change_parts.specs.declared.fault.PlanFault.TheVariants.{Memory, Conflict}
use Rattle.change_parts.specs.Asked.{others_count}
use Rattle.rebase_pending.specs.Rebases.{MayRebase, lost_fault}
use Rattle.change_parts.specs.Plans.{stored_id, conflict_fault}
use Rattle.rebase_pending.specs.Rebasing.{IsMoved, AreStoredAs, AreStoredWhere, IsRebased, IsNotLeft}
use Rattle.change_parts.proofs.Marking.{all-taken}
use Rattle.change_parts.proofs.Planning.{flush-small}
use Rattle.rebase_pending.proofs.Rebased.{LeftIn, none-at, conflict-at, earlier, moved-all, moved-distinct, row-kept, row-stored, row-loses, row-agrees, front-world, found-there, found-none}
use Rattle.rebase_pending.proofs.Stepping.{split-at, take-next}

module _ (tables : PlainTables) (bytes : List ℕ) (base : BaseRef) (pending : PlainPending) (found : List (Option ℕ)) (w old : World Name) (rows : List (Row Name)) (f : MayRebase tables bytes base pending found w old rows) where
  small : length w.master ≤ 16777216
  small = flush-small tables bytes f.added w f.tables_of f.stand f.stand_for

  pub first-before : pending.first ≡ others_count f.before
  first-before = f.pending_rows.first ∙ sym (ap (length {A = Name}) f.base_stands.names ∙ names-length old.others)

  first-in : (none : PlainPending) → none.first ≡ others_count f.added → none.first ≡ length w.others
  first-in none e = e ∙ ap (length {A = Name}) f.stand_for.names ∙ names-length w.others

  with-none : with_pending w [] ≡ w
  with-none = ap (λ o. record { master = w.master; others = o }) (append-nil w.others)

  pub none-pending : (none : PlainPending) → none.first ≡ others_count f.added → HoldsRows none [] → ArePending w none []
  none-pending none e h = record { first = first-in none e; held = h; view = subst (IsWorld {N = Name}) (sym with-none) f.world }

  pub segments-in : (flats : List Segment) → AreSegmentsOf (with_pending w []) flats → AreSegmentsOf w flats
  segments-in flats s = subst (λ v. AreSegmentsOf v flats) with-none s

  pub world-start : (none : PlainPending) → none.first ≡ others_count f.added → HoldsRows none [] → LeftIn w [] [] none
  world-start none e h = record { lossless = refl; ids_are = refl; first = first-in none e; held = h }

  pub world-end : (i : ℕ) (ids : List ℕ) (kept : PlainPending) → length rows ≤ i → LeftIn w (take i rows) ids kept → (first_lost same_name w rows ≡ None) × ArePending w kept (left_of same_name w rows)
  world-end i ids kept le h =
      let l = subst (λ q. LeftIn w q ids kept) (all-taken rows i le) h in
      (l.lossless, record { first = l.first; held = l.held; view = front-world f.added f.before w old rows f.stand_for f.world small f.base_stands f.pending_rows.view f.grows f.missing rows [] (sym (append-nil rows)) l.lossless })

  pub check-end : (i : ℕ) → length rows ≤ i → first_conflict same_name w (take i rows) ≡ None → first_conflict same_name w rows ≡ None
  check-end i le h = subst (λ q. first_conflict same_name w q ≡ None) (all-taken rows i le) h

  pub rows-long : length (map (held_row (with_pending old rows)) rows) ≡ length rows
  rows-long = length-map rows (held_row (with_pending old rows))

  pub row-of : (i : ℕ) → i < length (map (held_row (with_pending old rows)) rows) → (r : Row Name) × (slice_get rows i ≡ Some r) × (slice_get (map (held_row (with_pending old rows)) rows) i ≡ Some (held_row (with_pending old rows) r))
  row-of i lt = let e = rows-long in let r = get-below rows i (omega (arith, lt, e)) in (r.0, r.1, get-map (held_row (with_pending old rows)) rows i r.0 r.1)

  pub found-in : (i : ℕ) → i < length (map (held_row (with_pending old rows)) rows) → i < length found
  found-in i lt = let e = rows-long in let a = ap (length {A = Option ℕ}) f.found_are in let b = length-map (names_of rows) (stored_id w) in let c = length-map rows (λ (q : Row Name). q.name) in omega (arith, lt, e, a, b, c)

  found-row : (i : ℕ) (r : Row Name) (o : Option ℕ) → slice_get rows i ≡ Some r → slice_get found i ≡ Some o → o ≡ stored_id w r.name
  found-row i r o e g = ap (option_or o) (sym g ∙ ap (λ (l : List (Option ℕ)). slice_get l i) f.found_are ∙ get-map (stored_id w) (names_of rows) i r.name (get-map (λ (q : Row Name). q.name) rows i r e))
    where
      option_or : Option ℕ → Option (Option ℕ) → Option ℕ
      option_or d None = d
      option_or d (Some a) = a

  module _ (i : ℕ) (r : Row Name) (at : slice_get rows i ≡ Some r) (o : Option ℕ) (g : slice_get found i ≡ Some o) where
    parts : rows ≡ take i rows ++ r ∷ drop (suc i) rows
    parts = split-at rows i r at

    -- whether a row that was found is stored with its parents
    conflict-is : (id : ℕ) → o ≡ Some id → (flats : List Segment) → AreSegmentsOf w flats → (same : Bool) → AreStoredAs f.before f.added pending.first found (parents_at flats id) (held_row (with_pending old rows) r).parents same → conflicts same_name w r ≡ not same
    conflict-is id e flats segs same h =
        let t = found-there f.added f.before w old rows f.stand_for f.world small f.base_stands f.pending_rows.view f.grows f.missing r.name o id (found-row i r o at g) e in
        row-agrees f.added f.before w old rows f.stand_for f.world small f.base_stands f.pending_rows.view f.grows f.missing pending.first f.pending_rows.first flats segs (take i rows) (drop (suc i) rows) r parts id t.0 t.1 same
        (subst (λ l. AreStoredAs f.before f.added pending.first l (parents_at flats id) (held_row (with_pending old rows) r).parents same) f.found_are h)

    pub check-more : (id : ℕ) → o ≡ Some id → (flats : List Segment) → AreSegmentsOf w flats → AreStoredAs f.before f.added pending.first found (parents_at flats id) (held_row (with_pending old rows) r).parents true
        → first_conflict same_name w (take i rows) ≡ None → first_conflict same_name w (take (i + 1) rows) ≡ None
    check-more id e flats segs h none = subst (λ q. first_conflict same_name w q ≡ None) (sym (take-next rows i r at)) (none-at w (take i rows) r none (conflict-is id e flats segs true h))

    pub check-fault : (id : ℕ) → o ≡ Some id → (flats : List Segment) → AreSegmentsOf w flats → AreStoredAs f.before f.added pending.first found (parents_at flats id) (held_row (with_pending old rows) r).parents false
        → first_conflict same_name w (take i rows) ≡ None → conflict_fault (first_conflict same_name w rows) ≡ Some (Conflict r.name)
    check-fault id e flats segs h none = ap conflict_fault (ap (first_conflict same_name w) parts ∙ conflict-at w (take i rows) (drop (suc i) rows) r none (conflict-is id e flats segs false h))

    -- a row that wasn't found can't conflict
    pub check-skip : o ≡ None → first_conflict same_name w (take i rows) ≡ None → first_conflict same_name w (take (i + 1) rows) ≡ None
    check-skip e none =
        let out = found-none f.added f.before w old rows f.stand_for f.world small f.base_stands f.pending_rows.view f.grows f.missing r.name o (found-row i r o at g) e in
        subst (λ q. first_conflict same_name w q ≡ None) (sym (take-next rows i r at))
        (none-at w (take i rows) r none (ap (λ b. b && not (has_parents same_name (row_named same_name (rows_of w) r.name) r.parents)) out))

    step : (p : Option ℕ) → o ≡ p → (flats : List Segment) → AreSegmentsOf w flats → AreStoredWhere f.before f.added pending.first found flats p (held_row (with_pending old rows) r).parents true
        → first_conflict same_name w (take i rows) ≡ None → first_conflict same_name w (take (i + 1) rows) ≡ None
    step None e flats segs h none = check-skip e none
    step (Some id) e flats segs h none = check-more id e flats segs h none

    -- one more row is checked
    pub check-step : (flats : List Segment) → AreSegmentsOf w flats → AreStoredWhere f.before f.added pending.first found flats o (held_row (with_pending old rows) r).parents true
        → first_conflict same_name w (take i rows) ≡ None → first_conflict same_name w (take (i + 1) rows) ≡ None
    check-step flats segs h none = step o refl flats segs h none

    fail : (p : Option ℕ) → o ≡ p → (flats : List Segment) → AreSegmentsOf w flats → AreStoredWhere f.before f.added pending.first found flats p (held_row (with_pending old rows) r).parents false
        → first_conflict same_name w (take i rows) ≡ None → conflict_fault (first_conflict same_name w rows) ≡ Some (Conflict r.name)
    fail None e flats segs h none = absurd (true≢false (sym h))
    fail (Some id) e flats segs h none = check-fault id e flats segs h none

    pub check-fail : (flats : List Segment) → AreSegmentsOf w flats → (fault : PlanFault) → (fault ≡ Memory) ⊎ ((fault ≡ Conflict r.name) × AreStoredWhere f.before f.added pending.first found flats o (held_row (with_pending old rows) r).parents false)
        → first_conflict same_name w (take i rows) ≡ None → (fault ≡ Memory) ⊎ (conflict_fault (first_conflict same_name w rows) ≡ Some fault)
    check-fail flats segs fault h none = ⊎_elim (λ a. inl a) (λ d. inr (fail o refl flats segs d.1 none ∙ ap Some (sym d.0))) h

    module _ (ids : List ℕ) (kept : PlainPending) (l : LeftIn w (take i rows) ids kept) where
      moved-facts : (moved : List ℕ) → AllZip (IsMoved f.before f.added pending.first ids) (held_row (with_pending old rows) r).parents moved
          → ((p : Name) → IsIn p r.parents → IsIn p (names_of (rows_of (with_pending w (left_of same_name w (take i rows)))))) × (moved ≡ map (id_in same_name (with_pending w (left_of same_name w (take i rows)))) r.parents)
      moved-facts moved z = moved-all f.added f.before w old rows f.stand_for f.world small f.base_stands f.pending_rows.view f.grows f.missing (take i rows) (r ∷ drop (suc i) rows) parts pending.first ids f.pending_rows.first l.ids_are r.parents
          (earlier f.added f.before w old rows f.stand_for f.world small f.base_stands f.pending_rows.view f.grows f.missing (take i rows) (drop (suc i) rows) r parts) moved z

      more : (o : Option ℕ) → o ≡ stored_id w r.name → (next : PlainPending) (id : ℕ) → IsRebased f.before f.added pending.first ids o kept next (held_row (with_pending old rows) r) id → LeftIn w (take i rows ++ r ∷ []) (ids ++ id ∷ []) next
      more (Some stored) e next id h =
          let t = found-there f.added f.before w old rows f.stand_for f.world small f.base_stands f.pending_rows.view f.grows f.missing r.name (Some stored) stored e refl in
          subst (λ p. LeftIn w (take i rows ++ r ∷ []) (ids ++ id ∷ []) p) (sym h.1)
          (row-stored f.added f.before w old rows f.stand_for f.world small f.base_stands f.pending_rows.view f.grows f.missing (take i rows) r ids kept l t.0 id (h.0 ∙ t.1))
      more None e next id h =
          let out = found-none f.added f.before w old rows f.stand_for f.world small f.base_stands f.pending_rows.view f.grows f.missing r.name None e refl in
          let m = moved-facts h.0 h.1 in
          row-kept f.added f.before w old rows f.stand_for f.world small f.base_stands f.pending_rows.view f.grows f.missing (take i rows) (drop (suc i) rows) r parts ids kept next l out h.0 m.0 m.1 id h.3

      pub world-more : (next : PlainPending) (id : ℕ) → IsRebased f.before f.added pending.first ids o kept next (held_row (with_pending old rows) r) id → LeftIn w (take (i + 1) rows) (ids ++ id ∷ []) next
      world-more next id h = subst (λ q. LeftIn w q (ids ++ id ∷ []) next) (sym (take-next rows i r at)) (more o (found-row i r o at g) next id h)

      lost-at : (o : Option ℕ) → o ≡ stored_id w r.name → (fault : PlanFault) → IsNotLeft f.before f.added pending.first ids o (held_row (with_pending old rows) r) fault → lost_fault (first_lost same_name w rows) ≡ Some fault
      lost-at (Some stored) e fault h = absurd h
      lost-at None e fault (inl h) =
          let out = found-none f.added f.before w old rows f.stand_for f.world small f.base_stands f.pending_rows.view f.grows f.missing r.name None e refl in
          let d = row-loses f.added f.before w old rows f.stand_for f.world small f.base_stands f.pending_rows.view f.grows f.missing (take i rows) (drop (suc i) rows) r parts ids kept l out pending.first f.pending_rows.first fault h in
          ap lost_fault d.2 ∙ ap Some (sym d.1)
      lost-at None e fault (inr h) =
          let m = moved-facts h.1 h.2 in
          absurd (h.3 (moved-distinct f.added f.before w old rows f.stand_for f.world small f.base_stands f.pending_rows.view f.grows f.missing (take i rows) (drop (suc i) rows) r parts l.lossless h.1 m.0 m.1))

      pub world-fault : (fault : PlanFault) → (fault ≡ Memory) ⊎ IsNotLeft f.before f.added pending.first ids o (held_row (with_pending old rows) r) fault → (fault ≡ Memory) ⊎ (lost_fault (first_lost same_name w rows) ≡ Some fault)
      world-fault fault h = ⊎_elim (λ a. inl a) (λ d. inr (lost-at o (found-row i r o at g) fault d)) h
