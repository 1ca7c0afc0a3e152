-- A row more behind the pending ones.
use Rattle.std.proofs.Common.{◌≡◌, ◌<◌, ◌≤◌, ◌+◌, ◌^◌, ℕ, ◌⊎◌, inl, inr, false, List, [], ◌∷◌, ◌++◌, length, map, Some, None, slice_get, refl, sym, ap, ap₂, subst, ◌∙◌, ⊎_elim, append_assoc}
use Rattle.std.specs.List.{AllByRecursion}
use Rattle.std.proofs.lemmas.List.{map-append}
use Rattle.id_groups.specs.Lists.{IsIn, AreAllIn}
use Rattle.id_groups.specs.Name.{Name, IsName, same_name}
use Rattle.id_groups.specs.Id.{other_id}
use Rattle.id_groups.proofs.Names.{same_name-exact, same_name-self}
use Rattle.id_groups.proofs.Listing.{missing}
use Rattle.commit_graph.specs.World.{Row, World, IsNamedWorld, IsNext, names_of, rows_of, with_pending}
use Rattle.commit_graph.specs.Ids.{id_in}
use Rattle.commit_graph.proofs.Histories.{world-next}
use Rattle.commit_graph.proofs.Down.{in-right}
use Rattle.commit_graph.proofs.Naming.{named-by, name-of, pending-names, pending-there}
use Rattle.commit_graph.proofs.Places.{id-in-others, place-right}
use Rattle.segment_codec.proofs.Tables.{le_or_lt}
use Rattle.payload_tables.specs.Pending.{HeldRow, PlainPending, HoldsRows, row_names}
use Rattle.payload_tables.specs.Bases.{ArePending, held_row}
use Rattle.payload_tables.proofs.Lists.{parents-known}
use Rattle.payload_tables.proofs.Joined.{seen-id}
use Rattle.step_rules.specs.Worlds.{has}
use Rattle.store_plans.proofs.StoredNames.{names-of-rows}
use Rattle.store_queries.proofs.ParentTests.{distinct-parents}
use Rattle.step_rules.specs.Tests.{twice}

pub either-group : (ids : List ℕ) → AllByRecursion (λ p. (p < 2 ^ 56) ⊎ (2 ^ 56 ≤ p)) ids
either-group [] = tt
either-group (p ∷ ids) = (⊎_elim (λ a. inr a) (λ b. inl b) (le_or_lt (2 ^ 56) p), either-group ids)

-- a name that a session doesn't see is that of none of its rows
pub no-row : (w : World Name) (rows : List (Row Name)) (name : Name) → has (with_pending w rows) name ≡ false → IsIn name (row_names (map (held_row (with_pending w rows)) rows)) → ⊥
no-row w rows name fresh i =
    missing same_name same_name-exact same_name-self name (names_of (rows_of (with_pending w rows))) fresh
    (pending-there w rows name (subst (IsIn name) (names-of-rows (with_pending w rows) rows) i))

-- a row that may come next behind those that a session sees
module _ (w : World Name) (rows : List (Row Name)) (view : IsNamedWorld (with_pending w rows)) (name : Name) (parents : List Name) (named : IsName name) (few : length parents ≤ 8)
    (fresh : has (with_pending w rows) name ≡ false) (known : AreAllIn parents (names_of (rows_of (with_pending w rows)))) (once : twice [] parents ≡ None) where
  abbrev row : Row Name
  row = record { name = name; parents = parents }

  abbrev v : World Name
  v = with_pending w rows

  abbrev more : List (Row Name)
  more = rows ++ record { name = name; parents = parents } ∷ []

  next : IsNext (names_of (rows_of (with_pending w rows))) (record { name = name; parents = parents })
  next = record {
    fresh = missing same_name same_name-exact same_name-self name (names_of (rows_of (with_pending w rows))) fresh;
    known = known;
    distinct = distinct-parents parents once;
    few = few;
  }

  again : with_pending (with_pending w rows) (record { name = name; parents = parents } ∷ []) ≡ with_pending w (rows ++ record { name = name; parents = parents } ∷ [])
  again = ap (λ l. record { master = w.master; others = l }) (append_assoc w.others rows (record { name = name; parents = parents } ∷ []))

  -- the view with it is a world
  pub next-view : IsNamedWorld (with_pending w (rows ++ record { name = name; parents = parents } ∷ []))
  next-view = subst IsNamedWorld again
      (named-by (with_pending v (row ∷ [])) (world-next v row view.world next)
      (λ x i. ⊎_elim (λ j. name-of v view x j) (λ j. ⊎_elim (λ e. subst IsName (sym e) named) (λ k. absurd k) j) (pending-names v (row ∷ []) x i)))

  -- ids stay
  pub id-stays : (p : Name) → IsIn p (names_of (rows_of (with_pending w rows))) → id_in same_name (with_pending w (rows ++ record { name = name; parents = parents } ∷ [])) p ≡ id_in same_name (with_pending w rows) p
  id-stays p i = ap (λ u. id_in same_name u p) (sym again) ∙ seen-id v (row ∷ []) p i

  ids-stay : (ps : List Name) → AreAllIn ps (names_of (rows_of (with_pending w rows))) → map (id_in same_name (with_pending w (rows ++ record { name = name; parents = parents } ∷ []))) ps ≡ map (id_in same_name (with_pending w rows)) ps
  ids-stay [] h = refl
  ids-stay (p ∷ ps) h = ap₂ (λ a b. a ∷ b) (id-stays p h.0) (ids-stay ps h.1)

  rows-stay : (some : List (Row Name)) → ((r : Row Name) → IsIn r some → AreAllIn r.parents (names_of (rows_of (with_pending w rows))))
      → map (held_row (with_pending w (rows ++ record { name = name; parents = parents } ∷ []))) some ≡ map (held_row (with_pending w rows)) some
  rows-stay [] h = refl
  rows-stay (r ∷ some) h = ap₂ {C = List HeldRow} (λ a b. record { name = r.name; parents = a } ∷ b) (ids-stay r.parents (h r (inl refl))) (rows-stay some (λ q i. h q (inr i)))

  own-known : (r : Row Name) → IsIn r rows → AreAllIn r.parents (names_of (rows_of (with_pending w rows)))
  own-known r i = parents-known [] (rows_of (with_pending w rows)) view.world r (in-right r w.master (w.others ++ rows) (in-right r w.others rows i))

  -- the rows that are kept are those of the session with one more
  pub rows-are : map (held_row (with_pending w (rows ++ record { name = name; parents = parents } ∷ []))) (rows ++ record { name = name; parents = parents } ∷ [])
      ≡ map (held_row (with_pending w rows)) rows ++ record { name = name; parents = map (id_in same_name (with_pending w rows)) parents } ∷ []
  rows-are =
      map-append (held_row (with_pending w more)) rows (row ∷ [])
      ∙ ap₂ {C = List HeldRow} (λ a b. a ++ record { name = name; parents = b } ∷ []) (rows-stay rows own-known) (ids-stay parents known)

  place-of-row : (xs : List (Row Name)) → slice_get (xs ++ row ∷ []) (length xs) ≡ Some row
  place-of-row [] = refl
  place-of-row (x ∷ xs) = place-of-row xs

  -- its id is the next one
  pub next-id : other_id (length w.others + length rows) ≡ id_in same_name (with_pending w (rows ++ record { name = name; parents = parents } ∷ [])) name
  next-id = sym (id-in-others same_name same_name-exact same_name-self (with_pending w more) next-view.world (length w.others + length rows) row (place-right w.others more (length rows) row (place-of-row rows)))

  -- the session's rows afterwards
  pub next-pending : (old new : PlainPending) (ids : List ℕ) → ArePending w old rows → ids ≡ map (id_in same_name (with_pending w rows)) parents → new.first ≡ old.first
      → HoldsRows new (map (held_row (with_pending w rows)) rows ++ record { name = name; parents = ids } ∷ []) → ArePending w new (rows ++ record { name = name; parents = parents } ∷ [])
  next-pending old new ids p are first held = record {
    first = first ∙ p.first;
    held = subst (HoldsRows new) (ap (λ l. map (held_row (with_pending w rows)) rows ++ record { name = name; parents = l } ∷ []) are ∙ sym rows-are) held;
    view = next-view.world;
  }
