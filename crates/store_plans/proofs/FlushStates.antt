-- What the look-ups of a flush and a reload settle, and what a rebase on the newest world leaves.
use Rattle.std.proofs.Common.{◌≡◌, ◌⊎◌, inl, inr, ⊎_elim, ℕ, Bool, true, false, not, cond, ◌&&◌, List, [], ◌∷◌, ◌++◌, length, Some, None, refl, sym, ap, subst, ◌∙◌, append_assoc, if◌then◌else◌}
use Rattle.std.proofs.lemmas.List.{map-append}
use Rattle.std.proofs.lemmas.Bool.{eqb-true}
use Rattle.id_groups.specs.Lists.{IsIn, is_in}
use Rattle.id_groups.specs.Name.{Name, same_name}
use Rattle.id_groups.proofs.Names.{same_name-exact, same_name-self}
use Rattle.id_groups.proofs.Listing.{found, there}
use Rattle.commit_graph.specs.World.{Row, World, IsWorld, IsHistory, names_of, row_named, rows_of, with_pending}
use Rattle.commit_graph.proofs.Histories.{in-append, in-all, history-rest}
use Rattle.commit_graph.proofs.Down.{in-left, in-right}
use Rattle.change_rules.specs.Rebase.{left_of, first_conflict, first_lost, first_missing, first_outside, has_parents, or_else}
use Rattle.change_rules.specs.Tables.{StandFor}
use Rattle.name_map.specs.Added.{Placed, payloads_of}
use Rattle.step_rules.specs.State.{Stored, session, world_at, pending_of, base_of}
use Rattle.step_rules.specs.Worlds.{has}
use Rattle.step_rules.specs.Tests.{is_on_newest}
use Rattle.step_rules.proofs.Sessions.{newest-now}
use Rattle.store_plans.specs.Sessions.{PlainSession}
use Rattle.store_plans.specs.Changes.{IsOn}

-- rows that come behind others have new names
pub fresh-rows : (before : List Name) (rows : List (Row Name)) → IsHistory before rows → (x : Name) → IsIn x (names_of rows) → IsIn x before → ⊥
fresh-rows before [] h x i j = i
fresh-rows before (r ∷ rows) h x (inl e) j = h.0.fresh (subst (λ z. IsIn z before) e j)
fresh-rows before (r ∷ rows) h x (inr i) j = fresh-rows (before ++ r.name ∷ []) rows h.1 x i (in-left x before (r.name ∷ []) j)

absent : (x : Name) (xs : List Name) → (IsIn x xs → ⊥) → is_in same_name x xs ≡ false
absent x xs n = by_test (is_in same_name x xs) refl
  where
    by_test : (b : Bool) → is_in same_name x xs ≡ b → is_in same_name x xs ≡ false
    by_test true e = absurd (n (found same_name same_name-exact same_name-self x xs e))
    by_test false e = e

pending-history : (w : World Name) (rows : List (Row Name)) → IsWorld (with_pending w rows) → IsHistory (names_of (rows_of w)) rows
pending-history w rows h = history-rest [] (rows_of w) rows (subst (IsHistory []) (sym (append_assoc w.master w.others rows)) h)

-- ---- nothing is lost where all of the old names are there

none-outside : (known xs : List Name) → ((x : Name) → IsIn x xs → IsIn x known) → first_outside same_name known xs ≡ None
none-outside known [] f = refl
none-outside known (x ∷ xs) f =
    ap (λ b. if b then first_outside same_name known xs else Some x) (there same_name same_name-exact same_name-self x known (f x (inl refl))) ∙ none-outside known xs (λ y i. f y (inr i))

none-missing : (w : World Name) (before known : List Name) (rows : List (Row Name)) → IsHistory before rows → ((x : Name) → IsIn x before → IsIn x known) → ((x : Name) → IsIn x (names_of (rows_of w)) → IsIn x known)
    → first_missing same_name known (left_of same_name w rows) ≡ None
none-missing w before known [] h f g = refl
none-missing w before known (r ∷ rows) h f g =
    by_test (is_in same_name r.name (names_of (rows_of w))) refl
    (λ i. none-missing w (before ++ r.name ∷ []) known rows h.1
    (λ x j. ⊎_elim (λ k. f x k) (λ k. ⊎_elim (λ e. subst (λ z. IsIn z known) (sym e) i) (λ k. absurd k) k) (in-append x before (r.name ∷ []) j)) g)
    (none-missing w (before ++ r.name ∷ []) (known ++ r.name ∷ []) rows h.1
    (λ x j. ⊎_elim (λ k. in-left x known (r.name ∷ []) (f x k)) (λ k. in-right x known (r.name ∷ []) k) (in-append x before (r.name ∷ []) j))
    (λ x j. in-left x known (r.name ∷ []) (g x j)))
  where
    by_test : (b : Bool) → is_in same_name r.name (names_of (rows_of w)) ≡ b → (IsIn r.name known → first_missing same_name known (left_of same_name w rows) ≡ None)
        → first_missing same_name (known ++ r.name ∷ []) (left_of same_name w rows) ≡ None
        → first_missing same_name known (cond (not b) (r ∷ left_of same_name w rows) (left_of same_name w rows)) ≡ None
    by_test true e more behind = more (g r.name (found same_name same_name-exact same_name-self r.name (names_of (rows_of w)) e))
    by_test false e more behind =
        ap (λ o. or_else o (first_missing same_name (known ++ r.name ∷ []) (left_of same_name w rows)))
        (none-outside known r.parents (λ x i. f x (in-all x r.parents before i h.0.known))) ∙ behind

-- ---- heads that a rebase keeps

-- a pending row's name is in the world, or the row is left
left-or-there : (w : World Name) (pending : List (Row Name)) (x : Name) → IsIn x (names_of pending) → IsIn x (names_of (rows_of w)) ⊎ IsIn x (names_of (left_of same_name w pending))
left-or-there w [] x i = absurd i
left-or-there w (r ∷ pending) x i = by_test (is_in same_name r.name (names_of (rows_of w))) refl (left-or-there w pending x)
  where
    by_test : (b : Bool) → is_in same_name r.name (names_of (rows_of w)) ≡ b
        → (IsIn x (names_of pending) → IsIn x (names_of (rows_of w)) ⊎ IsIn x (names_of (left_of same_name w pending)))
        → IsIn x (names_of (rows_of w)) ⊎ IsIn x (names_of (cond (not b) (r ∷ left_of same_name w pending) (left_of same_name w pending)))
    by_test true e rec = ⊎_elim (λ f. inl (subst (λ z. IsIn z (names_of (rows_of w))) (sym f) (found same_name same_name-exact same_name-self r.name (names_of (rows_of w)) e))) rec i
    by_test false e rec = ⊎_elim (λ f. inr (inl f)) (λ j. ⊎_elim (λ k. inl k) (λ k. inr (inr k)) (rec j)) i

both-names : (w : World Name) (rows : List (Row Name)) → names_of (rows_of (with_pending w rows)) ≡ names_of (rows_of w) ++ names_of rows
both-names w rows = ap names_of (sym (append_assoc w.master w.others rows)) ∙ map-append (λ (r : Row Name). r.name) (rows_of w) rows

pub known-rebased : (w : World Name) (pending : List (Row Name)) (x : Name) → IsIn x (names_of (rows_of (with_pending w pending))) → IsIn x (names_of (rows_of (with_pending w (left_of same_name w pending))))
known-rebased w pending x i =
    let left = names_of (left_of same_name w pending) in
    let all = names_of (rows_of w) in
    subst (IsIn x) (sym (both-names w (left_of same_name w pending)))
    (⊎_elim (λ j. in-left x all left j)
    (λ j. ⊎_elim (λ k. in-left x all left k) (λ k. in-right x all left k) (left-or-there w pending x j))
    (in-append x all (names_of pending) (subst (IsIn x) (both-names w pending) i)))

-- rows that may come behind all rows of a world
module _ (w : World Name) where
  is-new : (before : List Name) (r : Row Name) → ((x : Name) → IsIn x (names_of (rows_of w)) → IsIn x before) → (IsIn r.name before → ⊥) → is_in same_name r.name (names_of (rows_of w)) ≡ false
  is-new before r f fresh = by_test (is_in same_name r.name (names_of (rows_of w))) refl
    where
      by_test : (b : Bool) → is_in same_name r.name (names_of (rows_of w)) ≡ b → is_in same_name r.name (names_of (rows_of w)) ≡ false
      by_test true e = absurd (fresh (f r.name (found same_name same_name-exact same_name-self r.name (names_of (rows_of w)) e)))
      by_test false e = e

  all-left : (before : List Name) (rows : List (Row Name)) → IsHistory before rows → ((x : Name) → IsIn x (names_of (rows_of w)) → IsIn x before) → left_of same_name w rows ≡ rows
  all-left before [] h f = refl
  all-left before (r ∷ rows) h f =
      ap (λ b. cond (not b) (r ∷ left_of same_name w rows) (left_of same_name w rows)) (is-new before r f h.0.fresh)
      ∙ ap (λ l. r ∷ l) (all-left (before ++ r.name ∷ []) rows h.1 (λ x i. in-left x before (r.name ∷ []) (f x i)))

  no-conflict : (before : List Name) (rows : List (Row Name)) → IsHistory before rows → ((x : Name) → IsIn x (names_of (rows_of w)) → IsIn x before) → first_conflict same_name w rows ≡ None
  no-conflict before [] h f = refl
  no-conflict before (r ∷ rows) h f =
      ap (λ b. if b && not (has_parents same_name (row_named same_name (rows_of w) r.name) r.parents) then Some r.name else first_conflict same_name w rows) (is-new before r f h.0.fresh)
      ∙ no-conflict (before ++ r.name ∷ []) rows h.1 (λ x i. in-left x before (r.name ∷ []) (f x i))

-- ---- a state

module _ (began s : ℕ) (added : List Placed) (x : PlainSession) (st : Stored) (o : IsOn began added x st s) where
  abbrev w : World Name
  w = st.stored

  abbrev rows : List (Row Name)
  rows = pending_of st s

  stand : StandFor (payloads_of added) w
  stand = subst (λ l. StandFor l w) (sym o.payloads) o.hold.stand

  pub history : IsHistory (names_of (rows_of (base_of st s))) rows
  history = pending-history (base_of st s) rows (o.state.sessions s).view.world

  pub on-newest : is_on_newest st s ≡ true → base_of st s ≡ w
  on-newest e = ap (world_at st) (eqb-true (session st s).base (length st.past) e) ∙ newest-now st

  -- rows on the newest world are new there
  pub new-there : is_on_newest st s ≡ true → (name : Name) → IsIn name (names_of rows) → has w name ≡ false
  new-there e name i = absent name (names_of (rows_of w)) (λ j. fresh-rows (names_of (rows_of (base_of st s))) rows history name i (subst (λ v. IsIn name (names_of (rows_of v))) (sym (on-newest e)) j))

  -- and a rebase leaves them as they are
  known-there : is_on_newest st s ≡ true → (y : Name) → IsIn y (names_of (rows_of w)) → IsIn y (names_of (rows_of (base_of st s)))
  known-there e y i = subst (λ v. IsIn y (names_of (rows_of v))) (sym (on-newest e)) i

  pub none-lost : is_on_newest st s ≡ true → first_lost same_name w rows ≡ None
  none-lost e = none-missing w (names_of (rows_of (base_of st s))) (names_of (rows_of w)) rows history (λ y i. subst (λ v. IsIn y (names_of (rows_of v))) (on-newest e) i) (λ y i. i)

  pub none-conflict : is_on_newest st s ≡ true → first_conflict same_name w rows ≡ None
  none-conflict e = no-conflict w (names_of (rows_of (base_of st s))) rows history (known-there e)

  pub all-stay : is_on_newest st s ≡ true → left_of same_name w rows ≡ rows
  all-stay e = all-left w (names_of (rows_of (base_of st s))) rows history (known-there e)
