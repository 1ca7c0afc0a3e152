-- Names of a line that are looked up from left to right.
use Rattle.std.proofs.Common.{◌≡◌, ◌<◌, ◌≤◌, ◌+◌, ℕ, List, [], ◌∷◌, ◌++◌, length, map, take, drop, get_or, Some, None, Result, Ok, Err, refl, sym, ap, ap₂, subst, ◌∙◌, arith, length-append}
use Rattle.std.specs.Prelude.{IsErrAnd}
use Rattle.std.proofs.Common.{Vec, Global, ⊎_elim}
use Rattle.id_groups.specs.Lists.{IsIn, AreAllIn}
use Rattle.id_groups.proofs.Names.{same_name-exact, same_name-self}
use Rattle.id_groups.proofs.Listing.{found}
use Rattle.std.proofs.lemmas.List.{map-append, take_all, take_more, take-append-drop}
use Rattle.id_groups.specs.Name.{Name, same_name}
use Rattle.commit_graph.specs.World.{Row, World, names_of, rows_of, with_pending}
use Rattle.commit_graph.specs.Ids.{id_in}
use Rattle.batch_codec.specs.Payload.{Payload}
use Rattle.remote_rules.specs.Mirror.{Mirror}
use Rattle.lazy_names.specs.Cache.{PlainCache}
use Rattle.payload_tables.proofs.Lists.{all-append}
use Rattle.step_rules.specs.declared.Refusal.{Refusal}
use Rattle.step_rules.specs.declared.Refusal.TheVariants as why
use Rattle.step_rules.specs.Tests.{Test, first_some, unknown}
use Rattle.step_rules.specs.Worlds.{has}
use Rattle.step_rules.proofs.Steps.{first-none-cons, not-refused}
use Rattle.step_rules.proofs.Trying.{tried-all}
use Rattle.store_plans.proofs.Looked.{named-refusal}
use Rattle.store_plans.specs.Looking.{AreRight, IsViewId, Tried, found_in, is_asked_in, test_in, FindsAll, FindsOne, items_of, seen_tests}
use Rattle.store_plans.proofs.Trials.{tried-memory, tried-none, tried-serves, tried-stop, tried-then}

pub one-more : (xs : List Name) (i : ℕ) (x : Name) → i < length xs → x ≡ get_or xs i x → take (i + 1) xs ≡ take i xs ++ x ∷ []
one-more xs i x lt e = take_more xs i x lt ∙ ap (λ z. take i xs ++ z ∷ []) (sym e)

module _ (payloads : List Payload) (w : World Name) (rows : List (Row Name)) where
  tests-of : List Name → List Test
  tests-of names = map (test_in payloads w rows (unknown (with_pending w rows))) names

  tests-both : (xs ys : List Name) → seen_tests payloads w rows (xs ++ ys) ≡ seen_tests payloads w rows xs ++ seen_tests payloads w rows ys
  tests-both xs ys = map-append (test_in payloads w rows (unknown (with_pending w rows))) xs ys

  pub finds-none : (old : List Mirror) (a : PlainCache) (ids : List ℕ) → ids ≡ [] → FindsAll payloads w rows [] old old a a (Ok ids)
  finds-none old a ids e = subst (λ (l : List ℕ). FindsAll payloads w rows [] old old a a (Ok l)) (sym e) (record {
    tried = tried-none payloads w old a;
    view = tt;
    count = refl;
    right = λ s. refl;
  })

  module _ (names : List Name) (i : ℕ) (name : Name) (lt : i < length names) (at : name ≡ get_or names i name) (old mid new : List Mirror) (a b c : PlainCache) (ids : List ℕ)
      (h : FindsAll payloads w rows (take i names) old mid a b (Ok ids)) where
    pub finds-more : (id : ℕ) (more : List ℕ) → FindsOne payloads w rows name mid new b c (Ok id) → more ≡ ids ++ id ∷ [] → FindsAll payloads w rows (take (i + 1) names) old new a c (Ok more)
    finds-more id more f e = subst (λ (l : List ℕ). FindsAll payloads w rows (take (i + 1) names) old new a c (Ok l)) (sym e)
        (subst (λ (l : List Name). FindsAll payloads w rows l old new a c (Ok (ids ++ id ∷ []))) (sym (one-more names i name lt at)) (record {
          tried = subst (λ t. Tried payloads w t old new a c None) (sym (tests-both (take i names) (name ∷ [])))
              (tried-then payloads w (seen_tests payloads w rows (take i names)) (seen_tests payloads w rows (name ∷ [])) old mid new a b c None h.tried f.tried);
          view = all-append (IsViewId w rows) ids (id ∷ []) h.view (f.view, tt);
          count = length-append ids (id ∷ []) ∙ (let n = h.count in let m = length-append (take i names) (name ∷ []) in omega (arith, n, m));
          right = λ s. ap₂ (λ x y. x ++ y ∷ []) (h.right s) (f.right (tried-serves payloads w (seen_tests payloads w rows (take i names)) old mid a b None h.tried s))
              ∙ sym (map-append (id_in same_name (with_pending w rows)) (take i names) (name ∷ []));
        }))

    pub finds-refused : (refusal : Refusal) → FindsOne payloads w rows name mid new b c (Err refusal) → FindsAll payloads w rows names old new a c (Err refusal)
    finds-refused refusal f = record {
      tried = subst (λ t. Tried payloads w t old new a c (Some refusal)) whole
          (tried-stop payloads w (seen_tests payloads w rows (take i names) ++ seen_tests payloads w rows (name ∷ [])) (seen_tests payloads w rows (drop (i + 1) names)) old new a c refusal
          (tried-then payloads w (seen_tests payloads w rows (take i names)) (seen_tests payloads w rows (name ∷ [])) old mid new a b c (Some refusal) h.tried f.tried));
      view = tt;
      count = tt;
      right = λ s. tt;
    }
      where
        whole : (seen_tests payloads w rows (take i names) ++ seen_tests payloads w rows (name ∷ [])) ++ seen_tests payloads w rows (drop (i + 1) names) ≡ seen_tests payloads w rows names
        whole = ap (λ t. t ++ seen_tests payloads w rows (drop (i + 1) names)) (sym (tests-both (take i names) (name ∷ [])))
            ∙ sym (tests-both (take i names ++ name ∷ []) (drop (i + 1) names))
            ∙ ap (seen_tests payloads w rows) (ap (λ l. l ++ drop (i + 1) names) (sym (one-more names i name lt at)) ∙ take-append-drop (i + 1) names)

  -- no memory behind the first names
  pub finds-memory : (names : List Name) (n : ℕ) (old mid : List Mirror) (a b : PlainCache) (ids : List ℕ) → FindsAll payloads w rows (take n names) old mid a b (Ok ids) → FindsAll payloads w rows names old mid a b (Err why.Memory)
  finds-memory names n old mid a b ids h = record {
    tried = subst (λ t. Tried payloads w t old mid a b (Some why.Memory)) (sym (tests-both (take n names) (drop n names)) ∙ ap (seen_tests payloads w rows) (take-append-drop n names))
        (tried-then payloads w (seen_tests payloads w rows (take n names)) (seen_tests payloads w rows (drop n names)) old mid mid a b b (Some why.Memory) h.tried
        (tried-memory payloads w (seen_tests payloads w rows (drop n names)) mid b));
    view = tt;
    count = tt;
    right = λ s. tt;
  }

  -- the same where one more was found, and there is no memory to keep it
  pub finds-unkept : (names : List Name) (i : ℕ) (name : Name) → i < length names → name ≡ get_or names i name → (old mid new : List Mirror) (a b c : PlainCache) (ids : List ℕ) (id : ℕ)
      → FindsAll payloads w rows (take i names) old mid a b (Ok ids) → FindsOne payloads w rows name mid new b c (Ok id) → FindsAll payloads w rows names old new a c (Err why.Memory)
  finds-unkept names i name lt at old mid new a b c ids id h f = finds-memory names (i + 1) old new a c (ids ++ id ∷ []) (finds-more names i name lt at old mid new a b c ids h id (ids ++ id ∷ []) f refl)

  pub finds-whole : (names : List Name) (i : ℕ) → length names ≤ i → (old mid : List Mirror) (a b : PlainCache) (ids : List ℕ) → FindsAll payloads w rows (take i names) old mid a b (Ok ids) → FindsAll payloads w rows names old mid a b (Ok ids)
  finds-whole names i le old mid a b ids h = subst (λ (l : List Name). FindsAll payloads w rows l old mid a b (Ok ids)) (take_all i names le) h

  pub err-items : (names : List Name) (old new : List Mirror) (a b : PlainCache) (r : Result (Vec ℕ Global) Refusal) (f : Refusal) → IsErrAnd r (λ g. g ≡ f) → FindsAll payloads w rows names old new a b (Err f)
      → FindsAll payloads w rows names old new a b (items_of r)
  err-items names old new a b (Ok v) f h q = absurd h
  err-items names old new a b (Err g) f h q = subst (λ z. FindsAll payloads w rows names old new a b (Err z)) (sym h) q

  -- names that were all found are those of the view
  pub all-there : (names : List Name) → first_some (map (λ (t : Test). t.refusal) (seen_tests payloads w rows names)) ≡ None → AreAllIn names (names_of (rows_of (with_pending w rows)))
  all-there [] h = tt
  all-there (x ∷ names) h =
      let t = test_in payloads w rows (unknown (with_pending w rows)) x in
      let parts = first-none-cons t.refusal (map (λ (t : Test). t.refusal) (seen_tests payloads w rows names)) h in
      (there-one x (sym (named-refusal (is_asked_in payloads w rows x) (found_in payloads w x) (unknown (with_pending w rows) x)) ∙ parts.0), all-there names parts.1)
    where
      there-one : (x : Name) → unknown (with_pending w rows) x ≡ None → IsIn x (names_of (rows_of (with_pending w rows)))
      there-one x e = found same_name same_name-exact same_name-self x (names_of (rows_of (with_pending w rows))) (not-refused (has (with_pending w rows) x) (why.Unknown x) e)

  pub found-there : (names : List Name) (old new : List Mirror) (a b : PlainCache) (ids : List ℕ) → FindsAll payloads w rows names old new a b (Ok ids) → AreRight payloads w old → AreAllIn names (names_of (rows_of (with_pending w rows)))
  found-there names old new a b ids h s =
      all-there names (⊎_elim (λ e. sym e) (λ o. absurd o) (tried-all (Unit {0}) old new (seen_tests payloads w rows names) None h.tried.gained (h.tried.serving s)))
