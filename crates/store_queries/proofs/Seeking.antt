-- What an add comes to before it changes anything.
use Rattle.std.proofs.Common.{◌≡◌, ◌&&◌, not, ℕ, Bool, true, false, nat_eq, List, [], ◌∷◌, ◌++◌, map, Option, Some, None, Result, Ok, Err, is_some, refl, sym, ap, ap₂, subst, ◌∙◌, ⊎_elim, append_assoc, true≢false, if◌then◌else◌}
use Rattle.std.specs.Prelude.{IsErrAnd}
use Rattle.std.proofs.Common.{Vec, Global}
use Rattle.std.proofs.lemmas.List.{map-append}
use Rattle.remote_rules.specs.declared.MirrorFault.{MirrorFault}
use Rattle.std.specs.Cmp.Lexicographic.{pointwise}
use Rattle.id_groups.specs.Lists.{AreAllIn, AreDistinct}
use Rattle.id_groups.specs.Name.{Name, same_name}
use Rattle.id_groups.proofs.Names.{same_name-exact, same_name-self}
use Rattle.id_groups.proofs.Listing.{found}
use Rattle.commit_graph.specs.World.{Row, World, names_of, rows_of, row_named, with_pending}
use Rattle.commit_graph.specs.Ids.{id_in}
use Rattle.segment_codec.specs.Record.{Segment}
use Rattle.segment_codec.specs.Table.{parents_at}
use Rattle.batch_codec.specs.Payload.{Payload}
use Rattle.name_map.specs.Added.{Placed}
use Rattle.change_rules.specs.Rebase.{has_parents}
use Rattle.remote_rules.specs.Mirror.{Mirror}
use Rattle.lazy_names.specs.Cache.{PlainCache}
use Rattle.payload_tables.specs.declared.base.BaseRef.{BaseRef}
use Rattle.payload_tables.specs.Pending.{PlainPending}
use Rattle.payload_tables.specs.Bases.{AreSegmentsOf}
use Rattle.step_rules.specs.declared.Refusal.{Refusal}
use Rattle.step_rules.specs.declared.Refusal.TheVariants as why
use Rattle.step_rules.specs.Tests.{Test, first_some, plain, differs, twice, refuse_if}
use Rattle.step_rules.specs.Asking.{refused_by}
use Rattle.step_rules.specs.Worlds.{has}
use Rattle.step_rules.proofs.Steps.{first-none-append}
use Rattle.step_rules.proofs.Trying.{tried-all}
use Rattle.store_plans.specs.Looking.{AreRight, IsTold, Looks, Sees, Tried, seen_as, test_in, seen_tests}
use Rattle.store_queries.specs.Adding.{FindsParents, Seeks, add_tests}
use Rattle.store_queries.specs.declared.adding.Sought.{Sought}
use Rattle.store_queries.specs.declared.adding.Sought.TheVariants as sought
use Rattle.store_queries.proofs.AddingIds.{row-parents-same}
use Rattle.store_plans.proofs.Lines.{all-there}
use Rattle.store_plans.proofs.Looked.{look-refused, look-test}
use Rattle.store_plans.proofs.Counts.{sees-small}
use Rattle.store_plans.proofs.Trials.{tried-last, tried-serves, tried-stop, tried-then}

pub err-seeks : (payloads : List Payload) (w : World Name) (rows : List (Row Name)) (name : Name) (parents : List Name) (old new : List Mirror) (a b : PlainCache) (r : Result Sought Refusal) (f : Refusal) → IsErrAnd r (λ g. g ≡ f)
    → Seeks payloads w rows name parents old new a b (Err f) → Seeks payloads w rows name parents old new a b r
err-seeks payloads w rows name parents old new a b (Ok v) f h q = absurd h
err-seeks payloads w rows name parents old new a b (Err g) f h q = subst (λ z. Seeks payloads w rows name parents old new a b (Err z)) (sym h) q

module _ (payloads : List Payload) (w : World Name) (rows : List (Row Name)) (name : Name) (parents : List Name) where
  abbrev first : List Test
  first = test_in payloads w rows (λ _. None) name ∷ []

  abbrev looks : List Test
  looks = seen_tests payloads w rows parents ++ plain (twice [] parents) ∷ []

  abbrev differing : Option Refusal
  differing = differs (with_pending w rows) name parents

  whole : (first ++ looks) ++ plain differing ∷ [] ≡ add_tests payloads w rows name parents
  whole = ap (λ l. test_in payloads w rows (λ _. None) name ∷ l) (append_assoc (seen_tests payloads w rows parents) (plain (twice [] parents) ∷ []) (plain (differs (with_pending w rows) name parents) ∷ []))

  -- parents that were all found are those of the view
  pub parents-there : (old new : List Mirror) (a b : PlainCache) (ids : List ℕ) → FindsParents payloads w rows parents old new a b (Ok ids) → AreRight payloads w old → AreAllIn parents (names_of (rows_of (with_pending w rows)))
  parents-there old new a b ids h s =
      let none : first_some (map (λ (t : Test). t.refusal) (seen_tests payloads w rows parents ++ plain (twice [] parents) ∷ [])) ≡ None =
      ⊎_elim (λ e. sym e) (λ o. absurd o) (tried-all (Unit {0}) old new (seen_tests payloads w rows parents ++ plain (twice [] parents) ∷ []) None h.tried.gained (h.tried.serving s)) in
      all-there payloads w rows parents (first-none-append (map (λ (t : Test). t.refusal) (seen_tests payloads w rows parents)) (twice [] parents ∷ [])
      (subst (λ l. first_some l ≡ None) (map-append (λ (t : Test). t.refusal) (seen_tests payloads w rows parents) (plain (twice [] parents) ∷ [])) none)).0

  module _ (old mid new : List Mirror) (a b c : PlainCache) where
    pub seek-unfound : (f : Refusal) → Looks payloads w rows name old mid a b (Err f) → Seeks payloads w rows name parents old mid a b (Err f)
    seek-unfound f h = record {
      tried = tried-stop payloads w (test_in payloads w rows (λ _. None) name ∷ []) (seen_tests payloads w rows parents ++ plain (twice [] parents) ∷ plain (differs (with_pending w rows) name parents) ∷ []) old mid a b f
          (look-refused payloads w rows name (λ _. None) old mid a b f h tt);
      parents_are = tt;
      fresh = tt;
      right = λ s. tt;
    }

    module _ (o : Option ℕ) (h : Looks payloads w rows name old mid a b (Ok o)) where
      named : Tried payloads w (test_in payloads w rows (λ _. None) name ∷ []) old mid a b None
      named = subst (Tried payloads w (test_in payloads w rows (λ _. None) name ∷ []) old mid a b) (ap (λ (e : Option MirrorFault). refused_by e None) h.ends) (look-test payloads w rows name (λ _. None) old mid a b (Ok o) h None tt (λ s. refl))

      pub serves : AreRight payloads w old → AreRight payloads w mid
      serves s = tried-serves payloads w (test_in payloads w rows (λ _. None) name ∷ []) old mid a b None named s

      pub seek-parents : (f : Refusal) → FindsParents payloads w rows parents mid new b c (Err f) → Seeks payloads w rows name parents old new a c (Err f)
      seek-parents f p = record {
        tried = subst (λ t. Tried payloads w t old new a c (Some f)) whole (tried-stop payloads w (first ++ looks) (plain differing ∷ []) old new a c f
            (tried-then payloads w first looks old mid new a b c (Some f) named p.tried));
        parents_are = tt;
        fresh = tt;
        right = λ s. tt;
      }

      ends : (ids : List ℕ) (p : FindsParents payloads w rows parents mid new b c (Ok ids)) (verdict : Option Refusal) → IsTold payloads w verdict → (AreRight payloads w old → verdict ≡ differing)
          → Tried payloads w (add_tests payloads w rows name parents) old new a c verdict
      ends ids p verdict told right = subst (λ t. Tried payloads w t old new a c verdict) whole
          (tried-last payloads w (first ++ looks) differing verdict old new a c (tried-then payloads w first looks old mid new a b c None named p.tried) told right)

    seen-not : (o : Option ℕ) → o ≡ seen_as w rows name → o ≡ None → has (with_pending w rows) name ≡ false
    seen-not o e n = by_test (has (with_pending w rows) name) refl (sym n ∙ e)
      where
        by_test : (z : Bool) → has (with_pending w rows) name ≡ z → None ≡ (if z then Some (id_in same_name (with_pending w rows) name) else None) → has (with_pending w rows) name ≡ false
        by_test true f g = absurd (true≢false (sym (ap is_some g)))
        by_test false f g = f

    pub seen-yes : (id : ℕ) → Some id ≡ seen_as w rows name → (has (with_pending w rows) name ≡ true) × (id ≡ id_in same_name (with_pending w rows) name)
    seen-yes id e = by_test (has (with_pending w rows) name) refl e
      where
        by_test : (z : Bool) → has (with_pending w rows) name ≡ z → Some id ≡ (if z then Some (id_in same_name (with_pending w rows) name) else None) → (has (with_pending w rows) name ≡ true) × (id ≡ id_in same_name (with_pending w rows) name)
        by_test true f g = (f, cc)
        by_test false f g = absurd (true≢false (ap is_some g))

    abbrev its-parents : Bool
    its-parents = has_parents same_name (row_named same_name (rows_of (with_pending w rows)) name) parents

    -- it isn't there
    pub seek-new : (h : Looks payloads w rows name old mid a b (Ok None)) (ids : Vec ℕ Global) (p : FindsParents payloads w rows parents mid new b c (Ok ids.items)) → AreDistinct ids.items
        → Seeks payloads w rows name parents old new a c (Ok (sought.New ids))
    seek-new h ids p d = record {
      tried = ends None h ids.items p None tt (λ s. sym (ap (λ z. refuse_if (z && not its-parents) (why.Differs name)) (seen-not None (h.right s) refl)));
      parents_are = (p.view, d, p.count);
      fresh = h.fresh refl;
      right = λ s. (seen-not None (h.right s) refl, p.right (serves None h s));
    }

    -- it is there, with these parents or with others
    module _ (id : ℕ) (h : Looks payloads w rows name old mid a b (Ok (Some id))) (ids : List ℕ) (p : FindsParents payloads w rows parents mid new b c (Ok ids)) (same : Bool) (test : AreRight payloads w old → same ≡ its-parents) where
      pub seek-old : same ≡ true → Seeks payloads w rows name parents old new a c (Ok (sought.Old id))
      seek-old e = record {
        tried = ends (Some id) h ids p None tt (λ s. let y = seen-yes id (h.right s) in
            sym (ap₂ (λ z q. refuse_if (z && not q) (why.Differs name)) y.0 (sym (test s) ∙ e)));
        parents_are = tt;
        fresh = tt;
        right = λ s. seen-yes id (h.right s);
      }

      pub seek-differs : same ≡ false → Seeks payloads w rows name parents old new a c (Err (why.Differs name))
      seek-differs e = record {
        tried = ends (Some id) h ids p (Some (why.Differs name)) tt (λ s. let y = seen-yes id (h.right s) in
            sym (ap₂ (λ z q. refuse_if (z && not q) (why.Differs name)) y.0 (sym (test s) ∙ e)));
        parents_are = tt;
        fresh = tt;
        right = λ s. tt;
      }

-- the test of the parents, by their ids in the view
pub same-parents : (base : BaseRef) (pending : PlainPending) (added : List Placed) (w : World Name) (rows : List (Row Name)) → Sees base pending added w rows → (name : Name) (parents : List Name) (id : ℕ) (ids : List ℕ) (flats : List Segment)
    → AreSegmentsOf (with_pending w rows) flats → has (with_pending w rows) name ≡ true → id ≡ id_in same_name (with_pending w rows) name → AreAllIn parents (names_of (rows_of (with_pending w rows)))
    → ids ≡ map (id_in same_name (with_pending w rows)) parents
    → pointwise nat_eq (parents_at flats id) ids ≡ has_parents same_name (row_named same_name (rows_of (with_pending w rows)) name) parents
same-parents base pending added w rows s name parents id ids flats segs there is all are =
    ap₂ (λ i l. pointwise nat_eq (parents_at flats i) l) is are
    ∙ row-parents-same (with_pending w rows) s.view.world (sees-small base pending added w rows s) flats segs name (found same_name same_name-exact same_name-self name (names_of (rows_of (with_pending w rows))) there) parents all
