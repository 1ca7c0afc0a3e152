-- The tests of a rebase, as the rows of a session are looked up and moved.
use Rattle.std.proofs.Common.{◌≡◌, ◌<◌, ◌&&◌, not, ℕ, Bool, true, false, inl, inr, ◌⊎◌, ⊎_elim, List, [], ◌∷◌, ◌++◌, length, map, get_or, Option, Some, None, Result, Ok, Err, refl, sym, ap, ap₂, subst, ◌∙◌, true≢false, if◌then◌else◌, is_some}
use Rattle.std.specs.Prelude.{IfErr, IsErrAnd, MatchResult}
use Rattle.std.specs.Option.{option_map}
use Rattle.std.specs.List.{AllZip}
use Rattle.std.proofs.lemmas.List.{map-append}
use Rattle.id_groups.specs.Name.{Name, same_name}
use Rattle.commit_graph.specs.World.{Row, World, names_of}
use Rattle.commit_graph.specs.Ids.{id_in}
use Rattle.batch_codec.specs.Payload.{Payload}
use Rattle.name_map.specs.Added.{Placed, payloads_of}
use Rattle.change_rules.specs.declared.Limits.{Limits}
use Rattle.change_rules.specs.Rebase.{first_conflict, first_lost, left_of}
use Rattle.remote_rules.specs.Mirror.{Mirror}
use Rattle.lazy_names.specs.Cache.{PlainCache}
use Rattle.payload_tables.specs.Pending.{PlainPending}
use Rattle.payload_tables.specs.Bases.{ArePending}
use Rattle.change_parts.specs.declared.fault.PlanFault.{PlanFault}
use Rattle.change_parts.specs.declared.fault.PlanFault.TheVariants as faults
use Rattle.change_parts.specs.Plans.{conflict_fault, first_fault, stored_id}
use Rattle.rebase_pending.specs.Rebases.{lost_fault, rebase_refusal}
use Rattle.step_rules.specs.declared.Refusal.{Refusal}
use Rattle.step_rules.specs.declared.Refusal.TheVariants as why
use Rattle.step_rules.specs.State.{Stored, pending_of}
use Rattle.step_rules.specs.Asked.{is_unnamed, found_as}
use Rattle.step_rules.specs.Tests.{first_some, is_on_newest, named, pending_test, plain, rebase_tests}
use Rattle.store_plans.specs.Sessions.{PlainSession}
use Rattle.store_plans.specs.Looking.{AreRight, IsTold, Tried}
use Rattle.store_plans.specs.Changes.{FindsRows, IsHeadFound, IsOfPlan, IsOn, IsRefusedBy, IsRowFound, IsTaken, Rebases, RebasesAnew, refusal_of, row_test}
use Rattle.store_plans.proofs.Trials.{tried-memory, tried-none, tried-stop, tried-then}
use Rattle.store_plans.proofs.PlainTests.{passing, tried-passed, tried-refused}
use Rattle.store_plans.proofs.TakenHeads.{taken-right, zip-map}
use Rattle.store_plans.proofs.FlushStates.{all-stay, new-there, none-conflict, none-lost, on-newest}

-- ---- refusals of a plan

-- each of them may be that of a test
pub told-plan : (payloads : List Payload) (w : World Name) (fault : PlanFault) → IsTold payloads w (Some (refusal_of fault))
told-plan payloads w (faults.Unknown name) = tt
told-plan payloads w (faults.Conflict name) = tt
told-plan payloads w (faults.Lost name) = tt
told-plan payloads w (faults.Emptied n) = tt
told-plan payloads w (faults.Full what limit) = tt
told-plan payloads w (faults.BadClone at) = tt
told-plan payloads w (faults.BadRow id) = tt
told-plan payloads w faults.Memory = tt

abbrev is_memory : Refusal → Bool
is_memory why.Memory = true
is_memory _ = false

-- a refusal of a plan is for the memory, or it isn't
pub plan-memory : (fault : PlanFault) → (fault ≡ faults.Memory) ⊎ (refusal_of fault ≡ why.Memory → ⊥)
plan-memory (faults.Unknown name) = inr (λ e. true≢false (sym (ap is_memory e)))
plan-memory (faults.Conflict name) = inr (λ e. true≢false (sym (ap is_memory e)))
plan-memory (faults.Lost name) = inr (λ e. true≢false (sym (ap is_memory e)))
plan-memory (faults.Emptied n) = inr (λ e. true≢false (sym (ap is_memory e)))
plan-memory (faults.Full what limit) = inr (λ e. true≢false (sym (ap is_memory e)))
plan-memory (faults.BadClone at) = inr (λ e. true≢false (sym (ap is_memory e)))
plan-memory (faults.BadRow id) = inr (λ e. true≢false (sym (ap is_memory e)))
plan-memory faults.Memory = inl refl

-- what a rebase is refused for is one of both, or neither is there
both-none : (c l : Option Name) → first_fault (conflict_fault c) (lost_fault l) ≡ None → (c ≡ None) × (l ≡ None)
both-none None None e = (refl, refl)
both-none None (Some name) e = absurd (true≢false (ap is_some e))
both-none (Some name) l e = absurd (true≢false (ap is_some e))

one-refuses : (c l : Option Name) (fault : PlanFault) → first_fault (conflict_fault c) (lost_fault l) ≡ Some fault → first_some (option_map why.Conflict c ∷ option_map why.Lost l ∷ []) ≡ Some (refusal_of fault)
one-refuses None None fault e = absurd (true≢false (sym (ap is_some e)))
one-refuses None (Some name) fault e = ap (option_map refusal_of) e
one-refuses (Some name) l fault e = ap (option_map refusal_of) e

-- ---- a state

module _ (began s : ℕ) (added : List Placed) (x : PlainSession) (st : Stored) (o : IsOn began added x st s) where
  abbrev w : World Name
  w = st.stored

  abbrev rows : List (Row Name)
  rows = pending_of st s

  abbrev pub conflict : Option Refusal
  conflict = option_map why.Conflict (first_conflict same_name st.stored (pending_of st s))

  abbrev pub lost : Option Refusal
  lost = option_map why.Lost (first_lost same_name st.stored (pending_of st s))

  both-pass : first_conflict same_name st.stored (pending_of st s) ≡ None → first_lost same_name st.stored (pending_of st s) ≡ None → first_some (conflict ∷ lost ∷ []) ≡ None
  both-pass c l = ap₂ (λ a b. first_some (option_map why.Conflict a ∷ option_map why.Lost b ∷ [])) c l

  -- what a rebase finds of rows whose names were found rightly
  pub rebases-ok : (left : PlainPending) → (rebase_refusal st.stored (pending_of st s) ≡ None) × ArePending st.stored left (left_of same_name st.stored (pending_of st s)) → RebasesAnew st s (Ok left)
  rebases-ok left r =
      let b = both-none (first_conflict same_name st.stored (pending_of st s)) (first_lost same_name st.stored (pending_of st s)) r.0 in
      (b.0, b.1, r.1)

  pub rebases-fault : (fault : PlanFault) → (fault ≡ faults.Memory) ⊎ (rebase_refusal st.stored (pending_of st s) ≡ Some fault) → RebasesAnew st s (Err (refusal_of fault))
  rebases-fault fault (inl m) = inl (ap refusal_of m)
  rebases-fault fault (inr e) = inr (one-refuses (first_conflict same_name st.stored (pending_of st s)) (first_lost same_name st.stored (pending_of st s)) fault e)

  -- ---- on the newest world

  module _ (newest : is_on_newest st s ≡ true) where
    plain-rows : (some : List (Row Name)) → map (pending_test st s) some ≡ map plain (map passing some)
    plain-rows [] = refl
    plain-rows (r ∷ some) = ap₂ (λ t l. t ∷ l) (ap (λ b. named (not b && is_unnamed st st.stored r.name) (found_as st st.stored r.name) None) newest) (plain-rows some)

    abbrev none_rows : List (Option Refusal)
    none_rows = map passing rows

    plain-tests : map plain (none_rows ++ conflict ∷ lost ∷ []) ≡ rebase_tests st s
    plain-tests = map-append plain none_rows (conflict ∷ lost ∷ []) ∙ ap (λ l. l ++ plain conflict ∷ plain lost ∷ []) (sym (plain-rows rows))

    skip-rows : (some : List (Row Name)) → first_some (map passing some ++ conflict ∷ lost ∷ []) ≡ first_some (conflict ∷ lost ∷ [])
    skip-rows [] = refl
    skip-rows (r ∷ some) = skip-rows some

    none-refuses : first_some (none_rows ++ conflict ∷ lost ∷ []) ≡ None
    none-refuses = skip-rows rows ∙ both-pass (none-conflict began s added x st o newest) (none-lost began s added x st o newest)

    same-heads : (heads : List Name) (found : List (Option ℕ)) → AllZip (IsHeadFound st.stored (pending_of st s)) heads found → found ≡ map (stored_id st.stored) heads
    same-heads [] [] z = refl
    same-heads [] (f ∷ found) z = absurd z
    same-heads (h ∷ heads) [] z = absurd z
    same-heads (h ∷ heads) (f ∷ found) z =
        ap₂ (λ a b. a ∷ b) (⊎_elim (λ e. e) (λ p. p.0 ∙ sym (ap (λ b. if b then Some (id_in same_name st.stored h) else None) (new-there began s added x st o newest h p.1))) z.0) (same-heads heads found z.1)

    -- the rows stay as they are
    pub stays-newest : (limits : Limits) (heads : List Name) (old : List Mirror) (a : PlainCache) (found : List (Option ℕ)) (copy : PlainPending) (r : Result PlainPending Refusal) → copy ≡ x.pending
        → MatchResult r (λ left. left ≡ copy) (λ refusal. refusal ≡ why.Memory) → Rebases limits st s heads old old a a found found r
    stays-newest limits heads old a found copy (Ok left) is e = record {
      tried = subst (λ l. Tried st.payloads st.stored l old old a a None) plain-tests
          (tried-passed st.payloads st.stored [] old old a a (tried-none st.payloads st.stored old a) (none_rows ++ conflict ∷ lost ∷ []) (λ r. none-refuses));
      right = λ r. subst (λ l. ArePending st.stored left l) (sym (all-stay began s added x st o newest))
          (subst (λ p. ArePending st.stored p (pending_of st s)) (sym (e ∙ is)) (subst (λ v. ArePending v x.pending (pending_of st s)) (on-newest began s added x st o newest) o.session.pending));
      heads_are = λ r z. same-heads heads found z;
    }
    stays-newest limits heads old a found copy (Err refusal) is e = subst (λ f. Rebases limits st s heads old old a a found found (Err f)) (sym e) (record {
      tried = tried-memory st.payloads st.stored (rebase_tests st s) old a;
      right = λ r. tt;
      heads_are = λ r z. tt;
    })

  -- ---- on an older one

  module _ (older : is_on_newest st s ≡ false) (limits : Limits) (heads : List Name) (old new : List Mirror) (a b : PlainCache) (found : List (Option ℕ)) where
    asked-rows : (some : List (Row Name)) → map (row_test st.payloads st.stored) (names_of some) ≡ map (pending_test st s) some
    asked-rows [] = refl
    asked-rows (r ∷ some) =
        ap₂ (λ t l. t ∷ l) (ap (λ b. named b (found_as st st.stored r.name) None) (both (is_unnamed st st.stored r.name) ∙ sym (ap (λ n. not n && is_unnamed st st.stored r.name) older))) (asked-rows some)
      where
        both : (b : Bool) → (b && true) ≡ b
        both true = refl
        both false = refl

    rows-tried : (verdict : Option Refusal) → Tried (payloads_of added) st.stored (map (row_test (payloads_of added) st.stored) (names_of (pending_of st s))) old new a b verdict
        → Tried st.payloads st.stored (map (pending_test st s) (pending_of st s)) old new a b verdict
    rows-tried verdict t = subst (λ l. Tried st.payloads st.stored l old new a b verdict) (asked-rows (pending_of st s))
        (subst (λ p. Tried p st.stored (map (row_test p st.stored) (names_of (pending_of st s))) old new a b verdict) o.payloads t)

    pub rows-refused : (later : List (Option ℕ)) (f : Refusal) → FindsRows added st.stored (names_of (pending_of st s)) old new a b (Err f) → Rebases limits st s heads old new a b found later (Err f)
    rows-refused later f h = record {
      tried = tried-stop st.payloads st.stored (map (pending_test st s) (pending_of st s)) (plain conflict ∷ plain lost ∷ []) old new a b f (rows-tried (Some f) h.tried);
      right = λ r. tt;
      heads_are = λ r z. tt;
    }

    module _ (ids : List (Option ℕ)) (h : FindsRows added st.stored (names_of (pending_of st s)) old new a b (Ok ids)) (later : List (Option ℕ)) (same : length later ≡ length found)
        (taken : (i : ℕ) → i < length heads → IsTaken (names_of (pending_of st s)) ids (get_or heads i []) (get_or found i None) (get_or later i None)) where
      found-rows : AreRight st.payloads st.stored old → AllZip (IsRowFound st.stored) (names_of (pending_of st s)) ids
      found-rows r = h.right (subst (λ p. AreRight p st.stored old) (sym o.payloads) r)

      rows-are : AreRight st.payloads st.stored old → ids ≡ map (stored_id st.stored) (names_of (pending_of st s))
      rows-are r = zip-map (stored_id st.stored) (names_of (pending_of st s)) ids (found-rows r)

      by-fault : (f : Refusal) → IsOfPlan f → (ids ≡ map (stored_id st.stored) (names_of (pending_of st s)) → IsRefusedBy (conflict ∷ lost ∷ []) f) → Tried st.payloads st.stored (rebase_tests st s) old new a b (Some f)
      by-fault f p g = ⊎_elim
          (λ m. subst (λ z. Tried st.payloads st.stored (rebase_tests st s) old new a b (Some z)) (sym (p.1 ∙ ap refusal_of m))
          (tried-then st.payloads st.stored (map (pending_test st s) (pending_of st s)) (plain conflict ∷ plain lost ∷ []) old new new a b b (Some why.Memory) (rows-tried None h.tried)
          (tried-memory st.payloads st.stored (plain conflict ∷ plain lost ∷ []) new b)))
          (λ n. tried-refused st.payloads st.stored (map (pending_test st s) (pending_of st s)) old new a b (rows-tried None h.tried) conflict (lost ∷ []) f
          (subst (λ z. IsTold st.payloads st.stored (Some z)) (sym p.1) (told-plan st.payloads st.stored p.0))
          (λ r. ⊎_elim (λ m. absurd (n (sym p.1 ∙ m))) (λ e. e) (g (rows-are r))))
          (plan-memory p.0)

      -- the rows were moved, or a rebase refuses them
      pub rows-moved : (r : Result PlainPending Refusal) → IfErr r IsOfPlan → (ids ≡ map (stored_id st.stored) (names_of (pending_of st s)) → RebasesAnew st s r) → Rebases limits st s heads old new a b found later r
      rows-moved (Ok left) p g = record {
        tried = tried-passed st.payloads st.stored (map (pending_test st s) (pending_of st s)) old new a b (rows-tried None h.tried) (conflict ∷ lost ∷ [])
            (λ r. let f = g (rows-are r) in both-pass f.0 f.1);
        right = λ r. (g (rows-are r)).2;
        heads_are = λ r z. taken-right st.stored (pending_of st s) ids (found-rows r) heads found later same z taken;
      }
      rows-moved (Err f) p g = record {
        tried = by-fault f p g;
        right = λ r. tt;
        heads_are = λ r z. tt;
      }

-- a fault that is handed on
pub err-rebases : (limits : Limits) (st : Stored) (s : ℕ) (heads : List Name) (old new : List Mirror) (a b : PlainCache) (found later : List (Option ℕ)) (r : Result PlainPending Refusal) (f : Refusal) → IsErrAnd r (λ g. g ≡ f)
    → Rebases limits st s heads old new a b found later (Err f) → Rebases limits st s heads old new a b found later r
err-rebases limits st s heads old new a b found later (Ok v) f h q = absurd h
err-rebases limits st s heads old new a b found later (Err g) f h q = subst (λ z. Rebases limits st s heads old new a b found later (Err z)) (sym h) q
