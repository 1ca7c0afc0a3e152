-- The tests of a flush, as its heads are looked up, its rows rebased and its change planned.
use Rattle.std.proofs.Common.{◌≡◌, ◌≤◌, ◌⊎◌, ⊎_elim, ℕ, List, [], ◌∷◌, ◌++◌, map, length, Option, Some, None, Ok, Err, refl, sym, ap, subst, ◌∙◌, if◌then◌else◌}
use Rattle.std.specs.Option.{option_map}
use Rattle.id_groups.specs.Lists.{AreAllIn}
use Rattle.id_groups.specs.Name.{Name, same_name}
use Rattle.id_groups.proofs.Names.{same_name-exact, same_name-self}
use Rattle.id_groups.proofs.Listing.{there}
use Rattle.commit_graph.specs.World.{World, names_of, rows_of, with_pending}
use Rattle.gated_log.specs.Log.{log_length}
use Rattle.name_map.specs.Added.{Placed, payloads_of}
use Rattle.change_rules.specs.declared.Limits.{Limits}
use Rattle.change_rules.specs.declared.Limit.TheVariants as limit
use Rattle.change_rules.specs.Change.{text_of, flush_change}
use Rattle.change_rules.specs.Rebase.{left_of}
use Rattle.remote_rules.specs.Mirror.{Mirror}
use Rattle.lazy_names.specs.Cache.{PlainCache}
use Rattle.payload_tables.specs.Pending.{PlainPending}
use Rattle.payload_tables.specs.Bases.{ArePending}
use Rattle.change_parts.specs.declared.fault.PlanFault.{PlanFault}
use Rattle.change_parts.specs.declared.fault.PlanFault.TheVariants as faults
use Rattle.change_parts.specs.declared.change.Change.{Change}
use Rattle.change_parts.specs.Plans.{IsPlanOf, over, first_fault, size_refusal, length_with, stored_id}
use Rattle.flush_plan.specs.Flushing.{unknown_fault, first_unknown, flush_refusal}
use Rattle.step_rules.specs.declared.Refusal.{Refusal}
use Rattle.step_rules.specs.declared.Refusal.TheVariants as why
use Rattle.step_rules.specs.State.{Stored, pending_of}
use Rattle.step_rules.specs.Verb.{Flush}
use Rattle.step_rules.specs.Worlds.{flush_of, log_after}
use Rattle.step_rules.specs.Tests.{Test, plain, full, first_some, looked_up, unknown, rebase_tests, tests}
use Rattle.step_rules.proofs.Trying.{tried-all}
use Rattle.store_plans.specs.Sessions.{PlainSession}
use Rattle.store_plans.specs.Looking.{AreRight, Tried}
use Rattle.store_plans.specs.Changes.{FindsHeads, IsOn, PlansFlush, Rebases, head_test, refusal_of}
use Rattle.store_plans.proofs.ChangeSizes.{change-to, log-test, mapped-first, only-first, over-full, payload_to}
use Rattle.store_plans.proofs.Lines.{all-there}
use Rattle.store_plans.proofs.Trials.{tried-memory, tried-serves, tried-stop, tried-then}
use Rattle.store_plans.proofs.PlainTests.{tried-passed, tried-refused}
use Rattle.store_plans.proofs.RebaseTests.{plan-memory, told-plan}
use Rattle.store_plans.proofs.FlushStates.{known-rebased}

-- ---- the tests of a flush

abbrev pub sizes : Limits → Stored → World Name → List (Option Refusal)
sizes limits st new =
    full limit.Others limits.others (length new.others)
    ∷ full limit.Master limits.master (length new.master)
    ∷ full limit.Log limits.log (log_after st new (flush_change st.stored new))
    ∷ []

module _ (limits : Limits) (st : Stored) (s : ℕ) (heads : List Name) where
  abbrev next_world : World Name
  next_world = flush_of st s heads

  -- the payload of the change
  abbrev payload_is : List ℕ
  payload_is = payload_to st next_world

  sizes-are : (log : ℕ) → log ≡ log_length (map text_of st.payloads) → log ≤ limits.log → option_map refusal_of (size_refusal limits log next_world payload_is) ≡ first_some (sizes limits st next_world)
  sizes-are log e le =
      mapped-first (over limits.others (length next_world.others) limit.Others) _ (full limit.Others limits.others (length next_world.others)) _ (over-full limit.Others limits.others (length next_world.others))
      (mapped-first (over limits.master (length next_world.master) limit.Master) (over limits.log (length_with log payload_is) limit.Log) (full limit.Master limits.master (length next_world.master))
      (full limit.Log limits.log (log_after st next_world (flush_change st.stored next_world)) ∷ []) (over-full limit.Master limits.master (length next_world.master))
      (log-test st next_world limits log e le ∙ sym (only-first (full limit.Log limits.log (log_after st next_world (flush_change st.stored next_world))))))

  none-unknown : (v : World Name) (names : List Name) → AreAllIn names (names_of (rows_of v)) → first_unknown v names ≡ None
  none-unknown v [] h = refl
  none-unknown v (n ∷ names) h =
      ap (λ b. if b then first_unknown v names else Some n) (there same_name same_name-exact same_name-self n (names_of (rows_of v)) h.0) ∙ none-unknown v names h.1

  -- all tests of a flush
  abbrev before : List Test
  before = map (head_test st.payloads st.stored (pending_of st s)) heads ++ rebase_tests st s

  pub heads-are : (names : List Name) → map (head_test st.payloads st.stored (pending_of st s)) names ≡ map (looked_up st s st.stored (unknown (with_pending st.stored (pending_of st s)))) names
  heads-are [] = refl
  heads-are (n ∷ names) = ap (λ l. head_test st.payloads st.stored (pending_of st s) n ∷ l) (heads-are names)

  tests-are : (map (head_test st.payloads st.stored (pending_of st s)) heads ++ rebase_tests st s) ++ map plain (sizes limits st next_world) ≡ tests limits st s (Flush heads)
  tests-are = ap (λ l. (l ++ rebase_tests st s) ++ map plain (sizes limits st next_world)) (heads-are heads)

  module _ (began : ℕ) (added : List Placed) (x : PlainSession) (o : IsOn began added x st s) where
    abbrev view : World Name
    view = with_pending st.stored (left_of same_name st.stored (pending_of st s))

    -- tests that were looked up over the payloads that were added
    heads-tried : (old mid : List Mirror) (a b : PlainCache) (verdict : Option Refusal) → Tried (payloads_of added) st.stored (map (head_test (payloads_of added) st.stored (pending_of st s)) heads) old mid a b verdict
        → Tried st.payloads st.stored (map (head_test st.payloads st.stored (pending_of st s)) heads) old mid a b verdict
    heads-tried old mid a b verdict t = subst (λ p. Tried p st.stored (map (head_test p st.stored (pending_of st s)) heads) old mid a b verdict) o.payloads t

    pub plans-unfound : (old new : List Mirror) (a b : PlainCache) (f : Refusal) → FindsHeads added st.stored (pending_of st s) heads old new a b (Err f) → PlansFlush limits st s heads old new a b (Err f)
    plans-unfound old new a b f h = record {
      tried = subst (λ l. Tried st.payloads st.stored l old new a b (Some f)) tests-are
          (tried-stop st.payloads st.stored before (map plain (sizes limits st (flush_of st s heads))) old new a b f
          (tried-stop st.payloads st.stored (map (head_test st.payloads st.stored (pending_of st s)) heads) (rebase_tests st s) old new a b f (heads-tried old new a b (Some f) h.tried)));
      right = λ r. tt;
    }

    module _ (old mid new : List Mirror) (a b c : PlainCache) (ids later : List (Option ℕ)) (h : FindsHeads added st.stored (pending_of st s) heads old mid a b (Ok ids)) where
      both-tried : (verdict : Option Refusal) → Tried st.payloads st.stored (rebase_tests st s) mid new b c verdict → Tried st.payloads st.stored before old new a c verdict
      both-tried verdict t = tried-then st.payloads st.stored (map (head_test st.payloads st.stored (pending_of st s)) heads) (rebase_tests st s) old mid new a b c verdict (heads-tried old mid a b None h.tried) t

      pub plans-unmoved : (f : Refusal) → Rebases limits st s heads mid new b c ids later (Err f) → PlansFlush limits st s heads old new a c (Err f)
      plans-unmoved f r = record {
        tried = subst (λ l. Tried st.payloads st.stored l old new a c (Some f)) tests-are
            (tried-stop st.payloads st.stored before (map plain (sizes limits st (flush_of st s heads))) old new a c f (both-tried (Some f) r.tried));
        right = λ q. tt;
      }

      module _ (left : PlainPending) (r : Rebases limits st s heads mid new b c ids later (Ok left)) (log : ℕ) (e : log ≡ log_length (map text_of st.payloads)) (le : log ≤ limits.log) where
        right-added : AreRight st.payloads st.stored old → AreRight (payloads_of added) st.stored old
        right-added q = subst (λ p. AreRight p st.stored old) (sym o.payloads) q

        right-mid : AreRight st.payloads st.stored old → AreRight st.payloads st.stored mid
        right-mid q = tried-serves st.payloads st.stored (map (head_test st.payloads st.stored (pending_of st s)) heads) old mid a b None (heads-tried old mid a b None h.tried) q

        heads-known : AreRight st.payloads st.stored old → AreAllIn heads (names_of (rows_of view))
        heads-known q = all heads (all-there (payloads_of added) st.stored (pending_of st s) heads
            (⊎_elim (λ e. sym e) (λ n. absurd n) (tried-all (Unit {0}) old mid (map (head_test (payloads_of added) st.stored (pending_of st s)) heads) None h.tried.gained (h.tried.serving (right-added q)))))
          where
            all : (names : List Name) → AreAllIn names (names_of (rows_of (with_pending st.stored (pending_of st s)))) → AreAllIn names (names_of (rows_of view))
            all [] i = tt
            all (n ∷ names) i = (known-rebased st.stored (pending_of st s) n i.0, all names i.1)

        refusal-is : AreRight st.payloads st.stored old → option_map refusal_of (flush_refusal limits log view (flush_of st s heads) heads payload_is) ≡ first_some (sizes limits st (flush_of st s heads))
        refusal-is q = ap (λ z. option_map refusal_of (first_fault (unknown_fault z) (size_refusal limits log (flush_of st s heads) payload_is))) (none-unknown view heads (heads-known q)) ∙ sizes-are log e le

        -- what a plan is asked for, where the mirrors serve
        pub asked-rightly : AreRight st.payloads st.stored old → ArePending st.stored left (left_of same_name st.stored (pending_of st s)) × (later ≡ map (stored_id st.stored) heads)
        asked-rightly q = (r.right (right-mid q), r.heads_are (right-mid q) (h.right (right-added q)))

        pub plans-change : (change : Change)
            → (ArePending st.stored left (left_of same_name st.stored (pending_of st s)) → later ≡ map (stored_id st.stored) heads → (flush_refusal limits log view (flush_of st s heads) heads payload_is ≡ None) × IsPlanOf change st.stored (flush_of st s heads) payload_is)
            → PlansFlush limits st s heads old new a c (Ok change)
        plans-change change p = record {
          tried = subst (λ l. Tried st.payloads st.stored l old new a c None) tests-are
              (tried-passed st.payloads st.stored before old new a c (both-tried None r.tried) (sizes limits st (flush_of st s heads))
              (λ q. let g = asked-rightly q in sym (refusal-is q) ∙ ap (option_map refusal_of) (p g.0 g.1).0));
          right = λ q. let g = asked-rightly q in record { payload = payload_is; plan = (p g.0 g.1).1; change_of = change-to st (flush_of st s heads) };
        }

        pub plans-fault : (fault : PlanFault)
            → (ArePending st.stored left (left_of same_name st.stored (pending_of st s)) → later ≡ map (stored_id st.stored) heads → (fault ≡ faults.Memory) ⊎ (flush_refusal limits log view (flush_of st s heads) heads payload_is ≡ Some fault))
            → PlansFlush limits st s heads old new a c (Err (refusal_of fault))
        plans-fault fault p = record {
          tried = subst (λ l. Tried st.payloads st.stored l old new a c (Some (refusal_of fault))) tests-are (⊎_elim
              (λ m. subst (λ z. Tried st.payloads st.stored (before ++ map plain (sizes limits st (flush_of st s heads))) old new a c (Some (refusal_of z))) (sym m)
              (tried-then st.payloads st.stored before (map plain (sizes limits st (flush_of st s heads))) old new new a c c (Some why.Memory) (both-tried None r.tried)
              (tried-memory st.payloads st.stored (map plain (sizes limits st (flush_of st s heads))) new c)))
              (λ n. tried-refused st.payloads st.stored before old new a c (both-tried None r.tried) (full limit.Others limits.others (length (flush_of st s heads).others))
              (full limit.Master limits.master (length (flush_of st s heads).master) ∷ full limit.Log limits.log (log_after st (flush_of st s heads) (flush_change st.stored (flush_of st s heads))) ∷ []) (refusal_of fault)
              (told-plan st.payloads st.stored fault)
              (λ q. let g = asked-rightly q in ⊎_elim (λ m. absurd (n (ap refusal_of m))) (λ f. sym (refusal-is q) ∙ ap (option_map refusal_of) f) (p g.0 g.1)))
              (plan-memory fault));
          right = λ q. tt;
        }
