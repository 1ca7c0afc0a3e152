-- The tests of a strip, as its names are looked up and its change planned.
use Rattle.std.proofs.Common.{◌≡◌, ◌≤◌, ◌<◌, ◌⊎◌, ◌&&◌, not, ⊎_elim, ℕ, Bool, true, false, List, [], ◌∷◌, ◌++◌, map, length, nat_lt, Option, Some, None, Ok, Err, refl, sym, ap, ap₂, subst, ◌∙◌, if◌then◌else◌, arith}
use Rattle.std.specs.Option.{option_map}
use Rattle.std.proofs.lemmas.Bool.{lt-ltb}
use Rattle.id_groups.specs.Lists.{is_in, AreAllIn}
use Rattle.id_groups.specs.Name.{Name, same_name}
use Rattle.commit_graph.specs.World.{Row, World, names_of, rows_of}
use Rattle.commit_graph.specs.Ids.{id_in}
use Rattle.gated_log.specs.Held.{Held, log_bytes}
use Rattle.gated_log.specs.Log.{log_length}
use Rattle.name_map.specs.Added.{Placed, payloads_of, AllStand}
use Rattle.change_rules.specs.declared.Limits.{Limits}
use Rattle.change_rules.specs.declared.Limit.TheVariants as limit
use Rattle.change_rules.specs.Change.{text_of, flush_change}
use Rattle.change_rules.specs.Tables.{StandFor}
use Rattle.payload_tables.specs.Kept.{PlainTables}
use Rattle.remote_rules.specs.Mirror.{Mirror}
use Rattle.lazy_names.specs.Cache.{PlainCache}
use Rattle.change_parts.specs.declared.fault.PlanFault.{PlanFault}
use Rattle.change_parts.specs.declared.fault.PlanFault.TheVariants as faults
use Rattle.change_parts.specs.declared.change.Change.{Change}
use Rattle.change_parts.specs.Plans.{IsPlanOf, over, length_with}
use Rattle.strip_plan.specs.Stripping.{MayStrip, emptied, strip_refusal}
use Rattle.step_rules.specs.declared.Refusal.{Refusal}
use Rattle.step_rules.specs.declared.Refusal.TheVariants as why
use Rattle.step_rules.specs.State.{Stored, pending_of}
use Rattle.step_rules.specs.Verb.{Strip}
use Rattle.step_rules.specs.Asked.{is_unnamed, found_as}
use Rattle.step_rules.specs.Worlds.{log_after}
use Rattle.step_rules.specs.Tests.{Test, named, plain, full, first_some, looked_up, not_strippable, has_pending, refuse_if, tests}
use Rattle.store_plans.specs.Sessions.{PlainSession}
use Rattle.store_plans.specs.Looking.{AreRight, Tried}
use Rattle.store_plans.specs.Changes.{AreOver, IsOn, refusal_of, strip_of}
use Rattle.store_plans.specs.Strips.{FindsOthers, PlansStrip, strip_test}
use Rattle.store_plans.proofs.ChangeSizes.{change-to, log-test, mapped-first, only-first, payload_to}
use Rattle.store_plans.proofs.Trials.{tried-memory, tried-plain, tried-stop, tried-then}
use Rattle.store_plans.proofs.PlainTests.{tried-passed, tried-refused}
use Rattle.store_plans.proofs.RebaseTests.{plan-memory, told-plan}
use Rattle.store_plans.proofs.StripLooks.{ids-of-others}

none-more : {X : Type 0} (xs : List X) → length xs ≡ 0 → xs ≡ []
none-more [] e = refl
none-more (x ∷ xs) e = absurd (omega (arith, e))

emptied-is : (old new : World Name) → option_map refusal_of (emptied old new) ≡ refuse_if (not (nat_lt 0 (length (rows_of new)))) (why.Emptied (length (rows_of old)))
emptied-is old new = by_test (nat_lt 0 (length (rows_of new)))
  where
    by_test : (b : Bool) → option_map refusal_of (if b then None else Some (faults.Emptied (length (rows_of old)))) ≡ refuse_if (not b) (why.Emptied (length (rows_of old)))
    by_test true = refl
    by_test false = refl

module _ (limits : Limits) (st : Stored) (s : ℕ) (names : List Name) where
  abbrev next_world : World Name
  next_world = strip_of st names

  -- the tests behind the look-ups
  abbrev last_tests : List (Option Refusal)
  last_tests =
      refuse_if (not (nat_lt 0 (length (rows_of next_world)))) (why.Emptied (length (rows_of st.stored)))
      ∷ full limit.Log limits.log (log_after st next_world (flush_change st.stored next_world))
      ∷ []

  -- ---- the session has rows

  pub strip-pending : (f : Refusal) → (f ≡ why.Pending (length (pending_of st s))) × (0 < length (pending_of st s)) → (old : List Mirror) (a : PlainCache) → PlansStrip limits st s names old old a a (Err f)
  strip-pending f h old a = record {
    tried = subst (λ z. Tried st.payloads st.stored (tests limits st s (Strip names)) old old a a (Some z)) (sym h.0)
        (tried-stop st.payloads st.stored (plain (has_pending st s) ∷ []) (map (looked_up st s st.stored (not_strippable st.stored)) names ++ map plain last_tests) old old a a (why.Pending (length (pending_of st s)))
        (tried-plain st.payloads st.stored (has_pending st s) (Some (why.Pending (length (pending_of st s)))) old a tt
        (λ q. sym (ap (λ b. refuse_if b (why.Pending (length (pending_of st s)))) (lt-ltb 0 (length (pending_of st s)) h.1)))));
    right = λ q. tt;
  }

  -- ---- it has none

  module _ (none : length (pending_of st s) ≡ 0) where
    no-rows : pending_of st s ≡ []
    no-rows = none-more (pending_of st s) none

    passes : has_pending st s ≡ None
    passes = ap (λ (rows : List (Row Name)). refuse_if (nat_lt 0 (length rows)) (why.Pending (length rows))) no-rows

    abbrev before : List Test
    before = plain (has_pending st s) ∷ map (strip_test st.payloads st.stored) names

    lookups-are : (some : List Name) → map (strip_test st.payloads st.stored) some ≡ map (looked_up st s st.stored (not_strippable st.stored)) some
    lookups-are [] = refl
    lookups-are (n ∷ some) = ap₂ (λ t l. t ∷ l)
        (ap (λ (rows : List (Row Name)). named (is_unnamed st st.stored n && not (is_in same_name n (names_of rows))) (found_as st st.stored n) (not_strippable st.stored n)) (sym no-rows)) (lookups-are some)

    tests-are : (plain (has_pending st s) ∷ map (strip_test st.payloads st.stored) names) ++ map plain last_tests ≡ tests limits st s (Strip names)
    tests-are = ap (λ l. (plain (has_pending st s) ∷ l) ++ map plain last_tests) (lookups-are names)

    module _ (began : ℕ) (added : List Placed) (x : PlainSession) (o : IsOn began added x st s) (old new : List Mirror) (a b : PlainCache) where
      before-tried : (verdict : Option Refusal) → Tried (payloads_of added) st.stored (map (strip_test (payloads_of added) st.stored) names) old new a b verdict → Tried st.payloads st.stored before old new a b verdict
      before-tried verdict t =
          tried-then st.payloads st.stored (plain (has_pending st s) ∷ []) (map (strip_test st.payloads st.stored) names) old old new a a b verdict
          (tried-plain st.payloads st.stored (has_pending st s) None old a tt (λ q. sym passes))
          (subst (λ p. Tried p st.stored (map (strip_test p st.stored) names) old new a b verdict) o.payloads t)

      -- a name is refused
      pub strip-unfound : (f : Refusal) → FindsOthers added st.stored names old new a b (Err f) → PlansStrip limits st s names old new a b (Err f)
      strip-unfound f h = record {
        tried = subst (λ l. Tried st.payloads st.stored l old new a b (Some f)) tests-are
            (tried-stop st.payloads st.stored before (map plain last_tests) old new a b f (before-tried (Some f) h.tried));
        right = λ q. tt;
      }

      module _ (ids : List ℕ) (h : FindsOthers added st.stored names old new a b (Ok ids)) (log : ℕ) (e : log ≡ log_length (map text_of st.payloads)) (le : log ≤ limits.log) where
        -- what a plan is asked for, where the mirrors serve
        asked-rightly : AreRight st.payloads st.stored old → AreAllIn names (names_of st.stored.others) × (ids ≡ map (id_in same_name st.stored) names)
        asked-rightly q = ids-of-others st.stored names ids (h.right (subst (λ p. AreRight p st.stored old) (sym o.payloads) q))

        refusal-is : option_map refusal_of (strip_refusal limits log st.stored next_world (payload_to st next_world)) ≡ first_some last_tests
        refusal-is =
            mapped-first (emptied st.stored next_world) (over limits.log (length_with log (payload_to st next_world)) limit.Log)
            (refuse_if (not (nat_lt 0 (length (rows_of next_world)))) (why.Emptied (length (rows_of st.stored))))
            (full limit.Log limits.log (log_after st next_world (flush_change st.stored next_world)) ∷ []) (emptied-is st.stored next_world)
            (log-test st next_world limits log e le ∙ sym (only-first (full limit.Log limits.log (log_after st next_world (flush_change st.stored next_world)))))

        pub strip-change : (change : Change)
            → (AreAllIn names (names_of st.stored.others) → ids ≡ map (id_in same_name st.stored) names
            → (strip_refusal limits log st.stored (strip_of st names) (payload_to st (strip_of st names)) ≡ None) × IsPlanOf change st.stored (strip_of st names) (payload_to st (strip_of st names)))
            → PlansStrip limits st s names old new a b (Ok change)
        strip-change change p = record {
          tried = subst (λ l. Tried st.payloads st.stored l old new a b None) tests-are
              (tried-passed st.payloads st.stored before old new a b (before-tried None h.tried) last_tests
              (λ q. let g = asked-rightly q in sym refusal-is ∙ ap (option_map refusal_of) (p g.0 g.1).0));
          right = λ q. let g = asked-rightly q in record { payload = payload_to st (strip_of st names); plan = (p g.0 g.1).1; change_of = change-to st (strip_of st names) };
        }

        pub strip-fault : (fault : PlanFault)
            → (AreAllIn names (names_of st.stored.others) → ids ≡ map (id_in same_name st.stored) names
            → (fault ≡ faults.Memory) ⊎ (strip_refusal limits log st.stored (strip_of st names) (payload_to st (strip_of st names)) ≡ Some fault))
            → PlansStrip limits st s names old new a b (Err (refusal_of fault))
        strip-fault fault p = record {
          tried = subst (λ l. Tried st.payloads st.stored l old new a b (Some (refusal_of fault))) tests-are (⊎_elim
              (λ m. subst (λ z. Tried st.payloads st.stored (before ++ map plain last_tests) old new a b (Some (refusal_of z))) (sym m)
              (tried-then st.payloads st.stored before (map plain last_tests) old new new a b b (Some why.Memory) (before-tried None h.tried)
              (tried-memory st.payloads st.stored (map plain last_tests) new b)))
              (λ n. tried-refused st.payloads st.stored before old new a b (before-tried None h.tried) (refuse_if (not (nat_lt 0 (length (rows_of next_world)))) (why.Emptied (length (rows_of st.stored))))
              (full limit.Log limits.log (log_after st next_world (flush_change st.stored next_world)) ∷ []) (refusal_of fault)
              (told-plan st.payloads st.stored fault)
              (λ q. let g = asked-rightly q in ⊎_elim (λ m. absurd (n (ap refusal_of m))) (λ f. sym refusal-is ∙ ap (option_map refusal_of) f) (p g.0 g.1)))
              (plan-memory fault));
          right = λ q. tt;
        }

-- ---- what a plan is asked for

module _ (log : Held) (tables : PlainTables) (added : List Placed) (over : AreOver log tables added) (bytes : List ℕ) (all : bytes ≡ log_bytes log) (began s : ℕ) (x : PlainSession) (st : Stored) (o : IsOn began added x st s) where
  pub stands-for : StandFor (payloads_of added) st.stored
  stands-for = subst (λ l. StandFor l st.stored) (sym o.payloads) o.hold.stand

  pub may-strip : (names : List Name) (ids : List ℕ) → AreAllIn names (names_of st.stored.others) → ids ≡ map (id_in same_name st.stored) names → MayStrip tables bytes ids st.stored names
  may-strip names ids others are = record {
    added = added;
    tables_of = over.tables_of;
    stand = subst (λ l. AllStand l added) (sym all) over.stand;
    stand_for = stands-for;
    world = o.hold.world;
    others = others;
    ids_are = are;
  }

  pub size-of-log : length bytes ≡ log_length log.payloads → length bytes ≡ log_length (map text_of st.payloads)
  size-of-log e = e ∙ ap log_length (over.texts ∙ ap (map text_of) o.payloads)
