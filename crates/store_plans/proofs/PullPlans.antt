-- What is found before a pull's ask, and what was planned behind it.
use Rattle.std.proofs.Common.{◌≡◌, ◌≤◌, ◌<◌, ◌⊎◌, inl, inr, ⊎_elim, ℕ, List, [], ◌∷◌, length, map, Option, Some, None, Ok, Err, MatchOption, refl, sym, ap, subst, ◌∙◌, nat_lt}
use Rattle.std.specs.Prelude.{Result, MatchResult}
use Rattle.std.specs.Option.{option_map}
use Rattle.std.proofs.lemmas.Bool.{lt-ltb}
use Rattle.id_groups.specs.Name.{Name, same_name}
use Rattle.commit_graph.specs.World.{Row}
use Rattle.gated_log.specs.Held.{Held, log_bytes}
use Rattle.gated_log.specs.Log.{log_length}
use Rattle.name_map.specs.Added.{Placed, payloads_of, AllStand}
use Rattle.remote_rules.specs.CloneData.{first_broken}
use Rattle.remote_rules.specs.Known.{master_world}
use Rattle.remote_rules.specs.Mirror.{Mirror}
use Rattle.remote_trait.specs.Calls.{AreMaster}
use Rattle.mirror_set.specs.Fresh.{PlainFresh, AsksFresh, count_from}
use Rattle.mirror_set.specs.declared.fresh.FreshFault.{FreshFault}
use Rattle.change_rules.specs.declared.Limits.{Limits}
use Rattle.change_rules.specs.declared.Limit.TheVariants.{Master, Log}
use Rattle.change_rules.specs.Change.{text_of, flush_change}
use Rattle.change_rules.specs.Rebase.{first_conflict}
use Rattle.change_rules.specs.Tables.{StandFor, cloned_count}
use Rattle.payload_tables.specs.Kept.{PlainTables}
use Rattle.change_parts.specs.declared.change.Change.{Change}
use Rattle.change_parts.specs.declared.fault.PlanFault.{PlanFault}
use Rattle.change_parts.specs.declared.fault.PlanFault.TheVariants as faults
use Rattle.change_parts.specs.Plans.{IsPlanOf, conflict_fault, first_fault, length_with, over}
use Rattle.pull_plan.specs.Pulling.{MayPullOn, MayPull, told_rows, mismatch, pull_refusal}
use Rattle.step_rules.specs.declared.Refusal.{Refusal}
use Rattle.step_rules.specs.declared.Refusal.TheVariants as why
use Rattle.step_rules.specs.State.{Stored, pending_of}
use Rattle.step_rules.specs.Verb.{Pull}
use Rattle.step_rules.specs.Worlds.{log_after}
use Rattle.step_rules.specs.Tests.{first_some, full, refuse_if, refused_first, tests}
use Rattle.step_rules.specs.Step.{pull_tests}
use Rattle.store_plans.specs.Sessions.{PlainSession}
use Rattle.store_plans.specs.Changes.{AreOver, IsOn, refusal_of}
use Rattle.store_plans.specs.PullPlans.{PlansPull, PlansTold, RefusesFresh, RefusesPull, RefusesTold, mismatch_of, pull_of, rows_told}
use Rattle.store_plans.proofs.ChangeSizes.{change-to, log-test, mapped-first, only-first, over-full, payload_to}
use Rattle.store_plans.proofs.RebaseTests.{plan-memory}

-- ---- the session's rows

pub pull-pending : (limits : Limits) (st : Stored) (s : ℕ) → 0 < length (pending_of st s) → refused_first (tests limits st s Pull) ≡ Some (why.Pending (length (pending_of st s)))
pull-pending limits st s lt = ap (λ b. first_some (refuse_if b (why.Pending (length (pending_of st s))) ∷ [])) (lt-ltb 0 (length (pending_of st s)) lt)

pub pull-none : (limits : Limits) (st : Stored) (s : ℕ) → length (pending_of st s) ≡ 0 → refused_first (tests limits st s Pull) ≡ None
pull-none limits st s e = ap (λ n. first_some (refuse_if (nat_lt 0 n) (why.Pending (length (pending_of st s))) ∷ [])) e

-- ---- refusals

module _ (limits : Limits) (st : Stored) (s : ℕ) (first left : List Mirror) where
  abbrev Asked : Refusal → Type 0
  Asked refusal = (asked : Result PlainFresh FreshFault) × AsksFresh (cloned_count st.payloads) first left asked × RefusesFresh limits st asked refusal

  pub refuses-first : (refusal : Refusal) → left ≡ first → refused_first (tests limits st s Pull) ≡ Some refusal → RefusesPull limits st s first left refusal
  refuses-first refusal same e = subst (λ o. MatchOption o (Asked refusal) (λ r. (left ≡ first) × (refusal ≡ r))) (sym e) (same, refl)

  module _ (passed : refused_first (tests limits st s Pull) ≡ None) where
    pub refuses-asked : (refusal : Refusal) (asked : Result PlainFresh FreshFault) → AsksFresh (cloned_count st.payloads) first left asked → RefusesFresh limits st asked refusal → RefusesPull limits st s first left refusal
    refuses-asked refusal asked a r = subst (λ o. MatchOption o (Asked refusal) (λ r. (left ≡ first) × (refusal ≡ r))) (sym passed) (asked, a, r)

    -- what was planned by what was told
    pub told-prepared : {X : Type 0} (change : X → Change) (fresh : PlainFresh) (result : Result X Refusal) → AsksFresh (cloned_count st.payloads) first left (Ok fresh)
        → MatchResult result (λ x. PlansTold limits st fresh (change x)) (RefusesTold limits st fresh)
        → MatchResult result (λ x. PlansPull limits st s first left (change x)) (RefusesPull limits st s first left)
    told-prepared change fresh (Ok x) a p = (fresh, record { passed = passed; asks = a; agrees = p.0; fits = λ m. (p.1 m).0 }, λ m. (p.1 m).1)
    told-prepared change fresh (Err refusal) a p = refuses-asked refusal (Ok fresh) a p

-- ---- the plan

pub may-pull-on : (log : Held) (tables : PlainTables) (bytes : List ℕ) (fresh : PlainFresh) (added : List Placed) → AreOver log tables added → bytes ≡ log_bytes log → first_broken fresh.cloned ≡ None
    → length fresh.names ≡ count_from (cloned_count (payloads_of added)) fresh.cloned → MayPullOn tables bytes fresh added
may-pull-on log tables bytes fresh added v all unbroken count = record { tables_of = v.tables_of; stand = subst (λ l. AllStand l added) (sym all) v.stand; unbroken = unbroken; count = count }

first-of-none : (a b : Option PlanFault) → a ≡ None → first_fault a b ≡ b
first-of-none a b e = ap (λ z. first_fault z b) e

conflict-is : (o : Option Name) → option_map refusal_of (conflict_fault o) ≡ option_map why.Conflict o
conflict-is None = refl
conflict-is (Some name) = refl

module _ (limits : Limits) (log : Held) (tables : PlainTables) (bytes : List ℕ) (fresh : PlainFresh) (added : List Placed) (may : MayPullOn tables bytes fresh added) (began s : ℕ) (x : PlainSession) (st : Stored)
    (o : IsOn began added x st s) (size : length bytes ≡ log_length (map text_of st.payloads)) (fits : length bytes ≤ limits.log) where
  abbrev rows : List (Row Name)
  rows = rows_told st fresh

  abbrev pub may-pull : AreMaster (rows_told st fresh) → MayPull tables bytes fresh st.stored (rows_told st fresh)
  may-pull theirs = record {
    added = added;
    may = may;
    stand_for = subst (λ l. StandFor l st.stored) (sym o.payloads) o.hold.stand;
    world = o.hold.world;
    rows_are = ap (λ l. told_rows st.stored (cloned_count l) fresh) (sym o.payloads);
    theirs = theirs;
  }

  agrees-so : (found : Option PlanFault) → mismatch added fresh ≡ found → mismatch_of st.payloads fresh ≡ found
  agrees-so found e = subst (λ l. mismatch_of l fresh ≡ found) o.payloads e

  -- the plan's refusal is the step's, where nothing disagrees
  refusal-is : mismatch added fresh ≡ None → option_map refusal_of (pull_refusal limits (length bytes) added fresh st.stored rows (pull_of st rows) (payload_to st (pull_of st rows))) ≡ first_some (pull_tests limits st (master_world rows))
  refusal-is none =
      let new = pull_of st rows in
      let log_is : Option Refusal = full Log limits.log (log_after st new (flush_change st.stored new)) in
      ap (option_map refusal_of) (first-of-none (mismatch added fresh) _ none)
      ∙ mapped-first (conflict_fault (first_conflict same_name st.stored rows)) (first_fault (over limits.master (length new.master) Master) (over limits.log (length_with (length bytes) (payload_to st new)) Log))
      (option_map why.Conflict (first_conflict same_name st.stored rows)) (full Master limits.master (length new.master) ∷ log_is ∷ []) (conflict-is (first_conflict same_name st.stored rows))
      (mapped-first (over limits.master (length new.master) Master) (over limits.log (length_with (length bytes) (payload_to st new)) Log) (full Master limits.master (length new.master)) (log_is ∷ [])
      (over-full Master limits.master (length new.master)) (log-test st new limits (length bytes) size fits ∙ sym (only-first log_is)))

  pub plans-told : (change : Change) → mismatch added fresh ≡ None
      → ((m : AreMaster (rows_told st fresh)) → (pull_refusal limits (length bytes) added fresh st.stored (rows_told st fresh) (pull_of st (rows_told st fresh)) (payload_to st (pull_of st (rows_told st fresh))) ≡ None)
      × IsPlanOf change st.stored (pull_of st (rows_told st fresh)) (payload_to st (pull_of st (rows_told st fresh)))) → PlansTold limits st fresh change
  plans-told change none plan = (
    agrees-so None none,
    λ m. let p = plan m in (
      sym (refusal-is none) ∙ ap (option_map refusal_of) p.0,
      record { payload = payload_to st (pull_of st rows); plan = p.1; change_of = change-to st (pull_of st rows) },
    ),
  )

  pub refuses-told : (fault : PlanFault) → (fault ≡ faults.Memory) ⊎ ((mismatch added fresh ≡ None) ⊎ (mismatch added fresh ≡ Some fault))
      → ((m : AreMaster (rows_told st fresh)) → (fault ≡ faults.Memory) ⊎ (pull_refusal limits (length bytes) added fresh st.stored (rows_told st fresh) (pull_of st (rows_told st fresh)) (payload_to st (pull_of st (rows_told st fresh))) ≡ Some fault))
      → RefusesTold limits st fresh (refusal_of fault)
  refuses-told fault which plan = ⊎_elim (λ m. inl (ap refusal_of m)) (λ other. ⊎_elim (λ m. inl (ap refusal_of m)) (λ told. ⊎_elim
      (λ none. inr (inr (agrees-so None none, λ m. ⊎_elim (λ e. absurd (other (ap refusal_of e))) (λ e. sym (refusal-is none) ∙ ap (option_map refusal_of) e) (plan m))))
      (λ some. inr (inl (ap (option_map refusal_of) (agrees-so (Some fault) some)))) told) which) (plan-memory fault)
