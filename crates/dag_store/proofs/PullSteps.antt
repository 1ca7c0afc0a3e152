-- From what was planned of a pull, and how it ended, to the step of a state and to what the mirrors told.
use Rattle.std.proofs.Common.{◌≡◌, ◌<◌, ◌≤◌, inl, inr, ℕ, zero, suc, Bool, true, false, not, List, [], ◌∷◌, ◌++◌, length, take, drop, set, Option, Some, None, Ok, Err, MatchOption, refl, sym, ap, ap₂, subst, ◌∙◌, arith, length-append, le_trans, true≢false, is_some, if◌then◌else◌}
use Rattle.std.specs.Prelude.{Result, MatchResult, ⊤}
use Rattle.std.specs.Option.{option_map}
use Rattle.std.proofs.lemmas.List.Sums.{count_by-le-length, length-filter}
use Rattle.id_groups.specs.Lists.{is_in}
use Rattle.id_groups.specs.Name.{Name, same_name}
use Rattle.commit_graph.specs.World.{Row, World, rows_of, names_of}
use Rattle.disk_trait.specs.Images.{Told}
use Rattle.disk_trait.specs.Calls.{Goes}
use Rattle.gated_log.specs.Held.{Held}
use Rattle.batch_codec.specs.Payload.{Payload}
use Rattle.remote_rules.specs.Clones.{IsCloneOf}
use Rattle.remote_rules.specs.Known.{master_world}
use Rattle.remote_rules.specs.Mirror.{Mirror}
use Rattle.remote_rules.specs.Calls.{IsPulled}
use Rattle.remote_rules.specs.declared.MirrorFault.TheVariants as ask
use Rattle.remote_trait.specs.Calls.{AreMaster}
use Rattle.mirror_set.specs.Fresh.{AsksFresh, GaveBroken, GaveFew, IsItsFresh, PlainFresh}
use Rattle.mirror_set.specs.declared.fresh.FreshFault.{FreshFault}
use Rattle.mirror_set.specs.declared.fresh.FreshFault.TheVariants as fresh_faults
use Rattle.mirror_set.proofs.Pulled.{fresh-ruled}
use Rattle.change_rules.specs.declared.Limits.{Limits}
use Rattle.change_rules.specs.declared.Limit.TheVariants as limit
use Rattle.change_rules.specs.Standard.{AreLimits}
use Rattle.change_rules.specs.Change.{text_of, flush_change}
use Rattle.change_rules.specs.Flush.{rows_outside}
use Rattle.change_rules.specs.Holding.{HoldPayloads}
use Rattle.change_rules.specs.Pull.{pulled}
use Rattle.change_rules.specs.Rebase.{first_conflict}
use Rattle.change_rules.specs.Tables.{cloned_count}
use Rattle.change_rules.proofs.Held.{change-held}
use Rattle.payload_tables.specs.Kept.{PlainTables}
use Rattle.change_parts.specs.declared.change.Change.{Change}
use Rattle.change_parts.specs.Plans.{IsChangeOf}
use Rattle.step_rules.specs.declared.Refusal.{Refusal}
use Rattle.step_rules.specs.declared.Refusal.TheVariants as why
use Rattle.step_rules.specs.State.{State, Stored, IsStore, with_stored, on_newest}
use Rattle.step_rules.specs.Verb.{Pull}
use Rattle.step_rules.specs.Reply.{Reply, Pulled, Refused}
use Rattle.step_rules.specs.Worlds.{after_flush, log_after, same_world}
use Rattle.step_rules.specs.Tests.{first_some, full, refused_first, tests}
use Rattle.step_rules.specs.Asking.{TriesAll}
use Rattle.step_rules.specs.Step.{CommandStep, AnsweredFirst, GoesOutside, IsRefused, Pulls, TakesFrom, pull_tests}
use Rattle.step_rules.proofs.Held.{held-sizes, within-limit}
use Rattle.step_rules.proofs.Kept.{step-state}
use Rattle.step_rules.proofs.Plain.{all-tries}
use Rattle.step_rules.proofs.Steps.{first-none-cons, pulled-world}
use Rattle.store_plans.specs.declared.changing.Next.{Next}
use Rattle.dag_store.specs.declared.replies.Changed.{Changed as Ended}
use Rattle.dag_store.specs.declared.replies.Changed.TheVariants as ends
use Rattle.store_plans.specs.Sessions.{PlainSession}
use Rattle.dag_store.specs.Kept.{PlainStore, IsKept, sixteen}
use Rattle.dag_store.specs.Stands.{IsOutsideOf, Stands, StandsBeside}
use Rattle.store_plans.specs.Changes.{HasRoom, IsPlanTo, IsPrepared, refusal_of}
use Rattle.dag_store.specs.Changes.{ChangeLeaves, StoresBy}
use Rattle.dag_store.specs.Finishes.{FinishesAs, Finishes, payload_in}
use Rattle.dag_store.specs.Clones.{beside}
use Rattle.dag_store.specs.Pulls.{AllBeginWith, PullAnswers, PullStep, pull_end}
use Rattle.store_plans.specs.PullPlans.{PlansPull, RefusesFresh, RefusesPull, RefusesTold, TakesFresh, fresh_refusal, mismatch_of, pull_of, rows_told}
use Rattle.store_plans.proofs.ChangeSizes.{worlds-decided}
use Rattle.dag_store.proofs.FlushStored.{on-of, stands-room}
use Rattle.dag_store.proofs.StandsChanged.{stands-as-before, stands-changed}
use Rattle.dag_store.proofs.PullTold.{gives-clone, gives-names, never-gave-broken, never-gave-few, next-tells}

-- ---- the new world

none-long : {X : Type 0} (xs : List X) → length xs ≡ 0 → xs ≡ []
none-long [] e = refl
none-long (x ∷ xs) e = absurd (omega (arith, e))

all-outside : (rows : List (Row Name)) → rows_outside same_name rows [] ≡ rows
all-outside [] = refl
all-outside (row ∷ rows) = ap (λ l. row ∷ l) (all-outside rows)

-- a pull that leaves nothing found nothing
pulled-none : (w r : World Name) → length (rows_of (pulled same_name w r)) ≡ 0 → pulled same_name w r ≡ w
pulled-none w r e =
    let new = pulled same_name w r in
    let l = length-append new.master new.others in
    let m = none-long new.master (omega (arith, e, l)) in
    let o = none-long new.others (omega (arith, e, l)) in
    let k = ap length m in
    let j = length-append w.master (rows_outside same_name r.master (names_of w.master)) in
    let before = none-long w.master (omega (arith, k, j)) in
    ap₂ {C = World Name} (λ a b. record { master = a; others = b }) (m ∙ sym before) (o ∙ sym (sym (all-outside w.others) ∙ sym (ap (λ z. rows_outside same_name w.others (names_of z)) m) ∙ o))

some-rows : (w r : World Name) → same_world (pulled same_name w r) w ≡ false → 0 < length (rows_of (pulled same_name w r))
some-rows w r differs = by_length (length (rows_of (pulled same_name w r))) refl
  where
    by_length : (n : ℕ) → length (rows_of (pulled same_name w r)) ≡ n → 0 < n
    by_length zero e = absurd (true≢false (sym ((worlds-decided (pulled same_name w r) w).1 (pulled-none w r e)) ∙ differs))
    by_length (suc n) e = omega arith

module _ (limits : Limits) (fair : AreLimits limits) (st : Stored) (s : ℕ) (state : IsStore st) (hold : HoldPayloads st.payloads st.stored) (rows : List (Row Name)) (named : AreMaster rows)
    (none : first_some (pull_tests limits st (master_world rows)) ≡ None) where
  pub pull-holds : same_world (pull_of st rows) st.stored ≡ false → HoldPayloads (st.payloads ++ flush_change st.stored (pull_of st rows) ∷ []) (pull_of st rows)
  pull-holds differs =
      let w = st.stored in
      let new = pull_of st rows in
      let master : Option Refusal = full limit.Master limits.master (length new.master) in
      let log : Option Refusal = full limit.Log limits.log (log_after st new (flush_change w new)) in
      let a = first-none-cons (option_map why.Conflict (first_conflict same_name w rows)) (master ∷ log ∷ []) none in
      let b = first-none-cons master (log ∷ []) a.1 in
      let sizes = held-sizes st.payloads w hold in
      let outside = (λ (row : Row Name). not (is_in same_name row.name (names_of new.master))) in
      let n = length-filter outside w.others in let m = count_by-le-length outside w.others in
      let fewer : length new.others ≤ length w.others = omega (arith, n, m) in
      change-held st.payloads w new hold (pulled-world st s state (master_world rows) named) (_, refl) (le_trans (within-limit limit.Master limits.master (length new.master) b.0) fair.master.1)
      (le_trans fewer sizes.1) (some-rows w (master_world rows) differs)

-- ---- steps

-- What an honest mirror that begins with the cloned commits tells, and what is told of it, agrees with the log.
abbrev pub Agrees : Stored → Type 0
Agrees st =
    (rows : List (Row Name)) (fresh : PlainFresh) (more : List (Row Name)) → AreMaster rows → rows ≡ take (cloned_count st.payloads) st.stored.master ++ more → IsCloneOf rows fresh.cloned
    → fresh.names ≡ names_of (drop (cloned_count st.payloads) rows) → (rows_told st fresh ≡ rows) × (mismatch_of st.payloads fresh ≡ None)

-- what is outside afterwards
goes : (st : State) (now : Stored) (left : List Mirror) → GoesOutside st.outside left [] (beside st now left).outside
goes st now left = record { mirrors_are = refl; room = refl; cache = refl }

module _ (limits : Limits) (st : State) (s : ℕ) (agree : Agrees st.store) (begin : AllBeginWith st.store st.outside.mirrors) where
  abbrev first : List Mirror
  first = st.outside.mirrors

  abbrev cloned : ℕ
  cloned = cloned_count st.store.payloads

  -- the test of the session, which asks nothing
  tried : (o : Option Refusal) → refused_first (tests limits st.store s Pull) ≡ o → TriesAll ⊤ st.outside.mirrors (tests limits st.store s Pull) o st.outside.mirrors []
  tried o e = subst (λ v. TriesAll ⊤ st.outside.mirrors (tests limits st.store s Pull) v st.outside.mirrors []) e (all-tries ⊤ st.outside.mirrors (tests limits st.store s Pull) ((refl, refl), tt))

  -- behind it, the ask
  taken : (reply : Reply) (now : Stored) (left : List Mirror) → refused_first (tests limits st.store s Pull) ≡ None → TakesFrom (IsPulled cloned) (Pulls limits st.store s) st st.outside.mirrors [] reply (beside st now left)
      → CommandStep limits st s Pull reply (beside st now left)
  taken reply now left e t = (None, st.outside.mirrors, [], tried None e, t)

  -- what was told is told rightly
  told-rightly : (left : List Mirror) (fresh : PlainFresh) → AsksFresh cloned first left (Ok fresh)
      → (rows : List (Row Name)) × AnsweredFirst left rows × AreMaster rows × (rows_told st.store fresh ≡ rows) × (mismatch_of st.store.payloads fresh ≡ None)
  told-rightly left fresh a =
      let n = next-tells cloned st.store.stored first left begin (IsItsFresh cloned fresh) a in
      let t = n.1 in
      let g = agree n.0 fresh t.more t.master t.begins (gives-clone fresh.cloned a.next n.0 t.tells a.right.clone) (gives-names cloned fresh a.next n.0 t.tells t.master a.right) in
      (n.0, n.2, t.master, g.0, g.1)

  refused-told : (left : List Mirror) (fresh : PlainFresh) (refusal : Refusal) → AsksFresh cloned first left (Ok fresh) → RefusesTold limits st.store fresh refusal
      → TakesFrom (IsPulled cloned) (Pulls limits st.store s) st st.outside.mirrors [] (Refused refusal) (beside st st.store left)
  refused-told left fresh refusal a r =
      let by = told-rightly left fresh a in
      (None, left, fresh-ruled cloned first left (Ok fresh) a, goes st st.store left, (by.0, by.1, makes by.0 by.2 by.3 by.4 r))
    where
      makes : (rows : List (Row Name)) → AreMaster rows → rows_told st.store fresh ≡ rows → mismatch_of st.store.payloads fresh ≡ None → RefusesTold limits st.store fresh refusal → Pulls limits st.store s (master_world rows) (Refused refusal) st.store
      makes rows master same none (inl m) = inr (ap Refused m, refl)
      makes rows master same none (inr (inl some)) = absurd (true≢false (ap is_some (sym some ∙ ap (option_map refusal_of) none)))
      makes rows master same none (inr (inr f)) =
          let e : first_some (pull_tests limits st.store (master_world rows)) ≡ Some refusal =
          subst (λ l. first_some (pull_tests limits st.store (master_world l)) ≡ Some refusal) same (f.1 (subst AreMaster (sym same) master)) in
          inl (subst (λ o. MatchOption o ((Refused refusal ≡ Pulled (length (pull_of st.store rows).master) (length (pull_of st.store rows).others)) × (st.store ≡ pull_end st.store s rows)) (λ q. IsRefused st.store q (Refused refusal) st.store)) (sym e) (refl, refl))

  refused-asked : (left : List Mirror) (fault : FreshFault) (refusal : Refusal) → AsksFresh cloned first left (Err fault) → refusal ≡ fresh_refusal fault
      → TakesFrom (IsPulled cloned) (Pulls limits st.store s) st st.outside.mirrors [] (Refused refusal) (beside st st.store left)
  refused-asked left fresh_faults.NoRemote refusal a q = (Some ask.NoRemote, left, fresh-ruled cloned first left (Err fresh_faults.NoRemote) a, goes st st.store left, (ap Refused q, refl))
  refused-asked left (fresh_faults.AllFailed n) refusal a q = (Some (ask.AllFailed n), left, fresh-ruled cloned first left (Err (fresh_faults.AllFailed n)) a, goes st st.store left, (ap Refused q, refl))
  refused-asked left (fresh_faults.BadClone at) refusal a q =
      let n = next-tells cloned st.store.stored first left begin (GaveBroken at) a in
      absurd (never-gave-broken at a.next n.0 n.1.tells n.1.master a.right)
  refused-asked left (fresh_faults.BadNames asked given) refusal a q =
      let n = next-tells cloned st.store.stored first left begin (GaveFew asked given) a in
      absurd (never-gave-few asked given a.next n.0 n.1.tells n.1.master a.right)
  refused-asked left fresh_faults.Memory refusal a q = (Some ask.Memory, left, fresh-ruled cloned first left (Err fresh_faults.Memory) a, goes st st.store left, (ap Refused q, refl))

  pub refused-step : (left : List Mirror) (refusal : Refusal) → RefusesPull limits st.store s st.outside.mirrors left refusal → CommandStep limits st s Pull (Refused refusal) (beside st st.store left)
  refused-step left refusal r = by_test (refused_first (tests limits st.store s Pull)) refl r
    where
      asked-step : refused_first (tests limits st.store s Pull) ≡ None → (asked : Result PlainFresh FreshFault) → AsksFresh cloned first left asked → RefusesFresh limits st.store asked refusal → CommandStep limits st s Pull (Refused refusal) (beside st st.store left)
      asked-step e (Ok fresh) a q = taken (Refused refusal) st.store left e (refused-told left fresh refusal a q)
      asked-step e (Err fault) a q = taken (Refused refusal) st.store left e (refused-asked left fault refusal a q)

      by_test : (o : Option Refusal) → refused_first (tests limits st.store s Pull) ≡ o
          → MatchOption o ((asked : Result PlainFresh FreshFault) × AsksFresh cloned first left asked × RefusesFresh limits st.store asked refusal) (λ q. (left ≡ st.outside.mirrors) × (refusal ≡ q))
          → CommandStep limits st s Pull (Refused refusal) (beside st st.store left)
      by_test None e q = asked-step e q.0 q.1 q.2
      by_test (Some why_not) e q = (Some why_not, st.outside.mirrors, [], tried (Some why_not) e, ((ap Refused q.1, refl), record { mirrors_are = q.0; room = refl; cache = refl }))

  -- the rows that were told, and the step that takes them
  pub told-step : (left : List Mirror) (fresh : PlainFresh) → TakesFresh limits st.store s st.outside.mirrors left fresh
      → (rows : List (Row Name)) × AnsweredFirst left rows × AreMaster rows × (rows_told st.store fresh ≡ rows) × (first_some (pull_tests limits st.store (master_world rows)) ≡ None)
      × ((m n : ℕ) → m ≡ length (pull_of st.store rows).master → n ≡ length (pull_of st.store rows).others → CommandStep limits st s Pull (Pulled m n) (beside st (pull_end st.store s rows) left))
  told-step left fresh t =
      let by = told-rightly left fresh t.asks in
      let rows = by.0 in
      let same : first_some (pull_tests limits st.store (master_world rows)) ≡ None = subst (λ l. first_some (pull_tests limits st.store (master_world l)) ≡ None) by.3 (t.fits (subst AreMaster (sym by.3) by.2)) in (
        rows,
        by.1,
        by.2,
        by.3,
        same,
        λ m n em en. taken (Pulled m n) (pull_end st.store s rows) left t.passed (
          None,
          left,
          fresh-ruled cloned first left (Ok fresh) t.asks,
          goes st (pull_end st.store s rows) left,
          (
            rows,
            by.1,
            inl (subst (λ o. MatchOption o ((Pulled m n ≡ Pulled (length (pull_of st.store rows).master) (length (pull_of st.store rows).others)) × (pull_end st.store s rows ≡ pull_end st.store s rows)) (λ q. IsRefused st.store q (Pulled m n) (pull_end st.store s rows))) (sym same)
                (ap₂ {C = Reply} (λ a b. Pulled a b) em en, refl)),
          ),
        ),
      )

-- ---- how it ends

-- what was planned is what is answered by what the mirrors told
module _ (kept : PlainStore) (s : ℕ) (first left : List Mirror) where
  abbrev limits : Limits
  limits = kept.limits

  finished-answers : (st : Stored) (reserved : Held) (sessions : List PlainSession) (change : Change) → PlansPull limits st s first left change → (end : Ended) → Finishes reserved sessions limits kept.cache change end
      → PullAnswers limits st s first left change.payload end
  finished-answers st reserved sessions change p (ends.Done store counts None) f = (p.0, p.1, λ m. let q = p.2 m in (subst (IsChangeOf st.stored (pull_of st (rows_told st p.0))) (sym q.plan.payload_is) q.change_of, f.2.0 ∙ q.plan.master, f.2.1 ∙ q.plan.others))
  finished-answers st reserved sessions change p (ends.Done store counts (Some clock)) f = (p.0, p.1, λ m. let q = p.2 m in (subst (IsChangeOf st.stored (pull_of st (rows_told st p.0))) (sym q.plan.payload_is) q.change_of, f.3.0 ∙ q.plan.master, f.3.1 ∙ q.plan.others))
  finished-answers st reserved sessions change p (ends.Refused same refusal) f = absurd f
  finished-answers st reserved sessions change p (ends.Disk fault) f = (p.0, p.1, λ m. let q = p.2 m in subst (IsChangeOf st.stored (pull_of st (rows_told st p.0))) (sym q.plan.payload_is) q.change_of)

module _ (began : ℕ) (kept : PlainStore) (tables : PlainTables) (k : IsKept kept.log tables kept.sessions kept.limits) (first : List Mirror) (st : State) (h : StandsBeside began kept first st) (s : ℕ) (small : s < sixteen)
    (agree : Agrees st.store) (begin : AllBeginWith st.store st.outside.mirrors) (left : List Mirror) where
  -- a store that stands for what is stored after the step stands for the state, since the names that are kept stay
  after : (new : PlainStore) (reply : Reply) (now : Stored) → new.cache ≡ kept.cache → Stands began new now → CommandStep kept.limits st s Pull reply (beside st now left) → StandsBeside began new left (beside st now left)
  after new reply now is stands step =
      let state = step-state kept.limits st s (record { store = h.stored.state; outside = h.outside_of.outside }) Pull reply (beside st now left) tt step in
      record {
        stored = stands;
        outside_of = subst (λ c. IsOutsideOf c left (beside st now left)) (sym is) (record {
          has = h.outside_of.has;
          once = h.outside_of.once;
          fits = h.outside_of.fits;
          room = h.outside_of.room;
          mirrors_are = refl;
          outside = state.outside;
        });
      }

  pub pull-refused : (reserved : Held) → HasRoom kept.log reserved → (same : PlainStore) → same ≡ record { log = reserved; sessions = kept.sessions; limits = kept.limits; cache = kept.cache } → (payload : List ℕ) (refusal : Refusal)
      → RefusesPull kept.limits st.store s st.outside.mirrors left refusal → PullStep began kept left st s payload (ends.Refused same refusal)
  pull-refused reserved room same is payload refusal r =
      let step = refused-step kept.limits st s agree begin left refusal r in (
        step,
        after same (Refused refusal) st.store (ap (λ (v : PlainStore). v.cache) is)
            (subst (λ v. Stands began v st.store) (sym is) (stands-room began kept.log reserved kept.sessions kept.limits st.store (ap (λ (l : Held). l.payloads) room) h.stored)) step,
      )

  module _ (reserved : Held) (later : PlainTables) (change : Change) (x : PlainSession) (p : IsPrepared kept.limits kept.log reserved tables later k.added change x) (room : HasRoom kept.log reserved)
      (planned : PlansPull kept.limits st.store s st.outside.mirrors left change) where
    told : (rows : List (Row Name)) × AnsweredFirst left rows × AreMaster rows × (rows_told st.store planned.0 ≡ rows) × (first_some (pull_tests kept.limits st.store (master_world rows)) ≡ None)
        × ((m n : ℕ) → m ≡ length (pull_of st.store rows).master → n ≡ length (pull_of st.store rows).others → CommandStep kept.limits st s Pull (Pulled m n) (beside st (pull_end st.store s rows) left))
    told = told-step kept.limits st s agree begin left planned.0 planned.1

    module _ (rows : List (Row Name)) (master : AreMaster rows) (same : rows_told st.store planned.0 ≡ rows) (none : first_some (pull_tests kept.limits st.store (master_world rows)) ≡ None) where
      abbrev new : World Name
      new = pull_of st.store rows

      plan : IsPlanTo st.store new change
      plan = subst (λ l. IsPlanTo st.store (pull_of st.store l) change) same (planned.2 (subst AreMaster (sym same) master))

      abbrev new_payload : Payload
      new_payload = flush_change st.store.stored new

      choice : (c : Bool) → same_world new st.store.stored ≡ c → after_flush st.store s new ≡ (if c then on_newest st.store s [] else on_newest (with_stored st.store new (flush_change st.store.stored new)) s [])
      choice c e = ap (λ (t : Bool). if t then on_newest st.store s [] else on_newest (with_stored st.store new (flush_change st.store.stored new)) s []) e

      -- nothing is stored
      module _ (stays : change.same ≡ true) where
        end-same : after_flush st.store s new ≡ on_newest st.store s []
        end-same = choice true ((worlds-decided new st.store.stored).1 (plan.plan.same.0 stays))

        stands-same : Stands began (record { log = reserved; sessions = set kept.sessions s x; limits = kept.limits; cache = kept.cache }) (after_flush st.store s new)
        stands-same = subst (Stands began (record { log = reserved; sessions = set kept.sessions s x; limits = kept.limits; cache = kept.cache })) (sym end-same)
            (stands-as-before began kept tables k st.store h.stored s small reserved later change x p room stays)

      -- the payload is stored
      module _ (changes : change.same ≡ false) where
        differs : new ≡ st.store.stored → ⊥
        differs e = true≢false (sym (plan.plan.same.1 e) ∙ changes)

        is-new : same_world new st.store.stored ≡ false
        is-new = by_test (same_world new st.store.stored) refl
          where
            by_test : (c : Bool) → same_world new st.store.stored ≡ c → same_world new st.store.stored ≡ false
            by_test true e = absurd (differs ((worlds-decided new st.store.stored).0 e))
            by_test false e = e

        text-is : change.payload ≡ text_of new_payload
        text-is = plan.plan.payload_is ∙ plan.change_of.some differs

        end-new : after_flush st.store s new ≡ on_newest (with_stored st.store new new_payload) s []
        end-new = choice false is-new

        stores : StoresBy st.store s new change.payload
        stores = record {
          past = ap (λ (z : Stored). z.past) end-new;
          payloads = ap (λ (z : Stored). z.payloads) end-new;
          text = text-is;
        }

        holds : HoldPayloads st.store.payloads st.store.stored
        holds = (on-of kept.log tables kept.sessions kept.limits k began st.store h.stored s small).hold

        stands-new : (log : Held) → log.payloads ≡ reserved.payloads ++ change.payload ∷ []
            → Stands began (record { log = log; sessions = set kept.sessions s x; limits = kept.limits; cache = kept.cache }) (after_flush st.store s new)
        stands-new log is =
            subst (Stands began (record { log = log; sessions = set kept.sessions s x; limits = kept.limits; cache = kept.cache })) (sym end-new)
            (stands-changed began kept tables k st.store h.stored s small reserved later change x p room new new_payload changes text-is
            (pulled-world st.store s h.stored.state (master_world rows) master) (_, refl)
            (pull-holds kept.limits k.limits_fit st.store s h.stored.state holds rows master none is-new) log is)

    pub pull-finished : (end : Ended) → Finishes reserved (set kept.sessions s x) kept.limits kept.cache change end → PullStep began kept left st s change.payload end
    pull-finished (ends.Done store counts None) f =
        let t = told in
        let q = plan t.0 t.2 t.3 t.4 in
        let step = t.5 counts.master counts.others (f.2.0 ∙ q.plan.master) (f.2.1 ∙ q.plan.others) in (
          t.0,
          t.1,
          step,
          after store (Pulled counts.master counts.others) (pull_end st.store s t.0) (ap (λ (v : PlainStore). v.cache) f.1) (subst (λ v. Stands began v (pull_end st.store s t.0)) (sym f.1) (stands-same t.0 t.2 t.3 t.4 f.0)) step,
          (ap (λ (z : Stored). z.past) (end-same t.0 t.2 t.3 t.4 f.0), ap (λ (z : Stored). z.payloads) (end-same t.0 t.2 t.3 t.4 f.0)),
        )
    pull-finished (ends.Done store counts (Some clock)) f =
        let t = told in
        let q = plan t.0 t.2 t.3 t.4 in
        let step = t.5 counts.master counts.others (f.3.0 ∙ q.plan.master) (f.3.1 ∙ q.plan.others) in (
          t.0,
          t.1,
          step,
          after store (Pulled counts.master counts.others) (pull_end st.store s t.0) (ap (λ (v : PlainStore). v.cache) f.1) (subst (λ v. Stands began v (pull_end st.store s t.0)) (sym f.1) (stands-new t.0 t.2 t.3 t.4 f.0 store.log f.2)) step,
          stores t.0 t.2 t.3 t.4 f.0,
        )
    pull-finished (ends.Refused same refusal) f = absurd f
    pull-finished (ends.Disk fault) f =
        let t = told in (t.0, t.1, t.5 (length (pull_of st.store t.0).master) (length (pull_of st.store t.0).others) refl refl, stores t.0 t.2 t.3 t.4 f)

-- what was prepared, or refused, ends so
abbrev Answers : PlainStore → ℕ → List Mirror → List Mirror → Ended → Option Told → Option Told → Type 0
Answers q s first left end a b =
    (payload : List ℕ) × Goes (ChangeLeaves q payload end) a b
    × ((began : ℕ) (st : State) → StandsBeside began q first st → AllBeginWith st.store first → PullStep began q left st s payload end)
    × ((began : ℕ) (st : Stored) → Stands began q st → PullAnswers q.limits st s first left payload end)

module _ (kept q : PlainStore) (is : kept ≡ q) (tables : PlainTables) (k : IsKept kept.log tables kept.sessions kept.limits) (s : ℕ) (small : s < sixteen) (first left : List Mirror)
    (agree : (began : ℕ) (st : Stored) → Stands began kept st → Agrees st) (reserved : Held) (room : HasRoom kept.log reserved) (a b : Option Told) where
  pull-done : (after : PlainTables) (ready : Next) → IsPrepared kept.limits kept.log reserved tables after k.added ready.change ready.session
      → ((began : ℕ) (st : Stored) → Stands began kept st → PlansPull kept.limits st s first left ready.change)
      → (end : Ended) → Finishes reserved (set kept.sessions s ready.session) kept.limits kept.cache ready.change end → Goes (ChangeLeaves kept ready.change.payload end) a b → Answers q s first left end a b
  pull-done after ready p asks end f goes_so = subst (λ v. Answers v s first left end a b) is (
    ready.change.payload,
    goes_so,
    λ began st h served.
        pull-finished began kept tables k first st h s small (agree began st.store h.stored) (subst (AllBeginWith st.store) (sym h.outside_of.mirrors_are) served) left reserved after ready.change ready.session p room
        (subst (λ l. PlansPull kept.limits st.store s l left ready.change) (sym h.outside_of.mirrors_are) (asks began st.store h.stored)) end f,
    λ began st h. finished-answers kept s first left st reserved (set kept.sessions s ready.session) ready.change (asks began st h) end f,
  )

  pull-not-done : (same : PlainStore) → same ≡ record { log = reserved; sessions = kept.sessions; limits = kept.limits; cache = kept.cache } → (refusal : Refusal)
      → ((began : ℕ) (st : Stored) → Stands began kept st → RefusesPull kept.limits st s first left refusal) → Goes (ChangeLeaves kept [] (ends.Refused same refusal)) a b
      → Answers q s first left (ends.Refused same refusal) a b
  pull-not-done same same_is refusal asks goes_so = subst (λ v. Answers v s first left (ends.Refused same refusal) a b) is (
    [],
    goes_so,
    λ began st h served.
        pull-refused began kept tables k first st h s small (agree began st.store h.stored) (subst (AllBeginWith st.store) (sym h.outside_of.mirrors_are) served) left reserved room same same_is [] refusal
        (subst (λ l. RefusesPull kept.limits st.store s l left refusal) (sym h.outside_of.mirrors_are) (asks began st.store h.stored)),
    λ began st h. asks began st h,
  )

  pub pull-ends : (after : PlainTables) (next : Result Next Refusal) → MatchResult next (λ ready. IsPrepared kept.limits kept.log reserved tables after k.added ready.change ready.session) (λ refusal. after ≡ tables)
      → ((began : ℕ) (st : Stored) → Stands began kept st → MatchResult next
      (λ ready. PlansPull kept.limits st s first left ready.change) (RefusesPull kept.limits st s first left))
      → (at : ℕ) → at ≡ s → (end : Ended) → FinishesAs reserved kept.sessions kept.limits kept.cache at next end → Goes (ChangeLeaves kept (payload_in next) end) a b
      → (payload : List ℕ) × Goes (ChangeLeaves q payload end) a b
      × ((began : ℕ) (st : State) → StandsBeside began q first st → AllBeginWith st.store first → PullStep began q left st s payload end)
      × ((began : ℕ) (st : Stored) → Stands began q st → PullAnswers q.limits st s first left payload end)
  pull-ends after (Ok ready) p asks at same end e goes_so = pull-done after ready p asks end (subst (λ n. Finishes reserved (set kept.sessions n ready.session) kept.limits kept.cache ready.change end) same e) goes_so
  pull-ends after (Err refusal) p asks at same end e goes_so =
      let handed : PlainStore = record { log = reserved; sessions = kept.sessions; limits = kept.limits; cache = kept.cache } in
      subst (λ z. Answers q s first left z a b) (sym e) (pull-not-done handed refl refusal asks (subst (λ z. Goes (ChangeLeaves kept [] z) a b) e goes_so))
