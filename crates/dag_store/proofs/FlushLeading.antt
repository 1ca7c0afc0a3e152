-- A reload of a store as it is seen, and a change to a new world, for each state that it stands for.
use Rattle.std.proofs.Common.{◌≡◌, ◌<◌, ℕ, List, length, set, Option, Some, None, Result, Ok, Err, sym, subst}
use Rattle.std.specs.Prelude.{IsErrAnd, MatchResult}
use Rattle.id_groups.specs.Name.{Name}
use Rattle.commit_graph.specs.World.{World}
use Rattle.disk_trait.specs.Images.{Told}
use Rattle.disk_trait.specs.Calls.{Goes}
use Rattle.gated_log.specs.Held.{Held}
use Rattle.change_rules.specs.declared.Limits.{Limits}
use Rattle.remote_rules.specs.Mirror.{Mirror}
use Rattle.lazy_names.specs.Cache.{PlainCache}
use Rattle.payload_tables.specs.Kept.{PlainTables}
use Rattle.payload_tables.specs.Pending.{HeldRow, HoldsRows}
use Rattle.step_rules.specs.declared.Refusal.{Refusal}
use Rattle.step_rules.specs.State.{State, Stored}
use Rattle.step_rules.specs.Tests.{tests}
use Rattle.step_rules.specs.Reply.{Reply}
use Rattle.step_rules.specs.Verb.{Verb, Reload}
use Rattle.store_plans.specs.declared.changing.Next.{Next}
use Rattle.dag_store.specs.declared.replies.Changed.{Changed}
use Rattle.store_plans.specs.Sessions.{PlainSession, IsSessionOf}
use Rattle.dag_store.specs.Kept.{PlainStore, IsKept, session_at, sixteen}
use Rattle.dag_store.specs.Stands.{IsAnswerable, Stands, StandsBeside}
use Rattle.store_plans.specs.Looking.{AreRight, AsksAlike, IsSoundCache, refusal_in}
use Rattle.dag_store.specs.Steps.{Leads, reload_reply}
use Rattle.dag_store.specs.Changes.{ChangeStep, ChangeLeaves}
use Rattle.store_plans.specs.Changes.{HasRoom, AreOver, IsOn, IsPrepared, PreparesChange, Reloads}
use Rattle.dag_store.specs.Finishes.{FinishesAs, payload_in}
use Rattle.dag_store.proofs.Leading.{right-now, sound-of}
use Rattle.dag_store.proofs.FlushStored.{on-of, over-of}
use Rattle.dag_store.proofs.ChangeSteps.{MakesWorld, change-ends}
use Rattle.dag_store.proofs.FlushSteps.{reload-done, reload-refused}

module _ (log : Held) (tables : PlainTables) (sessions : List PlainSession) (limits : Limits) (k : IsKept log tables sessions limits) (s : ℕ) (small : s < sixteen) (a b : PlainCache) (old new : List Mirror) where
  abbrev pub kept_with : PlainCache → PlainStore
  kept_with c = record { log = log; sessions = sessions; limits = limits; cache = c }

  module _ (q : PlainStore) (view : kept_with a ≡ q) (x : PlainSession) (there : x ≡ session_at sessions s) where
    pub over : AreOver log tables k.added
    over = over-of log tables sessions limits k

    pub of : IsSessionOf k.added x
    of = subst (IsSessionOf k.added) (sym there) (k.each s small)

    on-x : (began : ℕ) (st : Stored) → Stands began q st → IsOn began k.added x st s
    on-x began st h = subst (λ (y : PlainSession). IsOn began k.added y st s) (sym there) (on-of log tables sessions limits k began st (subst (λ v. Stands began v st) (sym view) h) s small)

    beside-kept : (began : ℕ) (st : State) → StandsBeside began q old st → StandsBeside began (kept_with a) old st
    beside-kept began st h = subst (λ v. StandsBeside began v old st) (sym view) h

    right-of : (began : ℕ) (st : State) → StandsBeside began q old st → IsAnswerable st → AreRight st.store.payloads st.store.stored old
    right-of began st h r = subst (AreRight st.store.payloads st.store.stored) h.outside_of.mirrors_are (right-now st r)

    module _ (sound : IsSoundCache a → IsSoundCache b) where
      sound-now : (began : ℕ) (st : State) → StandsBeside began q old st → IsSoundCache b
      sound-now began st h = sound (sound-of began (kept_with a) old st (beside-kept began st h))

      -- ---- a reload

      pub reload-leads-at : (y : PlainSession) (n at : ℕ) → at ≡ s → IsSessionOf k.added y × (y.payloads ≡ length k.added) → ((rows : List HeldRow) → HoldsRows y.pending rows → n ≡ length rows)
          → ((began : ℕ) (st : Stored) → IsOn began k.added x st s → Reloads limits st s old new a b (Ok y))
          → (began : ℕ) (st : State) → StandsBeside began q old st → IsAnswerable st → Leads began q.limits st s Reload (reload_reply (Ok n)) (record { log = log; sessions = set sessions at y; limits = limits; cache = b }) new
      reload-leads-at y n at is good len f began st h r =
          subst (λ (v : PlainStore). Leads began v.limits st s Reload (reload_reply (Ok n)) (record { log = log; sessions = set sessions at y; limits = limits; cache = b }) new) view
          (subst (λ m. Leads began limits st s Reload (reload_reply (Ok n)) (record { log = log; sessions = set sessions m y; limits = limits; cache = b }) new) (sym is)
          (reload-done began (kept_with a) tables k st old new b (beside-kept began st h) s small (right-of began st h r) (sound-now began st h) y n good len (f began st.store (on-x began st.store h.stored))))

      pub reload-refused-at : (result : Result ℕ Refusal) (refusal : Refusal) → IsErrAnd result (λ g. g ≡ refusal) → ((began : ℕ) (st : Stored) → IsOn began k.added x st s → Reloads limits st s old new a b (Err refusal))
          → (began : ℕ) (st : State) → StandsBeside began q old st → IsAnswerable st → Leads began q.limits st s Reload (reload_reply result) (kept_with b) new
      reload-refused-at (Ok v) refusal e f began st h r = absurd e
      reload-refused-at (Err g) refusal e f began st h r =
          subst (λ z. Leads began q.limits st s Reload (reload_reply (Err z)) (kept_with b) new) (sym e)
          (subst (λ (v : PlainStore). Leads began v.limits st s Reload (reload_reply (Err refusal)) (kept_with b) new) view
          (reload-refused began (kept_with a) tables k st old new b (beside-kept began st h) s small (right-of began st h r) (sound-now began st h) refusal (f began st.store (on-x began st.store h.stored))))

    pub reload-asks-at : (y : PlainSession) → ((began : ℕ) (st : Stored) → IsOn began k.added x st s → Reloads limits st s old new a b (Ok y))
        → (began : ℕ) (st : Stored) → Stands began q st → AsksAlike st.payloads st.stored (tests q.limits st s Reload) old new None
    reload-asks-at y f began st h = let t = (f began st (on-x began st h)).tried in (t.gained, t.told)

    pub reload-asks-refused-at : (result : Result ℕ Refusal) (refusal : Refusal) → IsErrAnd result (λ g. g ≡ refusal) → ((began : ℕ) (st : Stored) → IsOn began k.added x st s → Reloads limits st s old new a b (Err refusal))
        → (began : ℕ) (st : Stored) → Stands began q st → AsksAlike st.payloads st.stored (tests q.limits st s Reload) old new (refusal_in result)
    reload-asks-refused-at (Ok v) refusal e f began st h = absurd e
    reload-asks-refused-at (Err g) refusal e f began st h =
        subst (λ z. AsksAlike st.payloads st.stored (tests q.limits st s Reload) old new (Some z)) (sym e) (let t = (f began st (on-x began st h)).tried in (t.gained, t.told))

    -- ---- a change to a new world

    module _ (verb : Verb) (sizes : ℕ → ℕ → Reply) (new_of : Stored → World Name) (can : (began : ℕ) (st : State) → IsOn began k.added x st.store s → MakesWorld limits st s verb sizes (new_of st.store))
        (reserved : Held) (room : HasRoom log reserved) (told then : Option Told) where
      abbrev Answers : PlainStore → Changed → Type 0
      Answers v end = (payload : List ℕ) × Goes (ChangeLeaves v payload end) told then
          × ((began : ℕ) (st : State) → StandsBeside began v old st → IsAnswerable st → ChangeStep began v st s verb sizes (new_of st.store) new payload end)

      pub change-ends-at : (sound : IsSoundCache a → IsSoundCache b) (after : PlainTables) (next : Result Next Refusal)
          → MatchResult next (λ ready. IsPrepared limits log reserved tables after k.added ready.change ready.session) (λ refusal. after ≡ tables)
          → ((began : ℕ) (st : Stored) → IsOn began k.added x st s → PreparesChange limits st s verb (new_of st) old new a b next)
          → (at : ℕ) → at ≡ s → (end : Changed) → FinishesAs reserved sessions limits b at next end → Goes (ChangeLeaves (kept_with a) (payload_in next) end) told then
          → (payload : List ℕ) × Goes (ChangeLeaves q payload end) told then × ((began : ℕ) (st : State) → StandsBeside began q old st → IsAnswerable st → ChangeStep began q st s verb sizes (new_of st.store) new payload end)
      change-ends-at sound after next p f at is end ends leaves = subst (λ v. Answers v end) view (
        payload_in next,
        leaves,
        λ began st h r.
            let o = subst (λ (y : PlainSession). IsOn began k.added y st.store s) (sym there) (on-of log tables sessions limits k began st.store h.stored s small) in
            change-ends began (kept_with a) tables k st old new b h s small (subst (AreRight st.store.payloads st.store.stored) h.outside_of.mirrors_are (right-now st r)) (sound (sound-of began (kept_with a) old st h))
            verb sizes (new_of st.store) (can began st o) reserved room after next p (f began st.store o) end (subst (λ n. FinishesAs reserved sessions limits b n next end) is ends),
      )

    pub change-asks-at : (verb : Verb) (next_of : Stored → World Name) (result : Result Next Refusal) → ((began : ℕ) (st : Stored) → IsOn began k.added x st s → PreparesChange limits st s verb (next_of st) old new a b result)
        → (verdict : Option Refusal) → verdict ≡ refusal_in result → (began : ℕ) (st : Stored) → Stands began q st → AsksAlike st.payloads st.stored (tests q.limits st s verb) old new verdict
    change-asks-at verb next_of result f verdict e began st h = subst (AsksAlike st.payloads st.stored (tests q.limits st s verb) old new) (sym e)
        (subst (λ (v : PlainStore). AsksAlike st.payloads st.stored (tests v.limits st s verb) old new (refusal_in result)) view (let t = (f began st (on-x began st h)).tried in (t.gained, t.told)))
