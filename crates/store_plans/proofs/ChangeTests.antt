-- What a session's change comes to, once it was planned.
use Rattle.std.proofs.Common.{◌≡◌, ℕ, List, [], Option, Some, None, Result, Ok, Err, sym, subst, append-nil}
use Rattle.std.specs.Prelude.{IsErrAnd}
use Rattle.id_groups.specs.Name.{Name, same_name}
use Rattle.change_rules.specs.declared.Limits.{Limits}
use Rattle.change_rules.specs.Rebase.{left_of}
use Rattle.remote_rules.specs.Mirror.{Mirror}
use Rattle.lazy_names.specs.Cache.{PlainCache}
use Rattle.batch_codec.specs.Payload.{Payload}
use Rattle.commit_graph.specs.World.{World}
use Rattle.payload_tables.specs.Pending.{PlainPending}
use Rattle.payload_tables.specs.Bases.{ArePending}
use Rattle.change_parts.specs.declared.change.Change.{Change}
use Rattle.step_rules.specs.declared.Refusal.{Refusal}
use Rattle.step_rules.specs.declared.Refusal.TheVariants as why
use Rattle.step_rules.specs.State.{Stored, pending_of}
use Rattle.step_rules.specs.Tests.{Test, tests}
use Rattle.step_rules.specs.Verb.{Verb, Reload}
use Rattle.store_plans.specs.declared.changing.Next.{Next}
use Rattle.store_plans.specs.Sessions.{PlainSession}
use Rattle.store_plans.specs.Looking.{Tried}
use Rattle.store_plans.specs.Changes.{IsPlanTo, PlansChange, PreparesChange, Rebases, Reloads}
use Rattle.store_plans.proofs.Trials.{tried-memory, tried-then}

-- no memory behind all tests
pub no-memory : (payloads : List Payload) (w : World Name) (xs : List Test) (old new : List Mirror) (a b : PlainCache) → Tried payloads w xs old new a b None → Tried payloads w xs old new a b (Some why.Memory)
no-memory payloads w xs old new a b t = subst (λ l. Tried payloads w l old new a b (Some why.Memory)) (append-nil xs) (tried-then payloads w xs [] old new new a b b (Some why.Memory) t (tried-memory payloads w [] new b))

module _ (limits : Limits) (st : Stored) (s : ℕ) (old new : List Mirror) (a b : PlainCache) where
  -- ---- a reload

  module _ (found later : List (Option ℕ)) where
    pub reloads-refused : (r : Result PlainSession Refusal) (f : Refusal) → IsErrAnd r (λ g. g ≡ f) → Rebases limits st s [] old new a b found later (Err f) → Reloads limits st s old new a b r
    reloads-refused (Ok v) f h q = absurd h
    reloads-refused (Err g) f h q = subst (λ z. Reloads limits st s old new a b (Err z)) (sym h) (record { tried = q.tried; right = λ r. tt })

    module _ (left : PlainPending) (h : Rebases limits st s [] old new a b found later (Ok left)) where
      pub reloads-done : (x : PlainSession) → x.pending ≡ left → Reloads limits st s old new a b (Ok x)
      reloads-done x e = record { tried = h.tried; right = λ r. subst (λ p. ArePending st.stored p (left_of same_name st.stored (pending_of st s))) (sym e) (h.right r) }

      pub reloads-memory : Reloads limits st s old new a b (Err why.Memory)
      reloads-memory = record { tried = no-memory st.payloads st.stored (tests limits st s Reload) old new a b h.tried; right = λ r. tt }

  -- ---- a change

  module _ (verb : Verb) (next : World Name) where
    pub prepares-refused : (r : Result Next Refusal) (f : Refusal) → IsErrAnd r (λ g. g ≡ f) → PlansChange limits st s verb next old new a b (Err f) → PreparesChange limits st s verb next old new a b r
    prepares-refused (Ok v) f h q = absurd h
    prepares-refused (Err g) f h q = subst (λ z. PreparesChange limits st s verb next old new a b (Err z)) (sym h) (record { tried = q.tried; right = λ r. tt })

    module _ (change : Change) (h : PlansChange limits st s verb next old new a b (Ok change)) where
      pub prepares-done : (ready : Next) → ready.change ≡ change → PreparesChange limits st s verb next old new a b (Ok ready)
      prepares-done ready e = record { tried = h.tried; right = λ r. subst (IsPlanTo st next) (sym e) (h.right r) }

      pub prepares-memory : PreparesChange limits st s verb next old new a b (Err why.Memory)
      prepares-memory = record { tried = no-memory st.payloads st.stored (tests limits st s verb) old new a b h.tried; right = λ r. tt }

-- a fault that is handed on
pub err-plans : (limits : Limits) (st : Stored) (s : ℕ) (verb : Verb) (next : World Name) (old new : List Mirror) (a b : PlainCache) (r : Result Change Refusal) (f : Refusal) → IsErrAnd r (λ g. g ≡ f)
    → PlansChange limits st s verb next old new a b (Err f) → PlansChange limits st s verb next old new a b r
err-plans limits st s verb next old new a b (Ok v) f h q = absurd h
err-plans limits st s verb next old new a b (Err g) f h q = subst (λ z. PlansChange limits st s verb next old new a b (Err z)) (sym h) q
