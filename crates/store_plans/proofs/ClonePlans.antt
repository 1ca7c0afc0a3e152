-- What is found before a clone's ask, and what was planned behind it.
use Rattle.std.proofs.Common.{◌≡◌, ℕ, List, [], length, Some, None, Ok, Err, MatchOption, refl, sym, ap, subst, ◌∙◌}
use Rattle.std.specs.Prelude.{Result, MatchResult, IsErrAnd}
use Rattle.id_groups.specs.Name.{Name}
use Rattle.commit_graph.specs.World.{World}
use Rattle.name_map.specs.Added.{Placed, payloads_of}
use Rattle.remote_rules.specs.CloneData.{CloneData}
use Rattle.remote_rules.specs.Mirror.{Mirror}
use Rattle.remote_rules.specs.declared.MirrorFault.{MirrorFault}
use Rattle.remote_trait.specs.Calls.{Refreshes}
use Rattle.mirror_set.specs.Asking.{Asks, IsItsClone}
use Rattle.change_rules.specs.declared.Limits.{Limits}
use Rattle.change_rules.specs.Tables.{StandFor}
use Rattle.payload_tables.specs.Kept.{PlainTables, AreTablesOf}
use Rattle.payload_tables.proofs.Lists.{names-length}
use Rattle.payload_tables.proofs.Basing.{table-end}
use Rattle.payload_tables.proofs.Following.{none-added}
use Rattle.change_parts.specs.declared.change.Change.{Change}
use Rattle.clone_plan.specs.Cloning.{told_refusal, IsToldPlan}
use Rattle.step_rules.specs.declared.Refusal.{Refusal}
use Rattle.step_rules.specs.State.{Stored}
use Rattle.step_rules.specs.Verb.{Clone}
use Rattle.step_rules.specs.Tests.{refused_first, tests}
use Rattle.store_plans.specs.ClonePlans.{RefusesAsked, RefusesClone, PlansClone}
use Rattle.store_plans.proofs.Counts.{others-many}

-- ---- what is stored

module _ (tables : PlainTables) (added : List Placed) (t : AreTablesOf tables added) (m o : ℕ) (masters : m ≡ tables.flat.end) (others : o ≡ tables.others.count) where
  pub counts-of : (w : World Name) → StandFor (payloads_of added) w → (m ≡ length w.master) × (o ≡ length w.others)
  counts-of w stand = (
    masters ∙ table-end tables added t ∙ stand.count,
    others ∙ others-many tables.others added t.others ∙ ap (length {A = Name}) stand.names ∙ names-length w.others,
  )

  pub nothing-added : m ≡ 0 → o ≡ 0 → added ≡ []
  nothing-added a b = none-added tables added t (t.names.masters ∙ sym (table-end tables added t) ∙ sym masters ∙ a) (sym others ∙ b)

-- ---- refusals

pub err-kept : {X : Type 0} (r : Result X Refusal) (f : Refusal) (P : X → Type 0) (Q : Refusal → Type 0) → IsErrAnd r (λ g. g ≡ f) → Q f → MatchResult r P Q
err-kept (Ok v) f P Q h q = absurd h
err-kept (Err g) f P Q h q = subst Q (sym h) q

module _ (limits : Limits) (st : Stored) (s log : ℕ) (first left : List Mirror) where
  pub refuses-first : (refusal : Refusal) → left ≡ first → refused_first (tests limits st s Clone) ≡ Some refusal → RefusesClone limits st s log first left refusal
  refuses-first refusal same e =
      subst (λ o. MatchOption o ((asked : Result CloneData MirrorFault) × Asks Refreshes IsItsClone first left asked × RefusesAsked limits log asked refusal) (λ r. (left ≡ first) × (refusal ≡ r))) (sym e) (same, refl)

  module _ (passed : refused_first (tests limits st s Clone) ≡ None) where
    pub refuses-asked : (refusal : Refusal) (asked : Result CloneData MirrorFault) → Asks Refreshes IsItsClone first left asked → RefusesAsked limits log asked refusal → RefusesClone limits st s log first left refusal
    refuses-asked refusal asked a r =
        subst (λ o. MatchOption o ((asked : Result CloneData MirrorFault) × Asks Refreshes IsItsClone first left asked × RefusesAsked limits log asked refusal) (λ r. (left ≡ first) × (refusal ≡ r))) (sym passed) (asked, a, r)

    -- what was planned by what was told
    pub told-prepared : {X : Type 0} (change : X → Change) (told : CloneData) (result : Result X Refusal) → Asks Refreshes IsItsClone first left (Ok told)
        → MatchResult result (λ x. (told_refusal limits log told ≡ None) × IsToldPlan (change x) told) (λ refusal. RefusesAsked limits log (Ok told) refusal)
        → MatchResult result (λ x. PlansClone limits st s log first left (change x)) (λ refusal. RefusesClone limits st s log first left refusal)
    told-prepared change told (Ok x) a p = (told, record { passed = passed; asks = a; fits = p.0 }, p.1)
    told-prepared change told (Err refusal) a p = refuses-asked refusal (Ok told) a p
