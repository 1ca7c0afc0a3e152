use Rattle.std.proofs.Common.{sym, ap, subst, ◌∙◌, ℕ}
use Rattle.step_rules.specs.State.{State}
use Rattle.step_rules.specs.Verb.{Status}
use Rattle.step_rules.specs.Reply.{Sizes}
use Rattle.step_rules.specs.Step.{CommandStep}
use Rattle.payload_tables.specs.Pending.{HoldsRows}
use Rattle.store_plans.specs.Sessions.{PlainSession}
use Rattle.dag_store.specs.Kept.{PlainStore}
use Rattle.dag_store.specs.Stands.{Stands}
use Rattle.dag_store.proofs.Sizes.{status-step}
use Rattle.dag_store.proofs.Standing.{session-there}
use Rattle.dag_store.proofs.store.Store.status.Goals as goal

pub returns : goal.returns
returns c =
    let i = c.self.inside in
    let x = session-there i.sessions.items c.args.s c.from.result c.index-session.result.now _ c.requires c.self.invariant.count c.from.ensures c.index-session.ensures in
    subst (λ (k : PlainStore). (began : ℕ) (st : State) → Stands began k st.store → CommandStep k.limits st c.args.s Status (Sizes c.index-session.result.now.below c.from-2.result c.from-3.result) st) c.self.view_is
    (status-step i.log i.tables.value i.sessions.items i.limits c.self.invariant c.args.s c.requires c.index-session.result.now.below c.from-2.result c.from-3.result
    (ap (λ (s : PlainSession). s.below) x)
    (c.from-2.ensures ∙ c.count.ensures ∙ ap (λ (s : PlainSession). s.others.count) x)
    (λ rows held. c.from-3.ensures ∙ c.len.ensures.len rows (subst (λ (s : PlainSession). HoldsRows s.pending rows) (sym x) held)))
