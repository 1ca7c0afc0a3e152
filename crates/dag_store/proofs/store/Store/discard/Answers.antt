use Rattle.std.proofs.Common.{sym, ap, subst, ◌∙◌, ℕ, [], set}
use Rattle.step_rules.specs.State.{State, with_pending_rows}
use Rattle.step_rules.specs.Verb.{Discard}
use Rattle.step_rules.specs.Reply.{Discarded}
use Rattle.step_rules.specs.Step.{CommandStep}
use Rattle.payload_tables.specs.Pending.{HoldsRows}
use Rattle.store_plans.specs.Sessions.{PlainSession}
use Rattle.dag_store.specs.Kept.{PlainStore, IsKept, session_at}
use Rattle.dag_store.specs.Stands.{Stands}
use Rattle.dag_store.specs.Steps.{ChangesOnly}
use Rattle.dag_store.proofs.Sizes.{discard-step, discarded-of}
use Rattle.dag_store.proofs.Standing.{session-there, kept-with}
use Rattle.dag_store.proofs.store.Store.discard.Goals as goal

pub invariant_of-self : goal.invariant_of-self
invariant_of-self c =
    let i = c.self.inside in
    let items = i.sessions.items in
    let k = c.self.invariant in
    let none = c.empty.result in
    let x = session-there items c.args.s c.from.result c.index_mut-session.result.now _ c.requires k.count c.from.ensures c.index_mut-session.ensures.value in
    let first = c.empty.ensures.first ∙ c.first.ensures ∙ ap (λ (q : PlainSession). q.pending.first) x in
    let same = ap (λ n. set items n (record { payloads = c.index_mut-session.result.now.payloads; below = c.index_mut-session.result.now.below; others = c.index_mut-session.result.now.others; pending = none })) c.from.ensures
    ∙ ap (λ (q : PlainSession). set items c.args.s (record q { pending = none })) x in
    subst (λ l. IsKept i.log i.tables.value l i.limits) (sym same)
    (kept-with i.log i.tables.value items i.limits k c.args.s (record (session_at items c.args.s) { pending = none }) c.requires
    (discarded-of i.log i.tables.value items i.limits k c.args.s c.requires none c.empty.ensures.rows first))

pub returns-clause-step : goal.returns-clause-step
returns-clause-step c =
    let i = c.self.inside in
    let items = i.sessions.items in
    let k = c.self.invariant in
    let none = c.empty.result in
    let x = session-there items c.args.s c.from.result c.index_mut-session.result.now _ c.requires k.count c.from.ensures c.index_mut-session.ensures.value in
    let first = c.empty.ensures.first ∙ c.first.ensures ∙ ap (λ (q : PlainSession). q.pending.first) x in
    let same = ap (λ n. set items n (record { payloads = c.index_mut-session.result.now.payloads; below = c.index_mut-session.result.now.below; others = c.index_mut-session.result.now.others; pending = none })) c.from.ensures
    ∙ ap (λ (q : PlainSession). set items c.args.s (record q { pending = none })) x in
    subst (λ (q : PlainStore). (began : ℕ) (st : State) → Stands began q st.store → CommandStep q.limits st c.args.s Discard (Discarded c.len-count.result) (record st { store = with_pending_rows st.store c.args.s [] })
    × Stands began (record { log = i.log; sessions = set items c.from.result (record { payloads = c.index_mut-session.result.now.payloads; below = c.index_mut-session.result.now.below; others = c.index_mut-session.result.now.others; pending = none }); limits = i.limits; cache = i.cache }) (with_pending_rows st.store c.args.s []))
    c.self.view_is
    (subst (λ l. (began : ℕ) (st : State) → Stands began (record { log = i.log; sessions = items; limits = i.limits; cache = i.cache }) st.store → CommandStep i.limits st c.args.s Discard (Discarded c.len-count.result) (record st { store = with_pending_rows st.store c.args.s [] })
    × Stands began (record { log = i.log; sessions = l; limits = i.limits; cache = i.cache }) (with_pending_rows st.store c.args.s [])) (sym same)
    (discard-step i.log i.tables.value items i.limits k c.args.s c.requires c.len-count.result none
    (λ rows held. c.len-count.ensures.len rows (subst (λ (q : PlainSession). HoldsRows q.pending rows) (sym x) held)) c.empty.ensures.rows first))

pub returns-clause-alone : goal.returns-clause-alone
returns-clause-alone c =
    let i = c.self.inside in
    let items = i.sessions.items in
    let changed : PlainSession = record { payloads = c.index_mut-session.result.now.payloads; below = c.index_mut-session.result.now.below; others = c.index_mut-session.result.now.others; pending = c.empty.result } in
    subst (λ (q : PlainStore). ChangesOnly c.args.s q (record { log = i.log; sessions = set items c.from.result changed; limits = i.limits; cache = i.cache })) c.self.view_is
    (changed, ap (λ n. record { log = i.log; sessions = set items n changed; limits = i.limits; cache = i.cache }) c.from.ensures)
