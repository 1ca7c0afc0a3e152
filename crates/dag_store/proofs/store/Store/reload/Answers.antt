use Rattle.std.proofs.Common.{◌<◌, ◌^◌, set, sym, subst}
use Rattle.store_plans.specs.Sessions.{IsSessionOf}
use Rattle.dag_store.specs.Kept.{IsKept}
use Rattle.dag_store.proofs.Standing.{session-there}
use Rattle.dag_store.proofs.FlushStored.{newest-kept, over-of}
use Rattle.dag_store.proofs.FlushLeading.{reload-asks-at, reload-asks-refused-at, reload-leads-at, reload-refused-at}
use Rattle.dag_store.proofs.store.Store.reload.Goals as goal

pub invariant_of-mirrors : goal.invariant_of-mirrors
invariant_of-mirrors g c = record { few = subst (λ n. n < 2 ^ 32) (sym c.reloaded.ensures.len) c.args.mirrors.now.few }

pub returns-in_err-next-clause-step : goal.returns-in_err-next-clause-step
returns-in_err-next-clause-step g c =
    let i = c.self.inside in
    let items = i.sessions.items in
    let tables = c.deref.result.now in
    let k = subst (λ t. IsKept i.log t i.sessions.items i.limits) (sym c.deref.ensures) c.self.invariant in
    let there = session-there items c.args.s c.from-at.result c.index.result.now _ c.requires k.count c.from-at.ensures c.index.ensures in
    let over = over-of i.log tables items i.limits k in
    let of = subst (IsSessionOf k.added) (sym there) (k.each c.args.s c.requires) in
    reload-refused-at i.log tables items i.limits k c.args.s c.requires i.cache c.reloaded.new.cache _ _ c.args.self.now c.self.view_is c.index.result.now there c.reloaded.ensures.sound c.from_residual.result c.in_err-next.field-0.0 c.from_residual.ensures.1
    (λ began st o. c.in_err-next.ensures.step began c.args.s k.added st i.limits over of o)

pub returns-in_err-next-clause-asks : goal.returns-in_err-next-clause-asks
returns-in_err-next-clause-asks g c =
    let i = c.self.inside in
    let items = i.sessions.items in
    let tables = c.deref.result.now in
    let k = subst (λ t. IsKept i.log t i.sessions.items i.limits) (sym c.deref.ensures) c.self.invariant in
    let there = session-there items c.args.s c.from-at.result c.index.result.now _ c.requires k.count c.from-at.ensures c.index.ensures in
    let over = over-of i.log tables items i.limits k in
    let of = subst (IsSessionOf k.added) (sym there) (k.each c.args.s c.requires) in
    reload-asks-refused-at i.log tables items i.limits k c.args.s c.requires i.cache c.reloaded.new.cache _ _ c.args.self.now c.self.view_is c.index.result.now there c.from_residual.result c.in_err-next.field-0.0 c.from_residual.ensures.1
    (λ began st o. c.in_err-next.ensures.step began c.args.s k.added st i.limits over of o)

pub len-left-requires : goal.len-left-requires
len-left-requires g c =
    let i = c.self.inside in
    let items = i.sessions.items in
    let tables = c.deref.result.now in
    let k = subst (λ t. IsKept i.log t i.sessions.items i.limits) (sym c.deref.ensures) c.self.invariant in
    let there = session-there items c.args.s c.from-at.result c.index.result.now _ c.requires k.count c.from-at.ensures c.index.ensures in
    let good = c.in_ok-next.ensures.session k.added (over-of i.log tables items i.limits k) (subst (IsSessionOf k.added) (sym there) (k.each c.args.s c.requires)) in
    (good.0.pending.rows, good.0.pending.held)

pub invariant_of-self-2 : goal.invariant_of-self-2
invariant_of-self-2 g c =
    let i = c.self.inside in
    let items = i.sessions.items in
    let tables = c.deref.result.now in
    let k = subst (λ t. IsKept i.log t i.sessions.items i.limits) (sym c.deref.ensures) c.self.invariant in
    let there = session-there items c.args.s c.from-at.result c.index.result.now _ c.requires k.count c.from-at.ensures c.index.ensures in
    let good = c.in_ok-next.ensures.session k.added (over-of i.log tables items i.limits k) (subst (IsSessionOf k.added) (sym there) (k.each c.args.s c.requires)) in
    subst (λ t. IsKept i.log t (set items c.from-at.result c.in_ok-next.next) i.limits) c.deref.ensures
    (subst (λ n. IsKept i.log tables (set items n c.in_ok-next.next) i.limits) (sym c.from-at.ensures)
    (newest-kept i.log tables items i.limits k c.args.s c.requires c.in_ok-next.next good.0))

pub returns-clause-step : goal.returns-clause-step
returns-clause-step g c =
    let i = c.self.inside in
    let items = i.sessions.items in
    let tables = c.deref.result.now in
    let k = subst (λ t. IsKept i.log t i.sessions.items i.limits) (sym c.deref.ensures) c.self.invariant in
    let there = session-there items c.args.s c.from-at.result c.index.result.now _ c.requires k.count c.from-at.ensures c.index.ensures in
    let over = over-of i.log tables items i.limits k in
    let of = subst (IsSessionOf k.added) (sym there) (k.each c.args.s c.requires) in
    reload-leads-at i.log tables items i.limits k c.args.s c.requires i.cache c.reloaded.new.cache _ _ c.args.self.now c.self.view_is c.index.result.now there c.reloaded.ensures.sound c.in_ok-next.next c.len-left.result c.from-at.result c.from-at.ensures
    (c.in_ok-next.ensures.session k.added over of) (λ rows held. c.len-left.ensures.len rows held)
    (λ began st o. c.in_ok-next.ensures.step began c.args.s k.added st i.limits over of o)

pub returns-clause-asks : goal.returns-clause-asks
returns-clause-asks g c =
    let i = c.self.inside in
    let items = i.sessions.items in
    let tables = c.deref.result.now in
    let k = subst (λ t. IsKept i.log t i.sessions.items i.limits) (sym c.deref.ensures) c.self.invariant in
    let there = session-there items c.args.s c.from-at.result c.index.result.now _ c.requires k.count c.from-at.ensures c.index.ensures in
    let over = over-of i.log tables items i.limits k in
    let of = subst (IsSessionOf k.added) (sym there) (k.each c.args.s c.requires) in
    reload-asks-at i.log tables items i.limits k c.args.s c.requires i.cache c.reloaded.new.cache _ _ c.args.self.now c.self.view_is c.index.result.now there c.in_ok-next.next (λ began st o. c.in_ok-next.ensures.step began c.args.s k.added st i.limits over of o)
