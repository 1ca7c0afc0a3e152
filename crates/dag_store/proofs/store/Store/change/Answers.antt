use Rattle.std.proofs.Common.{◌<◌, ◌^◌, sym, subst, IfSome}
use Rattle.gated_log.specs.Held.{Held}
use Rattle.gated_log.specs.Holding.{IsOnDisk}
use Rattle.payload_tables.specs.Kept.{PlainTables}
use Rattle.store_plans.specs.Sessions.{IsSessionOf}
use Rattle.dag_store.specs.Kept.{PlainStore, IsKept}
use Rattle.dag_store.specs.Changes.{LeavesStore}
use Rattle.dag_store.proofs.Standing.{session-there}
use Rattle.dag_store.proofs.FlushStored.{over-of}
use Rattle.dag_store.proofs.FlushDisk.{leaves-ends, leaves-room, made-of}
use Rattle.dag_store.proofs.AskCases.{ask-answers}
use Rattle.dag_store.proofs.store.Store.change.Goals as goal

pub invariant_of-mirrors : goal.invariant_of-mirrors
invariant_of-mirrors g c = record { few = subst (λ n. n < 2 ^ 32) (sym c.prepare_ask-next.ensures.len) c.args.mirrors.now.few }

pub finish-requires-clause-begins : goal.finish-requires-clause-begins
finish-requires-clause-begins g c =
    subst (λ (l : Held). IfSome (g.D.Disk.told c.args.disk.now) (IsOnDisk l)) (sym c.prepare_ask-next.ensures.room)
    (subst (λ (q : PlainStore). IfSome (g.D.Disk.told c.args.disk.now) (IsOnDisk q.log)) (sym c.self.view_is) c.requires.begins)

pub finish-requires-clause-made : goal.finish-requires-clause-made
finish-requires-clause-made g c =
    let i = c.self.inside in
    let items = i.sessions.items in
    let k = subst (λ (t : PlainTables). IsKept i.log t i.sessions.items i.limits) (sym c.deref_mut.ensures.value) c.self.invariant in
    let s = c.args.s in
    let small = c.requires.session in
    let there = session-there items s c.from-at.result c.index.result.now _ small k.count c.from-at.ensures c.index.ensures in
    let of = subst (IsSessionOf k.added) (sym there) (k.each s small) in (
      i.log,
      c.deref_mut.result.now,
      record {
        kept = k;
        place = subst (λ n. n < 16) (sym c.from-at.ensures) small;
        room = c.prepare_ask-next.ensures.room;
        made = made-of c.prepare_ask-next.result _ _ (c.prepare_ask-next.ensures.ready k.added (over-of i.log c.deref_mut.result.now items i.limits k) of) c.prepare_ask-next.ensures.refused;
      },
    )

pub returns-clause-step : goal.returns-clause-step
returns-clause-step g c =
    let i = c.self.inside in
    let items = i.sessions.items in
    let kept : PlainStore = record { log = i.log; sessions = items; limits = i.limits; cache = i.cache } in
    let k = subst (λ (t : PlainTables). IsKept i.log t i.sessions.items i.limits) (sym c.deref_mut.ensures.value) c.self.invariant in
    let s = c.args.s in
    let small = c.requires.session in
    let there = session-there items s c.from-at.result c.index.result.now _ small k.count c.from-at.ensures c.index.ensures in
    let over = over-of i.log c.deref_mut.result.now items i.limits k in
    let of = subst (IsSessionOf k.added) (sym there) (k.each s small) in
    let told = g.D.Disk.told c.args.disk.now in let then = g.D.Disk.told c.finish.new.disk in
    ask-answers i.log c.deref_mut.result.now items i.limits k s small i.cache c.prepare_ask-next.new.sources.0 _ _ c.args.self c.self.view_is c.index.result.now there c.prepare_ask-next.new.log c.prepare_ask-next.ensures.room told then
    c.prepare_ask-next.ensures.sound c.prepare_ask-next.new.tables c.prepare_ask-next.result (made-of c.prepare_ask-next.result _ _ (c.prepare_ask-next.ensures.ready k.added over of) c.prepare_ask-next.ensures.refused)
    c.from-at.result c.from-at.ensures c.finish.result c.finish.ensures.ends
    (leaves-room kept c.prepare_ask-next.new.log c.prepare_ask-next.ensures.room items c.prepare_ask-next.new.sources.0 _ c.finish.result told then c.finish.ensures.leaves) c.args.ask c.requires.asked
    c.prepare_ask-next.ensures.named c.prepare_ask-next.ensures.keeps (λ began st o. c.prepare_ask-next.ensures.prepares began s k.added st over of o)

pub returns-clause-leaves : goal.returns-clause-leaves
returns-clause-leaves g c =
    let i = c.self.inside in
    let kept : PlainStore = record { log = i.log; sessions = i.sessions.items; limits = i.limits; cache = i.cache } in
    subst (λ (q : PlainStore). LeavesStore q c.args.s c.finish.result) c.self.view_is
    (leaves-ends kept c.prepare_ask-next.new.log c.prepare_ask-next.ensures.room c.prepare_ask-next.new.sources.0 c.args.s c.from-at.result c.from-at.ensures c.prepare_ask-next.result c.finish.result c.finish.ensures.ends)
