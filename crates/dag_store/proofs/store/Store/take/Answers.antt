use Rattle.std.proofs.Common.{◌++◌, ◌∷◌, [], Err, ap, subst, sym, ◌∙◌}
use Rattle.gated_log.specs.Held.{Held}
use Rattle.payload_tables.specs.Kept.{PlainTables}
use Rattle.dag_store.specs.Kept.{PlainStore, IsKept}
use Rattle.dag_store.specs.Stands.{StandsBeside}
use Rattle.dag_store.specs.Following.{goes_on}
use Rattle.dag_store.proofs.FlushStored.{followed-kept, kept-room, over-of}
use Rattle.dag_store.proofs.Followers.{follows-lawful, follows-stand, follows-why}
use Rattle.dag_store.proofs.store.Store.take.Goals as goal

pub with_payload-requires-clause-kept : goal.with_payload-requires-clause-kept
with_payload-requires-clause-kept c = λ new b.
    let i = c.self.inside in
    let k = subst (λ (t : PlainTables). IsKept i.log t i.sessions.items i.limits) (sym c.deref_mut.ensures.value) c.self.invariant in
    let t = c.in-Ok.ensures.taken k.added (over-of i.log c.deref_mut.result.now i.sessions.items i.limits k) in
    followed-kept i.log c.deref_mut.result.now i.sessions.items i.limits k c.take_payload.new.log c.take_payload.ensures.room c.take_payload.new.tables c.args.payload.now t.0 t.1 t.2 new b

pub invariant_of-store : goal.invariant_of-store
invariant_of-store c =
    let i = c.self.inside in
    let k = subst (λ (t : PlainTables). IsKept i.log t i.sessions.items i.limits) (sym c.deref_mut.ensures.value) c.self.invariant in
    kept-room i.log c.take_payload.new.log c.take_payload.new.tables i.sessions.items i.limits c.take_payload.ensures.room
    (subst (λ (t : PlainTables). IsKept i.log t i.sessions.items i.limits) (sym c.in-Err.ensures.refused) k)

pub returns-in-Ok-clause-stands : goal.returns-in-Ok-clause-stands
returns-in-Ok-clause-stands c = λ began mirrors st change stands spelled may.
    let i = c.self.inside in
    let k = subst (λ (t : PlainTables). IsKept i.log t i.sessions.items i.limits) (sym c.deref_mut.ensures.value) c.self.invariant in
    let h = subst (λ (q : PlainStore). StandsBeside began q mirrors st) (sym c.self.view_is) stands in
    subst (λ (q : PlainStore). StandsBeside began q mirrors (goes_on st change)) (sym c.with_payload.ensures.store)
    (follows-stand i.log c.deref_mut.result.now i.sessions.items i.limits i.cache k began mirrors st h change may c.with_payload.result.log c.args.payload.now spelled
    (c.with_payload.ensures.payloads ∙ ap (λ (l : Held). l.payloads ++ c.args.payload.now ∷ []) c.take_payload.ensures.room))

pub returns-in-Err-clause-stands : goal.returns-in-Err-clause-stands
returns-in-Err-clause-stands c = λ began mirrors st change stands spelled may.
    let i = c.self.inside in
    let k = subst (λ (t : PlainTables). IsKept i.log t i.sessions.items i.limits) (sym c.deref_mut.ensures.value) c.self.invariant in
    let h = subst (λ (q : PlainStore). StandsBeside began q mirrors st) (sym c.self.view_is) stands in
    follows-lawful i.log c.deref_mut.result.now i.sessions.items i.limits i.cache k began mirrors st h change may c.args.payload.now spelled c.in-Err.fault
    (λ e. c.in-Err.ensures.unlawful k.added (over-of i.log c.deref_mut.result.now i.sessions.items i.limits k) (ap Err e))

pub returns-in-Err-clause-cause : goal.returns-in-Err-clause-cause
returns-in-Err-clause-cause c =
    let i = c.self.inside in
    let k = subst (λ (t : PlainTables). IsKept i.log t i.sessions.items i.limits) (sym c.deref_mut.ensures.value) c.self.invariant in
    follows-why i.log c.deref_mut.result.now i.sessions.items i.limits i.cache k c.take_payload.new.log c.take_payload.ensures.room c.args.payload.now c.in-Err.fault
    (λ e. c.in-Err.ensures.unlawful k.added (over-of i.log c.deref_mut.result.now i.sessions.items i.limits k) (ap Err e)) (λ e. c.in-Err.ensures.full (ap Err e))
