use Rattle.std.proofs.Common.{List, ℕ, [], ◌∷◌, ◌++◌, ◌+◌, length, refl, ap, sym, subst, ◌∙◌}
use Rattle.disk_trait.specs.Calls.{Goes}
use Rattle.gated_log.specs.Held.{log_bytes}
use Rattle.gated_log.specs.Holding.{KeepsOldOrNew}
use Rattle.gated_log.specs.Log.{StandsFrom}
use Rattle.dag_store.specs.Kept.{PlainStore}
use Rattle.dag_store.specs.Changes.{HasStored}
use Rattle.dag_store.proofs.FlushDisk.{leaves-stored}
use Rattle.dag_store.proofs.finishing.commit.Goals as goal

pub store_of-requires-in-Done : goal.store_of-requires-in-Done
store_of-requires-in-Done g c =
    let a = c.in-Done.ensures.answers in
    let sent = c.bytes.ensures in
    c.requires.stored c.in-Done.log c.if-change.false (record {
      payloads = a.1 ∙ ap (λ (p : List ℕ). c.args.parts.log.payloads ++ p ∷ []) sent;
      limit = a.3;
      place = subst (λ (p : List ℕ). StandsFrom (length (log_bytes c.args.parts.log) + 8) p (log_bytes c.in-Done.log)) sent (c.in-Done.ensures.place c.in-Done.log c.in-Done.clock refl);
    })

pub returns-in-Done-clause-leaves : goal.returns-in-Done-clause-leaves
returns-in-Done-clause-leaves g c =
    let a = c.in-Done.ensures.answers in
    let sent = c.bytes.ensures in
    let old : PlainStore = record { log = c.args.parts.log; sessions = c.args.parts.sessions.items; limits = c.args.parts.limits; cache = c.args.parts.names } in
    let new : PlainStore = record old { log = c.in-Done.log } in
    subst (λ (q : PlainStore). Goes (HasStored old c.args.change.payload q c.in-Done.clock) (g.D.Disk.told c.args.disk.now) (g.D.Disk.told c.commit.new.disk)) (sym c.store_of-in-Done.ensures)
    (leaves-stored old new c.args.change.payload c.in-Done.clock
    (g.D.Disk.told c.args.disk.now) (g.D.Disk.told c.commit.new.disk) c.requires.limit (a.1 ∙ ap (λ (p : List ℕ). c.args.parts.log.payloads ++ p ∷ []) sent) a.3
    (subst (λ (p : List ℕ). Goes (KeepsOldOrNew c.args.parts.log p) (g.D.Disk.told c.args.disk.now) (g.D.Disk.told c.commit.new.disk)) sent c.in-Done.ensures.moments) (c.in-Done.ensures.done c.in-Done.log c.in-Done.clock refl))
