use Rattle.std.proofs.Common.{◌∙◌, ap, refl, subst, arith}
use Rattle.disk_trait.specs.Calls.{Goes}
use Rattle.change_parts.proofs.Refusals.{not-zero}
use Rattle.log_compact.specs.Compacts.{PlainWhole, KeepsNoneOrNew, HasText}
use Rattle.log_compact.proofs.FromLog.{batch-some}
use Rattle.log_compact.proofs.ToDisk.{commit-moments, commit-done}
use Rattle.log_compact.proofs.writing.store_whole.Goals as goal

pub returns-in-Done-clause-moments : goal.returns-in-Done-clause-moments
returns-in-Done-clause-moments g c =
    let z = not-zero _ c.if-is_empty.ensures in let l = c.deref.ensures.len in
    subst (λ t. Goes (KeepsNoneOrNew c.args.log.limit t) (g.D.Disk.told c.args.to.now) (g.D.Disk.told c.commit.new.disk)) (c.deref.ensures.value ∙ ap (λ (w : PlainWhole). w.text) c.whole.view_is)
    (commit-moments c.args.log c.deref.result.now (g.D.Disk.told c.args.to.now) (g.D.Disk.told c.commit.new.disk) c.requires.none (batch-some c.deref.result.now (omega (arith, z, l))) c.commit.ensures.moments)

pub returns-in-Done-clause-done : goal.returns-in-Done-clause-done
returns-in-Done-clause-done g c = λ shrunk e.
    let z = not-zero _ c.if-is_empty.ensures in let l = c.deref.ensures.len in
    subst (λ t. Goes (HasText c.args.log.limit t) (g.D.Disk.told c.args.to.now) (g.D.Disk.told c.commit.new.disk)) (c.deref.ensures.value ∙ ap (λ (w : PlainWhole). w.text) c.whole.view_is)
    (commit-done c.args.log c.in-Done.log c.in-Done._clock c.deref.result.now (g.D.Disk.told c.args.to.now) (g.D.Disk.told c.commit.new.disk) c.requires.none (batch-some c.deref.result.now (omega (arith, z, l)))
    c.in-Done.ensures.answers (c.in-Done.ensures.done c.in-Done.log c.in-Done._clock refl))

pub returns-in-Memory-clause-moments : goal.returns-in-Memory-clause-moments
returns-in-Memory-clause-moments g c =
    let z = not-zero _ c.if-is_empty.ensures in let l = c.deref.ensures.len in
    subst (λ t. Goes (KeepsNoneOrNew c.args.log.limit t) (g.D.Disk.told c.args.to.now) (g.D.Disk.told c.commit.new.disk)) (c.deref.ensures.value ∙ ap (λ (w : PlainWhole). w.text) c.whole.view_is)
    (commit-moments c.args.log c.deref.result.now (g.D.Disk.told c.args.to.now) (g.D.Disk.told c.commit.new.disk) c.requires.none (batch-some c.deref.result.now (omega (arith, z, l))) c.commit.ensures.moments)

pub returns-in-Disk-clause-moments : goal.returns-in-Disk-clause-moments
returns-in-Disk-clause-moments g c =
    let z = not-zero _ c.if-is_empty.ensures in let l = c.deref.ensures.len in
    subst (λ t. Goes (KeepsNoneOrNew c.args.log.limit t) (g.D.Disk.told c.args.to.now) (g.D.Disk.told c.commit.new.disk)) (c.deref.ensures.value ∙ ap (λ (w : PlainWhole). w.text) c.whole.view_is)
    (commit-moments c.args.log c.deref.result.now (g.D.Disk.told c.args.to.now) (g.D.Disk.told c.commit.new.disk) c.requires.none (batch-some c.deref.result.now (omega (arith, z, l))) c.commit.ensures.moments)
