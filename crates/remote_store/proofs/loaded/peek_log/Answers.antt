use Rattle.std.proofs.Common.{Err, [], ap, ◌∙◌}
use Rattle.remote_store.proofs.Fitting.{peeked}
use Rattle.remote_store.proofs.Growing.{grown-log, grown-lasts, grown-fault}
use Rattle.remote_store.proofs.loaded.peek_log.Goals as goal

pub returns-in-Err-clause-answers : goal.returns-in-Err-clause-answers
returns-in-Err-clause-answers g c =
    peeked c.args.limit (g.D.Disk.bytes c.args.disk.now) (g.D.Disk.faults c.args.disk.now) (g.D.Disk.faults c.peek.new.disk) c.in-Err.fault c.log_fault.result c.log_fault.ensures
    (λ x e. c.peek.ensures.cause x (c.in-Err.is ∙ ap (λ f. Err f) e)) c.in-Err.ensures.answers

pub returns-in-Ok-clause-grown : goal.returns-in-Ok-clause-grown
returns-in-Ok-clause-grown g c payloads =
    grown-log c.args.limit payloads (g.D.Disk.faults c.args.disk.now) (g.D.Disk.faults c.peek.new.disk) (g.D.Disk.meanwhile c.args.disk.now) (g.D.Disk.meanwhile c.peek.new.disk) c.in-Ok.log (c.in-Ok.ensures.meanwhile payloads)

pub returns-in-Ok-clause-lasts : goal.returns-in-Ok-clause-lasts
returns-in-Ok-clause-lasts g c = grown-lasts c.args.limit (λ _. []) 0 0 (g.D.Disk.meanwhile c.args.disk.now) (g.D.Disk.meanwhile c.peek.new.disk) c.peek.result (c.peek.ensures.meanwhile (λ _. []))

pub returns-in-Err-clause-grown : goal.returns-in-Err-clause-grown
returns-in-Err-clause-grown g c payloads =
    grown-fault c.args.limit payloads (g.D.Disk.faults c.args.disk.now) (g.D.Disk.faults c.peek.new.disk) (g.D.Disk.meanwhile c.args.disk.now) (g.D.Disk.meanwhile c.peek.new.disk) c.in-Err.fault c.log_fault.result c.log_fault.ensures
    (λ x e. c.peek.ensures.cause x (c.in-Err.is ∙ ap (λ f. Err f) e)) (c.in-Err.ensures.meanwhile payloads)

pub returns-in-Err-clause-lasts : goal.returns-in-Err-clause-lasts
returns-in-Err-clause-lasts g c = grown-lasts c.args.limit (λ _. []) 0 0 (g.D.Disk.meanwhile c.args.disk.now) (g.D.Disk.meanwhile c.peek.new.disk) c.peek.result (c.peek.ensures.meanwhile (λ _. []))
