use Rattle.std.proofs.Common.{◌≡◌, Err, IfSome, sym, ap, subst, ◌∙◌}
use Rattle.disk_trait.proofs.Telling.{of_told}
use Rattle.gated_log.specs.Load.{Loads, IsLogOf}
use Rattle.log_compact.specs.declared.answer.Compacted.TheVariants.{FromBad}
use Rattle.log_compact.specs.Compacts.{ReadsWhole, from_answer}
use Rattle.log_compact.proofs.FromLog.{if-some, read-refused, keeps-holding, read-untouched, made-untouched}
use Rattle.log_compact.proofs.writing.read_whole.Goals as goal

pub returns-in-Ok-clause-holds : goal.returns-in-Ok-clause-holds
returns-in-Ok-clause-holds g c = λ w. keeps-holding c.args.limit w (g.D.Disk.told c.args.from.now) (g.D.Disk.told c.load.new.disk) c.requires.0 (g.met.D.Disk.sound c.args.from.now) c.load.ensures.fresh

pub returns-in-Err-clause-answers : goal.returns-in-Err-clause-answers
returns-in-Err-clause-answers g c =
    subst (λ a. IfSome (g.D.Disk.bytes c.args.from.now) (λ bytes. ReadsWhole c.args.limit bytes (Err a))) (sym c.from_fault.ensures)
    (if-some (λ bytes. Loads c.args.limit bytes (Err c.in-Err.fault)) (λ bytes. ReadsWhole c.args.limit bytes (Err (from_answer c.in-Err.fault))) (g.D.Disk.bytes c.args.from.now)
    (λ bytes h. read-refused c.args.limit bytes c.in-Err.fault h) c.in-Err.ensures.answers)

pub returns-in-Err-clause-holds : goal.returns-in-Err-clause-holds
returns-in-Err-clause-holds g c = λ w. keeps-holding c.args.limit w (g.D.Disk.told c.args.from.now) (g.D.Disk.told c.load.new.disk) c.requires.0 (g.met.D.Disk.sound c.args.from.now) c.load.ensures.fresh

pub returns-in-Ok-clause-unwritten : goal.returns-in-Ok-clause-unwritten
returns-in-Ok-clause-unwritten g c =
    let log = c.in-Ok.log in
    made-untouched c.args.limit log c.whole_of.result (g.D.Disk.told c.args.from.now) (g.D.Disk.told c.load.new.disk) c.whole_of.ensures.made
    (of_told (λ bytes. IsLogOf c.args.limit bytes log) (g.D.Disk.bytes c.args.from.now) (g.D.Disk.told c.args.from.now) (g.met.D.Disk.tells c.args.from.now) c.in-Ok.ensures.answers)
    c.load.ensures.images c.in-Ok.ensures.unwritten

pub returns-in-Err-clause-unwritten : goal.returns-in-Err-clause-unwritten
returns-in-Err-clause-unwritten g c = λ e.
    let fault = c.in-Err.fault in
    let same : c.from_fault.result ≡ FromBad = cc e in
    read-untouched c.args.limit fault (g.D.Disk.told c.args.from.now) (g.D.Disk.told c.load.new.disk) c.requires.0
    (of_told (λ bytes. Loads c.args.limit bytes (Err fault)) (g.D.Disk.bytes c.args.from.now) (g.D.Disk.told c.args.from.now) (g.met.D.Disk.tells c.args.from.now) c.in-Err.ensures.answers)
    c.load.ensures.images (λ size f. c.in-Err.ensures.too_large size (ap Err f)) (λ at f. c.in-Err.ensures.damaged at (ap Err f)) (sym c.from_fault.ensures ∙ same)
