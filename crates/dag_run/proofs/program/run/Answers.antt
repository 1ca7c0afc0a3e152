use Rattle.std.proofs.lemmas.Result.{err_from_is_err_and}
use Rattle.std.proofs.Common.{rules, refl}
use Rattle.outside.specs.Counts.{Rose}
use Rattle.outside.proofs.ToldLemmas.{WhereTold-same}
use Rattle.dag_run.specs.Seen.{seen}
use Rattle.dag_run.proofs.Ending.{ends-unread}
use Rattle.dag_run.proofs.Statuses.{refuses-nothing}
use Rattle.dag_run.proofs.program.run.Goals as goal

pub returns-in_err-lines : goal.returns-in_err-lines
returns-in_err-lines g c =
    let p = err_from_is_err_and c.from_residual.result c.from_residual.ensures.1 in
    let failed : Type 0 = Rose (g.O.Sink.faults c.args.output.now) (g.O.Sink.faults c.args.output.now) in (record {
      means = λ w payloads.
          rw (p.1, p.2, c.requires.none) (WhereTold-same (seen (g.D.Disk.told c.args.reach.disk.now) (g.I.Source.left c.args.input.now) (g.O.Sink.taken c.args.output.now))
          _
          (λ x begins. ends-unread c.args.limits c.requires.limits w payloads c.args.cache _ failed x begins x refl refl refl));
      over = rw (p.1, p.2) (WhereTold-same (g.I.Source.left c.args.input.now) _ (λ x. tt));
      refuses = rw (p.1, p.2) (refuses-nothing c.args.limits.log (g.D.Disk.bytes c.args.reach.disk.now));
      unwritten = search rules;
      quiet = search rules;
      causes = search rules;
    })
