use Rattle.log_compact.proofs.ToDisk.{same-moments}
use Rattle.log_compact.proofs.writing.store_fresh.Goals as goal

pub returns-then-batch_count-gt0-clause-moments : goal.returns-then-batch_count-gt0-clause-moments
returns-then-batch_count-gt0-clause-moments g c = same-moments c.args.log.limit c.args.whole.now.text (g.D.Disk.told c.args.to.now)
