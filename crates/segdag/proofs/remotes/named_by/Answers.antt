use Rattle.segdag.proofs.remotes.named_by.Goals as goal

pub returns-in-None : goal.returns-in-None
returns-in-None c = c.kept_by.ensures c.args.is_run
