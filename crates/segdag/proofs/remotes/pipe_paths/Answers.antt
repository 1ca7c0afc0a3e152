use Rattle.segdag.proofs.PipeWords.{pipe-some, pipe-none}
use Rattle.segdag.proofs.remotes.pipe_paths.Goals as goal

pub returns-clause-some : goal.returns-clause-some
returns-clause-some c = pipe-some c.args.word.now c.in_ok-paths.paths.now c.split_at_colon.result c.in_ok-paths.ensures.some c.split_at_colon.ensures.some

pub returns-clause-none : goal.returns-clause-none
returns-clause-none c = pipe-none c.args.word.now c.in_ok-paths.paths.now c.split_at_colon.result c.in_ok-paths.ensures.some c.split_at_colon.ensures.none
