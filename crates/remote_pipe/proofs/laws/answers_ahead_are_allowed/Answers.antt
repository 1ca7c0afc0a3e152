use Rattle.remote_pipe.proofs.Awaited.{put-allowed, taken-allowed}
use Rattle.remote_pipe.proofs.laws.answers_ahead_are_allowed.Goals as goal

pub returns-clause-put : goal.returns-clause-put
returns-clause-put c = put-allowed

pub returns-clause-taken : goal.returns-clause-taken
returns-clause-taken c = taken-allowed
