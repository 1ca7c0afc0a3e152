use Rattle.remote_pipe.proofs.BodiesRead.{path-reads}
use Rattle.remote_pipe.proofs.reading.read_path.Goals as goal

pub returns-in-Some-clause-reads : goal.returns-in-Some-clause-reads
returns-in-Some-clause-reads c = path-reads c.args.body.now c.in-Some.rest.now _ c.found.result c.in-Some.ensures.some c.read_way.ensures c.found.ensures
