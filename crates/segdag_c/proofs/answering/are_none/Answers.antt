use Rattle.call_disk.specs.Awaited.{awaited}
use Rattle.segdag_c.proofs.Storing.{none-told}
use Rattle.segdag_c.proofs.answering.are_none.Goals as goal

pub returns : goal.returns
returns c = none-told c.next.result c.is_none.result (awaited c.args.calls.now) c.is_none.ensures c.next.ensures
