use Rattle.call_disk.specs.Awaited.{awaited}
use Rattle.dag_store.specs.Asks.{verb_of}
use Rattle.segdag_c.specs.Mirrors.{shown_all}
use Rattle.segdag_c.proofs.NotedChanges.{changes-over}
use Rattle.segdag_c.proofs.Storing.{chosen-has}
use Rattle.segdag_c.proofs.changing.change_over.Goals as goal

pub change_on-requires-clause-on_disk : goal.change_on-requires-clause-on_disk
change_on-requires-clause-on_disk g c = chosen-has c.args.store.log g.disk

pub returns-clause-changes : goal.returns-clause-changes
returns-clause-changes g c =
    let done = c.change_on in
    changes-over (shown_all c.args.mirrors.now.list.items) (shown_all done.new.mirrors.list.items) c.args.store c.args.session (verb_of c.args.ask) (awaited done.result.1) done.result.0 g.disk done.ensures.changes
