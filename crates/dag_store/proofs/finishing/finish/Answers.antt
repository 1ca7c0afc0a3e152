use Rattle.dag_store.proofs.FinishLemmas.{finish-leaves, finish-limit, finish-refused, finish-room, finish-same, finish-stored}
use Rattle.dag_store.proofs.finishing.finish.Goals as goal

pub commit-requires-clause-limit : goal.commit-requires-clause-limit
commit-requires-clause-limit g c =
    let m = c.requires.made in
    finish-limit m.0 c.args.parts.log m.1 c.args.parts.tables.value c.args.parts.sessions.items c.args.parts.limits c.args.at c.args.next m.2

pub commit-requires-clause-same : goal.commit-requires-clause-same
commit-requires-clause-same g c =
    let m = c.requires.made in
    finish-same m.0 c.args.parts.log m.1 c.args.parts.tables.value c.args.parts.sessions.items c.args.parts.limits c.args.at c.args.next m.2 c.in-Ok.ready c.in-Ok.is

pub commit-requires-clause-room : goal.commit-requires-clause-room
commit-requires-clause-room g c =
    let m = c.requires.made in
    finish-room m.0 c.args.parts.log m.1 c.args.parts.tables.value c.args.parts.sessions.items c.args.parts.limits c.args.at c.args.next m.2 c.in-Ok.ready c.in-Ok.is

pub commit-requires-clause-stored : goal.commit-requires-clause-stored
commit-requires-clause-stored g c =
    let m = c.requires.made in
    finish-stored m.0 c.args.parts.log m.1 c.args.parts.tables.value c.args.parts.sessions.items c.args.parts.limits c.args.at c.args.next m.2 c.in-Ok.ready c.in-Ok.is

pub returns-in-Ok-clause-leaves : goal.returns-in-Ok-clause-leaves
returns-in-Ok-clause-leaves g c =
    finish-leaves c.args.parts.log c.args.parts.sessions.items _ c.args.parts.limits c.args.parts.names c.args.next c.in-Ok.ready c.in-Ok.is c.commit.result (g.D.Disk.told c.args.disk.now) (g.D.Disk.told c.commit.new.disk) c.commit.ensures.leaves

pub store_of-requires : goal.store_of-requires
store_of-requires g c =
    let m = c.requires.made in
    finish-refused m.0 c.args.parts.log m.1 c.args.parts.tables.value c.args.parts.sessions.items c.args.parts.limits c.args.at c.args.next m.2 c.in-Err.refusal c.in-Err.is
