use Rattle.remote_store.proofs.NameLemmas.{name-known}
use Rattle.remote_store.proofs.names.LogNamesMasterNames.name.Goals as goal

pub unwrap-requires : goal.unwrap-requires
unwrap-requires c =
    let m = c.requires.1 in
    name-known c.args.self.now.names.now c.args.self.now.bytes.now c.args.self.now.count c.requires.0 m c.args.id c.requires.2 c.name.result (c.name.ensures.name m.added m.map_of m.stand)
