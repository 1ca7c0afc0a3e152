use Rattle.std.proofs.Common.{subst}
use Rattle.name_map.specs.Added.{known_of}
use Rattle.name_map.specs.Map.{IsIdOf}
use Rattle.remote_store.proofs.NameLemmas.{id-known}
use Rattle.remote_store.proofs.names.LogNamesMasterNames.id.Goals as goal

pub returns : goal.returns
returns c = λ rows m. id-known c.args.self.now.names.now c.args.self.now.bytes.now c.args.self.now.count rows m c.args.name.now c.id.result
    (subst (λ name. IsIdOf (known_of m.added) name c.args.self.now.count c.id.result) c.lend.ensures (c.id.ensures.id m.added m.map_of m.stand))
