use Rattle.std.proofs.Common.{sym, subst}
use Rattle.name_map.specs.Map.{IsMapOf}
use Rattle.remote_store.proofs.Fitting.{named-counted}
use Rattle.remote_store.proofs.loaded.is_named.Goals as goal

pub returns : goal.returns
returns c = λ added are. named-counted c.args.tables.now added are c.master_count-count.result c.known_below.result c.master_count-count.ensures
    (c.known_below.ensures added (subst (λ m. IsMapOf m added) (sym c.names.ensures) are.names))
