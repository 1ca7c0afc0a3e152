use Rattle.std.proofs.Common.{sym, subst}
use Rattle.remote_store.specs.Names.{AreLogNames}
use Rattle.remote_store.proofs.Mastering.{read-names}
use Rattle.remote_store.proofs.loaded.names_of.Goals as goal

pub returns : goal.returns
returns c = λ none read.
    let rows = read.of_world.master in
    let whole = read-names c.args.log.now c.args.tables.now none read c.master_count.result c.master_count.ensures in
    subst (λ names. AreLogNames names c.bytes.result.now c.master_count.result rows) (sym c.names.ensures)
    (subst (λ bytes. AreLogNames c.args.tables.now.names bytes c.master_count.result rows) (sym c.bytes.ensures.bytes) whole)
