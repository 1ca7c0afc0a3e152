use Rattle.remote_store.proofs.ReadLemmas.{made-none}
use Rattle.remote_store.proofs.loaded.tables_of.Goals as goal

pub returns-in-Err : goal.returns-in-Err
returns-in-Err c = made-none c.args.log.now c.in-Err.fault c.table_fault.result c.table_fault.ensures c.in-Err.ensures.err
