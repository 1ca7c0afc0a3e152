use Rattle.dag_store.proofs.WholeLemmas.{rows-are}
use Rattle.dag_store.proofs.whole.Whole.rows.Goals as goal

pub returns : goal.returns
returns c = λ w h. rows-are c.args.self.now.log.now c.args.self.now.tables.now c.args.self.now.none w h c.master_count.result c.master_count.ensures
