use Rattle.segdag_c.proofs.Settling.{lender-has, load-notes}
use Rattle.segdag_c.proofs.loading.load_store.Goals as goal

pub load_on-requires-clause-lends : goal.load_on-requires-clause-lends
load_on-requires-clause-lends g c = lender-has c.args.bytes.now g.disk

pub returns-clause-notes : goal.returns-clause-notes
returns-clause-notes g c = load-notes c.args.bytes.now c.load_on.result g.disk c.load_on.ensures.notes
