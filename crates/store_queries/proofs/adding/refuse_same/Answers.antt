use Rattle.std.proofs.Common.{sym}
use Rattle.store_queries.proofs.Parents.{distinct-more, twin-there}
use Rattle.store_queries.proofs.adding.refuse_same.Goals as goal

pub returns-then-has_id : goal.returns-then-has_id
returns-then-has_id c = ((λ d. twin-there c.args.ids.now c.ids.place c.index-ids-place.result c.ids-test.true c.index-ids-place.is (sym c.if-has_id.ensures) d), tt)

pub ids-preserved : goal.ids-preserved
ids-preserved c = distinct-more c.args.ids.now c.ids.place c.index-ids-place.result c.ids-test.true c.index-ids-place.is c.ids.invariant (sym c.if-has_id.ensures)
