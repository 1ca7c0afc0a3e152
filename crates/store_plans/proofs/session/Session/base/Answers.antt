use Rattle.store_plans.specs.Sessions.{base_added}
use Rattle.store_plans.proofs.Newest.{may-base}
use Rattle.store_plans.proofs.session.Session.base.Goals as goal

pub returns : goal.returns
returns c = λ added of tables stand.
    c.over.ensures (base_added added c.args.self.now) (may-base c.args.bytes.now c.args.tables.now added c.args.self.now of tables stand)
