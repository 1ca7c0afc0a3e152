use Rattle.std.proofs.Common.{◌^◌, None, subst}
use Rattle.high_segments.specs.Views.{flats_in}
use Rattle.name_map.specs.Map.{IsIdOf}
use Rattle.payload_tables.specs.Bases.{stored_in}
use Rattle.pull_plan.proofs.Taking.{new-beside}
use Rattle.pull_plan.proofs.pulled.row_beside.Goals as goal

pub returns-in_default : goal.returns-in_default
returns-in_default c = λ added n.
    new-beside c.args.newest.now added n (flats_in c.args.view.now) c.args.name.now c.args.parents.now c.args.left.now c.add_new.new.left c.add_new.result
    (subst (λ x. IsIdOf (stored_in added) x (2 ^ 57) None) c.lend.ensures (c.in_default.ensures added n)) c.add_new.ensures
