use Rattle.id_groups.specs.Name.{same_name}
use Rattle.id_groups.proofs.Names.{same_name-exact, same_name-self}
use Rattle.plain_query.proofs.Alike.{on-ok, tips-meant}
use Rattle.plain_query.proofs.forms.tips_of.Goals as goal

pub returns : goal.returns
returns c =
    on-ok c.minus.result _ _ (λ r iff. tips-meant same_name same_name-exact same_name-self c.args.world.now c.row_count-rows.ensures.world c.args.set.now
    c.in_ok-parents.parents c.in_ok-reached.reached r c.in_ok-parents.ensures c.in_ok-reached.ensures iff) c.minus.ensures
