use Rattle.id_groups.specs.Name.{same_name}
use Rattle.id_groups.proofs.Names.{same_name-exact, same_name-self}
use Rattle.plain_query.proofs.Alike.{on-ok, others-meant}
use Rattle.plain_query.proofs.words.others_of.Goals as goal

pub returns : goal.returns
returns c =
    on-ok c.minus.result _ _ (λ rest iff. others-meant same_name same_name-exact same_name-self c.args.world.now c.in_ok-all.all c.in_ok-masters.masters rest
    c.in_ok-all.ensures c.in_ok-masters.ensures iff) c.minus.ensures
