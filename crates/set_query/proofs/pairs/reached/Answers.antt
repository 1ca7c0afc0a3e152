use Rattle.set_query.proofs.Alike.{on-ok, both}
use Rattle.set_query.proofs.pairs.reached.Goals as goal

pub returns-clause-members : goal.returns-clause-members
returns-clause-members g c =
    on-ok c.inter.result _ _ (λ r h x. both (h x) (
      (λ k. (k.0, ((c.in_ok-above.ensures.members x).0 k.1).0)),
      (λ k. (k.0, (c.in_ok-above.ensures.members x).1 (k.1, c.floor_of.ensures x k.0))),
    )) c.inter.ensures.members
