use Rattle.set_query.proofs.Alike.{on-ok, both}
use Rattle.set_query.proofs.pairs.missed.Goals as goal

pub returns-clause-members : goal.returns-clause-members
returns-clause-members g c =
    on-ok c.minus.result _ _ (λ r h x. both (h x) (
      (λ k. (k.0, λ up. k.1 ((c.in_ok-above.ensures.members x).1 (up, c.floor_of.ensures x k.0)))),
      (λ k. (k.0, λ up. k.1 ((c.in_ok-above.ensures.members x).0 up).0)),
    )) c.minus.ensures.members
