use Rattle.outside.proofs.ToldLemmas.{WhereTold-join, WhereTold-map}
use Rattle.remote_pipe.proofs.Taking.{frame-taken, frame-fault}
use Rattle.remote_pipe.proofs.exchange.take_frame.Goals as goal

pub returns-in-Ok-clause-takes : goal.returns-in-Ok-clause-takes
returns-in-Ok-clause-takes g c =
    WhereTold-join (g.L.Link.peer c.args.link.now) (g.L.Link.peer c.take_length.new.link) (g.L.Link.peer c.take_rest.new.link) _ _ _
    (λ x y z t b. frame-taken c.in-Ok.len c.take_rest.result x y z t b) c.in-Ok.ensures.takes c.take_rest.ensures.takes

pub returns-in-Err-clause-takes : goal.returns-in-Err-clause-takes
returns-in-Err-clause-takes g c =
    WhereTold-map (g.L.Link.peer c.args.link.now) (g.L.Link.peer c.take_length.new.link) _ _ (λ x y t. frame-fault c.in-Err.fault x y t) c.in-Err.ensures.takes
