use Rattle.outside.proofs.ToldLemmas.{WhereTold-join}
use Rattle.remote_pipe.proofs.Taking.{exchanged}
use Rattle.remote_pipe.proofs.exchange.exchange.Goals as goal

pub returns-in-Ok-clause-exchanges : goal.returns-in-Ok-clause-exchanges
returns-in-Ok-clause-exchanges g c =
    WhereTold-join (g.L.Link.peer c.args.link.now) (g.L.Link.peer c.put.new.self) (g.L.Link.peer c.take_frame.new.link) _ _ _
    (λ x y z p t. exchanged c.args.asked.now c.take_frame.result x y z p t) c.in-Ok.ensures.puts c.take_frame.ensures.takes
