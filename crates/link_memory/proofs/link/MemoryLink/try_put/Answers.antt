use Rattle.std.proofs.Common.{sym, subst}
use Rattle.outside.specs.Told.{WhereTold}
use Rattle.remote_pipe.specs.Peer.{PutsTo}
use Rattle.link_memory.specs.declared.wrong.Way.{Way}
use Rattle.link_memory.specs.Over.{peer_over}
use Rattle.link_memory.proofs.Over.{where-served, where-wrong}
use Rattle.link_memory.proofs.link.MemoryLink.try_put.Goals as goal

pub returns-in-Some-clause-puts : goal.returns-in-Some-clause-puts
returns-in-Some-clause-puts g c =
    let s = c.args.self.now in let n = c.serve_wrong.new.self in
    subst (λ (w : Way). WhereTold (peer_over s.way.wrong (g.R.Remote.shown s.remote) s.to_come s.asked.items) (peer_over w.wrong (g.R.Remote.shown n.remote) n.to_come n.asked.items) (PutsTo c.args.piece.now c.serve_wrong.result))
    (sym c.serve_wrong.ensures.way) (where-wrong s.way.wrong (PutsTo c.args.piece.now c.serve_wrong.result) _ _ _ _ _ _ c.in-Some.ensures)

pub returns-in-None-clause-puts : goal.returns-in-None-clause-puts
returns-in-None-clause-puts g c =
    let s = c.args.self.now in let n = c.serve.new.self in
    subst (λ (w : Way). WhereTold (peer_over s.way.wrong (g.R.Remote.shown s.remote) s.to_come s.asked.items) (peer_over w.wrong (g.R.Remote.shown n.remote) n.to_come n.asked.items) (PutsTo c.args.piece.now c.serve.result))
    (sym c.serve.ensures.way) (where-served s.way.wrong (PutsTo c.args.piece.now c.serve.result) _ _ _ _ _ _ c.serve.ensures.puts)
