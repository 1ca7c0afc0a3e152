use Rattle.std.proofs.Common.{◌≡◌, Ok, Err, sym, subst}
use Rattle.std.specs.declared.alloc.AllocError.{AllocError}
use Rattle.std.specs.Prelude.{is_some}
use Rattle.outside.proofs.ToldLemmas.{WhereTold-map}
use Rattle.remote_pipe.specs.Peer.{PutsTo}
use Rattle.remote_pipe.specs.Line.{served_by}
use Rattle.remote_pipe.specs.declared.fault.LinkFault.{LinkFault}
use Rattle.link_memory.specs.declared.wrong.Way.{Way}
use Rattle.link_memory.specs.Over.{peer_over}
use Rattle.link_memory.proofs.Over.{still-served}
use Rattle.link_memory.proofs.link.MemoryLinkLink.put.Goals as goal

pub returns-in-Ok-clause-puts : goal.returns-in-Ok-clause-puts
returns-in-Ok-clause-puts g c =
    let s = c.args.self.now in let n = c.try_put.new.self in
    WhereTold-map (peer_over s.way.wrong (g.R.Remote.shown s.remote) s.to_come s.asked.items) (peer_over n.way.wrong (g.R.Remote.shown n.remote) n.to_come n.asked.items)
    (PutsTo {E = AllocError} c.args.piece.now (Ok tt)) (PutsTo {E = LinkFault} c.args.piece.now (Ok tt)) (λ before after h. h) c.in-Ok.ensures.puts

pub returns-in-Ok-clause-served : goal.returns-in-Ok-clause-served
returns-in-Ok-clause-served g c =
    let s = c.args.self.now in let n = c.try_put.new.self in
    subst (λ (w : Way). is_some (served_by (peer_over w.wrong (g.R.Remote.shown n.remote) n.to_come n.asked.items)) ≡ is_some (served_by (peer_over s.way.wrong (g.R.Remote.shown s.remote) s.to_come s.asked.items)))
    (sym c.try_put.ensures.way) (still-served s.way.wrong _ _ _ _ _ _)

pub returns-in-Err-clause-puts : goal.returns-in-Err-clause-puts
returns-in-Err-clause-puts g c =
    let s = c.args.self.now in let n = c.try_put.new.self in
    WhereTold-map (peer_over s.way.wrong (g.R.Remote.shown s.remote) s.to_come s.asked.items) (peer_over n.way.wrong (g.R.Remote.shown n.remote) n.to_come n.asked.items)
    (PutsTo {E = AllocError} c.args.piece.now (Err _)) (PutsTo {E = LinkFault} c.args.piece.now (Err _)) (λ before after h. h) c.in-Err.ensures.puts

pub returns-in-Err-clause-served : goal.returns-in-Err-clause-served
returns-in-Err-clause-served g c =
    let s = c.args.self.now in let n = c.try_put.new.self in
    subst (λ (w : Way). is_some (served_by (peer_over w.wrong (g.R.Remote.shown n.remote) n.to_come n.asked.items)) ≡ is_some (served_by (peer_over s.way.wrong (g.R.Remote.shown s.remote) s.to_come s.asked.items)))
    (sym c.try_put.ensures.way) (still-served s.way.wrong _ _ _ _ _ _)
