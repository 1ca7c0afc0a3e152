use Rattle.std.proofs.Common.{◌≡◌, ◌∙◌, ap, subst, Option, Ok, Err}
use Rattle.std.specs.Prelude.{is_some}
use Rattle.outside.specs.Told.{WhereTold}
use Rattle.remote_pipe.specs.Peer.{Peer, TakesFrom}
use Rattle.remote_pipe.specs.Line.{served_by}
use Rattle.remote_pipe.specs.declared.fault.LinkFault.{LinkFault}
use Rattle.link_memory.specs.declared.wrong.Way.{Way}
use Rattle.link_memory.specs.Over.{peer_over}
use Rattle.link_memory.proofs.Over.{where-served, still-served, same-peer, takes-none, takes-some}
use Rattle.link_memory.proofs.link.MemoryLinkLink.take.Goals as goal

pub returns-then-is_spent-clause-takes : goal.returns-then-is_spent-clause-takes
returns-then-is_spent-clause-takes g c =
    let shown = g.R.Remote.shown in let s = c.args.self.now in let n = c.is_spent.new.self in let e = c.is_spent.ensures in
    let p = same-peer s.way.wrong n.way.wrong (shown s.remote) (shown n.remote) s.to_come n.to_come s.asked.items n.asked.items (ap (λ (w : Way). w.wrong) e.way) (ap shown e.remote) e.to_come e.asked in
    subst (λ (o : Option Peer). WhereTold o (peer_over n.way.wrong (shown n.remote) n.to_come n.asked.items) (TakesFrom {E = LinkFault} (Err _) c.args.out.now)) p
    (where-served n.way.wrong (TakesFrom {E = LinkFault} (Err _) c.args.out.now) _ _ _ _ _ _ (takes-none _ c.args.out.now (shown n.remote) n.to_come n.asked.items))

pub returns-then-is_spent-clause-served : goal.returns-then-is_spent-clause-served
returns-then-is_spent-clause-served g c =
    let shown = g.R.Remote.shown in let s = c.args.self.now in let n = c.is_spent.new.self in let e = c.is_spent.ensures in
    ap (λ (o : Option Peer). is_some (served_by o))
    (same-peer s.way.wrong n.way.wrong (shown s.remote) (shown n.remote) s.to_come n.to_come s.asked.items n.asked.items (ap (λ (w : Way). w.wrong) e.way) (ap shown e.remote) e.to_come e.asked)

pub returns-clause-takes : goal.returns-clause-takes
returns-clause-takes g c =
    let shown = g.R.Remote.shown in let s = c.args.self.now in let n = c.is_spent.new.self in let e = c.is_spent.ensures in
    let p = same-peer s.way.wrong n.way.wrong (shown s.remote) (shown n.remote) s.to_come n.to_come s.asked.items n.asked.items (ap (λ (w : Way). w.wrong) e.way) (ap shown e.remote) e.to_come e.asked in
    subst (λ (o : Option Peer). WhereTold o (peer_over n.way.wrong (shown n.remote) c.take.new.self n.asked.items) (TakesFrom {E = LinkFault} (Ok c.take.result) c.take.new.out)) p
    (where-served n.way.wrong (TakesFrom {E = LinkFault} (Ok c.take.result) c.take.new.out) _ _ _ _ _ _
    (takes-some c.take.result c.take.new.out (shown n.remote) n.to_come c.take.new.self n.asked.items c.take.ensures.parts c.take.ensures.end))

pub returns-clause-served : goal.returns-clause-served
returns-clause-served g c =
    let shown = g.R.Remote.shown in let s = c.args.self.now in let n = c.is_spent.new.self in let e = c.is_spent.ensures in
    still-served n.way.wrong (shown n.remote) (shown n.remote) n.to_come c.take.new.self n.asked.items n.asked.items
    ∙ ap (λ (o : Option Peer). is_some (served_by o))
    (same-peer s.way.wrong n.way.wrong (shown s.remote) (shown n.remote) s.to_come n.to_come s.asked.items n.asked.items (ap (λ (w : Way). w.wrong) e.way) (ap shown e.remote) e.to_come e.asked)
