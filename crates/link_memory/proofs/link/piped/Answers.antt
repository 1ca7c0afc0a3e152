use Rattle.std.proofs.Common.{◌≡◌, ap, ◌∙◌}
use Rattle.remote_rules.specs.Mirror.{Mirror}
use Rattle.std.specs.declared.option.Option.{Option}
use Rattle.remote_pipe.specs.Line.{served_by}
use Rattle.remote_pipe.specs.Remote.{PlainPipe, mirror_by, mirror_of}
use Rattle.link_memory.specs.declared.wrong.Way.{Way}
use Rattle.link_memory.specs.Over.{served_over}
use Rattle.link_memory.proofs.Over.{awaits, served-is}
use Rattle.link_memory.proofs.link.piped.Goals as goal

pub new-requires : goal.new-requires
new-requires g c =
    let l = c.new-link.result in
    awaits l.way.wrong (g.R.Remote.shown l.remote) l.to_come l.asked.items c.new-link.ensures.to_come

pub returns-clause-served : goal.returns-clause-served
returns-clause-served g c =
    let l = c.new-link.result in
    ap (λ (p : PlainPipe). served_by p.line.peer) c.new.ensures ∙ served-is l.way.wrong (g.R.Remote.shown l.remote) l.to_come l.asked.items
    ∙ ap (λ (w : Way). served_over w.wrong (g.R.Remote.shown l.remote)) c.new-link.ensures.way ∙ ap (λ r. served_over c.args.way.wrong (g.R.Remote.shown r)) c.new-link.ensures.remote

pub returns-clause-mirror : goal.returns-clause-mirror
returns-clause-mirror g c =
    let l = c.new-link.result in
    ap mirror_of c.new.ensures
    ∙ ap (λ (o : Option Mirror). mirror_by o 0 0) (served-is l.way.wrong (g.R.Remote.shown l.remote) l.to_come l.asked.items
    ∙ ap (λ (w : Way). served_over w.wrong (g.R.Remote.shown l.remote)) c.new-link.ensures.way ∙ ap (λ r. served_over c.args.way.wrong (g.R.Remote.shown r)) c.new-link.ensures.remote)
