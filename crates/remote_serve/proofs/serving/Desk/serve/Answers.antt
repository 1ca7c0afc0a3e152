use Rattle.std.proofs.Common.{◌∙◌}
use Rattle.remote_serve.proofs.Turns.{started}
use Rattle.remote_serve.proofs.serving.Desk.serve.Goals as goal

pub returns-clause-serves : goal.returns-clause-serves
returns-clause-serves g c = λ limit new.
    started (g.I.Source.left c.args.input.now) (g.I.Source.left c.serve_all.new.input) (g.O.Sink.taken c.args.output.now) (g.O.Sink.taken c.serve_all.new.output)
    limit c.self.inside.frames (g.R.Remote.shown c.args.remote.now) (g.R.Remote.shown c.serve_all.new.remote) c.serve_all.result (c.self.view_is ∙ new) c.serve_all.ensures.means
