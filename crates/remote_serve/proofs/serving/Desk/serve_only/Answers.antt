use Rattle.outside.proofs.ToldLemmas.{WhereTold-map}
use Rattle.remote_serve.specs.Steps.{ports}
use Rattle.remote_serve.proofs.OneItem.{one-item}
use Rattle.remote_serve.proofs.serving.Desk.serve_only.Goals as goal

pub returns-clause-serves : goal.returns-clause-serves
returns-clause-serves g c = λ limit new.
    let one = one-item g.R.Remote.shown c.args.list.now.items c.index_mut-remote.result.now c.serve.new.remote c.requires.one c.index_mut-remote.ensures.value in
    WhereTold-map (ports (g.I.Source.left c.args.input.now) (g.O.Sink.taken c.args.output.now)) (ports (g.I.Source.left c.serve.new.input) (g.O.Sink.taken c.serve.new.output)) _ _
    (λ before after ends. (g.R.Remote.shown c.index_mut-remote.result.now, g.R.Remote.shown c.serve.new.remote, one.0, one.1, ends))
    (c.serve.ensures.serves limit new)
