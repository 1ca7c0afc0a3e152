use Rattle.std.proofs.Common.{refl}
use Rattle.outside.proofs.ToldLemmas.{WhereTold-map}
use Rattle.remote_serve.specs.Steps.{ports}
use Rattle.dag_run.proofs.Served.{the-one, unserved}
use Rattle.dag_run.proofs.serving.serve_mirror.Goals as goal

pub returns-in-Ok-clause-means : goal.returns-in-Ok-clause-means
returns-in-Ok-clause-means g c = λ one.
    WhereTold-map (ports (g.I.Source.left c.args.input.now) (g.O.Sink.taken c.args.output.now)) (ports (g.I.Source.left c.serve_only-end.new.input) (g.O.Sink.taken c.serve_only-end.new.output)) _ _
    (λ before after serves. (c.serve_only-end.result, c.status.ensures, serves)) (c.serve_only-end.ensures.serves c.args.limit c.in-Ok.ensures)

pub returns-in-Err-clause-means : goal.returns-in-Err-clause-means
returns-in-Err-clause-means g c = λ one.
    unserved c.args.limit 7 refl _ (the-one _ c.args.mirrors.now.list.items one) (g.I.Source.left c.args.input.now) (g.O.Sink.taken c.args.output.now)
