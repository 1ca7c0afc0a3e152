use Rattle.std.proofs.Common.{refl}
use Rattle.remote_serve.specs.Requests.{request_of}
use Rattle.remote_serve.specs.Answers.{IsNoRequest}
use Rattle.remote_serve.proofs.Asked.{framed-answers, none-answers}
use Rattle.remote_serve.proofs.once.answer_frame.Goals as goal

pub returns-in-None-clause-frame : goal.returns-in-None-clause-frame
returns-in-None-clause-frame g c =
    (IsNoRequest, none-answers c.args.body.now (g.R.Remote.shown c.args.remote.now) c.in-None.ensures.exact, c.frame_in.ensures IsNoRequest refl)

pub returns-in-Some-clause-frame : goal.returns-in-Some-clause-frame
returns-in-Some-clause-frame g c =
    framed-answers c.args.body.now (request_of c.in-Some.ask) (g.R.Remote.shown c.args.remote.now) (g.R.Remote.shown c.ask_frame.new.remote) c.ask_frame.result c.in-Some.ensures.exact c.ask_frame.ensures.frame
