use Rattle.remote_serve.proofs.once.ask_frame.Goals as goal

pub returns-clause-frame : goal.returns-clause-frame
returns-clause-frame g c =
    let a = c.ask_of-made.ensures.asked in
    (a.0, a.1, a.2, a.3, c.frame_in.ensures a.1 a.4)
