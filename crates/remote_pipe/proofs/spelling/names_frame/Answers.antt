use Rattle.remote_pipe.proofs.FramesPut.{names-framed}
use Rattle.remote_pipe.proofs.spelling.names_frame.Goals as goal

pub returns : goal.returns
returns c =
    names-framed c.in_ok-out.out.items c.push.new.self.items c.put_name.new.out.items c.put_number.new.out.items c.put_count.new.out.items c.args.x.now c.args.back c.args.count c.name_size-size.result
    c.name_size-size.ensures.name.0 c.name_size-size.ensures.size c.in_ok-out.ensures c.in_ok-push.ensures.items c.in_ok-put_name.ensures c.in_ok-put_number.ensures c.in_ok-put_count.ensures
