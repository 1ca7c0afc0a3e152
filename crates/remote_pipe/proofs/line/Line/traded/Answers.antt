use Rattle.std.proofs.Common.{ap, ◌∙◌, arith, Err}
use Rattle.outside.proofs.ToldLemmas.{WhereTold-map}
use Rattle.remote_pipe.specs.Line.{Keeps}
use Rattle.remote_pipe.proofs.Asking.{keeps-more, stopped-body, trade-cause}
use Rattle.remote_pipe.proofs.line.Line.traded.Goals as goal

pub returns-in-Ok-clause-gets : goal.returns-in-Ok-clause-gets
returns-in-Ok-clause-gets g c =
    let t = c.in-Ok.ensures in
    (c.requires, t.stopped ∙ c.requires, t.faults, t.long, WhereTold-map c.args.self.now.peer c.trade.new.self.peer _ _ (λ x y e. e.0) t.exchanges)

pub returns-in-Err-clause-keeps : goal.returns-in-Err-clause-keeps
returns-in-Err-clause-keeps g c =
    let t = c.in-Err.ensures in
    let f = t.faults in
    let k : Keeps c.args.self.now c.trade.new.self = record { served = t.served; put_faults = t.put_faults; take_faults = t.take_faults; faults = omega (arith, f) } in
    keeps-more c.args.self.now c.trade.new.self c.stop.new.self k c.stop.ensures.link c.stop.ensures.later

pub returns-in-Err-clause-gets : goal.returns-in-Err-clause-gets
returns-in-Err-clause-gets g c =
    let t = c.in-Err.ensures in
    let s = c.stop.ensures in
    stopped-body c.in-Err.fault c.args.asked.now c.args.self.now c.trade.new.self c.stop.new.self c.stop.result (record {
      going = c.requires;
      faults = t.faults;
      cause = trade-cause c.in-Err.fault c.args.self.now c.trade.new.self (λ e. t.not_put (ap Err e)) (λ e. t.not_taken (ap Err e));
      stops = t.exchanges;
      link = s.link;
      stopped = s.stopped;
      failed = s.failed;
      memory = s.memory;
    })
