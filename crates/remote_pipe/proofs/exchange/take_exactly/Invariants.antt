use Rattle.std.proofs.Common.{◌≡◌, ◌≤◌, ◌-◌, length, take}
use Rattle.remote_pipe.specs.Exchange.{Took}
use Rattle.std.specs.Prelude.{is_some}
use Rattle.outside.specs.Told.{WhereTold}
use Rattle.remote_pipe.specs.Line.{served_by}
use Rattle.remote_pipe.proofs.exchange.take_exactly.Given as goal

abbrev pub invariant-takes : goal.invariant-takes
invariant-takes g l = record {
  within : l.at ≤ length l.out;
  len : length l.out ≡ length l.fn.out;
  took : WhereTold (g.L.Link.peer l.fn.link) (g.L.Link.peer l.link) (Took (take l.at l.out));
  served : is_some (served_by (g.L.Link.peer l.link)) ≡ is_some (served_by (g.L.Link.peer l.fn.link));
  put_faults : g.L.Link.put_faults l.fn.link ≤ g.L.Link.put_faults l.link;
  take_faults : g.L.Link.take_faults l.fn.link ≤ g.L.Link.take_faults l.link;
}

abbrev pub decreases-takes : goal.decreases-takes
decreases-takes g l = length l.out - l.at
