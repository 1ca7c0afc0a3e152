use Rattle.std.proofs.Common.{lit≤}
use Rattle.change_rules.proofs.standard_limits.Goals as goal

pub returns : goal.returns
returns c = record {
  pending = (lit≤ tt, lit≤ tt);
  others = (lit≤ tt, lit≤ tt);
  master = (lit≤ tt, lit≤ tt);
  log = (lit≤ tt, lit≤ tt);
  answer = (lit≤ tt, lit≤ tt);
  input = (lit≤ tt, lit≤ tt);
}
