use Rattle.std.proofs.Common.{◌≡◌, ◌-◌, ◌<◌, ◌≤◌, ◌++◌, length, take, drop}
use Rattle.span_set.specs.Members.{IsCanonical, ids_of}
use Rattle.span_set.proofs.set.IdSet.take_greatest.Given as goal

abbrev pub invariant-take : goal.invariant-take
invariant-take l = record {
  within : l.i ≤ length l.self;
  canonical : IsCanonical l.spans.items;
  whole : 0 < l.left → l.spans.items ≡ take l.i l.self;
  ids : ids_of l.spans.items ++ take l.left (ids_of (drop l.i l.self)) ≡ take l.fn.n (ids_of l.self);
}

abbrev pub decreases-take : goal.decreases-take
decreases-take l = length l.self - l.i
