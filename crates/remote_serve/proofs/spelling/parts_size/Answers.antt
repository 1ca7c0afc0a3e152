use Rattle.std.proofs.Common.{arith, refl}
use Rattle.remote_serve.proofs.Sizes.{all-of}
use Rattle.remote_serve.proofs.spelling.parts_size.Goals as goal

pub returns-clause-told : goal.returns-clause-told
returns-clause-told c = record {
  flat = refl;
  low = omega (arith, c.ranges.low);
  high = omega (arith, c.ranges.high);
  few = c.requires;
  parents = all-of c.args.parents.now (λ i. omega (arith, c.type_inv.parents i));
}
