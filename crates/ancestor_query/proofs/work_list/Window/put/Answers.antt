use Rattle.std.proofs.Common.{arith, ◌-◌}
use Rattle.ancestor_query.proofs.WindowLemmas.{set-small, set-numbers, set-takes}
use Rattle.ancestor_query.proofs.work_list.Window.put.Goals as goal

pub invariant_of-self : goal.invariant_of-self
invariant_of-self c =
    let inside = c.self.invariant in
    let low = c.if-number-self.false in
    let near = c.if-place-ge-REACH.false in (
      set-numbers c.self.inside.end c.self.inside.bits (c.self.inside.end - 1 - c.number-number.result) inside.0 (omega (arith, low)) near,
      inside.1,
      set-small c.self.inside.bits (c.self.inside.end - 1 - c.number-number.result) inside.2,
    )

pub returns : goal.returns
returns c =
    let inside = c.self.invariant in
    set-takes c.self.inside.end c.self.inside.bits c.number-number.result c.args.id c.args.self.now inside.0 inside.2 c.self.view_is c.number-number.ensures.number c.if-number-self.false
    c.if-place-ge-REACH.false
