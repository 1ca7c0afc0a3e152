use Rattle.std.proofs.Common.{◌≡◌, ◌∙◌, ◌++◌, ap, arith, drop}
use Rattle.std.specs.Prelude.{reverse}
use Rattle.mirror_set.proofs.FlatNames.{reversed-none, reversed-more, reversed-length}
use Rattle.mirror_set.proofs.fresh.FreshNames.add_reversed.Goals as goal

pub names-init : goal.names-init
names-init c = c.self.view_is ∙ reversed-none c.args.self.now c.args.names.now

pub invariant_of-self : goal.invariant_of-self
invariant_of-self c =
    let few = c.requires in
    let most = reversed-length c.args.self.now c.args.names.now c.names.self-inside.items.items c.names.i c.names.auto.i c.names.invariant in
    omega (arith, few, most)

pub names-preserved : goal.names-preserved
names-preserved c = c.in_ok-push.ensures.items
    ∙ reversed-more c.args.self.now c.args.names.now c.names.self-inside.items.items c.names.i c.index-names-i.result c.names-test.true c.names.auto.i c.index-names-i.is c.names.invariant

pub invariant_of-self-in_err-push : goal.invariant_of-self-in_err-push
invariant_of-self-in_err-push c =
    let few = c.requires in
    let same = c.in_err-push.ensures.items in
    let most = reversed-length c.args.self.now c.args.names.now c.push.new.self.items c.names.i c.names.auto.i (same ∙ c.names.invariant) in
    omega (arith, few, most)

pub returns : goal.returns
returns c =
    let test = c.names-test.false in
    let none : c.names.i ≡ 0 = omega (arith, test) in
    c.names.invariant ∙ ap (λ n. c.args.self.now ++ reverse (drop n c.args.names.now)) none
