use Rattle.std.proofs.Common.{◌-◌, ◌+◌, ◌<◌, ◌≤◌, ◌∙◌, ℕ, drop, ap, arith}
use Rattle.high_segments.specs.Growing.{with_next}
use Rattle.high_segments.proofs.Places.{segments-length}
use Rattle.high_segments.proofs.Groups.{adds-all, adds-size, group-spelled}
use Rattle.high_segments.proofs.Keeping.{front-self, grows-none, grows-more}
use Rattle.high_segments.proofs.grow.grow.Goals as goal

pub returns-in_err-children-clause-front : goal.returns-in_err-children-clause-front
returns-in_err-children-clause-front c = front-self c.args.kept.now

pub groups-init : goal.groups-init
groups-init c = grows-none c.args.below.now c.args.run.now c.args.kept.now c.requires.begin c.requires.grouped c.requires.read

pub overflow_sub-len : goal.overflow_sub-len
overflow_sub-len c =
    let len = c.len-len.ensures in let within = c.groups.invariant.adds.within in let same = segments-length c.args.below.now in omega (arith, len, within, same)

pub add-requires-clause-counted : goal.add-requires-clause-counted
add-requires-clause-counted c =
    let z = adds-size c.args.below.now c.groups.at c.in_ok-size.size c.groups.run c.add_group.new.level c.in_ok-size.ensures.ok.0 c.in_ok-size.ensures.ok.1 in
    let most = z.1 in let t = c.groups-test.true in let len = c.len-len.ensures in let counted = c.requires.counted in let g = c.groups.invariant.grouped in let a = c.groups.invariant.adds.grouped in
    omega (arith, most, t, len, counted, g, a)

pub overflow_add-at : goal.overflow_add-at
overflow_add-at c =
    let z = adds-size c.args.below.now c.groups.at c.in_ok-size.size c.groups.run c.add_group.new.level c.in_ok-size.ensures.ok.0 c.in_ok-size.ensures.ok.1 in
    let most = z.1 in let t = c.groups-test.true in let small = c.len-len.type_inv in omega (arith, most, t, small)

pub groups-smaller : goal.groups-smaller
groups-smaller c =
    let z = adds-size c.args.below.now c.groups.at c.in_ok-size.size c.groups.run c.add_group.new.level c.in_ok-size.ensures.ok.0 c.in_ok-size.ensures.ok.1 in
    let some = z.0 in let t = c.groups-test.true in falls c.len-len.result c.groups.at c.in_ok-size.size some t
  where
    falls : (len at size : ℕ) → 1 ≤ size → 16 ≤ len - at → len - (at + size) < len - at
    falls len at size some t = omega (arith, some, t)

pub groups-preserved : goal.groups-preserved
groups-preserved c =
    let len = c.len-len.ensures in let t = c.groups-test.true in
    let g = c.in_ok-size.ensures.ok in
    let spelled =
    c.spelled_from.ensures ∙ ap (λ n. drop n c.add_group.new.level.bytes) c.spelled_len-place.ensures
    ∙ group-spelled c.args.below.now c.groups.at c.in_ok-size.size c.groups.run c.add_group.new.level g.0 g.1 in
    grows-more c.args.below.now c.requires.sound c.groups.at c.in_ok-size.size c.args.run.now c.groups.run c.add_group.new.level c.args.kept.now c.groups.kept c.add.new.self g.0
    c.groups.invariant (omega (arith, t, len)) g.1
    (c.in_ok-add.ensures.added g.0 spelled ∙ ap (λ (e : ℕ). with_next c.groups.kept g.0 e c.in_ok-size.size) c.end.ensures)

pub returns-clause-groups : goal.returns-clause-groups
returns-clause-groups c =
    let len = c.len-len.ensures in let t = c.groups-test.false in
    adds-all c.args.below.now 0 c.groups.at c.args.run.now c.groups.run c.groups.invariant.adds (omega (arith, t, len))
