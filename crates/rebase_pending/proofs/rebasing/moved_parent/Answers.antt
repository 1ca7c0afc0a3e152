use Rattle.std.proofs.Common.{◌≤◌, ◌∙◌, ◌^◌, subst, ap, arith}
use Rattle.name_map.specs.Map.{NamesAs}
use Rattle.payload_tables.specs.Bases.{stored_in}
use Rattle.change_parts.specs.declared.fault.PlanFault.TheVariants.{Lost}
use Rattle.rebase_pending.proofs.Moved.{unnamed, other-moved, other-lost, place-other}
use Rattle.rebase_pending.proofs.rebasing.moved_parent.Goals as goal

pub unreachable-requires : goal.unreachable-requires
unreachable-requires c =
    let before = c.requires.base.0 in let b = c.requires.base.1 in let e = c.requires.base.2 in
    let num = c.number.ensures.number in let f = c.if-number-lt-FIRST_OTHER.false in
    let lo : 2 ^ 56 ≤ c.args.parent = omega (arith, num, f) in
    let p = c.place-place.ensures.place ∙ place-other c.args.parent lo in
    unnamed c.args.base.now before c.args.parent lo (let t = c.if-place-first.false in omega (arith, p, t, e, lo))
    (subst (NamesAs (stored_in before) c.args.parent) c.in_default.is (c.name.ensures before b))

pub returns-in-Some-id : goal.returns-in-Some-id
returns-in-Some-id c = λ added before n b e.
    let num = c.number.ensures.number in let f = c.if-number-lt-FIRST_OTHER.false in
    let lo : 2 ^ 56 ≤ c.args.parent = omega (arith, num, f) in
    let p = c.place-place.ensures.place ∙ place-other c.args.parent lo in
    other-moved c.args.newest.now c.args.base.now added before n b c.args.parent c.in-Some.name.bytes.now lo (c.in-Some.ensures before b) c.args.first c.args.ids.now
    (let t = c.if-place-first.false in omega (arith, p, t, lo)) c.id.result c.in-Some-id.id c.in-Some-id.is (c.id.ensures added n)

pub returns-in-None : goal.returns-in-None
returns-in-None c = λ added before n b e.
    let num = c.number.ensures.number in let f = c.if-number-lt-FIRST_OTHER.false in
    let lo : 2 ^ 56 ≤ c.args.parent = omega (arith, num, f) in (
      c.in-Some.name.bytes.now,
      ap Lost c.to_name.ensures,
      other-lost c.args.newest.now c.args.base.now added before n b c.args.parent c.in-Some.name.bytes.now lo (c.in-Some.ensures before b) c.id.result c.in-None.is (c.id.ensures added n),
    )
