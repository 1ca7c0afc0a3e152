use Rattle.std.proofs.Common.{◌≤◌, ◌∙◌, ◌^◌, arith}
use Rattle.rebase_pending.proofs.Moved.{unnamed, other-at, place-other}
use Rattle.rebase_pending.proofs.rebasing.stored_parent.Goals as goal

pub returns-in_err-name : goal.returns-in_err-name
returns-in_err-name c = λ added before n b e.
    let num = c.number.ensures.number in let f = c.if-number-lt-FIRST_OTHER.false in
    let lo : 2 ^ 56 ≤ c.args.parent = omega (arith, num, f) in
    let p = c.place-place.ensures.place ∙ place-other c.args.parent lo in
    absurd (unnamed c.args.base.now before c.args.parent lo (let t = c.if-place-first.false in omega (arith, p, t, e, lo)) (c.in_err-name.ensures before b))

pub returns : goal.returns
returns c = λ added before n b e.
    let num = c.number.ensures.number in let f = c.if-number-lt-FIRST_OTHER.false in
    let lo : 2 ^ 56 ≤ c.args.parent = omega (arith, num, f) in
    let p = c.place-place.ensures.place ∙ place-other c.args.parent lo in
    other-at c.args.newest.now c.args.base.now added before n b c.args.parent c.in_ok-name.field-0.bytes.now lo (c.in_ok-name.ensures before b) c.args.first c.args.found.now
    (let t = c.if-place-first.false in omega (arith, p, t, lo)) c.id.result (c.id.ensures added n)
