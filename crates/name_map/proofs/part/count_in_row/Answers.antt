use Rattle.std.proofs.Common.{◌≡◌, ◌-◌, min, ℕ, ◌∙◌, ap, sym, arith}
use Rattle.name_map.proofs.Ids.{row-count}
use Rattle.name_map.proofs.part.count_in_row.Goals as goal

pub returns-then-number-first : goal.returns-then-number-first
returns-then-number-first c =
    let lt = c.if-number-first.true in
    let none : 0 ≡ min (c.args.number - c.args.first) c.args.count = omega (arith, lt) in
    none ∙ sym (row-count c.args.number c.args.first c.args.count)

pub returns : goal.returns
returns c = c.min.ensures ∙ ap (λ (n : ℕ). min (c.args.number - c.args.first) n) c.from.ensures ∙ sym (row-count c.args.number c.args.first c.args.count)
