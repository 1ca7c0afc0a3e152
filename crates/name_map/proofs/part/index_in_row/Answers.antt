use Rattle.std.proofs.Common.{arith, inl, inr}
use Rattle.name_map.proofs.Ids.{row-none, row-some}
use Rattle.name_map.proofs.part.index_in_row.Goals as goal
use Rattle.name_map.proofs.part.index_in_row.Goals.{then-number-first-via-then-number-first, then-number-first-via-else-number-first+then-number-first-2}

pub returns-then-number-first : goal.returns-then-number-first
returns-then-number-first c =
    row-none c.args.first c.args.count c.args.number
    (elim c.then-number-first.branch [
      | then-number-first-via-then-number-first w ↦ inl w.if-number-first.true
      | then-number-first-via-else-number-first+then-number-first-2 w ↦ inr (omega arith)
    ])

pub returns : goal.returns
returns c = row-some c.args.first c.args.count c.args.number (omega arith) (omega arith)
