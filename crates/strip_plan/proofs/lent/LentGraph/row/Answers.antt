use Rattle.std.proofs.Common.{◌∙◌, [], List, ℕ, get_or, ap, arith}
use Rattle.strip_plan.specs.declared.lent.Row.{Row}
use Rattle.strip_plan.specs.declared.lent.Row.TheVariants.{Root}
use Rattle.strip_plan.specs.LentRows.{lent_row}
use Rattle.strip_plan.proofs.Lending.{lent-at}
use Rattle.strip_plan.proofs.lent.LentGraph.row.Goals as goal

pub returns : goal.returns
returns c =
    ap (lent_row c.args.k) (c.row_at.ensures ∙ ap (λ (rows : List Row). get_or rows c.args.k Root) c.deref.ensures.value)
    ∙ lent-at 0 c.args.k c.args.k c.self.inside.rows.items (omega arith)
    ∙ ap (λ (l : List (List ℕ)). get_or l c.args.k []) c.self.view_is
