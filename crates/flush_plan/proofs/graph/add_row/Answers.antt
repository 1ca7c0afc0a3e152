use Rattle.std.proofs.Common.{◌∙◌, ℕ, ap, sym, length, arith}
use Rattle.flush_plan.proofs.PlaceRows.{put-row}
use Rattle.segment_codec.specs.Lent.{parents_left}
use Rattle.flush_plan.proofs.graph.add_row.Goals as goal

pub returns : goal.returns
returns c = λ list are small.
    let size = c.len-start.ensures in let ok = c.args.rows.now.ids.ok.0 in
    put-row _ _ _ _ (parents_left c.args.parents) list _ _ are small (c.in_ok-end_row.ensures.ids ∙ c.in_ok-add_parents.ensures) c.in_ok-end_row.ensures.places (omega (arith, size, ok)) (ap (length {A = ℕ}) (sym c.in_ok-end_row.ensures.ids))
