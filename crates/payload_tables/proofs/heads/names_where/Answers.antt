use Rattle.std.proofs.Common.{◌∙◌, ◌++◌, ◌&&◌, [], not, false, cond, slice_index_or, ap₂, sym}
use Rattle.batch_codec.specs.Lent.{knowns_of, lent_known}
use Rattle.payload_tables.proofs.Heading.{chosen-next}
use Rattle.payload_tables.proofs.heads.names_where.Goals as goal

pub known-preserved : goal.known-preserved
known-preserved c =
    c.in_ok-add_where.ensures ∙ ap₂ (λ a b. a ++ cond b c.at-entry.result.name.bytes.now []) c.known.invariant c.is_head-chosen.ensures
    ∙ sym (chosen-next (λ k. slice_index_or c.args.highs.now k.id false && not (slice_index_or c.args.parents.now k.id false)) (knowns_of c.args.known.now) c.known.i (lent_known c.at-entry.result) c.at-entry.ensures)
