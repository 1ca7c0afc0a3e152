use Rattle.std.proofs.Common.{◌∙◌, ◌++◌, ◌∷◌, [], ap₂, sym}
use Rattle.id_groups.specs.Name.{Name}
use Rattle.batch_codec.specs.Lent.{lent_names}
use Rattle.payload_tables.proofs.Heading.{take-next}
use Rattle.payload_tables.proofs.heads.heads_of.Goals as goal

pub heads-preserved : goal.heads-preserved
heads-preserved c =
    c.in_ok-push.ensures.items ∙ ap₂ (λ a (b : Name). a ++ b ∷ []) c.heads.invariant c.to_name.ensures
    ∙ sym (take-next (lent_names c.heads-heads.result) c.heads.i c.at.result.bytes.now c.at.ensures)
