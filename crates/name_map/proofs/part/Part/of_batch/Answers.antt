use Rattle.std.proofs.Common.{ℕ, ap, ◌∙◌}
use Rattle.batch_codec.specs.Lent.{payload_of}
use Rattle.name_map.specs.Part.{ids_of}
use Rattle.name_map.proofs.More.{is-part}
use Rattle.name_map.proofs.part.Part.of_batch.Goals as goal

pub invariant_of-result : goal.invariant_of-result
invariant_of-result c =
    is-part (payload_of c.args.batch.now) _ c.args.rank c.args.start _ c.requires.payload c.before-2.ensures
    (ap (λ (n : ℕ). ids_of n c.in_ok-ids.ids) c.before-2.ensures ∙ c.in_ok-ids.ensures) c.requires.places c.requires.counts
