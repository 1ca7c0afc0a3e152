use Rattle.segment_codec.specs.Lent.{segment_of}
use Rattle.range_query.proofs.Spelled.{unspelled}
use Rattle.range_query.proofs.flat_pass.has_parent_spelled.Goals as goal

pub returns-then-not-has_byte_of_few : goal.returns-then-not-has_byte_of_few
returns-then-not-has_byte_of_few c = λ h. absurd
    (unspelled c.args.set.now (segment_of c.args.segment) c.args.byte c.parents_bytes.result.now c.parents_bytes.ensures c.requires (c.has_byte_of_few.ensures c.if-not-has_byte_of_few.true) h)
