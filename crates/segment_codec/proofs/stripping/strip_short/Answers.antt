use Rattle.std.proofs.Common.{Some, ◌∙◌}
use Rattle.std.proofs.lemmas.Bool.Decides.{Decides-eqb}
use Rattle.std.proofs.lemmas.Slice.Eq.{strip_prefix_is}
use Rattle.segment_codec.specs.Lent.{segment_of}
use Rattle.segment_codec.proofs.Stripped.{stripped}
use Rattle.segment_codec.proofs.stripping.strip_short.Goals as goal

pub returns : goal.returns
returns c =
    let front = strip_prefix_is Decides-eqb c.args.bytes.now c.as_slice.result.now (Some c.in_ok-behind.behind) c.in_ok-behind.ensures.cases in
    let parents = strip_prefix_is Decides-eqb c.in_ok-behind.behind.now c.args.segment.parents.now c.strip_prefix-2.result c.strip_prefix-2.ensures.cases in
    stripped (segment_of c.args.segment) c.args.bytes.now c.as_slice.result.now c.in_ok-behind.behind.now c.args.segment.parents.now c.strip_prefix-2.result
    front (c.as_slice.ensures ∙ c.in_ok-front.ensures) c.args.segment.spelled parents
