use Rattle.segment_codec.proofs.Turns.{goes-on-means, goes-on-decided}
use Rattle.segment_codec.proofs.laws.segments_go_on.Goals as goal

pub returns : goal.returns
returns c = λ s. (goes-on-means s, goes-on-decided s)
