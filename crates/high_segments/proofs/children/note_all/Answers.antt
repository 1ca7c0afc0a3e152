use Rattle.std.proofs.Common.{◌∙◌, sym}
use Rattle.segment_codec.specs.Lent.{segment_of}
use Rattle.segment_levels.specs.Kept.{segments_in}
use Rattle.high_segments.proofs.Places.{segments-length}
use Rattle.high_segments.proofs.Noting.{noted-none, noted-more}
use Rattle.high_segments.proofs.children.note_all.Goals as goal

pub loop-k-init : goal.loop-k-init
loop-k-init c = noted-none (segments_in c.args.below.now) c.args.note.now (c.requires.count ∙ sym (segments-length c.args.below.now))

pub loop-k-preserved : goal.loop-k-preserved
loop-k-preserved c =
    noted-more (segments_in c.args.below.now) c.loop-k.k c.loop-k.note c.note_parents.new.note c.loop-k.invariant (segment_of c.at.result) c.at.ensures c.note_parents.ensures
