use Rattle.std.proofs.Common.{arith}
use Rattle.segment_codec.specs.Record.{IsSegment}
use Rattle.segment_codec.specs.Lent.{segment_of}
use Rattle.segment_levels.specs.Kept.{segments_in}
use Rattle.high_segments.proofs.Places.{segments-length}
use Rattle.high_segments.proofs.StoringLemmas.{row-next, row-done, all-at}
use Rattle.high_segments.proofs.storing.write_row.Goals as goal

pub write_record-requires : goal.write_record-requires
write_record-requires c = all-at IsSegment (segments_in c.args.run.now) c.segments.i (segment_of c.at.result) c.requires.spelled c.at.ensures

pub segments-preserved : goal.segments-preserved
segments-preserved c =
    row-next c.segments.out.items c.write_record.new.out.items c.args.out.now.items (segments_in c.args.run.now) c.segments.i (segment_of c.at.result) c.at.ensures c.segments.invariant c.in_ok-write_record.ensures

pub returns : goal.returns
returns c =
    let long = segments-length c.args.run.now in let len = c.len-i-end.ensures in let le = c.segments-test.false in
    row-done c.segments.out.items c.args.out.now.items (segments_in c.args.run.now) c.segments.i (omega (arith, long, len, le)) c.segments.invariant
