use Rattle.std.proofs.Common.{◌≡◌, ◌-◌, length}
use Rattle.remote_pipe.specs.Reading.{items_at, counted_at, segment_at}
use Rattle.remote_pipe.proofs.ItemsInTurn.{put_front}
use Rattle.remote_pipe.proofs.told.read_segments.Given as goal

abbrev pub invariant-segments : goal.invariant-segments
invariant-segments l = record {
  len : length l.told.segments ≡ l._segment;
  only : l.told ≡ record l.fn.told { segments = l.told.segments };
  read : counted_at segment_at l.fn.bytes ≡ put_front l.told.segments (items_at segment_at (l.count - l._segment) l.rest);
}
