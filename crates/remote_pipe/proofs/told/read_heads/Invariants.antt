use Rattle.std.proofs.Common.{◌≡◌, ◌-◌, length}
use Rattle.batch_codec.specs.Reading.{piece_at}
use Rattle.remote_pipe.specs.Reading.{items_at, counted_at}
use Rattle.remote_pipe.proofs.ItemsInTurn.{put_front}
use Rattle.remote_pipe.proofs.told.read_heads.Given as goal

abbrev pub invariant-heads : goal.invariant-heads
invariant-heads l = record {
  len : length l.told.heads ≡ l._head;
  only : l.told ≡ record l.fn.told { heads = l.told.heads };
  read : counted_at (piece_at 20) l.fn.bytes ≡ put_front l.told.heads (items_at (piece_at 20) (l.count - l._head) l.rest);
}
