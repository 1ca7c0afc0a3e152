use Rattle.std.proofs.Common.{◌≡◌, ◌-◌, length, take}
use Rattle.std.specs.Int.{w64}
use Rattle.batch_codec.specs.Reading.{fixed_at}
use Rattle.remote_pipe.specs.Reading.{items_at}
use Rattle.remote_pipe.proofs.ItemsInTurn.{put_front}
use Rattle.remote_pipe.proofs.told.read_numbers.Given as goal

abbrev pub invariant-numbers : goal.invariant-numbers
invariant-numbers l = record {
  len : length l.numbers ≡ length l.fn.numbers;
  read : items_at (fixed_at w64) (length l.fn.numbers) l.fn.bytes ≡ put_front (take l.k l.numbers) (items_at (fixed_at w64) (length l.fn.numbers - l.k) l.rest);
}
