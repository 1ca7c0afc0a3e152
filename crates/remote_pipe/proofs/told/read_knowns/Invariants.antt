use Rattle.std.proofs.Common.{◌≡◌, ◌-◌, length}
use Rattle.remote_pipe.specs.Reading.{items_at, counted_at, known_at}
use Rattle.remote_pipe.proofs.ItemsInTurn.{put_front}
use Rattle.remote_pipe.proofs.told.read_knowns.Given as goal

abbrev pub invariant-names : goal.invariant-names
invariant-names l = record {
  len : length l.told.names ≡ l._name;
  only : l.told ≡ record l.fn.told { names = l.told.names };
  read : counted_at known_at l.fn.bytes ≡ put_front l.told.names (items_at known_at (l.count - l._name) l.rest);
}
