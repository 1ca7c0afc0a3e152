use Rattle.std.proofs.Common.{◌≡◌, ◌-◌, ◌*◌, length, take, ◌++◌}
use Rattle.batch_codec.specs.Reading.{names_read}
use Rattle.remote_pipe.proofs.reading.put_names.Given as goal

abbrev pub invariant-names : goal.invariant-names
invariant-names l = record {
  size : length l.out ≡ length l.fn.out;
  left : length l.rest ≡ 20 * (length l.fn.out - l.k);
  read : take l.k l.out ++ names_read (length l.fn.out - l.k) l.rest ≡ names_read (length l.fn.out) l.fn.bytes;
}
