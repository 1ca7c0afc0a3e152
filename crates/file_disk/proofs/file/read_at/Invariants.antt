use Rattle.std.proofs.Common.{length, ◌-◌, ◌≤◌, ◌≡◌}
use Rattle.file_disk.proofs.file.read_at.Given as goal

abbrev pub invariant-reads : goal.invariant-reads
invariant-reads g l = record {
  within : l.count ≤ length l.out;
  kept : length l.out ≡ length l.fn.out;
}

abbrev pub decreases-reads : goal.decreases-reads
decreases-reads g l = length l.out - l.count
