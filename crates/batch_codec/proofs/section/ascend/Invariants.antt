use Rattle.std.proofs.Common.{◌≡◌, ◌-◌, ◌*◌, length}
use Rattle.batch_codec.specs.Reading.{ids_in, ids_ascend}
use Rattle.batch_codec.proofs.section.ascend.Given as goal

abbrev pub invariant-entries : goal.invariant-entries
invariant-entries l = record {
  same : ids_ascend l.least l.after (ids_in (l.count - l.counter) l.rest) ≡ ids_ascend l.before l.after (ids_in l.count l.entries);
  size : length l.rest ≡ 28 * (l.count - l.counter);
}
