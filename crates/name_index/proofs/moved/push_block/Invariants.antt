use Rattle.std.proofs.Common.{◌≡◌, length, take}
use Rattle.name_index.specs.Moved.{AreNumbers}
use Rattle.name_index.proofs.moved.push_block.Given as goal

abbrev pub invariant-numbers : goal.invariant-numbers
invariant-numbers l = (length l.numbers ≡ 64) × AreNumbers l.first (take l.k l.numbers)
