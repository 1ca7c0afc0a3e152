use Rattle.std.proofs.Common.{◌≡◌, ◌<◌, ◌≤◌, ◌+◌, ◌-◌, length, take}
use Rattle.name_map.specs.Part.{upward}
use Rattle.change_parts.proofs.names.count_in_turn.Given as goal

-- those so far go on one by one
abbrev pub invariant-turn : goal.invariant-turn
invariant-turn l = record {
  turn : take l.len l.numbers ≡ upward l.first l.len;
  fits : l.len ≤ length l.numbers;
  below : 0 < l.len → l.first + l.len ≤ l.n;
}

abbrev pub decreases-turn : goal.decreases-turn
decreases-turn l = length l.numbers - l.len
