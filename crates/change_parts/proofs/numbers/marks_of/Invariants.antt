use Rattle.std.proofs.Common.{◌≡◌, ◌<◌, ℕ, false, ◌||◌, length, take, replicate, get_or, nat_eq}
use Rattle.id_groups.specs.Lists.{is_in}
use Rattle.change_parts.proofs.numbers.marks_of.Given as goal

abbrev pub invariant-numbers : goal.invariant-numbers
invariant-numbers l = record {
  len : length l.marks.items ≡ l.n;
  marked : (k : ℕ) → k < l.n → get_or l.marks.items k false ≡ (get_or (replicate l.n false) k false || is_in nat_eq k (take l.number-index l.numbers));
}
