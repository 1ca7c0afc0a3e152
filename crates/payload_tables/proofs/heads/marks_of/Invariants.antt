use Rattle.std.proofs.Common.{◌≡◌, ◌<◌, ℕ, false, ◌||◌, length, take, replicate, get_or, nat_eq}
use Rattle.id_groups.specs.Lists.{is_in}
use Rattle.payload_tables.proofs.heads.marks_of.Given as goal

abbrev pub invariant-ids : goal.invariant-ids
invariant-ids l = record {
  len : length l.marks.items ≡ l.n;
  marked : (k : ℕ) → k < l.n → get_or l.marks.items k false ≡ (get_or (replicate l.n false) k false || is_in nat_eq k (take l.id-index l.ids));
}
