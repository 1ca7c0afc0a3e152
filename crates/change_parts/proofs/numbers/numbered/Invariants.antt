use Rattle.std.proofs.Common.{◌≡◌, ◌<◌, ◌+◌, ℕ, length, drop, get_or, nat_eq, if◌then◌else◌}
use Rattle.id_groups.specs.Lists.{is_in}
use Rattle.commit_graph.specs.Ids.{place_of}
use Rattle.change_parts.proofs.numbers.numbered.Given as goal

abbrev pub invariant-numbers : goal.invariant-numbers
invariant-numbers l = record {
  len : length l.ids.items ≡ length l.initial.ids.items;
  ids : (k : ℕ) → k < length l.initial.ids.items
      → get_or l.ids.items k 0 ≡ (if is_in nat_eq k (drop l.i l.numbers) then l.first + l.i + place_of nat_eq k (drop l.i l.numbers) else get_or l.initial.ids.items k 0);
}
