use Rattle.std.proofs.Common.{◌≡◌, ◌<◌, ◌≤◌, ℕ, List, [], None, length, get_or}
use Rattle.id_groups.specs.Name.{Name}
use Rattle.store_plans.specs.Changes.{HaveNames, IsTaken}
use Rattle.store_plans.proofs.finding.take_rows.Given as goal

abbrev pub invariant-heads : goal.invariant-heads
invariant-heads l = record {
  taken : (names : List Name) → HaveNames l.pending names → (j : ℕ) → j < l.i → IsTaken names l.rows (get_or l.heads j []) (get_or l.fn.found j None) (get_or l.found j None);
  rest : (j : ℕ) → l.i ≤ j → get_or l.found j None ≡ get_or l.fn.found j None;
  len : length l.found ≡ length l.fn.found;
}
