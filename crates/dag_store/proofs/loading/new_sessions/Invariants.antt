use Rattle.std.proofs.Common.{◌≡◌, length}
use Rattle.store_plans.proofs.Newest.{AllOnNewest}
use Rattle.dag_store.proofs.loading.new_sessions.Given as goal

abbrev pub invariant-sessions : goal.invariant-sessions
invariant-sessions l = record {
  count : length l.sessions.items ≡ l._step;
  each : AllOnNewest l.fn.log l.fn.tables l.sessions.items;
}
