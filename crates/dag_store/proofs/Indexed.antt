-- A store whose tables were brought on.
use Rattle.std.proofs.Common.{◌≡◌, ℕ, List, sym, subst}
use Rattle.gated_log.specs.Held.{Held, log_bytes}
use Rattle.name_map.specs.Added.{Placed, AllStand}
use Rattle.change_rules.specs.declared.Limits.{Limits}
use Rattle.payload_tables.specs.Kept.{PlainTables, AreTablesOf}
use Rattle.store_plans.specs.Sessions.{PlainSession}
use Rattle.dag_store.specs.Kept.{IsKept}

-- other tables of the payloads that stand in the log's bytes
pub kept-indexed : (log : Held) (tables lent new : PlainTables) (bytes : List ℕ) (sessions : List PlainSession) (limits : Limits) → IsKept log tables sessions limits
    → lent ≡ tables → bytes ≡ log_bytes log → ((added : List Placed) → AreTablesOf lent added → AllStand bytes added → AreTablesOf new added) → IsKept log new sessions limits
kept-indexed log tables lent new bytes sessions limits k is are on = record {
  added = k.added;
  tables_of = on k.added (subst (λ t. AreTablesOf t k.added) (sym is) k.tables_of) (subst (λ b. AllStand b k.added) (sym are) k.stand);
  stand = k.stand;
  within = k.within;
  texts = k.texts;
  count = k.count;
  each = k.each;
  limits_fit = k.limits_fit;
  limit = k.limit;
}
