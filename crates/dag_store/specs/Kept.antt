-- What contracts see of a store, and of which payloads its parts are.
use Rattle.log_tables.specs.Within.{EndsWithin}
use Rattle.std.specs.Prelude.{◌≡◌, ◌<◌, ℕ, List, [], length, map, slice_index_or}
use Rattle.std.specs.List.{AllByRecursion}
use Rattle.gated_log.specs.Held.{Held, log_bytes}
use Rattle.name_map.specs.Added.{Placed, payloads_of, AllStand}
use Rattle.change_rules.specs.declared.Limits.{Limits}
use Rattle.change_rules.specs.Standard.{AreLimits}
use Rattle.change_rules.specs.Change.{text_of}
use Rattle.payload_tables.specs.Kept.{PlainTables, AreTablesOf}
use Rattle.lazy_names.specs.Cache.{PlainCache}
use Rattle.store_plans.specs.Sessions.{PlainSession, IsSessionOf}

-- a session of nothing
abbrev pub no_session : PlainSession
no_session = record {
  payloads = 0;
  below = 0;
  others = record { section = record { entries = []; end = 0 }; names = 0; count = 0; index = [] };
  pending = record { first = 0; records = []; places = []; names = []; section = record { entries = []; end = 0 }; index = [] };
}

-- what is kept of a store: its log, its sixteen sessions, its limits, and the names that mirrors gave
pub record PlainStore : Type 0 where
  pub log : Held
  pub sessions : List PlainSession
  pub limits : Limits
  pub cache : PlainCache

-- a cache without names and without room, where it doesn't matter
abbrev pub no_cache : PlainCache
no_cache = record { entries = []; capacity = 0 }

-- the session of that number
abbrev pub session_at : List PlainSession → ℕ → PlainSession
session_at sessions s = slice_index_or sessions s no_session

-- how many sessions there are
abbrev pub sixteen : ℕ
sixteen = 16

-- The log has the payloads that were added, which stand in its bytes; the tables are those of all of them, and each session is on
-- some of them.
pub record IsKept (log : Held) (tables : PlainTables) (sessions : List PlainSession) (limits : Limits) : Type 0 where
  pub added : List Placed
  pub tables_of : AreTablesOf tables added
  pub stand : AllStand (log_bytes log) added
  pub within : AllByRecursion (EndsWithin log) added
  pub texts : log.payloads ≡ map text_of (payloads_of added)
  pub count : length sessions ≡ sixteen
  pub each : (s : ℕ) → s < sixteen → IsSessionOf added (session_at sessions s)
  pub limits_fit : AreLimits limits
  pub limit : log.limit ≡ limits.log
