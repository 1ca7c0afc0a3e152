-- A store as the rules of the whole store see one.
use Rattle.std.specs.Prelude.{◌≡◌, ◌<◌, ◌↔◌, ℕ, Some, map}
use Rattle.id_groups.specs.Lists.{IsIn}
use Rattle.id_groups.specs.Name.{Name}
use Rattle.change_rules.specs.Change.{text_of}
use Rattle.payload_tables.specs.Pending.{HeldRow, HoldsRows}
use Rattle.step_rules.specs.Stands.{IdRow, KeptStore}
use Rattle.dag_store.specs.Kept.{PlainStore, session_at, sixteen}

-- a row, as pending rows hold it
abbrev pub held_row : IdRow → HeldRow
held_row row = record { name = row.name; parents = row.parents }

-- the log has these payloads, each session is on as many and holds these rows, and these names are kept
pub record IsShownAs (kept : PlainStore) (shown : KeptStore) : Type 0 where
  pub texts : kept.log.payloads ≡ map text_of shown.payloads
  pub bases : (s : ℕ) → s < sixteen → (shown.sessions s).payloads ≡ (session_at kept.sessions s).payloads
  pub rows : (s : ℕ) → s < sixteen → HoldsRows (session_at kept.sessions s).pending (map held_row (shown.sessions s).pending)
  pub cache : (id : ℕ) (name : Name) → (shown.cache id ≡ Some name) ↔ IsIn (id, name) kept.cache.entries
  pub room : shown.room ≡ kept.cache.capacity
