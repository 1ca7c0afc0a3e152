-- What contracts see of a session, and of which payloads it is.
use Rattle.std.specs.Prelude.{◌≡◌, ◌≤◌, ◌+◌, ℕ, List, [], length, take}
use Rattle.batch_codec.specs.Grammar.{count_after}
use Rattle.name_map.specs.Added.{Placed, payloads_of}
use Rattle.payload_tables.specs.Kept.{AreOthersIn, last_added}
use Rattle.change_parts.specs.Asked.{MayStore}
use Rattle.payload_tables.specs.Pending.{HoldsRows}
use Rattle.payload_tables.specs.Bases.{ArePending}
use Rattle.step_rules.specs.State.{Stored, Session, world_at}
use Rattle.store_plans.specs.declared.session.Session.{Session as KeptSession}

-- what is kept of a session: how many payloads make its base, how many master ids these have, the other ids of the last of them, and
-- its rows that aren't stored
abbrev pub PlainSession : Type 0
PlainSession = KeptSession

-- the first payloads that were added, which make a session's base
abbrev pub base_added : List Placed → PlainSession → List Placed
base_added added x = take x.payloads added

-- The session is on the first of the payloads that were added. Its rows may be stored behind these.
pub record IsSessionOf (added : List Placed) (x : PlainSession) : Type 0 where
  pub payloads : x.payloads ≤ length added
  pub below : x.below ≡ count_after 0 (payloads_of (base_added added x))
  pub others : AreOthersIn x.others (last_added (base_added added x))
  pub pending : MayStore x.pending (base_added added x)

-- the session is on all payloads that were added, and has no rows
abbrev pub IsOnNewest : List Placed → PlainSession → Type 0
IsOnNewest added x = IsSessionOf added x × (x.payloads ≡ length added) × HoldsRows x.pending []

-- the session is kept as that of the state, of a run that began with so many payloads: it is on as many as its base was stored
-- with, and has its rows with their parents by ids
pub record IsSessionFor (began : ℕ) (st : Stored) (x : PlainSession) (y : Session) : Type 0 where
  pub payloads : x.payloads ≡ began + y.base
  pub pending : ArePending (world_at st y.base) x.pending y.pending
