-- The states that a store stands for.
use Rattle.std.specs.Prelude.{◌≡◌, ◌<◌, ◌≤◌, ◌+◌, ◌↔◌, ◌⊎◌, false, ℕ, List, Some, length, map, take}
use Rattle.id_groups.specs.Lists.{IsIn, AreDistinct}
use Rattle.id_groups.specs.Name.{Name}
use Rattle.gated_log.specs.Held.{Held}
use Rattle.change_rules.specs.Change.{text_of}
use Rattle.change_rules.specs.Holding.{HoldPayloads}
use Rattle.change_rules.specs.Lazy.{has_lazy}
use Rattle.remote_rules.specs.Mirror.{Mirror}
use Rattle.lazy_names.specs.Cache.{PlainCache, cached_ids}
use Rattle.step_rules.specs.State.{State, Stored, IsStore, IsOutside, session, world_at}
use Rattle.step_rules.specs.Served.{IsServed}
use Rattle.store_plans.specs.Sessions.{PlainSession, IsSessionFor}
use Rattle.dag_store.specs.Kept.{PlainStore, session_at, sixteen}

-- The log and the sessions stand for what is stored in a state of a run that began with so many payloads: the log has the
-- state's payloads, those up to each stored world hold it, and each session is that of the state. With lazy names they stand for
-- many states.
pub record HoldsFor (began : ℕ) (log : Held) (kept : List PlainSession) (st : Stored) : Type 0 where
  pub state : IsStore st
  pub texts : log.payloads ≡ map text_of st.payloads
  pub count : length st.payloads ≡ began + length st.past
  pub worlds : (i : ℕ) → i ≤ length st.past → HoldPayloads (take (began + i) st.payloads) (world_at st i)
  pub sessions : (s : ℕ) → s < sixteen → IsSessionFor began st (session_at kept s) (session st s)

-- the store does
abbrev pub Stands : ℕ → PlainStore → Stored → Type 0
Stands began kept st = HoldsFor began kept.log kept.sessions st

-- The names that are kept, and these mirrors, are what is outside in the state. In which order names were used is no part of it.
pub record IsOutsideOf (cache : PlainCache) (mirrors : List Mirror) (st : State) : Type 0 where
  pub has : (id : ℕ) (name : Name) → (st.outside.cache id ≡ Some name) ↔ IsIn (id, name) cache.entries
  pub once : AreDistinct (cached_ids cache.entries)
  pub fits : length cache.entries ≤ cache.capacity
  pub room : st.outside.room ≡ cache.capacity
  pub mirrors_are : st.outside.mirrors ≡ mirrors
  pub outside : IsOutside st.store st.outside

-- The store stands for the state, beside these mirrors.
pub record StandsBeside (began : ℕ) (kept : PlainStore) (mirrors : List Mirror) (st : State) : Type 0 where
  pub stored : Stands began kept st.store
  pub outside_of : IsOutsideOf kept.cache mirrors st

-- What the steps of a state rest on: each commit of its stored world has a stored name, so that no mirror is asked for one, or its
-- mirrors serve that world.
abbrev pub IsAnswerable : State → Type 0
IsAnswerable st = (has_lazy st.store.payloads st.store.stored ≡ false) ⊎ IsServed st
