-- Mirrors that serve what is stored.
use Rattle.std.specs.Prelude.{◌≤◌, length}
use Rattle.change_rules.specs.Tables.{cloned_count}
use Rattle.remote_rules.specs.Serving.{AllServe}
use Rattle.step_rules.specs.State.{State}

-- The mirrors of a state hold the commits of its stored world that were cloned, which are its first master commits.
pub record IsServed (st : State) : Type 0 where
  pub cloned : cloned_count st.store.payloads ≤ length st.store.stored.master
  pub mirrors : AllServe (cloned_count st.store.payloads) st.store.stored st.outside.mirrors
