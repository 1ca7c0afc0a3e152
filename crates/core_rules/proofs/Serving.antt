-- Cores without mirrors are served.
use Rattle.std.proofs.Common.{◌≡◌, ◌<◌, ℕ, inl, List, [], sym, subst, zero-le}
use Rattle.change_rules.specs.declared.Limits.{Limits}
use Rattle.change_rules.specs.Tables.{cloned_count}
use Rattle.remote_rules.specs.Mirror.{Mirror}
use Rattle.remote_rules.specs.Serving.{AllServe}
use Rattle.step_rules.specs.Served.{IsServed}
use Rattle.run_rules.proofs.Starts.{cloned-least}
use Rattle.core_rules.specs.Cores.{Cores}
use Rattle.core_rules.specs.Taking.{AreLawful}

pub lone-served : (limits : Limits) (n : ℕ) (cores : Cores) (i : ℕ) → AreLawful limits n cores → i < n → (cores.core i).state.outside.mirrors ≡ [] → IsServed (cores.core i).state
lone-served limits n cores i lawful lt none =
    let st = (cores.core i).state in
    record {
      cloned = cloned-least st.store.payloads st.store.stored (lawful.held i lt).hold;
      mirrors = subst (λ (m : List Mirror). AllServe (cloned_count st.store.payloads) st.store.stored m) (sym none) (record { each = tt; first_clone = λ e. inl zero-le });
    }
