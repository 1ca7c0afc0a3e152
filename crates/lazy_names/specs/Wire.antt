-- What is put on a wire for names, where runs are told ahead and asked for.
use Rattle.std.specs.Prelude.{◌≡◌, ◌⊎◌, List, [], ◌∷◌, ◌++◌}
use Rattle.remote_trait.specs.Runs.{Run}

-- the runs that were put and aren't asked for yet, and all that were ever put, in order
pub record Wire : Type 0 where
  pub queue : List Run
  pub put : List Run

-- runs were told: the first of them are put, behind those that wait, and the others aren't
abbrev pub Tells : List Run → Wire → Wire → Type 0
Tells runs before now = (put : List Run) × (rest : List Run) × (runs ≡ put ++ rest) × (now.queue ≡ before.queue ++ put) × (now.put ≡ before.put ++ put)

-- A run was asked for: it is the first that waits, and nothing is put; or it isn't, what waits is thrown away, and the run is put.
abbrev pub AsksOver : Run → Wire → Wire → Type 0
AsksOver run before now =
    ((before.queue ≡ run ∷ now.queue) × (now.put ≡ before.put))
    ⊎ (((later : List Run) → before.queue ≡ run ∷ later → ⊥) × (now.queue ≡ []) × (now.put ≡ before.put ++ run ∷ []))

-- These runs were asked for, and those are told and not asked for yet: what waits is a front of these, and what was put is what was asked for
-- and what waits, each run once, in order.
pub record IsOnWire (asked told : List Run) (wire : Wire) : Type 0 where
  pub unput : List Run
  pub waits : told ≡ wire.queue ++ unput
  pub once : wire.put ≡ asked ++ wire.queue
