-- What a call of a remote changes of what it means.
use Rattle.std.specs.Prelude.{◌≡◌, ◌<◌, ◌≤◌, ◌+◌, ◌-◌, ◌++◌, ℕ, List, Bool, Option, Some, None, is_some, length, min, ⊤}
use Rattle.std.specs.Bool.{MatchBool}
use Rattle.outside.specs.Counts.{Rose, last_count}
use Rattle.id_groups.specs.Name.{Name}
use Rattle.commit_graph.specs.World.{Row}
use Rattle.remote_rules.specs.Mirror.{Mirror}
use Rattle.remote_rules.specs.Honest.{IsSoundMirror}

-- where both are told, the second number is so to the first
abbrev pub WhereBoth : (ℕ → ℕ → Type 0) → Option ℕ → Option ℕ → Type 0
WhereBoth R None now = ⊤
WhereBoth R (Some old) None = ⊤
WhereBoth R (Some old) (Some now) = R old now

-- What no call changes: whether the remote is settled, which of its meanings it tells, and that it is sound. Its faults
-- never become fewer, and those to come never more.
pub record Keeps (old new : Mirror) : Type 0 where
  pub settled : new.settled ≡ old.settled
  pub tells_master : is_some new.master ≡ is_some old.master
  pub tells_clone : is_some new.cloned ≡ is_some old.cloned
  pub tells_faults : is_some new.to_come ≡ is_some old.to_come
  pub faults : old.faults ≤ new.faults
  pub to_come : WhereBoth (λ before now. now ≤ before) old.to_come new.to_come
  pub sound : IsSoundMirror old → IsSoundMirror new

-- its master goes on from the old one: more rows may stand behind those, unless it is settled
abbrev pub MasterGoesOn : Bool → Option (List (Row Name)) → Option (List (Row Name)) → Type 0
MasterGoesOn settled None now = ⊤
MasterGoesOn settled (Some old) None = ⊥
MasterGoesOn settled (Some old) (Some new) = MatchBool settled (new ≡ old) ((more : List (Row Name)) × (new ≡ old ++ more))

-- asked for so many names, whatever the answer: all it tells stays
pub record IsAskedFor (count : ℕ) (old new : Mirror) : Type 0 where
  pub keeps : Keeps old new
  pub master : new.master ≡ old.master
  pub cloned : new.cloned ≡ old.cloned
  pub asked : new.asked ≡ min (old.asked + count) last_count

-- asked for its clone data behind a refresh, and for no name
pub record IsCloned (old new : Mirror) : Type 0 where
  pub keeps : Keeps old new
  pub master : MasterGoesOn old.settled old.master new.master
  pub asked : new.asked ≡ old.asked

-- the count didn't fall, and rose by no more than so many
abbrev pub RoseAtMost : ℕ → ℕ → ℕ → Type 0
RoseAtMost most before now = (before ≤ now) × (now ≤ before + most)

-- how many names it has to tell who pulls from this id on, where it tells its master
abbrev pub RowsFrom : ℕ → Option (List (Row Name)) → ℕ → ℕ → Type 0
RowsFrom from None before now = before ≤ now
RowsFrom from (Some rows) before now = RoseAtMost (length rows - from) before now

-- asked for its clone data behind a refresh, and for at most the names of its rows from this id on
pub record IsPulled (from : ℕ) (old new : Mirror) : Type 0 where
  pub keeps : Keeps old new
  pub master : MasterGoesOn old.settled old.master new.master
  pub asked : RowsFrom from new.master old.asked new.asked

-- a call that failed: it did no more than others, the count of faults rose, and fewer are to come
pub record Failing (Does : Mirror → Mirror → Type 0) (old new : Mirror) : Type 0 where
  pub does : Does old new
  pub rose : Rose old.faults new.faults
  pub fewer : WhereBoth (λ before now. now < before) old.to_come new.to_come
