-- What contracts see of a remote over a link.
use Rattle.std.specs.Prelude.{◌≡◌, ◌<◌, ◌≤◌, ◌+◌, ◌-◌, ◌⊎◌, ℕ, false, List, [], ◌∷◌, ◌++◌, length, take, flat_map, min, Option, Some, None, Result, Ok, Err}
use Rattle.id_groups.specs.Name.{Name}
use Rattle.remote_rules.specs.Mirror.{Mirror}
use Rattle.remote_trait.specs.Runs.{Run}
use Rattle.remote_trait.specs.declared.fault.RemoteFault.{RemoteFault}
use Rattle.remote_serve.specs.Requests.{ToNames, most_names}
use Rattle.remote_serve.specs.Answers.{Answer, Refreshed, Named}
use Rattle.remote_pipe.specs.Line.{PlainLine, Asks, served_by}

pub record PlainPipe : Type 0 where
  pub line : PlainLine
  -- what was asked ahead whose answers weren't taken yet, in order
  pub queue : List Run
  -- for how many names and paths it was asked
  pub asked : ℕ

abbrev pub mirror_by : Option Mirror → ℕ → ℕ → Mirror
mirror_by None faults asked = record { master = None; cloned = None; settled = false; to_come = None; faults = faults; asked = asked }
mirror_by (Some m) faults asked = record { master = m.master; cloned = m.cloned; settled = m.settled; to_come = None; faults = faults; asked = asked }

-- What it means as a remote: it tells what the mirror tells that is served at the other end, and counts its own failures and asks. Which
-- failures are to come isn't told.
abbrev pub mirror_of : PlainPipe → Mirror
mirror_of r = mirror_by (served_by r.line.peer) r.line.faults r.asked

-- full blocks of names were asked for in turn, back from x, and came
abbrev pub AsksBlocks : Name → ℕ → List (List Name) → PlainLine → PlainLine → Type 0
AsksBlocks x back [] before now = now ≡ before
AsksBlocks x back (names ∷ more) before now =
    (length names ≡ most_names) × (between : PlainLine) × Asks {T = List Name} (ToNames x back most_names) Named before between (Ok names)
    × AsksBlocks x (back + most_names) more between now

-- how many names the next request is for, where so many are wanted still
abbrev pub block_of : ℕ → ℕ
block_of wanted = min wanted most_names

-- No name is wanted still, and nothing is asked; or names are asked for, and come, and then none is wanted or the line of first parents ends.
abbrev pub LastNames : Name → ℕ → ℕ → List Name → PlainLine → PlainLine → Type 0
LastNames x back wanted names before now =
    ((wanted ≡ 0) × (names ≡ []) × (now ≡ before))
    ⊎ ((1 ≤ wanted) × Asks {T = List Name} (ToNames x back (block_of wanted)) Named before now (Ok names) × ((length names ≡ wanted) ⊎ (length names < block_of wanted)))

-- what came behind full blocks of so many names
abbrev pub EndsNames : Name → ℕ → ℕ → List Name → PlainLine → PlainLine → Result ℕ RemoteFault → List Name → Type 0
EndsNames x back room done before now (Ok n) out =
    (names : List Name) × (n ≡ length done + length names) × (take n out ≡ done ++ names) × LastNames x (back + length done) (room - length done) names before now
EndsNames x back room done before now (Err fault) out =
    (length done < room) × Asks {T = List Name} (ToNames x (back + length done) (block_of (room - length done))) Named before now (Err fault)

-- Names are asked for in blocks of as many as a request may have, one after another while they come full, until the room is filled.
abbrev pub AsksNames : Name → ℕ → ℕ → PlainLine → PlainLine → Result ℕ RemoteFault → List Name → Type 0
AsksNames x back room before now result out =
    (blocks : List (List Name)) × (mid : PlainLine) × AsksBlocks x back blocks before mid
    × EndsNames x back room (flat_map (λ (names : List Name). names) blocks) mid now result out
