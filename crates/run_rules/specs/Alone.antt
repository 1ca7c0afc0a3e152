-- Lines that leave a session alone.
use Rattle.std.specs.Prelude.{◌≡◌, ℕ, Bool, false, List}
use Rattle.id_groups.specs.Lists.{IsIn}
use Rattle.step_rules.specs.Verb.{Verb}
use Rattle.run_rules.specs.Grammar.{SpellsCommand}

-- no line is a command of the session with a verb of this kind
abbrev pub HasNone : (Verb → Bool) → ℕ → List (List ℕ) → Type 0
HasNone kind s lines = (line : List ℕ) (verb : Verb) → IsIn line lines → SpellsCommand line s verb → kind verb ≡ false
