-- What is built so far. A command of any other verb or session is refused as one that isn't spelled right.
use Rattle.std.specs.Prelude.{ℕ, Bool, true, IsTrue, ◌<◌}
use Rattle.step_rules.specs.Verb.{Verb, Add, Flush, Reload, Discard, Query, Count, IdOf, Status, Levels, Clone, Pull, Strip, CountMirrors, Drop}

-- how many sessions are served
abbrev pub sessions_built : ℕ
sessions_built = 16

-- the verbs that are built; expressions are built whole
abbrev pub is_built : Verb → Bool
is_built (Add name parents) = true
is_built (Query e) = true
is_built (Count e) = true
is_built Status = true
is_built (Flush heads) = true
is_built (IdOf name) = true
is_built Reload = true
is_built Discard = true
is_built CountMirrors = true
is_built (Drop k) = true
is_built Clone = true
is_built Levels = true
is_built (Strip names) = true
is_built Pull = true

-- the session's command is built
abbrev pub IsBuilt : ℕ → Verb → Type 0
IsBuilt s verb = (s < sessions_built) × IsTrue (is_built verb)
