-- How a command line is spelled.
use Rattle.std.specs.Prelude.{◌≡◌, ◌≢◌, ◌≤◌, ℕ, List, [], ◌∷◌, ◌++◌, length, codes, decimal, flat_map}
use Rattle.std.specs.List.{AllZip}
use Rattle.id_groups.specs.Name.{Name, SpellsName}
use Rattle.set_expr.specs.Spelling.{SpellsExpr, SpellsNumber}
use Rattle.step_rules.specs.Verb.{Verb, Add, Flush, Reload, Discard, Query, Count, IdOf, Status, Levels, Clone, Pull, Strip, CountMirrors, Drop}
use Rattle.run_rules.specs.Built.{IsBuilt}

-- words behind a word, a blank before each
abbrev pub more_words : List (List ℕ) → List ℕ
more_words words = flat_map (λ word. 32 ∷ word) words

-- the text is the word and these names, a blank before each
abbrev pub SpellsNames : List ℕ → List ℕ → List Name → Type 0
SpellsNames text word names = (words : List (List ℕ)) × AllZip SpellsName words names × (text ≡ word ++ more_words words)

-- the text is the verb and its arguments
abbrev pub SpellsVerb : List ℕ → Verb → Type 0
SpellsVerb text (Add name parents) = (length parents ≤ 8) × SpellsNames text (codes "add") (name ∷ parents)
SpellsVerb text (Flush heads) = SpellsNames text (codes "flush") heads
SpellsVerb text Reload = text ≡ codes "reload"
SpellsVerb text Discard = text ≡ codes "discard"
SpellsVerb text (Query e) = (a : List ℕ) × SpellsExpr a e × (text ≡ codes "query " ++ a)
SpellsVerb text (Count e) = (a : List ℕ) × SpellsExpr a e × (text ≡ codes "count " ++ a)
SpellsVerb text (IdOf name) = (a : List ℕ) × SpellsName a name × (text ≡ codes "id " ++ a)
SpellsVerb text Status = text ≡ codes "status"
SpellsVerb text Levels = text ≡ codes "levels"
SpellsVerb text Clone = text ≡ codes "clone"
SpellsVerb text Pull = text ≡ codes "pull"
SpellsVerb text (Strip names) = (names ≢ []) × SpellsNames text (codes "strip") names
SpellsVerb text CountMirrors = text ≡ codes "mirrors"
SpellsVerb text (Drop k) = (a : List ℕ) × SpellsNumber a k × (text ≡ codes "drop " ++ a)

-- the line is the session's number, a blank, and the verb with its arguments, of a command that is built
abbrev pub SpellsCommand : List ℕ → ℕ → Verb → Type 0
SpellsCommand line s verb = (text : List ℕ) × IsBuilt s verb × SpellsVerb text verb × (line ≡ decimal s ++ 32 ∷ text)
