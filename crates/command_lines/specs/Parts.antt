-- A command's text in its parts: the verb's word, and what stands behind the first blank, if there is one.
use Rattle.std.specs.Prelude.{◌≡◌, ◌≤◌, ℕ, List, [], ◌∷◌, Option, Some, None, ⊤, length, codes}
use Rattle.std.specs.List.{AllZip}
use Rattle.outside.specs.Parts.{split_at}
use Rattle.id_groups.specs.Name.{Name, SpellsName}
use Rattle.set_expr.specs.Expr.{Expr}
use Rattle.set_expr.specs.Spelling.{SpellsExpr, SpellsNumber}
use Rattle.step_rules.specs.Verb.{Verb, Add, Flush, Reload, Discard, Query, Count, IdOf, Status, Levels, Clone, Pull, Strip, CountMirrors, Drop}
use Rattle.command_lines.specs.declared.words.Word.{Word}
use Rattle.command_lines.specs.declared.words.Word.TheVariants as words

-- the word as it is written
abbrev pub word_text : Word → List ℕ
word_text words.Add = codes "add"
word_text words.Flush = codes "flush"
word_text words.Reload = codes "reload"
word_text words.Discard = codes "discard"
word_text words.Query = codes "query"
word_text words.Count = codes "count"
word_text words.Id = codes "id"
word_text words.Status = codes "status"
word_text words.Levels = codes "levels"
word_text words.Clone = codes "clone"
word_text words.Pull = codes "pull"
word_text words.Strip = codes "strip"
word_text words.Mirrors = codes "mirrors"
word_text words.DropAt = codes "drop"

-- the word of a verb that isn't a question
abbrev pub IsChange : Word → Type 0
IsChange words.Add = ⊤
IsChange words.Flush = ⊤
IsChange words.Reload = ⊤
IsChange words.Discard = ⊤
IsChange words.Clone = ⊤
IsChange words.Pull = ⊤
IsChange words.Strip = ⊤
IsChange words.DropAt = ⊤
IsChange _ = ⊥

-- the word of a verb
abbrev pub verb_word : Verb → Option Word
verb_word (Add name parents) = Some words.Add
verb_word (Flush heads) = Some words.Flush
verb_word Reload = Some words.Reload
verb_word Discard = Some words.Discard
verb_word (Query e) = Some words.Query
verb_word (Count e) = Some words.Count
verb_word (IdOf name) = Some words.Id
verb_word Status = Some words.Status
verb_word Levels = Some words.Levels
verb_word Clone = Some words.Clone
verb_word Pull = Some words.Pull
verb_word (Strip names) = Some words.Strip
verb_word CountMirrors = Some words.Mirrors
verb_word (Drop k) = Some words.DropAt

-- the words of a text spell these names
abbrev pub AreNames : List ℕ → List Name → Type 0
AreNames args names = AllZip SpellsName (split_at 32 args) names

-- What stands behind a verb's word spells its arguments. Names behind a blank are one at least.
abbrev pub SpellsArgs : Verb → Option (List ℕ) → Type 0
SpellsArgs (Add name parents) (Some args) = (length parents ≤ 8) × AreNames args (name ∷ parents)
SpellsArgs (Flush heads) (Some args) = AreNames args heads
SpellsArgs (Flush heads) None = heads ≡ []
SpellsArgs Reload None = ⊤
SpellsArgs Discard None = ⊤
SpellsArgs (Query e) (Some args) = SpellsExpr args e
SpellsArgs (Count e) (Some args) = SpellsExpr args e
SpellsArgs (IdOf name) (Some args) = SpellsName args name
SpellsArgs Status None = ⊤
SpellsArgs Levels None = ⊤
SpellsArgs Clone None = ⊤
SpellsArgs Pull None = ⊤
SpellsArgs (Strip names) (Some args) = AreNames args names
SpellsArgs CountMirrors None = ⊤
SpellsArgs (Drop k) (Some args) = SpellsNumber args k
SpellsArgs _ _ = ⊥

-- the word is the verb's, and its arguments stand behind it
abbrev pub HasWord : Word → Option (List ℕ) → Verb → Type 0
HasWord word behind verb = (verb_word verb ≡ Some word) × SpellsArgs verb behind

-- the word of a verb stands in front, and its arguments behind
abbrev pub SpellsParts : List ℕ → Option (List ℕ) → Verb → Type 0
SpellsParts front behind verb = (word : Word) × (front ≡ word_text word) × HasWord word behind verb

-- what stands behind the word is the arguments of none of its verbs
abbrev pub FitsNone : Word → Option (List ℕ) → Type 0
FitsNone words.Add (Some args) = (name : Name) (parents : List Name) → length parents ≤ 8 → ¬ (AreNames args (name ∷ parents))
FitsNone words.Flush (Some args) = (heads : List Name) → ¬ (AreNames args heads)
FitsNone words.Strip (Some args) = (names : List Name) → ¬ (AreNames args names)
FitsNone words.Query (Some args) = (e : Expr Name) → ¬ (SpellsExpr args e)
FitsNone words.Count (Some args) = (e : Expr Name) → ¬ (SpellsExpr args e)
FitsNone words.Id (Some args) = (name : Name) → ¬ (SpellsName args name)
FitsNone words.DropAt (Some args) = (k : ℕ) → ¬ (SpellsNumber args k)
FitsNone words.Flush None = ⊥
FitsNone words.Reload None = ⊥
FitsNone words.Discard None = ⊥
FitsNone words.Status None = ⊥
FitsNone words.Levels None = ⊥
FitsNone words.Clone None = ⊥
FitsNone words.Pull None = ⊥
FitsNone words.Mirrors None = ⊥
FitsNone _ _ = ⊤

-- to read what stands behind the word takes memory
abbrev pub MayWant : Word → Type 0
MayWant words.Add = ⊤
MayWant words.Flush = ⊤
MayWant words.Query = ⊤
MayWant words.Count = ⊤
MayWant words.Strip = ⊤
MayWant _ = ⊥
