-- Which words of the program, its own name in front, are the remotes', and what each of these names.
use Rattle.std.specs.Prelude.{ℕ, Bool, true, false, ◌≡◌, ◌-◌, List, [], ◌∷◌, ◌++◌, take, drop, codes, Option, Some, None}
use Rattle.outside.specs.Parts.{HasNone}
use Rattle.dag_run.specs.Words.{dashes_at, split_of}
use Rattle.segdag.specs.declared.remotes.Named.{Named}
use Rattle.segdag.specs.declared.remotes.Named.TheVariants.{Log, Bundle, Pipe, Unasked}
use Rattle.dag_run.specs.declared.words.Split.{Split}

-- of words that are split so, those behind the log's path and before the first `--`; none where they aren't split
abbrev pub between_of : Option Split → List (List ℕ) → List (List ℕ)
between_of None words = []
between_of (Some split) words = drop split.remotes (take (split.rest - 1) words)

-- the words between the log's path and the first `--`
abbrev pub remote_words : List (List ℕ) → List (List ℕ)
remote_words [] = []
remote_words (name ∷ words) = between_of (split_of (dashes_at words)) words

-- the word names the bundle at this path
abbrev pub IsBundleWord : List ℕ → List ℕ → Type 0
IsBundleWord path word = word ≡ codes "bundle:" ++ path

-- the word names a pipe of which the first path is written and the second read; the first colon behind the first path ends it
abbrev pub IsPipeWord : List ℕ → List ℕ → List ℕ → Type 0
IsPipeWord to from word = (word ≡ codes "pipe:" ++ (to ++ 58 ∷ from)) × HasNone 58 to

-- what a word names: a pipe, which only a run asks, or a bundle, or else the log at that path
abbrev pub NamesSo : Bool → List ℕ → Named → Type 0
NamesSo is_run word (Bundle path) = IsBundleWord path.now word
NamesSo is_run word (Pipe to from) = (is_run ≡ true) × IsPipeWord to.now from.now word
NamesSo is_run word Unasked = (is_run ≡ false) × (to : List ℕ) × (from : List ℕ) × IsPipeWord to from word
NamesSo is_run word (Log path) =
    (path.now ≡ word) × ((path : List ℕ) → IsBundleWord path word → ⊥) × ((to from : List ℕ) → IsPipeWord to from word → ⊥)
