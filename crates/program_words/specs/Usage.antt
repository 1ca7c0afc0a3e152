-- When words are a usage, and of what.
use Rattle.std.specs.Prelude.{◌≡◌, ◌≢◌, ◌⊎◌, ◌≤◌, ◌↔◌, ◌^◌, ◌-◌, ℕ, List, [], Option, Some, None, true, codes}
use Rattle.std.specs.Str.Parse.{IsNumeral, digits_value, without_leading_plus}
use Rattle.clap.specs.Words.{Row, Text, fault_of, matches_of, one_of, first_of, found_of, one_text, first_value}
use Rattle.clap.specs.declared.parser.matches.ArgMatches.{ArgMatches}
use Rattle.program_words.specs.Command.{command}
use Rattle.program_words.specs.declared.usage.Mode.{Mode}
use Rattle.program_words.specs.declared.usage.Mode.TheVariants.{Run, Demo, Serve, Bundle, Compact}
use Rattle.program_words.specs.declared.usage.Usage.{Usage}

-- the word of a mode
abbrev pub mode_text : Mode → Text
mode_text Run = codes "run"
mode_text Demo = codes "demo"
mode_text Serve = codes "serve"
mode_text Bundle = codes "bundle"
mode_text Compact = codes "compact"

-- the text is there, and writes this number, which lies within the bounds
abbrev pub WritesNumber : ℕ → ℕ → Option Text → ℕ → Type 0
WritesNumber low high None n = ⊥
WritesNumber low high (Some text) n =
    IsNumeral 10 (without_leading_plus text) × (n ≡ digits_value 10 (without_leading_plus text)) × (low ≤ n) × (n ≤ high)

-- the texts of the mode, of the three options and of the flag are those of the usage
pub record AreTexts (mode_word cache_text size_text start_text wait_word : Option Text) (usage : Usage) : Type 0 where
  pub mode : mode_word ≡ Some (mode_text usage.mode)
  pub cache : WritesNumber 1 65536 cache_text usage.cache
  pub size : WritesNumber 1 60000 size_text usage.size
  pub start : WritesNumber 0 (2 ^ 64 - 1) start_text usage.start
  pub wait : (usage.wait ≡ true) ↔ (wait_word ≡ Some (codes "true"))

-- the same of what a parse found
abbrev pub Finds : ArgMatches → Usage → Type 0
Finds m usage = AreTexts (first_value (found_of m) (codes "MODE")) (one_text (found_of m) (codes "cache"))
    (one_text (found_of m) (codes "size")) (one_text (found_of m) (codes "start")) (first_value (found_of m) (codes "wait")) usage

-- and of the matches of words
abbrev pub AreMatches : List Row → Usage → Type 0
AreMatches rows usage = AreTexts (first_of (codes "MODE") rows) (one_of (codes "cache") rows)
    (one_of (codes "size") rows) (one_of (codes "start") rows) (first_of (codes "wait") rows) usage

-- the command takes the words, and they are the usage's
pub record IsUsage (words : List Text) (usage : Usage) : Type 0 where
  pub takes : fault_of command words ≡ []
  pub matches : AreMatches (matches_of command words) usage

-- the command refuses the words, or their mode isn't one of the program's
abbrev pub IsNoUsage : List Text → Type 0
IsNoUsage words = (fault_of command words ≢ [])
    ⊎ ((mode : Mode) → first_of (codes "MODE") (matches_of command words) ≢ Some (mode_text mode))
