-- What a parse finds is what the words' matches say.
use Rattle.std.proofs.Common.{◌≡◌, ◌∙◌, ap, sym, subst, List, Option, Some, None, Result, codes, IfOk, inr, []}
use Rattle.std.specs.Prelude.{MatchOption, Ok, Err, ◌↔◌, true}
use Rattle.std.specs.Option.{ok_or}
use Rattle.clap.specs.Words.{Text, found_of, first_value, one_text, one_of, first_of, rows_of, matches_of, fault_of}
use Rattle.clap.proofs.WalkLemmas.{first_value-rows, one_text-rows}
use Rattle.clap.specs.declared.parser.matches.ArgMatches.{ArgMatches}
use Rattle.clap.specs.Words.{app_of}
use Rattle.clap.specs.Built.{IsParsedFrom}
use Rattle.clap.specs.declared.builder.command.Command.{Command}
use Rattle.program_words.proofs.Numbers.{usage-of-mode}
use Rattle.program_words.specs.Command.{command}
use Rattle.program_words.specs.Usage.{WritesNumber, Finds, AreMatches, IsUsage, IsNoUsage}
use Rattle.program_words.specs.declared.usage.Usage.{Usage}
use Rattle.program_words.specs.declared.usage.WordsFault.{WordsFault}
use Rattle.program_words.specs.declared.usage.WordsFault.TheVariants as fault

module _ (m : ArgMatches) (words : List Text) (rows : rows_of (found_of m) ≡ matches_of command words) where
  word-is : first_value (found_of m) (codes "MODE") ≡ first_of (codes "MODE") (matches_of command words)
  word-is = first_value-rows (found_of m) (codes "MODE") ∙ ap (first_of (codes "MODE")) rows

  flag-is : first_value (found_of m) (codes "wait") ≡ first_of (codes "wait") (matches_of command words)
  flag-is = first_value-rows (found_of m) (codes "wait") ∙ ap (first_of (codes "wait")) rows

  text-is : (id : Text) → one_text (found_of m) id ≡ one_of id (matches_of command words)
  text-is id = one_text-rows (found_of m) id ∙ ap (one_of id) rows

  to-matches : (usage : Usage) → Finds m usage → AreMatches (matches_of command words) usage
  to-matches usage h = record {
    mode = sym word-is ∙ h.mode;
    cache = subst (λ t. WritesNumber 1 65536 t usage.cache) (text-is (codes "cache")) h.cache;
    size = subst (λ t. WritesNumber 1 60000 t usage.size) (text-is (codes "size")) h.size;
    start = subst (λ t. WritesNumber 0 18446744073709551615 t usage.start) (text-is (codes "start")) h.start;
    wait = subst (λ t. (usage.wait ≡ true) ↔ (t ≡ Some (codes "true"))) flag-is h.wait;
  }

  pub accepted : (o : Option Usage) (r : Result Usage WordsFault) → r ≡ ok_or o fault.Usage
      → MatchOption o ((usage : Usage) → ¬ (Finds m usage)) (Finds m) → fault_of command words ≡ [] → IfOk r (IsUsage words)
  accepted (Some usage) r e h takes = subst (λ s. IfOk s (IsUsage words)) (sym e) (record { takes = takes; matches = to-matches usage h })
  accepted None r e h takes = subst (λ s. IfOk s (IsUsage words)) (sym e) tt

  pub refused : (c : Command) → IsParsedFrom c m → app_of c ≡ command → (o : Option Usage) (r : Result Usage WordsFault) → r ≡ ok_or o fault.Usage
      → MatchOption o ((usage : Usage) → ¬ (Finds m usage)) (Finds m) → r ≡ Err fault.Usage → IsNoUsage words
  refused c p is (Some usage) r e h bad =
      let both : Ok usage ≡ Err fault.Usage = sym e ∙ bad in
      cc
  refused c p is None r e h bad = inr (λ mode given.
      let found = usage-of-mode c m p is mode (word-is ∙ given) in
      h found.0 found.1)
