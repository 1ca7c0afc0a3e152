use Rattle.std.proofs.Common.{◌≡◌, ◌+◌, length, map, string_bytes}
use Rattle.std.specs.Option.{option_map}
use Rattle.dag_run.specs.Words.{dashes_at}
use Rattle.dag_run.proofs.words.dashes.Given as goal

abbrev pub invariant-words : goal.invariant-words
invariant-words l = record {
  found : dashes_at (map string_bytes l.words) ≡ option_map (λ k. l.place + k) (dashes_at (map string_bytes l.rest));
  place : l.place + length l.rest ≡ length l.words;
}

abbrev pub decreases-words : goal.decreases-words
decreases-words l = length l.rest
