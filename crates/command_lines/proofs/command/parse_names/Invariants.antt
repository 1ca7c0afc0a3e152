use Rattle.std.proofs.Common.{◌≡◌, ◌≤◌, ◌+◌, ◌*◌, ◌/◌, length}
use Rattle.outside.specs.Parts.{split_at}
use Rattle.command_lines.proofs.NamesLemmas.{names_in, prepend}
use Rattle.command_lines.proofs.command.parse_names.Given as goal

abbrev pub invariant-words : goal.invariant-words
invariant-words l = record {
  names : names_in (split_at 32 l.text) ≡ prepend l.names.items (names_in (split_at 32 l.rest));
  few : l.names.len * 41 + length l.rest ≤ length l.text;
  room : l.names.cap ≡ length l.text / 41 + 1;
}

abbrev pub decreases-words : goal.decreases-words
decreases-words l = length l.rest
