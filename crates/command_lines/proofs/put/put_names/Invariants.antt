use Rattle.std.proofs.Common.{◌≡◌, ◌≤◌, ◌++◌, map}
use Rattle.outside.specs.Told.{WhereTold}
use Rattle.id_groups.specs.Name.{hex_text}
use Rattle.store_queries.specs.Names.{names_left, name_of}
use Rattle.command_lines.specs.Sending.{Sends, lines_text}
use Rattle.command_lines.proofs.put.put_names.Given as goal

abbrev pub invariant-loop-name : goal.invariant-loop-name
invariant-loop-name g l = record {
  names : names_left l.fn.names ≡ map name_of l.yielded ++ names_left l.name-iterator;
  told : WhereTold (g.O.Sink.taken l.fn.output) (g.O.Sink.taken l.output) (Sends (lines_text (map hex_text (map name_of l.yielded))) l.block.items);
  later : g.O.Sink.faults l.fn.output ≤ g.O.Sink.faults l.output;
}
