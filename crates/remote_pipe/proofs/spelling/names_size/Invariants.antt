use Rattle.std.proofs.Common.{◌≡◌, ◌*◌, take, length}
use Rattle.std.specs.List.{AllByRecursion}
use Rattle.id_groups.specs.Name.{IsName}
use Rattle.batch_codec.specs.Payload.{names_bytes}
use Rattle.remote_pipe.proofs.spelling.names_size.Given as goal

abbrev pub invariant-names : goal.invariant-names
invariant-names l = record {
  size : l.size ≡ length (names_bytes (take l.name-index l.names));
  each : l.size ≡ 20 * l.name-index;
  names : AllByRecursion IsName (take l.name-index l.names);
}
