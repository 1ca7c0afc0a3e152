use Rattle.std.proofs.Common.{◌≡◌, ◌++◌, take}
use Rattle.batch_codec.specs.Payload.{names_bytes}
use Rattle.remote_pipe.proofs.spelling.put_names.Given as goal

abbrev pub invariant-names : goal.invariant-names
invariant-names l = l.out.items ≡ l.fn.out.items ++ names_bytes (take l.name-index l.names)
