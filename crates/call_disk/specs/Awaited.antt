-- What contracts see of calls that were noted.
use Rattle.std.specs.Prelude.{List}
use Rattle.call_disk.specs.Noted.{Call, calls_of, steps_of}
use Rattle.call_disk.specs.Tape.{Tape}
use Rattle.call_disk.specs.declared.noted.NotedCalls.{NotedCalls}

-- the calls that are to be performed, in this order
abbrev pub awaited : NotedCalls → List Call
awaited noted = calls_of noted.noted.items

-- all calls
abbrev pub tape_of : NotedCalls → Tape
tape_of noted = record { steps = steps_of noted.noted.items; idle = noted.idle; calls = noted.calls }
