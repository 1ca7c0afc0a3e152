-- Where the payloads of a log end.
use Rattle.std.specs.Prelude.{◌<◌, ◌+◌, length}
use Rattle.gated_log.specs.Held.{Held, log_bytes}
use Rattle.name_map.specs.Added.{Placed}
use Rattle.change_rules.specs.Change.{text_of}

-- the payload ends before the closed gate of the log
abbrev pub EndsWithin : Held → Placed → Type 0
EndsWithin log a = a.at + length (text_of a.payload) < length (log_bytes log)
