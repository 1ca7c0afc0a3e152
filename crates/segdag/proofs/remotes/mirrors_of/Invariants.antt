use Rattle.std.proofs.Common.{◌≤◌, length, map, take, string_bytes}
use Rattle.segdag.specs.Mirrors.{AreMadeOf}
use Rattle.segdag.proofs.remotes.mirrors_of.Given as goal

abbrev pub invariant-remotes : goal.invariant-remotes
invariant-remotes l = (length l.list.items ≤ l.word-index) × AreMadeOf l.fn.is_run (map string_bytes (take l.word-index l.fn.remotes)) l.list.items
