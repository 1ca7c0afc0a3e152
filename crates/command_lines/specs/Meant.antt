-- What a command of the code means.
use Rattle.std.specs.Prelude.{◌≢◌, ◌≤◌, [], length, ⊤}
use Rattle.set_expr.specs.declared.parse.ExprFault.{ExprFault}
use Rattle.set_expr.specs.declared.parse.ExprFault.TheVariants as exprs
use Rattle.set_expr.specs.Whole.{tree_of}
use Rattle.step_rules.specs.Verb.{Verb, Add, Flush, Reload, Discard, Query, Count, IdOf, Status, Levels, Clone, Pull, Strip, CountMirrors, Drop}
use Rattle.command_lines.specs.declared.command.CommandFault.{CommandFault}
use Rattle.command_lines.specs.declared.command.CommandFault.TheVariants.{Syntax, Memory}
use Rattle.command_lines.specs.declared.command.Verb.{Verb as Asked}
use Rattle.command_lines.specs.declared.command.Verb.TheVariants as asked

-- what is asked for, with each expression as its tree
abbrev pub meant : Asked → Verb
meant (asked.Add name parents) = Add name parents
meant (asked.Flush heads) = Flush heads
meant asked.Reload = Reload
meant asked.Discard = Discard
meant (asked.Query expr) = Query (tree_of expr)
meant (asked.Count expr) = Count (tree_of expr)
meant (asked.Id name) = IdOf name
meant asked.Status = Status
meant asked.Levels = Levels
meant asked.Clone = Clone
meant asked.Pull = Pull
meant (asked.Strip names) = Strip names
meant asked.Mirrors = CountMirrors
meant (asked.DropAt place) = Drop place

-- a line with an expression that can't be read can't be read either
abbrev pub fault_of : ExprFault → CommandFault
fault_of exprs.Syntax = Syntax
fault_of exprs.Memory = Memory

-- a commit has at most 8 parents, and something is stripped
abbrev pub HasRightCount : Verb → Type 0
HasRightCount (Add name parents) = length parents ≤ 8
HasRightCount (Strip names) = names ≢ []
HasRightCount _ = ⊤

-- to read the command takes memory: it has a list of names, or an expression
abbrev pub TakesMemory : Verb → Type 0
TakesMemory (Add name parents) = ⊤
TakesMemory (Flush heads) = heads ≢ []
TakesMemory (Query e) = ⊤
TakesMemory (Count e) = ⊤
TakesMemory (Strip names) = ⊤
TakesMemory _ = ⊥
