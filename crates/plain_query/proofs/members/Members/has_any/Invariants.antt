use Rattle.std.proofs.Common.{ℕ, ◌<◌, ◌≡◌, Some}
use Rattle.std.specs.Prelude.{slice_get}
use Rattle.id_groups.specs.Lists.{IsIn}
use Rattle.id_groups.specs.Name.{Name}
use Rattle.plain_query.proofs.members.Members.has_any.Given as goal

-- none of the names so far is that of a member
abbrev pub invariant-loop-name : goal.invariant-loop-name
invariant-loop-name l = (k : ℕ) (x : Name) → k < l.name-index → slice_get l.names k ≡ Some x → IsIn x l.self → ⊥
