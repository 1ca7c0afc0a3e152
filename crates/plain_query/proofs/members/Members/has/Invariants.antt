use Rattle.std.proofs.Common.{ℕ, ◌<◌, ◌≡◌, Some}
use Rattle.std.specs.Prelude.{slice_get, ◌≢◌}
use Rattle.id_groups.specs.Name.{Name}
use Rattle.plain_query.proofs.members.Members.has.Given as goal

-- none of the names so far is the one
abbrev pub invariant-loop-held : goal.invariant-loop-held
invariant-loop-held l = (k : ℕ) (y : Name) → k < l.held-index → slice_get l.held-items k ≡ Some y → y ≢ l.name
