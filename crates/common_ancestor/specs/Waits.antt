-- What waits in a visit of what two sets both reach.
use Rattle.std.specs.Prelude.{ℕ, ◌⊎◌, List, Option, Some, None}
use Rattle.id_groups.specs.Lists.{IsIn}
use Rattle.ancestor_query.specs.Visits.{ToVisit, Keeps, IsGreatest, Greatest}
use Rattle.common_ancestor.specs.Meets.{shared_of, PutsOne}
use Rattle.common_ancestor.specs.declared.meeting.Waiting.{Waiting}
use Rattle.common_ancestor.specs.declared.meeting.Next.{Next}

-- the three lists
abbrev pub lists_of : Waiting → List ℕ × List ℕ × List ℕ
lists_of w = (w.left, w.right, w.both)

-- what is dropped from each list is at or above the bound
pub record Drops (below : ℕ) (before after : Waiting) : Type 0 where
  pub left : Keeps before.left after.left below
  pub right : Keeps before.right after.right below
  pub both : Keeps before.both after.both below

-- the greatest ids below the bound, if there is one on either side
abbrev pub FindsNext : (ℕ → Type 0) → (ℕ → Type 0) → ℕ → Waiting → Option Next → Type 0
FindsNext A B below w None = Greatest (ToVisit A w.left) below None ⊎ Greatest (ToVisit B w.right) below None
FindsNext A B below w (Some n) =
    IsGreatest (ToVisit A w.left) below n.left × IsGreatest (ToVisit B w.right) below n.right × Greatest (λ x. IsIn x w.both) below n.both

-- the ids went to the list that they belong to
abbrev pub PutsParents : ℕ → Next → List ℕ → Waiting → Waiting → Type 0
PutsParents low n ids before after = PutsOne low (shared_of n.left n.right n.both) n.left n.right ids (lists_of before) (lists_of after)
