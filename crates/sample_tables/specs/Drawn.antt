-- How a drawn commit begins a segment, and the history that a rule gives.
use Rattle.std.specs.Prelude.{◌<◌, ◌+◌, ◌-◌, ◌*◌, ◌/◌, ◌%◌, ◌^◌, ⊤, ℕ, zero, suc, min, nat_eq, nat_lt, if◌then◌else◌, List, [], ◌∷◌, Option, Some, None}
use Rattle.sample_tables.specs.declared.history.Begin.{Begin}
use Rattle.sample_tables.specs.declared.history.Begin.TheVariants.{Root, Branch, Merge}
use Rattle.sample_tables.specs.declared.history.Rule.{Rule}

-- the commit with this id may: an earlier parent lies below it, and below the one before it where that is a parent too
abbrev pub MayBegin : ℕ → Begin → Type 0
MayBegin i Root = ⊤
MayBegin i (Branch earlier) = earlier < i
MayBegin i (Merge earlier) = earlier + 1 < i

-- the parents of the commit with this id that begins so
abbrev pub parents_begun : ℕ → Begin → List ℕ
parents_begun i Root = []
parents_begun i (Branch earlier) = earlier ∷ []
parents_begun i (Merge earlier) = (i - 1) ∷ earlier ∷ []

-- the state behind another
abbrev pub next_drawn : ℕ → ℕ
next_drawn x = (x * 6364136223846793005 + 1442695040888963407) % 2 ^ 64

-- the state after so many draws; the upper bits of it are the number that is drawn
abbrev pub drawn : ℕ → ℕ → ℕ
drawn start zero = start
drawn start (suc n) = next_drawn (drawn start n)

-- the earlier parent that the number picks: one of the 64 before the one before
abbrev pub picked : ℕ → ℕ → ℕ
picked number i = i - 1 - (1 + (number / 16) % (min i 65 - 1))

-- how the commit begins a segment by this number, if it isn't simply on the one before; the commit 1 is on the commit 0
abbrev pub begin_by : Rule → ℕ → ℕ → Option Begin
begin_by rule number i =
    if nat_eq i 1 then None
    else (if nat_lt (number % 16) rule.merges then Some (Merge (picked number i))
    else (if nat_lt (number % 16 - rule.merges) rule.branches then Some (Branch (picked number i)) else None))

-- the parents that it begins with, or the one before
abbrev pub parents_by : ℕ → Option Begin → List ℕ
parents_by i None = (i - 1) ∷ []
parents_by i (Some start) = parents_begun i start

-- the parents of each commit of the history: 0 has none, and for each from 2 on a number is drawn
abbrev pub history : Rule → ℕ → ℕ → List ℕ
history rule start zero = []
history rule start (suc k) = parents_by (suc k) (begin_by rule (drawn start k / 2 ^ 33) (suc k))
