-- How the parents of a demonstration's commits are drawn.
use Rattle.std.specs.Prelude.{ℕ, zero, suc, ◌+◌, ◌-◌, ◌*◌, ◌/◌, ◌%◌, ◌^◌, ◌==◌, List, [], ◌∷◌, min, if◌then◌else◌}

-- the number behind a number
abbrev pub next : ℕ → ℕ
next x = (x * 6364136223846793005 + 1442695040888963407) % 2 ^ 64

-- the number after so many draws
abbrev pub after_draws : ℕ → ℕ → ℕ
after_draws start zero = start
after_draws start (suc draws) = next (after_draws start draws)

-- what is drawn where this number is reached
abbrev pub drawn : ℕ → ℕ
drawn x = x / 2 ^ 33

-- how far before the commit ahead of commit i another parent lies, which is at most 64
abbrev pub distance : ℕ → ℕ → ℕ
distance i r = 1 + r / 16 % (min i 65 - 1)

-- the parents of commit i, which is neither the first nor the second: a sixteenth are merges, a sixteenth branch off
abbrev pub drawn_parents : ℕ → ℕ → List ℕ
drawn_parents i r =
    if r % 16 == 0 then (i - 1) ∷ (i - 1 - distance i r) ∷ []
    else if r % 16 == 1 then (i - 1 - distance i r) ∷ []
    else (i - 1) ∷ []

-- the parents of commit i where this number is reached; the first two commits draw nothing
abbrev pub parents_at : ℕ → ℕ → List ℕ
parents_at zero x = []
parents_at (suc zero) x = 0 ∷ []
parents_at (suc (suc i)) x = drawn_parents (suc (suc i)) (drawn x)

-- the number that is reached for commit i: each commit from the third on draws one
abbrev pub number_of : ℕ → ℕ → ℕ
number_of start i = after_draws start (i - 1)
