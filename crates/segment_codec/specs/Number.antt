-- Numbers of variable length: seven bits a byte, the lowest first.
use Rattle.std.specs.Prelude.{◌<◌, ◌^◌, ℕ, zero, suc, ◌+◌, ◌-◌, ◌*◌, ◌/◌, ◌%◌, List, [], ◌∷◌, nat_lt, if◌then◌else◌}

-- at most so many bytes; each but the last has 128 more than its seven bits
abbrev pub groups_of : ℕ → ℕ → List ℕ
groups_of zero n = []
groups_of (suc k) n = if nat_lt n 128 then n ∷ [] else (n % 128 + 128) ∷ groups_of k (n / 128)

-- n has a spelling
abbrev pub HasNumber : ℕ → Type 0
HasNumber n = n < 2 ^ 64

-- the one spelling of a number that has one; of a greater number this says nothing
unfoldable pub number_bytes : ℕ → List ℕ
number_bytes n = groups_of 10 n

-- seven bits more below the first of the numbers behind them
abbrev pub with_group : ℕ → List ℕ → List ℕ
with_group group [] = []
with_group group (n ∷ ns) = (group + 128 * n) ∷ ns

-- the numbers that stand one after another in the bytes: each ends at a byte below 128
abbrev pub numbers_in : List ℕ → List ℕ
numbers_in [] = []
numbers_in (byte ∷ bytes) = if nat_lt byte 128 then byte ∷ numbers_in bytes else with_group (byte - 128) (numbers_in bytes)
