-- Reading from left to right: a value and the bytes behind it, or nothing where no spelling of one stands in front.
use Rattle.std.specs.Prelude.{◌≡◌, ◌^◌, ℕ, zero, suc, ◌+◌, ◌-◌, ◌*◌, ◌&&◌, ◌||◌, Bool, true, not, List, [], ◌∷◌, length, take, drop, Option, Some, None, nat_lt, nat_le, nat_eq, if◌then◌else◌}
use Rattle.std.specs.Int.{w64, from_be_bytes}
use Rattle.id_groups.specs.Lists.{is_in}
use Rattle.id_groups.specs.Id.{id_end}
use Rattle.segment_codec.specs.declared.head.Head.{Head}
use Rattle.segment_codec.specs.Record.{Segment}

-- reading goes on with what was read, or there is nothing
infixl 10 ◌>>=◌
abbrev pub ◌>>=◌ : {A B : Type 0} → Option A → (A → Option B) → Option B
None >>= f = None
(Some x) >>= f = f x

-- what a function returned, seen by view, is what reading gives
abbrev pub Gives : {X Y : Type 0} → (X → Y) → Option X → Option Y → Type 0
Gives view None read = read ≡ None
Gives view (Some x) read = read ≡ Some (view x)

-- seven bits below a number that isn't 0
abbrev pub group_below : ℕ → Option (ℕ × List ℕ) → Option (ℕ × List ℕ)
group_below group None = None
group_below group (Some x) = if nat_eq x.0 0 then None else Some (group + 128 * x.0, x.1)

-- a number of any size
unfoldable pub long_number_at : List ℕ → Option (ℕ × List ℕ)
long_number_at [] = None
long_number_at (byte ∷ bytes) = if nat_lt byte 128 then Some (byte, bytes) else group_below (byte - 128) (long_number_at bytes)

-- a number of 64 bits
unfoldable pub number_at : List ℕ → Option (ℕ × List ℕ)
number_at bytes = do
  n ← long_number_at bytes
  if nat_lt n.0 (2 ^ 64) then Some n else None

-- so many numbers, each below the end
unfoldable pub numbers_at : ℕ → ℕ → List ℕ → Option (List ℕ × List ℕ)
numbers_at end zero bytes = Some ([], bytes)
numbers_at end (suc count) bytes = do
  first ← number_at bytes
  others ← (if nat_lt first.0 end then numbers_at end count first.1 else None)
  Some (first.0 ∷ others.0, others.1)

-- eight bytes
unfoldable pub fixed_at : List ℕ → Option (ℕ × List ℕ)
fixed_at bytes = if nat_lt (length bytes) 8 then None else Some (from_be_bytes w64 (take 8 bytes), drop 8 bytes)

-- a flat segment has as many as a row may have; one of a higher level has at most 2 ^ 24
abbrev pub most_parents : ℕ → ℕ
most_parents level = if nat_eq level 0 then 8 else 16777216

-- what stands before the parents is that of a record
abbrev pub is_head : ℕ → ℕ → ℕ → ℕ → ℕ → Bool
is_head flags level high span count =
    nat_le level 7 && nat_lt high id_end && nat_le span high && (nat_lt high (2 ^ 56) || nat_le (2 ^ 56) (high - span))
    && nat_le count (most_parents level) && nat_eq flags (if nat_eq count 0 then 1 else 0)

-- what stands before the parents: flags, level, highest id, how far the lowest is below it, and how many parents
unfoldable pub head_at : List ℕ → Option (Head × List ℕ)
head_at (flags ∷ level ∷ rest) = do
  high ← fixed_at rest
  span ← number_at high.1
  count ← number_at span.1
  if is_head flags level high.0 span.0 count.0
      then Some (record { low = high.0 - span.0; high = high.0; level = level; count = count.0 }, count.1)
      else None
head_at _ = None

-- whether no number stands there twice
abbrev pub are_distinct : List ℕ → Bool
are_distinct [] = true
are_distinct (n ∷ ns) = not (is_in nat_eq n ns) && are_distinct ns

-- each number is above the one before, and the first is at least so great
abbrev pub ascend_from : ℕ → List ℕ → Bool
ascend_from least [] = true
ascend_from least (n ∷ ns) = nat_le least n && ascend_from (n + 1) ns

-- parents of a flat segment stand in any order, but none twice; those of a higher level ascend
abbrev pub are_in_order : ℕ → List ℕ → Bool
are_in_order level parents = if nat_eq level 0 then are_distinct parents else ascend_from 0 parents

-- a record: what stands before its parents, then the parents
unfoldable pub record_at : List ℕ → Option (Segment × List ℕ)
record_at bytes = do
  head ← head_at bytes
  parents ← numbers_at head.0.low head.0.count head.1
  if are_in_order head.0.level parents.0
      then Some (record { low = head.0.low; high = head.0.high; level = head.0.level; parents = parents.0 }, parents.1)
      else None
