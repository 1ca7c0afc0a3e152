-- A filter of fronts: which of them its words let pass.
use Rattle.std.specs.Prelude.{◌≡◌, ℕ, ◌*◌, ◌/◌, ◌%◌, ◌^◌, List, length, Option, Some, None, Bool, true, nat_eq, bit_and, bit_or}
use Rattle.std.specs.List.{AllByRecursion, slice_get}
use Rattle.name_index.specs.declared.entry.Entry.{Entry}

-- the word that has this bit alone, of the 64 bits counted round and round
abbrev pub bit_of : ℕ → ℕ
bit_of number = 2 ^ (number % 64)

-- the bits of a front, by its last digits to the base of 64
unfoldable pub mask_of : ℕ → ℕ
mask_of front = bit_or (bit_of front) (bit_of (front / 64))

-- which of so many words has the bits of a front, by its leading 32 bits
unfoldable pub word_for : ℕ → ℕ → ℕ
word_for front count = front / 2 ^ 32 * count % 2 ^ 64 / 2 ^ 32

-- a word lets pass what has all its bits there; no word lets pass anything
abbrev pub has_all : Option ℕ → ℕ → Bool
has_all None mask = true
has_all (Some word) mask = nat_eq (bit_and word mask) mask

-- whether the words let the front pass
abbrev pub lets_pass : List ℕ → ℕ → Bool
lets_pass words front = has_all (slice_get words (word_for front (length words))) (mask_of front)

-- the words let the fronts of all these entries pass
abbrev pub PassAll : List ℕ → List Entry → Type 0
PassAll words entries = AllByRecursion (λ e. lets_pass words e.front ≡ true) entries
