-- Reading an answer from left to right: the answer that all the bytes spell, or nothing.
use Rattle.std.specs.Prelude.{ℕ, zero, suc, List, [], ◌∷◌, Option, Some, None, nat_eq, nat_le, if◌then◌else◌}
use Rattle.std.specs.Option.{option_map}
use Rattle.std.specs.Int.{w32, w64}
use Rattle.id_groups.specs.Name.{Name}
use Rattle.segment_codec.specs.Record.{Segment}
use Rattle.segment_codec.specs.Reading.{◌>>=◌}
use Rattle.batch_codec.specs.Reading.{fixed_at, piece_at}
use Rattle.remote_rules.specs.CloneData.{CloneData, KnownName}
use Rattle.remote_rules.specs.Known.{Path}
use Rattle.remote_serve.specs.Answers.{Answer, Refreshed, Cloned, Named, Led, HasFailed, IsTooLong, IsNoRequest, HasNoMemory}

-- what was read, where no byte is left
abbrev pub only : {X : Type 0} → X → List ℕ → Option X
only x [] = Some x
only x (byte ∷ rest) = None

-- so many items
unfoldable pub items_at : {X : Type 0} → (List ℕ → Option (X × List ℕ)) → ℕ → List ℕ → Option (List X × List ℕ)
items_at item zero bytes = Some ([], bytes)
items_at item (suc count) bytes = do
  first ← item bytes
  others ← items_at item count first.1
  Some (first.0 ∷ others.0, others.1)

-- how many items, and these
unfoldable pub counted_at : {X : Type 0} → (List ℕ → Option (X × List ℕ)) → List ℕ → Option (List X × List ℕ)
counted_at item bytes = do
  count ← fixed_at w32 bytes
  items_at item count.0 count.1

-- how many parents, at most 8, and these
unfoldable pub parents_at : List ℕ → Option (List ℕ × List ℕ)
parents_at [] = None
parents_at (count ∷ rest) = if nat_le count 8 then items_at (fixed_at w64) count rest else None

-- low, high, and the parents
unfoldable pub segment_at : List ℕ → Option (Segment × List ℕ)
segment_at bytes = do
  low ← fixed_at w64 bytes
  high ← fixed_at w64 low.1
  parents ← parents_at high.1
  Some (record { low = low.0; high = high.0; level = 0; parents = parents.0 }, parents.1)

unfoldable pub known_at : List ℕ → Option (KnownName × List ℕ)
known_at bytes = do
  id ← fixed_at w64 bytes
  name ← piece_at 20 id.1
  Some (record { id = id.0; name = name.0 }, name.1)

unfoldable pub told_at : List ℕ → Option CloneData
told_at bytes = do
  segments ← counted_at segment_at bytes
  names ← counted_at known_at segments.1
  heads ← counted_at (piece_at 20) names.1
  only (record { segments = segments.0; names = names.0; heads = heads.0 }) heads.1

unfoldable pub names_told_at : List ℕ → Option (List Name)
names_told_at bytes = do
  names ← counted_at (piece_at 20) bytes
  only names.0 names.1

unfoldable pub way_at : List ℕ → Option Path
way_at bytes = do
  from ← piece_at 20 bytes
  back ← fixed_at w64 from.1
  only (record { from = from.0; back = back.0 }) back.1

-- what stands in place of an answer
abbrev pub refusal_at : List ℕ → Option Answer
refusal_at [] = None
refusal_at (kind ∷ rest) =
    if nat_eq kind 1 then only HasFailed rest
    else (if nat_eq kind 2 then only IsTooLong rest
    else (if nat_eq kind 3 then only IsNoRequest rest
    else (if nat_eq kind 4 then only HasNoMemory rest else None)))

-- an answer of this kind
abbrev pub answer_of_kind : ℕ → List ℕ → Option Answer
answer_of_kind kind rest =
    if nat_eq kind 129 then only Refreshed rest
    else (if nat_eq kind 130 then option_map Cloned (told_at rest)
    else (if nat_eq kind 131 then option_map Named (names_told_at rest)
    else (if nat_eq kind 132 then option_map (λ path. Led (Some path)) (way_at rest)
    else (if nat_eq kind 133 then only (Led None) rest
    else (if nat_eq kind 255 then refusal_at rest else None)))))

unfoldable pub answer_at : List ℕ → Option Answer
answer_at [] = None
answer_at (kind ∷ rest) = answer_of_kind kind rest
