-- Names as bytes.
use Rattle.std.specs.Prelude.{◌≡◌, ℕ, List, length}
use Rattle.std.specs.List.{AllByRecursion, concat}
use Rattle.id_groups.specs.Name.{Name}

abbrev pub HasTwenty : Name → Type 0
HasTwenty name = length name ≡ 20

-- the bytes are those of these names, 20 each, one behind the other
abbrev pub AreJoined : List Name → List ℕ → Type 0
AreJoined names bytes = (concat names ≡ bytes) × AllByRecursion HasTwenty names
