-- The parents of an id that are still to come.
use Rattle.std.specs.Prelude.{ℕ, List, [], ◌∷◌, ◌++◌, Option, Some, None}
use Rattle.segment_codec.specs.declared.lent.Parents.{Parents}
use Rattle.segment_codec.specs.Lent.{parents_left}
use Rattle.history_walks.specs.declared.rows.InOrder.{InOrder}

-- the one before, if it is still to come
abbrev pub before_left : Option ℕ → List ℕ
before_left None = []
before_left (Some id) = id ∷ []

-- those of a segment's lowest id
abbrev pub lowest_left : Option Parents → List ℕ
lowest_left None = []
lowest_left (Some parents) = parents_left parents

abbrev pub in_order : InOrder → List ℕ
in_order it = before_left it.before ++ lowest_left it.lowest
