-- What a search for a place in a list of spans finds on either side of it.
use Rattle.std.specs.Prelude.{◌≡◌, ℕ, ◌+◌, ◌^◌, ◌<◌, ◌≤◌, List, [], ◌∷◌, ⊤}
use Rattle.id_groups.specs.declared.span.IdSpan.{IdSpan}
use Rattle.span_set.specs.Members.{IsBelow}

-- t lies below each span
abbrev pub AreAbove : IdSpan → List IdSpan → Type 0
AreAbove t [] = ⊤
AreAbove t (s ∷ rest) = IsBelow t s × AreAbove t rest

-- t lies below no span
abbrev pub AreNotAbove : IdSpan → List IdSpan → Type 0
AreNotAbove t [] = ⊤
AreNotAbove t (s ∷ rest) = (IsBelow t s → ⊥) × AreNotAbove t rest

-- no span lies below s
abbrev pub AreNotBelow : IdSpan → List IdSpan → Type 0
AreNotBelow s [] = ⊤
AreNotBelow s (t ∷ rest) = (IsBelow t s → ⊥) × AreNotBelow s rest

-- each span begins above the id
abbrev pub BeginAbove : ℕ → List IdSpan → Type 0
BeginAbove id [] = ⊤
BeginAbove id (s ∷ rest) = (id < s.low) × BeginAbove id rest

-- each span begins at the id or below it
abbrev pub BeginWithin : ℕ → List IdSpan → Type 0
BeginWithin id [] = ⊤
BeginWithin id (s ∷ rest) = (s.low ≤ id) × BeginWithin id rest

-- the last span begins right above t, and doesn't begin the second group
abbrev pub BeginsRightAbove : IdSpan → List IdSpan → Type 0
BeginsRightAbove t [] = ⊥
BeginsRightAbove t (s ∷ []) = (s.low ≡ t.high + 1) × (s.low ≡ 2 ^ 56 → ⊥)
BeginsRightAbove t (s ∷ u ∷ rest) = BeginsRightAbove t (u ∷ rest)
