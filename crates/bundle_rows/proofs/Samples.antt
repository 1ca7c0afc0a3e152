-- The fork is a bundle.
use Rattle.std.proofs.Common.{◌≡◌, ℕ, zero, suc, ◌<◌, ◌++◌, List, [], ◌∷◌, inl, inr, ap, refl, replicate, lit≤, arith}
use Rattle.id_groups.specs.Lists.{IsIn}
use Rattle.std.specs.List.{AllByRecursion}
use Rattle.id_groups.specs.Name.{IsName}
use Rattle.segment_codec.specs.Record.{Segment, IsSegment}
use Rattle.bundle_codec.specs.Bundle.{Contents, IsBundle}
use Rattle.bundle_codec.proofs.Format.{apart-distinct}
use Rattle.bundle_rows.specs.Fork.{name_to, fork_names}

-- three records
abbrev pub made : ℕ → ℕ → ℕ → ℕ → ℕ → ℕ → ℕ → ℕ → ℕ → List Segment
made a b c d parent e f first second =
    record { low = a; high = b; level = 0; parents = [] } ∷ record { low = c; high = d; level = 0; parents = parent ∷ [] }
    ∷ record { low = e; high = f; level = 0; parents = first ∷ second ∷ [] } ∷ []

abbrev pub fork_records : List Segment
fork_records = made 0 2 3 4 1 5 5 2 4

abbrev pub fork : Contents
fork = record { segments = fork_records; names = fork_names }

all-fit : (n last : ℕ) → last < 256 → AllByRecursion (λ b. b < 256) (replicate n 0 ++ last ∷ [])
all-fit zero last h = (h, tt)
all-fit (suc n) last h = (lit≤ tt, all-fit n last h)

is-name : (last : ℕ) → last < 256 → IsName (name_to last)
is-name last h = (refl, all-fit 19 last h)

below : (a b : ℕ) → a < b → a ≡ b → ⊥
below a b lt e = omega (arith, lt, e)

not-in : (a b : ℕ) → a < b → IsIn a (b ∷ []) → ⊥
not-in a b lt (inl e) = below a b lt e
not-in a b lt (inr i) = absurd i

abbrev head : List ℕ → ℕ
head [] = 0
head (x ∷ xs) = x

unlike : (a b : ℕ) (xs ys : List ℕ) → a < b → a ∷ xs ≡ b ∷ ys → ⊥
unlike a b xs ys lt e = below a b lt (ap head e)

one : IsSegment (record { low = 0; high = 2; level = 0; parents = [] })
one = record { ascending = lit≤ tt; one_group = refl; valid = lit≤ tt; level = lit≤ tt; below = tt; distinct = tt; level_parents = lit≤ tt }

two : IsSegment (record { low = 3; high = 4; level = 0; parents = 1 ∷ [] })
two = record { ascending = lit≤ tt; one_group = refl; valid = lit≤ tt; level = lit≤ tt; below = (lit≤ tt, tt); distinct = ((λ i. i), tt); level_parents = lit≤ tt }

three : IsSegment (record { low = 5; high = 5; level = 0; parents = 2 ∷ 4 ∷ [] })
three = record {
  ascending = lit≤ tt;
  one_group = refl;
  valid = lit≤ tt;
  level = lit≤ tt;
  below = (lit≤ tt, (lit≤ tt, tt));
  distinct = (not-in 2 4 (lit≤ tt), ((λ i. i), tt));
  level_parents = lit≤ tt;
}

named : AllByRecursion IsName fork_names
named = (is-name 1 (lit≤ tt), (is-name 2 (lit≤ tt), (is-name 3 (lit≤ tt), (is-name 4 (lit≤ tt), (is-name 5 (lit≤ tt), (is-name 6 (lit≤ tt), tt))))))

pub fork-is : IsBundle fork
fork-is = record {
  few = lit≤ tt;
  flat = ((one, refl), ((two, refl), ((three, refl), tt)));
  cover = (refl, lit≤ tt, (refl, lit≤ tt, (refl, lit≤ tt, refl)));
  maximal = (unlike 1 2 [] [] (lit≤ tt), (unlike 2 4 (4 ∷ []) [] (lit≤ tt), tt));
  names = named;
  distinct = apart-distinct fork_names refl;
}
