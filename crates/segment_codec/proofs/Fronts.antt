-- What stands at the end of bytes that grow.
use Rattle.std.proofs.Common.{◌≡◌, ℕ, List, [], ◌∷◌, ◌++◌, length, take, refl, sym, ap, ◌∙◌, append_assoc}
use Rattle.std.proofs.lemmas.List.{append-nil, take_at}
use Rattle.segment_codec.specs.Record.{HasFront}

pub front-same : (xs : List ℕ) → HasFront xs xs
front-same xs = ([], sym (append-nil xs))

-- a list that has a front has it with more behind
pub front-more : (front xs more : List ℕ) → HasFront front xs → HasFront front (xs ++ more)
front-more front xs more h = (h.0 ++ more, ap (λ z. z ++ more) h.1 ∙ append_assoc front h.0 more)

pub front-then : (a b c : List ℕ) → HasFront a b → HasFront b c → HasFront a c
front-then a b c h g = (h.0 ++ g.0, g.1 ∙ ap (λ z. z ++ g.0) h.1 ∙ append_assoc a h.0 g.0)

pub front-is : (front xs : List ℕ) → HasFront front xs → take (length front) xs ≡ front
front-is front xs h = ap (take (length front)) h.1 ∙ take_at front h.0 (length front) refl

pub written-more : (out : List ℕ) (byte : ℕ) (more : List ℕ) → (out ++ byte ∷ []) ++ more ≡ out ++ byte ∷ more
written-more out byte more = append_assoc out (byte ∷ []) more

-- the parents, written behind it
pub written-parents : (out o1 o2 high span count parents : List ℕ) (flags level : ℕ)
    → o1 ≡ out ++ (flags ∷ level ∷ high ++ (span ++ count)) → o2 ≡ o1 ++ parents → o2 ≡ out ++ (flags ∷ level ∷ high ++ (span ++ (count ++ parents)))
written-parents out o1 o2 high span count parents flags level first last =
    let all : o2 ≡ (out ++ (flags ∷ level ∷ high ++ (span ++ count))) ++ parents = last ∙ ap (λ (z : List ℕ). z ++ parents) first in
    all ∙ simp append_assoc
