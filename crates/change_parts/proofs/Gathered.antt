-- Items that were gathered one by one.
use Rattle.std.proofs.Common.{◌≡◌, ◌+◌, ◌++◌, ℕ, List, [], ◌∷◌, Some, map, take, sym, ap, subst, ◌∙◌, append_assoc}
use Rattle.std.specs.Prelude.{slice_get}
use Rattle.std.specs.List.{AllByRecursion}
use Rattle.std.proofs.lemmas.List.{take_more, map-append}
use Rattle.std.proofs.lemmas.Option.{slice_get_within, get_or_from_slice_get}

-- one item more of those that were taken
pub taken-more : {X : Type 0} (xs : List X) (i : ℕ) (x : X) → slice_get xs i ≡ Some x → take i xs ++ x ∷ [] ≡ take (i + 1) xs
taken-more xs i x e = ap (λ z. take i xs ++ z ∷ []) (sym (get_or_from_slice_get xs i x x e)) ∙ sym (take_more xs i x (slice_get_within xs i x e))

-- the same behind others
pub behind-more : {X : Type 0} (front xs : List X) (i : ℕ) (x : X) → slice_get xs i ≡ Some x → (front ++ take i xs) ++ x ∷ [] ≡ front ++ take (i + 1) xs
behind-more front xs i x e = append_assoc front (take i xs) (x ∷ []) ∙ ap (λ l. front ++ l) (taken-more xs i x e)

-- the same of other items that are made of them
pub mapped-more : {X Y : Type 0} (f : X → Y) (front : List Y) (xs : List X) (i : ℕ) (x : X) → slice_get xs i ≡ Some x → (front ++ map f (take i xs)) ++ f x ∷ [] ≡ front ++ map f (take (i + 1) xs)
mapped-more f front xs i x e =
    append_assoc front (map f (take i xs)) (f x ∷ []) ∙ ap (λ l. front ++ l) (sym (map-append f (take i xs) (x ∷ [])) ∙ ap (map f) (taken-more xs i x e))

all-behind : {X : Type 0} (P : X → Type 0) (xs : List X) (x : X) → AllByRecursion P xs → P x → AllByRecursion P (xs ++ x ∷ [])
all-behind P [] x h p = (p, tt)
all-behind P (y ∷ xs) x h p = (h.0, all-behind P xs x h.1 p)

pub all-more : {X : Type 0} (P : X → Type 0) (xs : List X) (i : ℕ) (x : X) → slice_get xs i ≡ Some x → AllByRecursion P (take i xs) → P x → AllByRecursion P (take (i + 1) xs)
all-more P xs i x e h p = subst (AllByRecursion P) (taken-more xs i x e) (all-behind P (take i xs) x h p)
