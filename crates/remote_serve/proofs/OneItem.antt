-- A list with one item, and with another in its place.
use Rattle.std.proofs.Common.{◌≡◌, arith, List, [], ◌∷◌, length, map, refl, sym, ap, slice_set, get_or}

pub one-item : {X Y : Type 0} (f : X → Y) (xs : List X) (x n : X) → length xs ≡ 1 → x ≡ get_or xs 0 x → (map f xs ≡ f x ∷ []) × (map f (slice_set xs 0 n) ≡ f n ∷ [])
one-item f [] x n e at = absurd (omega (arith, e))
one-item f (y ∷ []) x n e at = (ap (λ z. f z ∷ []) (sym at), refl)
one-item f (y ∷ z ∷ xs) x n e at = absurd (omega (arith, e))
