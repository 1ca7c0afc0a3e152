-- What stands in lists that are joined, and lists without doubles.
use Rattle.std.proofs.Common.{◌≡◌, List, [], ◌∷◌, ◌++◌, map, refl, sym, ap, ◌∙◌, subst, inl, inr, ◌⊎◌, ⊎_elim}
use Rattle.std.specs.List.{AllByRecursion}
use Rattle.id_groups.specs.Lists.{IsIn, AreDistinct}

module _ {X : Type 0} where
  pub in-append : (x : X) (xs ys : List X) → IsIn x (xs ++ ys) → IsIn x xs ⊎ IsIn x ys
  in-append x [] ys h = inr h
  in-append x (z ∷ xs) ys (inl e) = inl (inl e)
  in-append x (z ∷ xs) ys (inr h) = ⊎_elim (λ a. inl (inr a)) (λ b. inr b) (in-append x xs ys h)

  pub in-left : (x : X) (xs ys : List X) → IsIn x xs → IsIn x (xs ++ ys)
  in-left x [] ys h = absurd h
  in-left x (z ∷ xs) ys (inl e) = inl e
  in-left x (z ∷ xs) ys (inr h) = inr (in-left x xs ys h)

  pub in-right : (x : X) (xs ys : List X) → IsIn x ys → IsIn x (xs ++ ys)
  in-right x [] ys h = h
  in-right x (z ∷ xs) ys h = inr (in-right x xs ys h)

  pub each-in : (P : X → Type 0) (xs : List X) → AllByRecursion P xs → (x : X) → IsIn x xs → P x
  each-in P [] h x i = absurd i
  each-in P (y ∷ xs) h x (inl e) = subst P (sym e) h.0
  each-in P (y ∷ xs) h x (inr i) = each-in P xs h.1 x i

  pub each-append : (P : X → Type 0) (xs ys : List X) → AllByRecursion P xs → AllByRecursion P ys → AllByRecursion P (xs ++ ys)
  each-append P [] ys h g = g
  each-append P (x ∷ xs) ys h g = (h.0, each-append P xs ys h.1 g)

  pub distinct-left : (xs ys : List X) → AreDistinct (xs ++ ys) → AreDistinct xs
  distinct-left [] ys h = tt
  distinct-left (x ∷ xs) ys h = (λ i. h.0 (in-left x xs ys i), distinct-left xs ys h.1)

  pub distinct-right : (xs ys : List X) → AreDistinct (xs ++ ys) → AreDistinct ys
  distinct-right [] ys h = h
  distinct-right (x ∷ xs) ys h = distinct-right xs ys h.1

  pub distinct-apart : (xs ys : List X) → AreDistinct (xs ++ ys) → (x : X) → IsIn x xs → IsIn x ys → ⊥
  distinct-apart [] ys h x i j = i
  distinct-apart (z ∷ xs) ys h x (inl e) j = h.0 (in-right z xs ys (subst (λ (w : X). IsIn w ys) e j))
  distinct-apart (z ∷ xs) ys h x (inr i) j = distinct-apart xs ys h.1 x i j

  pub distinct-join : (xs ys : List X) → AreDistinct xs → AreDistinct ys → ((x : X) → IsIn x xs → IsIn x ys → ⊥) → AreDistinct (xs ++ ys)
  distinct-join [] ys h g apart = g
  distinct-join (x ∷ xs) ys h g apart =
      (λ i. ⊎_elim (λ a. h.0 a) (λ b. apart x (inl refl) b) (in-append x xs ys i), distinct-join xs ys h.1 g (λ z a b. apart z (inr a) b))

module _ {X Y : Type 0} (f : X → Y) where
  pub in-map : (x : X) (xs : List X) → IsIn x xs → IsIn (f x) (map f xs)
  in-map x [] h = absurd h
  in-map x (y ∷ xs) (inl e) = inl (ap f e)
  in-map x (y ∷ xs) (inr h) = inr (in-map x xs h)

  pub each-map : (P : Y → Type 0) (xs : List X) → AllByRecursion P (map f xs) → (x : X) → IsIn x xs → P (f x)
  each-map P [] h x i = absurd i
  each-map P (y ∷ xs) h x (inl e) = subst (λ (z : X). P (f z)) (sym e) h.0
  each-map P (y ∷ xs) h x (inr i) = each-map P xs h.1 x i

  -- what a value is the value of
  pub in-mapped : (y : Y) (xs : List X) → IsIn y (map f xs) → (x : X) × IsIn x xs × (y ≡ f x)
  in-mapped y [] h = absurd h
  in-mapped y (x ∷ xs) (inl e) = (x, inl refl, e)
  in-mapped y (x ∷ xs) (inr h) = let r = in-mapped y xs h in (r.0, inr r.1, r.2)

  -- two with the same value are one, where no value stands twice
  pub one-of : (xs : List X) → AreDistinct (map f xs) → (a b : X) → IsIn a xs → IsIn b xs → f a ≡ f b → a ≡ b
  one-of [] h a b i j e = absurd i
  one-of (x ∷ xs) h a b (inl i) (inl j) e = i ∙ sym j
  one-of (x ∷ xs) h a b (inl i) (inr j) e = absurd (h.0 (subst (λ (z : Y). IsIn z (map f xs)) (sym e ∙ ap f i) (in-map b xs j)))
  one-of (x ∷ xs) h a b (inr i) (inl j) e = absurd (h.0 (subst (λ (z : Y). IsIn z (map f xs)) (e ∙ ap f j) (in-map a xs i)))
  one-of (x ∷ xs) h a b (inr i) (inr j) e = one-of xs h.1 a b i j e
