-- Mirrors and the places at which they stood before.
use Rattle.std.proofs.Common.{◌≡◌, ◌≤◌, ◌<◌, ◌+◌, ℕ, zero, suc, inl, inr, List, [], ◌∷◌, ◌++◌, length, map, take, drop, Option, Some, None, is_some, slice_get, refl, sym, ap, subst, subst₂, ◌∙◌, true≢false, arith, append-nil, append_assoc, length-append}
use Rattle.std.specs.List.{AllZip, range_with_len}
use Rattle.id_groups.specs.Lists.{IsIn, AreDistinct}
use Rattle.change_rules.proofs.Lawful.{distinct-join}
use Rattle.remote_rules.specs.Mirror.{Mirror}
use Rattle.remote_rules.specs.Calls.{Failing}
use Rattle.remote_rules.specs.declared.MirrorFault.{MirrorFault}
use Rattle.remote_rules.specs.Asking.{IsOneAsk, AskedNext}
use Rattle.step_rules.specs.Step.{without}
use Rattle.step_rules.specs.Rises.{WasAt, EachWas}

abbrev or_this : {X : Type 0} → X → Option X → X
or_this d None = d
or_this d (Some x) = x

-- the place that stands at a place, or 0
abbrev at : List ℕ → ℕ → ℕ
at places j = or_this 0 (slice_get places j)

get-in : (xs : List ℕ) (i x : ℕ) → slice_get xs i ≡ Some x → IsIn x xs
get-in [] i x e = absurd (true≢false (sym (ap is_some e)))
get-in (y ∷ xs) zero x e = inl (ap (or_this x) (sym e))
get-in (y ∷ xs) (suc i) x e = inr (get-in xs i x e)

one-place : (xs : List ℕ) → AreDistinct xs → (i j x : ℕ) → slice_get xs i ≡ Some x → slice_get xs j ≡ Some x → i ≡ j
one-place [] d i j x e f = absurd (true≢false (sym (ap is_some e)))
one-place (y ∷ xs) d zero zero x e f = refl
one-place (y ∷ xs) d zero (suc j) x e f = absurd (d.0 (subst (λ z. IsIn z xs) (ap (or_this x) (sym e)) (get-in xs j x f)))
one-place (y ∷ xs) d (suc i) zero x e f = absurd (d.0 (subst (λ z. IsIn z xs) (ap (or_this x) (sym f)) (get-in xs i x e)))
one-place (y ∷ xs) d (suc i) (suc j) x e f = ap suc (one-place xs d.1 i j x e f)

range-in : (a n i : ℕ) → IsIn i (range_with_len a n) → (a ≤ i) × (i < a + n)
range-in a zero i k = absurd k
range-in a (suc n) i (inl e) = (omega (arith, e), omega (arith, e))
range-in a (suc n) i (inr k) = let r = range-in (a + 1) n i k in let l = r.0 in let u = r.1 in (omega (arith, l), omega (arith, u))

range-distinct : (a n : ℕ) → AreDistinct (range_with_len a n)
range-distinct a zero = tt
range-distinct a (suc n) = ((λ k. let l = (range-in (a + 1) n a k).0 in absurd (omega (arith, l))), range-distinct (a + 1) n)

zip-append : {X Y : Type 0} (R : X → Y → Type 0) (xs vs : List X) (ys ws : List Y) → AllZip R xs ys → AllZip R vs ws → AllZip R (xs ++ vs) (ys ++ ws)
zip-append R [] vs [] ws z y = y
zip-append R [] vs (y ∷ ys) ws z k = absurd z
zip-append R (x ∷ xs) vs [] ws z k = absurd z
zip-append R (x ∷ xs) vs (y ∷ ys) ws z k = (z.0, zip-append R xs vs ys ws z.1 k)

zip-at : {X Y : Type 0} (R : X → Y → Type 0) (xs : List X) (ys : List Y) → AllZip R xs ys → (j : ℕ) (y : Y) → slice_get ys j ≡ Some y → (x : X) × (slice_get xs j ≡ Some x) × R x y
zip-at R [] [] z j y e = absurd (true≢false (sym (ap is_some e)))
zip-at R [] (y ∷ ys) z j w e = absurd z
zip-at R (x ∷ xs) [] z j y e = absurd z
zip-at R (x ∷ xs) (y ∷ ys) z zero w e = (x, refl, subst (R x) (ap (or_this y) e) z.0)
zip-at R (x ∷ xs) (y ∷ ys) z (suc j) w e = zip-at R xs ys z.1 j w e

get-here : {X : Type 0} (a : List X) (x : X) (c : List X) → slice_get (a ++ x ∷ c) (length a) ≡ Some x
get-here [] x c = refl
get-here (y ∷ a) x c = get-here a x c

-- the same mirror
abbrev Same : Mirror → Mirror → Type 0
Same k m = k ≡ m

-- a piece of a list stands at places in a row
piece : (a b c : List Mirror) → AllZip (WasAt Same (a ++ (b ++ c))) (range_with_len (length a) (length b)) b
piece a [] c = tt
piece a (x ∷ b) c = (
  (x, get-here a x (b ++ c), refl),
  subst₂ (λ l n. AllZip (WasAt Same l) (range_with_len n (length b)) b) (append_assoc a (x ∷ []) (b ++ c)) (length-append a (x ∷ [])) (piece (a ++ x ∷ []) b c),
)

-- two pieces of a list, in any order
two-pieces : (xs b c : List Mirror) (i j : ℕ) → AllZip (WasAt Same xs) (range_with_len i (length b)) b → AllZip (WasAt Same xs) (range_with_len j (length c)) c
    → ((n : ℕ) → IsIn n (range_with_len i (length b)) → IsIn n (range_with_len j (length c)) → ⊥) → EachWas Same xs (b ++ c)
two-pieces xs b c i j z y apart = (
  range_with_len i (length b) ++ range_with_len j (length c),
  distinct-join (range_with_len i (length b)) (range_with_len j (length c)) (range-distinct i (length b)) (range-distinct j (length c)) apart,
  zip-append (WasAt Same xs) (range_with_len i (length b)) (range_with_len j (length c)) b c z y,
)

turned : (a b : List Mirror) → EachWas Same (a ++ b) (b ++ a)
turned a b = two-pieces (a ++ b) b a (length a) 0
    (subst (λ l. AllZip (WasAt Same l) (range_with_len (length a) (length b)) b) (ap (λ l. a ++ l) (append-nil b)) (piece a b []))
    (piece [] a b)
    (λ n i k. let l = (range-in (length a) (length b) n i).0 in let u = (range-in 0 (length a) n k).1 in absurd (omega (arith, l, u)))

cut-out : (k : ℕ) (xs : List Mirror) → (b : List Mirror) × (xs ≡ take k xs ++ (b ++ drop (suc k) xs))
cut-out zero [] = ([], refl)
cut-out zero (x ∷ xs) = (x ∷ [], refl)
cut-out (suc k) [] = ([], refl)
cut-out (suc k) (x ∷ xs) = let r = cut-out k xs in (r.0, ap (λ l. x ∷ l) r.1)

one-out : (k : ℕ) (xs : List Mirror) → EachWas Same xs (without k xs)
one-out k xs = go (take k xs) (cut-out k xs).0 (drop (suc k) xs) (cut-out k xs).1
  where
    go : (a b c : List Mirror) → xs ≡ a ++ (b ++ c) → EachWas Same xs (a ++ c)
    go a b c e = subst (λ l. EachWas Same l (a ++ c)) (sym e) (two-pieces (a ++ (b ++ c)) a c 0 (length (a ++ b)) (piece [] a (b ++ c))
        (subst (λ l. AllZip (WasAt Same l) (range_with_len (length (a ++ b)) (length c)) c) (append_assoc a b (c ++ []) ∙ ap (λ l. a ++ (b ++ l)) (append-nil c)) (piece (a ++ b) c []))
        (λ n i k. let u = (range-in 0 (length a) n i).1 in let l = (range-in (length (a ++ b)) (length c) n k).0 in let s = length-append a b in absurd (omega (arith, u, l, s))))

-- mirror by mirror
pub zip-was : (Was : Mirror → Mirror → Type 0) (old new : List Mirror) → AllZip Was old new → EachWas Was old new
zip-was Was old new z = (range_with_len 0 (length new), range-distinct 0 (length new), go [] old new z)
  where
    go : (front xs ys : List Mirror) → AllZip Was xs ys → AllZip (WasAt Was (front ++ xs)) (range_with_len (length front) (length ys)) ys
    go front [] [] z = tt
    go front [] (y ∷ ys) z = absurd z
    go front (x ∷ xs) [] z = absurd z
    go front (x ∷ xs) (y ∷ ys) z = (
      (x, get-here front x xs, z.0),
      subst₂ (λ l n. AllZip (WasAt Was l) (range_with_len n (length ys)) ys) (append_assoc front (x ∷ []) xs) (length-append front (x ∷ [])) (go (front ++ x ∷ []) xs ys z.1),
    )

-- the number at a place of distinct ones tells the place
map-distinct : (f : ℕ → ℕ) (xs : List ℕ) → ((x y : ℕ) → IsIn x xs → IsIn y xs → f x ≡ f y → x ≡ y) → AreDistinct xs → AreDistinct (map f xs)
map-distinct f [] one d = tt
map-distinct f (x ∷ xs) one d = ((λ i. back xs i (λ y j. one x y (inl refl) (inr j)) d.0), map-distinct f xs (λ y z i j. one y z (inr i) (inr j)) d.1)
  where
    back : (ys : List ℕ) → IsIn (f x) (map f ys) → ((y : ℕ) → IsIn y ys → f x ≡ f y → x ≡ y) → (IsIn x ys → ⊥) → ⊥
    back [] i one miss = i
    back (y ∷ ys) (inl e) one miss = miss (inl (one y (inl refl) e))
    back (y ∷ ys) (inr i) one miss = back ys i (λ z j. one z (inr j)) (λ j. miss (inr j))

pub was-then : (V W U : Mirror → Mirror → Type 0) → ((k m x : Mirror) → V k m → W m x → U k x) → (old mid new : List Mirror) → EachWas V old mid → EachWas W mid new → EachWas U old new
was-then V W U join old mid new f g = (map (at f.0) g.0, map-distinct (at f.0) g.0 (λ i j p q e. same i j (there g.0 new g.2 i p) (there g.0 new g.2 j q) e) g.1, zipped g.0 new g.2)
  where
    there : (places : List ℕ) (ms : List Mirror) → AllZip (WasAt W mid) places ms → (i : ℕ) → IsIn i places → (x : Mirror) × (slice_get mid i ≡ Some x)
    there [] [] z i k = absurd k
    there [] (m ∷ ms) z i k = absurd z
    there (p ∷ places) [] z i k = absurd z
    there (p ∷ places) (m ∷ ms) z i (inl e) = (z.0.0, ap (slice_get mid) e ∙ z.0.1)
    there (p ∷ places) (m ∷ ms) z i (inr k) = there places ms z.1 i k

    same : (i j : ℕ) → (x : Mirror) × (slice_get mid i ≡ Some x) → (x : Mirror) × (slice_get mid j ≡ Some x) → at f.0 i ≡ at f.0 j → i ≡ j
    same i j x y e =
        let a = zip-at (WasAt V old) f.0 mid f.2 i x.0 x.1 in
        let b = zip-at (WasAt V old) f.0 mid f.2 j y.0 y.1 in
        one-place f.0 f.1 i j a.0 a.1 (b.1 ∙ ap Some (sym (ap (or_this 0) b.1) ∙ sym e ∙ ap (or_this 0) a.1))

    zipped : (places : List ℕ) (ms : List Mirror) → AllZip (WasAt W mid) places ms → AllZip (WasAt U old) (map (at f.0) places) ms
    zipped [] [] z = tt
    zipped [] (m ∷ ms) z = absurd z
    zipped (p ∷ places) [] z = absurd z
    zipped (p ∷ places) (m ∷ ms) z =
        let a = zip-at (WasAt V old) f.0 mid f.2 p z.0.0 z.0.1 in (
          (a.2.0, ap (slice_get old) (ap (or_this 0) a.1) ∙ a.2.1, join a.2.0 z.0.0 m a.2.2 z.0.2),
          zipped places ms z.1,
        )

pub was-map : (V W : Mirror → Mirror → Type 0) → ((k m : Mirror) → V k m → W k m) → (old new : List Mirror) → EachWas V old new → EachWas W old new
was-map V W f old new g = (g.0, g.1, zipped g.0 new g.2)
  where
    zipped : (places : List ℕ) (ms : List Mirror) → AllZip (WasAt V old) places ms → AllZip (WasAt W old) places ms
    zipped [] [] z = tt
    zipped [] (m ∷ ms) z = absurd z
    zipped (p ∷ places) [] z = absurd z
    zipped (p ∷ places) (m ∷ ms) z = ((z.0.0, z.0.1, f z.0.0 m z.0.2), zipped places ms z.1)

pub was-self : (Was : Mirror → Mirror → Type 0) → ((m : Mirror) → Was m m) → (ms : List Mirror) → EachWas Was ms ms
was-self Was self ms = zip-was Was ms ms (all ms)
  where
    all : (ms : List Mirror) → AllZip Was ms ms
    all [] = tt
    all (m ∷ ms) = (self m, all ms)

pub was-without : (Was : Mirror → Mirror → Type 0) (k : ℕ) (old new : List Mirror) → EachWas Was old new → EachWas Was old (without k new)
was-without Was k old new f = was-then Was Same Was (λ a b c v e. subst (Was a) e v) old new (without k new) f (one-out k new)

-- one ask: those that failed stand at the back then
module _ (Does : Mirror → Mirror → Type 0) where
  pub failed-zip : (Was : Mirror → Mirror → Type 0) → ((m asked : Mirror) → Failing Does m asked → Was m asked) → (xs ys : List Mirror) → AllZip (Failing Does) xs ys → AllZip Was xs ys
  failed-zip Was f [] [] z = tt
  failed-zip Was f [] (y ∷ ys) z = absurd z
  failed-zip Was f (x ∷ xs) [] z = absurd z
  failed-zip Was f (x ∷ xs) (y ∷ ys) z = (f x y z.0, failed-zip Was f xs ys z.1)

  pub asks-was : (Was : Mirror → Mirror → Type 0) → ((m : Mirror) → Was m m) → ((m asked : Mirror) → Does m asked → Was m asked) → (old new : List Mirror) (end : Option MirrorFault) → IsOneAsk Does old end new → EachWas Was old new
  asks-was Was self does old new end a = by_others a.2 a.5 a.3
    where
      failed : AllZip Was a.0 a.1
      failed = failed-zip Was (λ m asked d. does m asked d.does) a.0 a.1 a.4

      selves : (ms : List Mirror) → AllZip Was ms ms
      selves [] = tt
      selves (m ∷ ms) = (self m, selves ms)

      by_others : (others : List Mirror) → AskedNext Does a.1 others end new → old ≡ a.0 ++ others → EachWas Was old new
      by_others [] n e = subst₂ (EachWas Was) (sym (e ∙ append-nil a.0)) (sym n.1) (zip-was Was a.0 a.1 failed)
      by_others (x ∷ more) n e = subst₂ (EachWas Was) (sym e) (sym n.2)
          (was-then Was Same Was (λ k m y v f. subst (Was k) f v) (a.0 ++ x ∷ more) (a.1 ++ n.0 ∷ more) (n.0 ∷ more ++ a.1)
          (zip-was Was (a.0 ++ x ∷ more) (a.1 ++ n.0 ∷ more) (zip-append Was a.0 (x ∷ more) a.1 (n.0 ∷ more) failed (does x n.0 n.1, selves more)))
          (turned a.1 (n.0 ∷ more)))
