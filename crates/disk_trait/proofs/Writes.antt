-- What a crash may leave, before and after a write.
use Rattle.std.proofs.Common.{◌≡◌, ◌⊎◌, inl, inr, ⊎_elim, ℕ, zero, suc, ◌≤◌, ◌<◌, ◌+◌, ◌-◌, List, [], ◌∷◌, ◌++◌, length, get_or, take, drop, refl, sym, ◌∙◌, ap, arith, length-append, ext_get_or, get_or-take, take-append-drop, take_at}
use Rattle.std.proofs.lemmas.List.{length-take-le, get_or-drop, drop_more, length-drop, get_or_append_left, get_or-append_right}
use Rattle.disk_trait.specs.Images.{Range, Unsynced, IsImage, IsWritten, longest}
use Rattle.disk_trait.specs.Calls.{with_range}

abbrev zeros : ℕ → List ℕ
zeros zero = []
zeros (suc n) = 0 ∷ zeros n

length-zeros : (n : ℕ) → length (zeros n) ≡ n
length-zeros zero = refl
length-zeros (suc n) = ap suc (length-zeros n)

pub le-longest : (n : ℕ) (ranges : List Range) → n ≤ longest n ranges
le-longest n [] = omega arith
le-longest n (r ∷ ranges) = omega (arith, le-longest n ranges)

-- a crash may leave no byte behind the stable length
pub shortest : (u : Unsynced) (b : List ℕ) → IsImage u b → (image : List ℕ) × IsImage u image × (length image ≡ length u.stable)
shortest u b h =
    let size : length (take (length u.stable) b) ≡ length u.stable = length-take-le (length u.stable) b h.no_shorter in (
      take (length u.stable) b,
      record {
        no_shorter = omega (arith, size);
        no_longer = omega (arith, size, le-longest (length u.stable) u.written);
        stable = λ place lt clear. get_or-take (length u.stable) b place 0 lt ∙ h.stable place lt clear;
      },
      size,
    )

-- or the greatest length
pub furthest : (u : Unsynced) (b : List ℕ) → IsImage u b → (image : List ℕ) × IsImage u image × (length image ≡ longest (length u.stable) u.written)
furthest u b h =
    let end = longest (length u.stable) u.written in
    let fill = zeros (end - length b) in
    let size : length (b ++ fill) ≡ end = omega (arith, length-append b fill, length-zeros (end - length b), h.no_longer) in (
      b ++ fill,
      record {
        no_shorter = omega (arith, size, le-longest (length u.stable) u.written);
        no_longer = omega (arith, size);
        stable = λ place lt clear. get_or_append_left b fill 0 place (let a = h.no_shorter in omega (arith, lt, a)) ∙ h.stable place lt clear;
      },
      size,
    )

-- what stands before a write is what a crash might have left before it
pub before_write : (u : Unsynced) (b image : List ℕ) (at size : ℕ) → at ≤ length u.stable → IsImage u b → IsImage (with_range u at size) image
    → (old : List ℕ) × IsImage u old × (take at image ≡ take at old)
before_write u b image at size le h new =
    let short = shortest u b h in
    let back = short.0 in
    let front_size : length (take at image) ≡ at = length-take-le at image (let a = new.no_shorter in omega (arith, a, le)) in
    let old = take at image ++ drop at back in
    let whole : length old ≡ length u.stable = omega (arith, length-append (take at image) (drop at back), length-drop at back, front_size, short.2, le) in (
      old,
      record {
        no_shorter = omega (arith, whole);
        no_longer = omega (arith, whole, le-longest (length u.stable) u.written);
        stable = λ place lt clear. same front_size place lt clear (place_of place);
      },
      sym (take_at (take at image) (drop at back) at front_size),
    )
  where
    place_of : (place : ℕ) → (place < at) ⊎ (at ≤ place)
    place_of place = split place at
      where
        split : (m n : ℕ) → (m < n) ⊎ (n ≤ m)
        split m zero = inr (omega arith)
        split zero (suc n) = inl (omega arith)
        split (suc m) (suc n) = ⊎_elim (λ (k : m < n). inl (omega (arith, k))) (λ (k : n ≤ m). inr (omega (arith, k))) (split m n)

    same : length (take at image) ≡ at → (place : ℕ) → place < length u.stable → (IsWritten place u.written → ⊥) → (place < at) ⊎ (at ≤ place)
        → get_or (take at image ++ drop at (shortest u b h).0) place 0 ≡ get_or u.stable place 0
    same front_size place lt clear (inl before) =
        get_or_append_left (take at image) (drop at (shortest u b h).0) 0 place (omega (arith, before, front_size))
        ∙ get_or-take at image place 0 before
        ∙ new.stable place lt (λ w. ⊎_elim (λ (i : (at ≤ place) × (place < at + size)). absurd (omega (arith, before, i.0))) clear w)
    same front_size place lt clear (inr behind) =
        get_or-append_right (take at image) (drop at (shortest u b h).0) at place 0 front_size behind
        ∙ get_or-drop at (shortest u b h).0 (place - at) 0
        ∙ ap (λ n. get_or (shortest u b h).0 n 0) (let e : at + (place - at) ≡ place = omega (arith, behind) in e)
        ∙ (shortest u b h).1.stable place lt clear

-- a crash in a write of one byte over stable bytes leaves any byte there, and the rest as it was
pub one_byte : (front : List ℕ) (old : ℕ) (rest image : List ℕ) → IsImage (record { stable = front ++ old ∷ rest; written = record { from = length front; size = 1 } ∷ [] }) image
    → (byte : ℕ) × (image ≡ front ++ byte ∷ rest)
one_byte front old rest image h =
    let n = length front in
    let stable = front ++ old ∷ rest in
    let long : length stable ≡ n + suc (length rest) = length-append front (old ∷ rest) in
    let size : length image ≡ length stable = (let a = h.no_shorter in let z = h.no_longer in omega (arith, a, z, long)) in
    let byte = get_or image n 0 in
    let before : take n image ≡ front = ext_get_or 0 (take n image) front (length-take-le n image (omega (arith, size, long)))
    (λ i lt. let at : i < n = (let l = length-take-le n image (let q : n ≤ length image = omega (arith, size, long) in q) in omega (arith, lt, l)) in
    get_or-take n image i 0 at ∙ h.stable i (omega (arith, at, long)) (λ w. ⊎_elim (λ (x : (n ≤ i) × (i < n + 1)). absurd (omega (arith, at, x.0))) (λ e. e) w) ∙ get_or_append_left front (old ∷ rest) 0 i at) in
    let behind : drop (n + 1) image ≡ rest = ext_get_or 0 (drop (n + 1) image) rest (omega (arith, length-drop (n + 1) image, size, long))
    (λ i lt. let inside : (n + 1) + i < length stable = (let l = length-drop (n + 1) image in omega (arith, lt, l, size)) in
    get_or-drop (n + 1) image i 0 ∙ h.stable ((n + 1) + i) inside (λ w. ⊎_elim (λ (x : (n ≤ (n + 1) + i) × ((n + 1) + i < n + 1)). absurd (omega (arith, x.1))) (λ e. e) w)
    ∙ get_or-append_right front (old ∷ rest) n ((n + 1) + i) 0 refl (omega arith)
    ∙ ap (λ k. get_or (old ∷ rest) k 0) (let e : (n + 1) + i - n ≡ suc i = omega arith in e)) in
    (byte, sym (take-append-drop n image) ∙ ap (λ l. l ++ drop n image) before ∙ ap (λ l. front ++ l) (drop_more image n 0 (omega (arith, size, long)) ∙ ap (λ l. byte ∷ l) behind))
