-- Whether a disk has a log can be told: it has it where no byte of the log's may be lost, and none of the lists that it may leave is too long.
use Rattle.std.proofs.Common.{◌≡◌, ◌⊎◌, inl, inr, ⊎_elim, ◌≤◌, ◌<◌, ◌+◌, ◌-◌, ℕ, suc, List, [], ◌∷◌, ◌++◌, length, take, drop, get_or, refl, sym, ◌∙◌, ap, subst, arith, le_refl, le_trans, length-append, ext_get_or, get_or-take, take-append-drop}
use Rattle.std.proofs.lemmas.List.{length-take-le, get_or-drop, length-drop, get_or_append_left, get_or-append_right}
use Rattle.std.proofs.lemmas.Bool.{cases_eq}
use Rattle.std.proofs.lemmas.Bool.Decides.{leb_tells}
use Rattle.disk_trait.specs.Images.{Range, Unsynced, Told, IsImage, IsWithin, IsWritten, longest, moment_of}
use Rattle.disk_trait.proofs.Loss.{last-append}
use Rattle.disk_trait.proofs.Moments.{left-now}
use Rattle.disk_trait.proofs.Writes.{furthest, le-longest}
use Rattle.gated_log.specs.Held.{Held, log_bytes}
use Rattle.gated_log.specs.Holding.{IsOnDisk}

-- one list begins with another
begins : (xs log : List ℕ) → ((behind : List ℕ) × (xs ≡ log ++ behind)) ⊎ ((behind : List ℕ) → xs ≡ log ++ behind → ⊥)
begins xs [] = inl (xs, refl)
begins [] (l ∷ log) = inr (λ behind e. let size = ap length e in absurd (omega (arith, size)))
begins (x ∷ xs) (l ∷ log) =
    ⊎_elim (λ (same : x ≡ l). ⊎_elim
    (λ (more : (behind : List ℕ) × (xs ≡ log ++ behind)). inl (more.0, ap (λ n. n ∷ xs) same ∙ ap (λ ys. l ∷ ys) more.1))
    (λ (none : (behind : List ℕ) → xs ≡ log ++ behind → ⊥). inr (λ behind e. none behind (ap (drop 1) e)))
    (begins xs log))
    (λ (other : x ≡ l → ⊥). inr (λ behind e. other (ap (λ ys. get_or ys 0 0) e)))
    (cases_eq x l)

-- two lists are the same
pub are-same : (xs ys : List ℕ) → (xs ≡ ys) ⊎ (xs ≡ ys → ⊥)
are-same [] [] = inl refl
are-same [] (y ∷ ys) = inr (λ e. let size = ap length e in absurd (omega (arith, size)))
are-same (x ∷ xs) [] = inr (λ e. let size = ap length e in absurd (omega (arith, size)))
are-same (x ∷ xs) (y ∷ ys) =
    ⊎_elim (λ (same : x ≡ y). ⊎_elim
    (λ (rest : xs ≡ ys). inl (ap (λ n. n ∷ xs) same ∙ ap (λ zs. y ∷ zs) rest))
    (λ (other : xs ≡ ys → ⊥). inr (λ e. other (ap (drop 1) e)))
    (are-same xs ys))
    (λ (other : x ≡ y → ⊥). inr (λ e. other (ap (λ zs. get_or zs 0 0) e)))
    (cases_eq x y)

-- some of the first places was written, or none
abbrev IsClear : ℕ → List Range → Type 0
IsClear n ranges = (place : ℕ) → place < n → IsWritten place ranges → ⊥

touched : (n : ℕ) (ranges : List Range) → IsClear n ranges ⊎ ((place : ℕ) × (place < n) × IsWritten place ranges)
touched n [] = inl (λ place lt w. w)
touched n (r ∷ ranges) =
    ⊎_elim (λ begins_early. ⊎_elim
    (λ has_some. inr (r.from, begins_early.1, inl (le_refl r.from, (let some = has_some.1 in omega (arith, some)))))
    (λ empty. others (touched n ranges) (λ place lt w. (let a = w.0 in let b = w.1 in let e = empty.1 in absurd (omega (arith, a, b, e)))))
    (leb_tells 1 r.size))
    (λ begins_late. others (touched n ranges) (λ place lt w. (let a = w.0 in let e = begins_late.1 in absurd (omega (arith, a, e, lt)))))
    (leb_tells (suc r.from) n)
  where
    others : IsClear n ranges ⊎ ((place : ℕ) × (place < n) × IsWritten place ranges) → ((place : ℕ) → place < n → IsWithin place r → ⊥) → IsClear n (r ∷ ranges) ⊎ ((place : ℕ) × (place < n) × IsWritten place (r ∷ ranges))
    others (inl clear) outside = inl (λ place lt w. ⊎_elim (outside place lt) (clear place lt) w)
    others (inr hit) outside = inr (hit.0, hit.1, inr hit.2)

stable-image : (u : Unsynced) → IsImage u u.stable
stable-image u = record { no_shorter = le_refl _; no_longer = le-longest (length u.stable) u.written; stable = λ place lt clear. refl }

-- a byte that was written may be any one
other-byte : (u : Unsynced) (place byte : ℕ) → place < length u.stable → IsWritten place u.written → IsImage u (take place u.stable ++ byte ∷ drop (place + 1) u.stable)
other-byte u place byte lt written =
    let front : length (take place u.stable) ≡ place = length-take-le place u.stable (omega (arith, lt)) in
    let size : length (take place u.stable ++ byte ∷ drop (place + 1) u.stable) ≡ length u.stable =
    omega (arith, length-append (take place u.stable) (byte ∷ drop (place + 1) u.stable), front, length-drop (place + 1) u.stable, lt) in
    record {
      no_shorter = omega (arith, size);
      no_longer = omega (arith, size, le-longest (length u.stable) u.written);
      stable = λ k inside clear. ⊎_elim (λ (before : suc k ≤ place). get_or_append_left (take place u.stable) (byte ∷ drop (place + 1) u.stable) 0 k (omega (arith, before, front)) ∙ get_or-take place u.stable k 0 before)
          (λ (behind : place < suc k). ⊎_elim (λ (same : k ≡ place). absurd (clear (subst (λ n. IsWritten n u.written) (sym same) written)))
          (λ (other : k ≡ place → ⊥).
          let far : place + 1 ≤ k = omega (arith, behind, other) in
          let there : k - place ≡ suc (k - (place + 1)) = omega (arith, far) in
          let back : place + 1 + (k - (place + 1)) ≡ k = omega (arith, far) in
          get_or-append_right (take place u.stable) (byte ∷ drop (place + 1) u.stable) place k 0 front (omega (arith, far))
          ∙ ap (λ n. get_or (byte ∷ drop (place + 1) u.stable) n 0) there
          ∙ get_or-drop (place + 1) u.stable (k - (place + 1)) 0 ∙ ap (λ n. get_or u.stable n 0) back)
          (cases_eq k place))
          (side (leb_tells (suc k) place));
    }
  where
    side : {A B P Q : Type 0} → (A × P) ⊎ (B × Q) → P ⊎ Q
    side (inl h) = inl h.1
    side (inr h) = inr h.1

-- each list begins with the log's bytes, and is within a limit
abbrev AllBegin : ℕ → List ℕ → Unsynced → Type 0
AllBegin limit log u = (image : List ℕ) → IsImage u image → (length image ≤ limit) × (behind : List ℕ) × (image ≡ log ++ behind)

module _ (limit : ℕ) (log : List ℕ) (u : Unsynced) where
  all-begin : longest (length u.stable) u.written ≤ limit → (behind : List ℕ) → u.stable ≡ log ++ behind → IsClear (length log) u.written → AllBegin limit log u
  all-begin within behind stable clear image i =
      let long : length u.stable ≡ length log + length behind = ap length stable ∙ length-append log behind in
      let least = i.no_shorter in
      let enough : length log ≤ length image = omega (arith, long, least) in
      let front : take (length log) image ≡ log = ext_get_or 0 (take (length log) image) log (length-take-le (length log) image enough)
      (λ k lt. let at : k < length log = (let l = length-take-le (length log) image enough in omega (arith, lt, l)) in
      get_or-take (length log) image k 0 at ∙ i.stable k (omega (arith, at, long)) (clear k at) ∙ ap (λ xs. get_or xs k 0) stable ∙ get_or_append_left log behind 0 k at) in
      (le_trans i.no_longer within, drop (length log) image, sym (take-append-drop (length log) image) ∙ ap (λ xs. xs ++ drop (length log) image) front)

  too-long : (limit < longest (length u.stable) u.written) → AllBegin limit log u → ⊥
  too-long far all = let far_one = furthest u u.stable (stable-image u) in let most = (all far_one.0 far_one.1).0 in let size = far_one.2 in absurd (omega (arith, far, most, size))

  other-front : ((behind : List ℕ) → u.stable ≡ log ++ behind → ⊥) → AllBegin limit log u → ⊥
  other-front none all = let of = all u.stable (stable-image u) in none of.1 of.2

  may-be-lost : (behind : List ℕ) → u.stable ≡ log ++ behind → (place : ℕ) → place < length log → IsWritten place u.written → AllBegin limit log u → ⊥
  may-be-lost behind stable place lt written all =
      let byte = suc (get_or u.stable place 0) in
      let long : length u.stable ≡ length log + length behind = ap length stable ∙ length-append log behind in
      let inside : place < length u.stable = omega (arith, long, lt) in
      let changed = take place u.stable ++ byte ∷ drop (place + 1) u.stable in
      let of = all changed (other-byte u place byte inside written) in
      let front : length (take place u.stable) ≡ place = length-take-le place u.stable (omega (arith, inside)) in
      let new : get_or changed place 0 ≡ byte = get_or-append_right (take place u.stable) (byte ∷ drop (place + 1) u.stable) place place 0 front (le_refl place)
      ∙ ap (λ n. get_or (byte ∷ drop (place + 1) u.stable) n 0) (let z : place - place ≡ 0 = omega arith in z) in
      let old : get_or u.stable place 0 ≡ get_or log place 0 = ap (λ xs. get_or xs place 0) stable ∙ get_or_append_left log behind 0 place lt in
      let same : get_or changed place 0 ≡ get_or log place 0 = ap (λ xs. get_or xs place 0) of.2 ∙ get_or_append_left log of.1 0 place lt in
      absurd (omega (arith, new, old, same))

  decided : AllBegin limit log u ⊎ (AllBegin limit log u → ⊥)
  decided = ⊎_elim
      (λ within. ⊎_elim
      (λ (front : (behind : List ℕ) × (u.stable ≡ log ++ behind)). ⊎_elim
      (λ (clear : IsClear (length log) u.written). inl (all-begin within.1 front.0 front.1 clear))
      (λ (hit : (place : ℕ) × (place < length log) × IsWritten place u.written). inr (may-be-lost front.0 front.1 hit.0 hit.1 hit.2))
      (touched (length log) u.written))
      (λ (none : (behind : List ℕ) → u.stable ≡ log ++ behind → ⊥). inr (other-front none))
      (begins u.stable log))
      (λ far. inr (too-long far.1))
      (leb_tells (longest (length u.stable) u.written) limit)

-- what may be left now of what is told
now-left : (t : Told) (image : List ℕ) → IsImage t.now image → IsImage (get_or (t.past ++ t.now ∷ []) (moment_of t) t.now) image
now-left t image i = subst (λ (u : Unsynced). IsImage u image) (sym (last-append t.past t.now t.now)) i

pub on-disk : (log : Held) (t : Told) → IsOnDisk log t ⊎ (IsOnDisk log t → ⊥)
on-disk log t = ⊎_elim
    (λ (all : AllBegin log.limit (log_bytes log) t.now). inl (λ image left. all image (left-now t image left)))
    (λ (none : AllBegin log.limit (log_bytes log) t.now → ⊥). inr (λ all. none (λ image i. all image (now-left t image i))))
    (decided log.limit (log_bytes log) t.now)
