-- Lists of numbers.
use Rattle.std.proofs.Common.{◌≡◌, ℕ, zero, suc, ◌+◌, ◌-◌, ◌*◌, ◌/◌, ◌%◌, ◌^◌, ◌<◌, ◌≤◌, Bool, true, false, cond, ltb, List, [], ◌∷◌, ◌++◌, length, take, drop, Option, Some, None, refl, sym, ap, subst, ◌∙◌, append_assoc, inl, inr, arith, lit≤}
use Rattle.std.specs.List.{flat_map, AllByRecursion}
use Rattle.std.proofs.lemmas.List.{append-nil, take_at, drop_at, length-append, length-take, get_or-take, get_or_past}
use Rattle.std.proofs.lemmas.List.Concat.{flat_map-cons}
use Rattle.std.proofs.lemmas.Bool.{ltb-true, ltb-false, le-ltb, lt-ltb, cases_lt}
use Rattle.segment_codec.specs.Number.{groups_of, number_bytes, HasNumber, numbers_in}
use Rattle.segment_codec.specs.Reading.{◌>>=◌, long_number_at, number_at, numbers_at}
use Rattle.segment_codec.proofs.Numbers.{part_is, IsBytes, bytes-rest, some_is, bind_some, chosen, groups_end, long_group, number_takes, number_again}

-- ---- the numbers that bytes are

in-case : (k n : ℕ) (rest : List ℕ) (b : Bool) → ltb n 128 ≡ b → n < groups_end (suc k)
    → ((m : ℕ) → m < groups_end k → 0 < k → numbers_in (groups_of k m ++ rest) ≡ m ∷ numbers_in rest)
    → numbers_in (groups_of (suc k) n ++ rest) ≡ n ∷ numbers_in rest
in-case k n rest true t lt again = rw (t, t) refl
in-case zero n rest false t lt again = absurd (omega (arith, ltb-false n 128 t, lt))
in-case (suc k) n rest false t lt again =
    let high : 128 ≤ n = ltb-false n 128 t in
    let whole = long_group (suc k) n high in
    let test : ltb (n % 128 + 128) 128 ≡ false = le-ltb (n % 128 + 128) 128 (omega arith) in
    let after = again (n / 128) (omega (arith, lt)) (omega arith) in
    let value : n % 128 + 128 - 128 + 128 * (n / 128) ≡ n = omega arith in
    ap (λ bytes. numbers_in (bytes ++ rest)) whole ∙ rw (test, after, value) refl

in-groups : (k n : ℕ) (rest : List ℕ) → n < groups_end (suc k) → numbers_in (groups_of (suc k) n ++ rest) ≡ n ∷ numbers_in rest
in-groups zero n rest lt = in-case zero n rest (ltb n 128) refl lt (λ m below none. absurd (omega (arith, none)))
in-groups (suc k) n rest lt = in-case (suc k) n rest (ltb n 128) refl lt (λ m below some. in-groups k m rest below)

pub in-number : (n : ℕ) (rest : List ℕ) → n < 2 ^ 64 → numbers_in (number_bytes n ++ rest) ≡ n ∷ numbers_in rest
unfolding number_bytes
in-number n rest lt = let k : 2 ^ 64 ≤ groups_end 10 = lit≤ tt in in-groups 9 n rest (omega (arith, k, lt))

-- the numbers of spellings one after another
pub in-numbers : (ns : List ℕ) → AllByRecursion HasNumber ns → numbers_in (flat_map number_bytes ns) ≡ ns
in-numbers [] h = refl
in-numbers (n ∷ ns) h = ap numbers_in (flat_map-cons number_bytes n ns) ∙ in-number n (flat_map number_bytes ns) h.0 ∙ ap (λ z. n ∷ z) (in-numbers ns h.1)

pub all-below : (small large : ℕ) (ns : List ℕ) → small ≤ large → AllByRecursion (λ n. n < small) ns → AllByRecursion (λ n. n < large) ns
all-below small large [] le h = tt
all-below small large (n ∷ ns) le h = (let lt = h.0 in omega (arith, lt, le), all-below small large ns le h.1)

-- ---- what an iterator over them gives

pub record Next (bytes : List ℕ) (n : ℕ) (after : List ℕ) : Type 0 where
  pub whole : numbers_in bytes ≡ n ∷ numbers_in after
  pub below : n < 2 ^ 57
  pub spelled : after ≡ flat_map number_bytes (numbers_in after)
  pub valid : AllByRecursion (λ p. p < 2 ^ 57) (numbers_in after)

some-pair : (m n : ℕ) (a b : List ℕ) (r : Option (ℕ × List ℕ)) → r ≡ Some (m, a) → r ≡ Some (n, b) → (m ≡ n) × (a ≡ b)
some-pair m n a b r e f = part_is m n a b (sym e ∙ f)

nothing-read : (n : ℕ) (after : List ℕ) → number_at [] ≡ Some (n, after) → ⊥
unfolding number_at long_number_at
nothing-read n after e = absurd cc

next-of : (bytes : List ℕ) (ns : List ℕ) (n : ℕ) (after : List ℕ) → numbers_in bytes ≡ ns → bytes ≡ flat_map number_bytes ns → AllByRecursion (λ p. p < 2 ^ 57) ns
    → number_at bytes ≡ Some (n, after) → Next bytes n after
next-of bytes [] n after is spelled valid e = absurd (nothing-read n after (subst (λ z. number_at z ≡ Some (n, after)) spelled e))
next-of bytes (m ∷ ms) n after is spelled valid e =
    let k : 2 ^ 57 ≤ 2 ^ 64 = lit≤ tt in
    let front = spelled ∙ flat_map-cons number_bytes m ms in
    let first = valid.0 in
    let p = some-pair m n (flat_map number_bytes ms) after (number_at bytes) (ap number_at front ∙ number_again m (flat_map number_bytes ms) (omega (arith, first, k))) e in
    let others : numbers_in after ≡ ms = ap numbers_in (sym p.1) ∙ in-numbers ms (all-below (2 ^ 57) (2 ^ 64) ms k valid.1) in
    record {
      whole = is ∙ rw (p.0, others) refl;
      below = omega (arith, first, p.0);
      spelled = sym p.1 ∙ ap (flat_map number_bytes) (sym others);
      valid = subst (AllByRecursion (λ p. p < 2 ^ 57)) (sym others) valid.1;
    }

pub next-some : (bytes : List ℕ) (n : ℕ) (after : List ℕ) → bytes ≡ flat_map number_bytes (numbers_in bytes) → AllByRecursion (λ p. p < 2 ^ 57) (numbers_in bytes)
    → number_at bytes ≡ Some (n, after) → Next bytes n after
next-some bytes n after spelled valid e = next-of bytes (numbers_in bytes) n after refl spelled valid e

next-none-of : (bytes : List ℕ) (ns : List ℕ) → bytes ≡ flat_map number_bytes ns → AllByRecursion (λ p. p < 2 ^ 57) ns → number_at bytes ≡ None → ns ≡ []
next-none-of bytes [] spelled valid e = refl
next-none-of bytes (m ∷ ms) spelled valid e =
    let k : 2 ^ 57 ≤ 2 ^ 64 = lit≤ tt in
    let first = valid.0 in
    let some = ap number_at (spelled ∙ flat_map-cons number_bytes m ms) ∙ number_again m (flat_map number_bytes ms) (omega (arith, first, k)) in
    absurd cc

pub next-none : (bytes : List ℕ) → bytes ≡ flat_map number_bytes (numbers_in bytes) → AllByRecursion (λ p. p < 2 ^ 57) (numbers_in bytes)
    → number_at bytes ≡ None → numbers_in bytes ≡ []
next-none bytes spelled valid e = next-none-of bytes (numbers_in bytes) spelled valid e

-- ---- so many numbers

pub record Taken (end count : ℕ) (bytes : List ℕ) (x : List ℕ × List ℕ) : Type 0 where
  pub parts : bytes ≡ flat_map number_bytes x.0 ++ x.1
  pub many : length x.0 ≡ count
  pub below : AllByRecursion (λ n. n < end) x.0

pub bytes-take : (n : ℕ) (bytes : List ℕ) → IsBytes bytes → IsBytes (take n bytes)
bytes-take n bytes h i =
    elim (cases_lt i n) [
      | inl lt ↦ rw (get_or-take n bytes i 0 lt) (h i)
      | inr le ↦ rw (get_or_past (take n bytes) i 0 (omega (arith, length-take {A = ℕ} n bytes))) (omega arith)
    ]

pub bytes-drop : (front rest bytes : List ℕ) → bytes ≡ front ++ rest → IsBytes bytes → IsBytes rest
bytes-drop [] rest bytes e fits = subst IsBytes e fits
bytes-drop (x ∷ front) rest bytes e fits = bytes-drop front rest (front ++ rest) refl (bytes-rest x (front ++ rest) (subst IsBytes e fits))

pub numbers_take : (end count : ℕ) (bytes : List ℕ) (x : List ℕ × List ℕ) → IsBytes bytes → numbers_at end count bytes ≡ Some x → Taken end count bytes x
unfolding numbers_at
numbers_take end zero bytes x fits e =
    let made : List ℕ × List ℕ = ([], bytes) in
    subst (Taken end 0 bytes) (some_is made x e) (record { parts = refl; many = refl; below = tt })
numbers_take end (suc count) bytes x fits e =
    let a = bind_some (number_at bytes) (λ first. cond (ltb first.0 end) (numbers_at end count first.1) None >>= λ others. Some (first.0 ∷ others.0, others.1)) x e in
    let b = bind_some (cond (ltb a.0.0 end) (numbers_at end count a.0.1) None) (λ others. Some (a.0.0 ∷ others.0, others.1)) x a.2 in
    let g = chosen (ltb a.0.0 end) (numbers_at end count a.0.1) b.0 b.1 in
    let first = number_takes bytes a.0.0 a.0.1 fits a.1 in
    let others = numbers_take end count a.0.1 b.0 (bytes-drop (number_bytes a.0.0) a.0.1 bytes first.0 fits) g.1 in
    let made : List ℕ × List ℕ = (a.0.0 ∷ b.0.0, b.0.1) in
    subst (Taken end (suc count) bytes) (some_is made x b.2) (record {
      parts = first.0 ∙ ap (λ z. number_bytes a.0.0 ++ z) others.parts ∙ sym (append_assoc (number_bytes a.0.0) (flat_map number_bytes b.0.0) b.0.1) ∙ ap (λ z. z ++ b.0.1) (sym (flat_map-cons number_bytes a.0.0 b.0.0));
      many = ap suc others.many;
      below = (ltb-true a.0.0 end g.0, others.below);
    })

pub numbers_again : (end : ℕ) (ns rest : List ℕ) → end ≤ 2 ^ 64 → AllByRecursion (λ n. n < end) ns → numbers_at end (length ns) (flat_map number_bytes ns ++ rest) ≡ Some (ns, rest)
unfolding numbers_at
numbers_again end [] rest le h = refl
numbers_again end (n ∷ ns) rest le h =
    let lt = h.0 in
    let t = lt-ltb n end lt in
    let regrouped : flat_map number_bytes (n ∷ ns) ++ rest ≡ number_bytes n ++ (flat_map number_bytes ns ++ rest) =
    ap (λ z. z ++ rest) (flat_map-cons number_bytes n ns) ∙ append_assoc (number_bytes n) (flat_map number_bytes ns) rest in
    ap (numbers_at end (suc (length ns))) regrouped ∙ rw (number_again n (flat_map number_bytes ns ++ rest) (omega (arith, lt, le)), t, numbers_again end ns rest le h.1) refl

-- ---- the same, as a loop does

-- what was read before, and what is still read
abbrev pub with_front : List ℕ → Option (List ℕ × List ℕ) → Option (List ℕ × List ℕ)
with_front front read = read >>= λ x. Some (front ++ x.0, x.1)

pub record ReadSoFar (end count : ℕ) (bytes : List ℕ) (i : ℕ) (rest : List ℕ) : Type 0 where
  pub done : List ℕ
  pub parts : bytes ≡ flat_map number_bytes done ++ rest
  pub below : AllByRecursion (λ n. n < end) done
  pub goes_on : numbers_at end count bytes ≡ with_front done (numbers_at end (count - i) rest)

pub so_far-first : (end count : ℕ) (bytes : List ℕ) → ReadSoFar end count bytes 0 bytes
so_far-first end count bytes = record { done = []; parts = refl; below = tt; goes_on = let k : count - 0 ≡ count = omega arith in rw k (same (numbers_at end count bytes)) }
  where
    same : (r : Option (List ℕ × List ℕ)) → r ≡ with_front [] r
    same None = refl
    same (Some x) = refl

all-append : (end n : ℕ) (ns : List ℕ) → AllByRecursion (λ n. n < end) ns → n < end → AllByRecursion (λ n. n < end) (ns ++ n ∷ [])
all-append end n [] h lt = (lt, tt)
all-append end n (m ∷ ns) h lt = (h.0, all-append end n ns h.1 lt)

spelled-append : (ns : List ℕ) (n : ℕ) (rest : List ℕ) → flat_map number_bytes ns ++ (number_bytes n ++ rest) ≡ flat_map number_bytes (ns ++ n ∷ []) ++ rest
spelled-append [] n rest = ap (λ z. z ++ rest) (sym (append-nil (number_bytes n)) ∙ sym (flat_map-cons number_bytes n []))
spelled-append (m ∷ ns) n rest =
    ap (λ z. z ++ (number_bytes n ++ rest)) (flat_map-cons number_bytes m ns) ∙ append_assoc (number_bytes m) (flat_map number_bytes ns) (number_bytes n ++ rest)
    ∙ ap (λ z. number_bytes m ++ z) (spelled-append ns n rest) ∙ sym (append_assoc (number_bytes m) (flat_map number_bytes (ns ++ n ∷ [])) rest)
    ∙ ap (λ z. z ++ rest) (sym (flat_map-cons number_bytes m (ns ++ n ∷ [])))

regroup : (front : List ℕ) (n : ℕ) (read : Option (List ℕ × List ℕ)) → with_front front (read >>= λ x. Some (n ∷ x.0, x.1)) ≡ with_front (front ++ n ∷ []) read
regroup front n (Some x) = ap (λ (ns : List ℕ). Some (ns, x.1)) (simp append_assoc)
regroup front n None = refl

pub so_far-next : (end count : ℕ) (bytes : List ℕ) (i : ℕ) (rest : List ℕ) (n : ℕ) (after : List ℕ) → IsBytes bytes → i < count → n < end
    → number_at rest ≡ Some (n, after) → ReadSoFar end count bytes i rest → ReadSoFar end count bytes (i + 1) after
unfolding numbers_at
so_far-next end count bytes i rest n after fits lt small e h =
    let took = number_takes rest n after (bytes-drop (flat_map number_bytes h.done) rest bytes h.parts fits) e in
    let k : count - i ≡ suc (count - (i + 1)) = omega arith in
    let t = lt-ltb n end small in
    record {
      done = h.done ++ n ∷ [];
      parts = h.parts ∙ ap (λ z. flat_map number_bytes h.done ++ z) took.0 ∙ spelled-append h.done n after;
      below = all-append end n h.done h.below small;
      goes_on = h.goes_on ∙ rw (k, e, t) (regroup h.done n (numbers_at end (count - (i + 1)) after));
    }

pub so_far-none : (end count : ℕ) (bytes : List ℕ) (i : ℕ) (rest : List ℕ) → i < count → number_at rest ≡ None → ReadSoFar end count bytes i rest → numbers_at end count bytes ≡ None
unfolding numbers_at
so_far-none end count bytes i rest lt e h =
    let k : count - i ≡ suc (count - (i + 1)) = omega arith in
    h.goes_on ∙ rw (k, e) refl

pub so_far-large : (end count : ℕ) (bytes : List ℕ) (i : ℕ) (rest : List ℕ) (n : ℕ) (after : List ℕ) → i < count → end ≤ n
    → number_at rest ≡ Some (n, after) → ReadSoFar end count bytes i rest → numbers_at end count bytes ≡ None
unfolding numbers_at
so_far-large end count bytes i rest n after lt large e h =
    let k : count - i ≡ suc (count - (i + 1)) = omega arith in
    let t = le-ltb n end large in
    h.goes_on ∙ rw (k, e, t) refl

-- what is read in the end, the front being cut off the bytes
pub record AllRead (end count : ℕ) (bytes front rest : List ℕ) : Type 0 where
  pub exact : numbers_at end count bytes ≡ Some (numbers_in front, rest)
  pub spelled : front ≡ flat_map number_bytes (numbers_in front)
  pub below : AllByRecursion (λ n. n < end) (numbers_in front)

pub so_far-all : (end count : ℕ) (bytes : List ℕ) (i : ℕ) (left front rest : List ℕ) → end ≤ 2 ^ 64 → count ≤ i → ReadSoFar end count bytes i left
    → front ≡ take (length bytes - length left) bytes → rest ≡ drop (length bytes - length left) bytes → AllRead end count bytes front rest
unfolding numbers_at
so_far-all end count bytes i left front rest le done h front-is rest-is =
    let k : count - i ≡ 0 = omega arith in
    let len : length (flat_map number_bytes h.done) ≡ length bytes - length left = omega (arith, ap length h.parts, length-append (flat_map number_bytes h.done) left) in
    let whole = ap (take (length bytes - length left)) h.parts ∙ take_at (flat_map number_bytes h.done) left (length bytes - length left) len in
    let other = ap (drop (length bytes - length left)) h.parts ∙ drop_at (flat_map number_bytes h.done) left (length bytes - length left) len in
    let f : front ≡ flat_map number_bytes h.done = front-is ∙ whole in
    let r : rest ≡ left = rest-is ∙ other in
    let ns : numbers_in front ≡ h.done = ap numbers_in f ∙ in-numbers h.done (all-below end (2 ^ 64) h.done le h.below) in
    record {
      exact = h.goes_on ∙ rw (k, ns, r) (ap (λ (ns : List ℕ). Some (ns, left)) (append-nil h.done));
      spelled = f ∙ ap (flat_map number_bytes) (sym ns);
      below = subst (AllByRecursion (λ n. n < end)) (sym ns) h.below;
    }
