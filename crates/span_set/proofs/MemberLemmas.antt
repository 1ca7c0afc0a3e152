-- Members of lists of spans, and what an insert makes of them.
use Rattle.std.proofs.Common.{◌≡◌, ℕ, zero, suc, ◌+◌, ◌<◌, ◌≤◌, ◌^◌, ◌⊎◌, inl, inr, ◌↔◌, List, [], ◌∷◌, ◌++◌, length, get_or, take, drop, min, max, sym, subst, ap, ◌∙◌, arith, ⊎_elim, le_of_suc-le-suc, zero-le, le_refl}
use Rattle.std.proofs.Math.Seq.{take-length}
use Rattle.std.proofs.lemmas.List.{take-append-drop, drop_all}
use Rattle.id_groups.specs.declared.span.IdSpan.{IdSpan}
use Rattle.id_groups.specs.Span.{IsSpan, IsInSpan}
use Rattle.span_set.specs.Members.{IsBelow, IsMember, IsCanonical, AreBelow}
use Rattle.span_set.specs.Places.{AreAbove}
use Rattle.span_set.proofs.Order.{span-at, below-at}

pub lt_or_le : (a b : ℕ) → (a < b) ⊎ (b ≤ a)
lt_or_le a zero = inr zero-le
lt_or_le zero (suc b) = inl (omega arith)
lt_or_le (suc a) (suc b) = ⊎_elim (λ h. inl (omega arith)) (λ h. inr (omega arith)) (lt_or_le a b)

pub member-left : (xs ys : List IdSpan) (x : ℕ) → IsMember xs x → IsMember (xs ++ ys) x
member-left [] ys x h = absurd h
member-left (s ∷ xs) ys x (inl h) = inl h
member-left (s ∷ xs) ys x (inr h) = inr (member-left xs ys x h)

pub member-right : (xs ys : List IdSpan) (x : ℕ) → IsMember ys x → IsMember (xs ++ ys) x
member-right [] ys x h = h
member-right (s ∷ xs) ys x h = inr (member-right xs ys x h)

pub member-either : (xs ys : List IdSpan) (x : ℕ) → IsMember (xs ++ ys) x → IsMember xs x ⊎ IsMember ys x
member-either [] ys x h = inr h
member-either (s ∷ xs) ys x (inl h) = inl (inl h)
member-either (s ∷ xs) ys x (inr h) = ⊎_elim (λ a. inl (inr a)) (λ b. inr b) (member-either xs ys x h)

-- canonical lists in two parts
pub canonical-left : (xs ys : List IdSpan) → IsCanonical (xs ++ ys) → IsCanonical xs
canonical-left [] ys h = tt
canonical-left (s ∷ xs) ys h = (h.0, below-left s xs ys h.1, canonical-left xs ys h.2)
  where
    below-left : (s : IdSpan) (xs ys : List IdSpan) → AreBelow s (xs ++ ys) → AreBelow s xs
    below-left s [] ys h = tt
    below-left s (x ∷ xs) ys h = (h.0, below-left s xs ys h.1)

pub canonical-right : (xs ys : List IdSpan) → IsCanonical (xs ++ ys) → IsCanonical ys
canonical-right [] ys h = h
canonical-right (s ∷ xs) ys h = canonical-right xs ys h.2

below-right : (s : IdSpan) (xs ys : List IdSpan) → AreBelow s (xs ++ ys) → AreBelow s ys
below-right s [] ys h = h
below-right s (x ∷ xs) ys h = below-right s xs ys h.1

below-in-middle : (s t : IdSpan) (xs ys zs : List IdSpan) → AreBelow s (xs ++ (ys ++ zs)) → IsBelow t s → AreBelow s (xs ++ t ∷ zs)
below-in-middle s t [] ys zs h b = (b, below-right s ys zs h)
below-in-middle s t (x ∷ xs) ys zs h b = (h.0, below-in-middle s t xs ys zs h.1 b)

-- a span in place of the middle part
pub canonical-middle : (t : IdSpan) (xs ys zs : List IdSpan) → IsCanonical (xs ++ (ys ++ zs)) → IsSpan t → AreAbove t xs → AreBelow t zs → IsCanonical (xs ++ t ∷ zs)
canonical-middle t [] ys zs h s a b = (s, b, canonical-right ys zs h)
canonical-middle t (x ∷ xs) ys zs h s a b = (h.0, below-in-middle x t xs ys zs h.1 a.0, canonical-middle t xs ys zs h.2 s a.1 b)

pub above-at : (xs ys : List IdSpan) (k : ℕ) (d : IdSpan) → IsCanonical (xs ++ ys) → k < length ys → AreAbove (get_or ys k d) xs
above-at [] ys k d h lt = tt
above-at (x ∷ xs) ys k d h lt = (below-at x ys k d (below-right x xs ys h.1) lt, above-at xs ys k d h.2 lt)

-- what lies below the last of a part
below-behind : (xs ys : List IdSpan) (k : ℕ) (d : IdSpan) → IsCanonical (xs ++ ys) → k < length xs → AreBelow (get_or xs k d) ys
below-behind [] ys k d h lt = absurd (omega arith)
below-behind (x ∷ xs) ys zero d h lt = below-right x xs ys h.1
below-behind (x ∷ xs) ys (suc k) d h lt = below-behind xs ys k d h.2 (le_of_suc-le-suc lt)

-- the highest and the lowest member
pub member-high : (s : IdSpan) (xs : List IdSpan) (x : ℕ) → IsCanonical xs → AreBelow s xs → IsMember xs x → x < s.low
member-high s [] x c h m = absurd m
member-high s (y ∷ xs) x c h (inl m) = let b = h.0 in let u = b.under in let n = m.1 in omega arith
member-high s (y ∷ xs) x c h (inr m) = member-high s xs x c.2 h.1 m

pub member-first : (xs : List IdSpan) (d : IdSpan) (x : ℕ) → IsCanonical xs → IsMember xs x → x ≤ (get_or xs 0 d).high
member-first [] d x c m = absurd m
member-first (s ∷ xs) d x c (inl m) = m.1
member-first (s ∷ xs) d x c (inr m) = let lt = member-high s xs x c.2 c.1 m in let o = c.0.order in omega arith

pub member-last : (xs : List IdSpan) (k : ℕ) (d : IdSpan) (x : ℕ) → length xs ≡ suc k → IsCanonical xs → IsMember xs x → (get_or xs k d).low ≤ x
member-last [] k d x e c m = absurd m
member-last (s ∷ []) zero d x e c (inl m) = m.0
member-last (s ∷ []) zero d x e c (inr m) = absurd m
member-last (s ∷ []) (suc k) d x e c m = absurd (omega arith)
member-last (s ∷ y ∷ xs) zero d x e c m = absurd (omega arith)
member-last (s ∷ y ∷ xs) (suc k) d x e c (inl m) =
    let lt : k < length (y ∷ xs) = omega arith in
    let u = (below-at s (y ∷ xs) k d c.1 lt).under in
    let o = (span-at (y ∷ xs) k d c.2 lt).order in let n = m.0 in omega arith
member-last (s ∷ y ∷ xs) (suc k) d x e c (inr m) = member-last (y ∷ xs) k d x (omega arith) c.2 m

pub member-at : (xs : List IdSpan) (k : ℕ) (d : IdSpan) (x : ℕ) → k < length xs → IsInSpan x (get_or xs k d) → IsMember xs x
member-at [] k d x lt h = absurd (omega arith)
member-at (s ∷ xs) zero d x lt h = inl h
member-at (s ∷ xs) (suc k) d x lt h = inr (member-at xs k d x (le_of_suc-le-suc lt) h)

-- what two spans without a gap have in common
pub record Meets (l t : IdSpan) : Type 0 where
  pub near : t.low ≤ l.high + 1
  pub same : l.high + 1 ≡ t.low → t.low ≡ 2 ^ 56 → ⊥

pub meets : (l t : IdSpan) → (IsBelow l t → ⊥) → Meets l t
meets l t n = ⊎_elim
    (λ (far : l.high + 1 < t.low). absurd (n (record { under = omega arith; apart = λ e. absurd (omega arith) })))
    (λ (close : t.low ≤ l.high + 1). record { near = close; same = λ e g. n (record { under = omega arith; apart = λ _. g }) })
    (lt_or_le (l.high + 1) t.low)

-- t joined with the spans that it meets, the first of which is f and the last l
module _ (f l t m : IdSpan) (low : m.low ≡ min t.low l.low) (high : m.high ≡ max t.high f.high)
    (sf : IsSpan f) (sl : IsSpan l) (st : IsSpan t) (mf : Meets t f) (ml : Meets l t) where
  pub joined-span : IsSpan m
  joined-span =
      let o = st.order in let bt = st.bound in let bf = sf.bound in record {
        order = omega arith;
        bound = omega arith;
        group = λ small.
            let tlow : t.low < 2 ^ 56 = ⊎_elim (λ (a : t.low < 2 ^ 56). a)
            (λ (a : 2 ^ 56 ≤ t.low).
            let lsmall : l.low < 2 ^ 56 = omega arith in
            let lhigh = sl.group lsmall in
            let near = ml.near in
            absurd (ml.same (omega arith) (omega arith)))
            (lt_or_le t.low (2 ^ 56)) in
            let thigh = st.group tlow in
            let flow : f.low < 2 ^ 56 = ⊎_elim (λ (a : f.low < 2 ^ 56). a)
            (λ (a : 2 ^ 56 ≤ f.low). let near = mf.near in absurd (mf.same (omega arith) (omega arith)))
            (lt_or_le f.low (2 ^ 56)) in
            let fhigh = sf.group flow in
            omega arith;
      }

  -- an id between is in t, in f or in l
  pub joined-in : (x : ℕ) → IsInSpan x m → IsInSpan x t ⊎ (IsInSpan x f ⊎ IsInSpan x l)
  joined-in x h =
      let a = h.0 in let b = h.1 in let nf = mf.near in let nl = ml.near in
      ⊎_elim
      (λ (under : x < t.low). inr (inr (omega arith, omega arith)))
      (λ (over : t.low ≤ x). ⊎_elim
      (λ (out : t.high < x). inr (inl (omega arith, omega arith)))
      (λ (in_t : x ≤ t.high). inl (over, in_t))
      (lt_or_le t.high x))
      (lt_or_le x t.low)

  pub joined-of : (x : ℕ) → l.low ≤ x → x ≤ f.high → IsInSpan x m
  joined-of x a b = (omega arith, omega arith)

  pub joined-own : (x : ℕ) → IsInSpan x t → IsInSpan x m
  joined-own x h = let a = h.0 in let b = h.1 in (omega arith, omega arith)

below-some : (s : IdSpan) (xs : List IdSpan) (k : ℕ) → AreBelow s xs → AreBelow s (drop k xs)
below-some s xs zero h = h
below-some s [] (suc k) h = tt
below-some s (x ∷ xs) (suc k) h = below-some s xs k h.1

-- what is not behind a place is not below it: the two counts meet where no span is touched
pub behind-both : (s : IdSpan) (xs : List IdSpan) (from to : ℕ) → to ≤ from → AreBelow s (drop to xs) → AreBelow s (drop from xs)
behind-both s xs zero zero le h = h
behind-both s xs (suc from) zero le h = below-some s xs (suc from) h
behind-both s xs zero (suc to) le h = absurd (omega arith)
behind-both s [] (suc from) (suc to) le h = tt
behind-both s (x ∷ xs) (suc from) (suc to) le h = behind-both s xs from to (le_of_suc-le-suc le) h

-- the list after an insert at `from`
pub insert-canonical : (t : IdSpan) (xs : List IdSpan) (from to : ℕ) → IsCanonical xs → IsSpan t → to ≤ from → AreAbove t (take from xs) → AreBelow t (drop to xs)
    → IsCanonical (take from xs ++ t ∷ drop from xs)
insert-canonical t xs from to c st le above below =
    canonical-middle t (take from xs) [] (drop from xs) (subst IsCanonical (sym (take-append-drop from xs)) c) st above (behind-both t xs from to le below)

pub insert-members : (t : IdSpan) (xs : List IdSpan) (from x : ℕ) → IsMember (take from xs ++ t ∷ drop from xs) x ↔ (IsMember xs x ⊎ IsInSpan x t)
insert-members t xs from x =
    let whole = take-append-drop from xs in (
      λ m. ⊎_elim (λ a. inl (subst (λ l. IsMember l x) whole (member-left (take from xs) (drop from xs) x a)))
          (λ b. ⊎_elim (λ i. inr i) (λ r. inl (subst (λ l. IsMember l x) whole (member-right (take from xs) (drop from xs) x r))) b)
          (member-either (take from xs) (t ∷ drop from xs) x m),
      λ m. ⊎_elim
          (λ a. ⊎_elim (λ u. member-left (take from xs) (t ∷ drop from xs) x u) (λ u. member-right (take from xs) (t ∷ drop from xs) x (inr u))
          (member-either (take from xs) (drop from xs) x (subst (λ l. IsMember l x) (sym whole) a)))
          (λ i. member-right (take from xs) (t ∷ drop from xs) x (inl i)) m,
    )

-- The list after a join of the spans from `from` on and before `to`. It is in three parts: those above, those that t meets, those below.
module _ (t m d : IdSpan) (hs ms bs : List IdSpan) (k : ℕ) (long : length ms ≡ suc k) (c : IsCanonical (hs ++ (ms ++ bs))) (st : IsSpan t)
    (low : m.low ≡ min t.low (get_or ms k d).low) (high : m.high ≡ max t.high (get_or ms 0 d).high)
    (nf : IsBelow t (get_or ms 0 d) → ⊥) (nl : IsBelow (get_or ms k d) t → ⊥) (above : AreAbove t hs) (below : AreBelow t bs) where
  f-in : 0 < length ms
  f-in = omega arith

  l-in : k < length ms
  l-in = omega arith

  cm : IsCanonical ms
  cm = canonical-left ms bs (canonical-right hs (ms ++ bs) c)

  sf : IsSpan (get_or ms 0 d)
  sf = span-at ms 0 d cm f-in

  sl : IsSpan (get_or ms k d)
  sl = span-at ms k d cm l-in

  above-joined : (xs : List IdSpan) → AreAbove t xs → AreAbove (get_or ms 0 d) xs → AreAbove m xs
  above-joined [] a b = tt
  above-joined (x ∷ xs) a b = (higher x a.0 b.0, above-joined xs a.1 b.1)
    where
      higher : (x : IdSpan) → IsBelow t x → IsBelow (get_or ms 0 d) x → IsBelow m x
      higher x a b = ⊎_elim
          (λ (e : m.high ≡ t.high). record { under = let u = a.under in omega arith; apart = λ g. a.apart (ap (λ n. n + 1) (sym e) ∙ g) })
          (λ (e : m.high ≡ (get_or ms 0 d).high). record { under = let u = b.under in omega arith; apart = λ g. b.apart (ap (λ n. n + 1) (sym e) ∙ g) })
          (⊎_elim (λ lt. inr (omega arith)) (λ le. inl (omega arith)) (lt_or_le t.high (get_or ms 0 d).high))

  below-joined : (xs : List IdSpan) → AreBelow t xs → AreBelow (get_or ms k d) xs → AreBelow m xs
  below-joined [] a b = tt
  below-joined (x ∷ xs) a b = (lower x a.0 b.0, below-joined xs a.1 b.1)
    where
      lower : (x : IdSpan) → IsBelow x t → IsBelow x (get_or ms k d) → IsBelow x m
      lower x a b = ⊎_elim
          (λ (e : m.low ≡ t.low). record { under = let u = a.under in omega arith; apart = λ g. e ∙ a.apart (g ∙ e) })
          (λ (e : m.low ≡ (get_or ms k d).low). record { under = let u = b.under in omega arith; apart = λ g. e ∙ b.apart (g ∙ e) })
          (⊎_elim (λ lt. inl (omega arith)) (λ le. inr (omega arith)) (lt_or_le t.low (get_or ms k d).low))

  pub join-canonical : IsCanonical (hs ++ m ∷ bs)
  join-canonical = canonical-middle m hs ms bs c
      (joined-span (get_or ms 0 d) (get_or ms k d) t m low high sf sl st (meets t (get_or ms 0 d) nf) (meets (get_or ms k d) t nl))
      (above-joined hs above (front hs c))
      (below-joined bs below (below-behind ms bs k d (canonical-right hs (ms ++ bs) c) l-in))
    where
      front : (hs : List IdSpan) → IsCanonical (hs ++ (ms ++ bs)) → AreAbove (get_or ms 0 d) hs
      front hs c = front_of ms hs f-in c
        where
          front_of : (ms hs : List IdSpan) → 0 < length ms → IsCanonical (hs ++ (ms ++ bs)) → AreAbove (get_or ms 0 d) hs
          front_of [] hs lt c = absurd (omega arith)
          front_of (y ∷ ms) hs lt c = above-at hs (y ∷ (ms ++ bs)) 0 d c (omega arith)

  pub join-members : (x : ℕ) → IsMember (hs ++ m ∷ bs) x ↔ (IsMember (hs ++ (ms ++ bs)) x ⊎ IsInSpan x t)
  join-members x =
      let f = get_or ms 0 d in let l = get_or ms k d in
      let mf = meets t f nf in let ml = meets l t nl in (
        λ h. ⊎_elim (λ a. inl (member-left hs (ms ++ bs) x a))
            (λ b. ⊎_elim
            (λ i. ⊎_elim (λ own. inr own) (λ o. inl (member-right hs (ms ++ bs) x (member-left ms bs x
            (⊎_elim (λ i. member-at ms 0 d x f-in i) (λ i. member-at ms k d x l-in i) o))))
            (joined-in f l t m low high sf sl st mf ml x i))
            (λ r. inl (member-right hs (ms ++ bs) x (member-right ms bs x r))) b)
            (member-either hs (m ∷ bs) x h),
        λ h. ⊎_elim
            (λ o. ⊎_elim (λ a. member-left hs (m ∷ bs) x a)
            (λ b. member-right hs (m ∷ bs) x (⊎_elim
            (λ u. inl (joined-of f l t m low high sf sl st mf ml x (member-last ms k d x long cm u) (member-first ms d x cm u)))
            (λ u. inr u) (member-either ms bs x b)))
            (member-either hs (ms ++ bs) x o))
            (λ i. member-right hs (m ∷ bs) x (inl (joined-own f l t m low high sf sl st mf ml x i))) h,
      )

-- one more span of a list
pub take-member : (xs : List IdSpan) (i k : ℕ) (d : IdSpan) (x : ℕ) → i < length xs → k ≡ suc i → IsMember (take k xs) x ↔ (IsMember (take i xs) x ⊎ IsInSpan x (get_or xs i d))
take-member xs i k d x lt e = subst (λ k. IsMember (take k xs) x ↔ (IsMember (take i xs) x ⊎ IsInSpan x (get_or xs i d))) (sym e) (go xs i lt)
  where
    go : (xs : List IdSpan) (i : ℕ) → i < length xs → IsMember (take (suc i) xs) x ↔ (IsMember (take i xs) x ⊎ IsInSpan x (get_or xs i d))
    go [] i lt = absurd (omega arith)
    go (s ∷ xs) zero lt = (λ m. ⊎_elim (λ i. inr i) (λ n. absurd n) m, λ m. ⊎_elim (λ n. absurd n) (λ i. inl i) m)
    go (s ∷ xs) (suc i) lt = let h = go xs i (le_of_suc-le-suc lt) in (
      λ m. ⊎_elim (λ i. inl (inl i)) (λ r. ⊎_elim (λ a. inl (inr a)) (λ b. inr b) (h.0 r)) m,
      λ m. ⊎_elim (λ a. ⊎_elim (λ i. inl i) (λ b. inr (h.1 (inl b))) a) (λ b. inr (h.1 (inr b))) m,
    )

-- a merge's step: T goes to the result and to the one side
pub merge-left : {M N A B C T : Type 0} → M ↔ (A ⊎ B) → N ↔ (M ⊎ T) → C ↔ (A ⊎ T) → N ↔ (C ⊎ B)
merge-left h n a = (
  λ x. ⊎_elim (λ m. ⊎_elim (λ p. inl (a.1 (inl p))) (λ q. inr q) (h.0 m)) (λ t. inl (a.1 (inr t))) (n.0 x),
  λ x. ⊎_elim (λ c. ⊎_elim (λ p. n.1 (inl (h.1 (inl p)))) (λ t. n.1 (inr t)) (a.0 c)) (λ b. n.1 (inl (h.1 (inr b)))) x,
)

pub merge-right : {M N A B C T : Type 0} → M ↔ (A ⊎ B) → N ↔ (M ⊎ T) → C ↔ (B ⊎ T) → N ↔ (A ⊎ C)
merge-right h n b = (
  λ x. ⊎_elim (λ m. ⊎_elim (λ p. inl p) (λ q. inr (b.1 (inl q))) (h.0 m)) (λ t. inr (b.1 (inr t))) (n.0 x),
  λ x. ⊎_elim (λ a. n.1 (inl (h.1 (inl a)))) (λ c. ⊎_elim (λ q. n.1 (inl (h.1 (inr q)))) (λ t. n.1 (inr t)) (b.0 c)) x,
)

-- the same with the span that was read at i
pub take-member-at : (xs : List IdSpan) (i k : ℕ) (t : IdSpan) (x : ℕ) → i < length xs → k ≡ suc i → t ≡ get_or xs i t → IsMember (take k xs) x ↔ (IsMember (take i xs) x ⊎ IsInSpan x t)
take-member-at xs i k t x lt e is = subst (λ s. IsMember (take k xs) x ↔ (IsMember (take i xs) x ⊎ IsInSpan x s)) (sym is) (take-member xs i k t x lt e)

pub span-read : (xs : List IdSpan) (i : ℕ) (t : IdSpan) → IsCanonical xs → i < length xs → t ≡ get_or xs i t → IsSpan t
span-read xs i t c lt is = subst IsSpan (sym is) (span-at xs i t c lt)

-- one more span at the end
pub push-canonical : (t : IdSpan) (xs : List IdSpan) → IsCanonical xs → IsSpan t → AreAbove t xs → IsCanonical (xs ++ t ∷ [])
push-canonical t xs c st above =
    let n = length xs in
    let none = drop_all n xs (le_refl n) in
    subst (λ l. IsCanonical (xs ++ t ∷ l)) none
    (subst (λ l. IsCanonical (l ++ t ∷ drop n xs)) (take-length xs)
    (insert-canonical t xs n n c st (le_refl n) (subst (AreAbove t) (sym (take-length xs)) above) (subst (AreBelow t) (sym none) tt)))

pub push-members : (t : IdSpan) (xs : List IdSpan) (x : ℕ) → IsMember (xs ++ t ∷ []) x ↔ (IsMember xs x ⊎ IsInSpan x t)
push-members t xs x =
    let n = length xs in
    subst (λ l. IsMember (xs ++ t ∷ l) x ↔ (IsMember xs x ⊎ IsInSpan x t)) (drop_all n xs (le_refl n))
    (subst (λ l. IsMember (l ++ t ∷ drop n xs) x ↔ (IsMember xs x ⊎ IsInSpan x t)) (take-length xs) (insert-members t xs n x))
