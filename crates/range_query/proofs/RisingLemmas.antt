-- Lists of spans that ascend: one more at the end, the last one joined, and a search.
use Rattle.std.proofs.Common.{◌≡◌, ℕ, zero, suc, ◌+◌, ◌<◌, ◌≤◌, ◌^◌, ◌⊎◌, inl, inr, ◌↔◌, List, [], ◌∷◌, ◌++◌, length, get_or, take, drop, sym, subst, ap, ◌∙◌, arith, true, false, ⊎_elim, le_of_suc-le-suc, suc-le-suc, zero-le, le_refl}
use Rattle.std.specs.Prelude.{slice_set, nat_lt}
use Rattle.std.specs.List.{AllWithin}
use Rattle.std.specs.List.Sorted.{IsPartitionedBy}
use Rattle.std.proofs.Math.Seq.{drop-cons}
use Rattle.std.proofs.lemmas.Bool.{ltb-true, ltb-false, lt-ltb}
use Rattle.std.proofs.lemmas.List.{take-append-drop, get_or_default}
use Rattle.id_groups.specs.declared.span.IdSpan.{IdSpan}
use Rattle.id_groups.specs.Span.{IsSpan, IsInSpan}
use Rattle.span_set.specs.Members.{IsMember}
use Rattle.span_set.proofs.MemberLemmas.{member-left, member-right, member-either, member-at}
use Rattle.range_query.specs.Rising.{AreOver, IsRising}

pub span-at : (xs : List IdSpan) (k : ℕ) (d : IdSpan) → IsRising xs → k < length xs → IsSpan (get_or xs k d)
span-at [] k d r lt = absurd (omega arith)
span-at (x ∷ xs) zero d r lt = r.0
span-at (x ∷ xs) (suc k) d r lt = span-at xs k d r.2 (le_of_suc-le-suc lt)

-- one more span at the end
push-over : (s t : IdSpan) (xs : List IdSpan) → AreOver s xs → s.high < t.low → AreOver s (xs ++ t ∷ [])
push-over s t [] o lt = (lt, tt)
push-over s t (x ∷ xs) o lt = (o.0, push-over s t xs o.1 lt)

pub push-rising : (t : IdSpan) (xs : List IdSpan) → IsRising xs → IsSpan t → ((x : ℕ) → IsMember xs x → x < t.low) → IsRising (xs ++ t ∷ [])
push-rising t [] r st below = (st, tt, tt)
push-rising t (x ∷ xs) r st below =
    (r.0, push-over x t xs r.1 (below x.high (inl (r.0.order, le_refl _))), push-rising t xs r.2 st (λ y m. below y (inr m)))

pub push-members : (t : IdSpan) (xs : List IdSpan) (x : ℕ) → IsMember (xs ++ t ∷ []) x ↔ (IsMember xs x ⊎ IsInSpan x t)
push-members t xs x = (
  λ m. ⊎_elim (λ a. inl a) (λ b. ⊎_elim (λ i. inr i) (λ n. absurd n) b) (member-either xs (t ∷ []) x m),
  λ m. ⊎_elim (λ a. member-left xs (t ∷ []) x a) (λ i. member-right xs (t ∷ []) x (inl i)) m,
)

-- the last span made longer
over-set : (s : IdSpan) (xs : List IdSpan) (k : ℕ) (m d : IdSpan) → AreOver s xs → k < length xs → m.low ≡ (get_or xs k d).low → AreOver s (slice_set xs k m)
over-set s [] k m d o lt e = absurd (omega arith)
over-set s (x ∷ xs) zero m d o lt e = let a = o.0 in (omega arith, o.1)
over-set s (x ∷ xs) (suc k) m d o lt e = (o.0, over-set s xs k m d o.1 (le_of_suc-le-suc lt) e)

set-rising : (xs : List IdSpan) (k : ℕ) (m d : IdSpan) → length xs ≡ suc k → m.low ≡ (get_or xs k d).low → IsRising xs → IsSpan m → IsRising (slice_set xs k m)
set-rising [] k m d e l r sm = absurd (omega arith)
set-rising (x ∷ []) zero m d e l r sm = (sm, tt, tt)
set-rising (x ∷ y ∷ xs) zero m d e l r sm = absurd (omega arith)
set-rising (x ∷ xs) (suc k) m d e l r sm = (r.0, over-set x xs k m d r.1 (omega arith) l, set-rising xs k m d (omega arith) l r.2 sm)

set-members : (xs : List IdSpan) (k : ℕ) (m t d : IdSpan) (x : ℕ) → length xs ≡ suc k → m.low ≡ (get_or xs k d).low → m.high ≡ t.high
    → (get_or xs k d).high + 1 ≡ t.low → IsSpan (get_or xs k d) → IsSpan t → IsMember (slice_set xs k m) x ↔ (IsMember xs x ⊎ IsInSpan x t)
set-members [] k m t d x e l h j sr st = absurd (omega arith)
set-members (s ∷ []) zero m t d x e l h j sr st =
    let a = sr.order in let b = st.order in (
      λ q. ⊎_elim (λ i. let lo = i.0 in let hi = i.1 in ⊎_elim (λ (in_s : x < t.low). inl (inl (omega arith, omega arith))) (λ (in_t : t.low ≤ x). inr (in_t, omega arith)) (either x t.low)) (λ n. absurd n) q,
      λ q. ⊎_elim (λ o. ⊎_elim (λ i. let lo = i.0 in let hi = i.1 in inl (omega arith, omega arith)) (λ n. absurd n) o) (λ i. let lo = i.0 in let hi = i.1 in inl (omega arith, omega arith)) q,
    )
  where
    either : (a b : ℕ) → (a < b) ⊎ (b ≤ a)
    either a zero = inr zero-le
    either zero (suc b) = inl (omega arith)
    either (suc a) (suc b) = ⊎_elim (λ h. inl (omega arith)) (λ h. inr (omega arith)) (either a b)
set-members (s ∷ y ∷ xs) zero m t d x e l h j sr st = absurd (omega arith)
set-members (s ∷ xs) (suc k) m t d x e l h j sr st =
    let r = set-members xs k m t d x (omega arith) l h j sr st in (
      λ q. ⊎_elim (λ i. inl (inl i)) (λ o. ⊎_elim (λ a. inl (inr a)) (λ b. inr b) (r.0 o)) q,
      λ q. ⊎_elim (λ o. ⊎_elim (λ i. inl i) (λ a. inr (r.1 (inl a))) o) (λ b. inr (r.1 (inr b))) q,
    )

-- the last span r and t, which begins where r ends, as one span m
module _ (xs : List IdSpan) (k : ℕ) (r m t : IdSpan) (size : length xs ≡ suc k) (is : r ≡ get_or xs k r) (low : m.low ≡ r.low) (high : m.high ≡ t.high)
    (joins : (r.high + 1 ≡ t.low) × (t.low ≡ 2 ^ 56 → ⊥)) (rising : IsRising xs) (st : IsSpan t) where
  sr : IsSpan (get_or xs k r)
  sr = span-at xs k r rising (omega arith)

  sm : IsSpan m
  sm =
      let s = subst IsSpan (sym is) sr in let o = s.order in let p = st.order in let b = st.bound in let j = joins.0 in
      record {
        order = omega arith;
        bound = omega arith;
        group = λ small. let g = s.group (omega arith) in let n = joins.1 in let f = st.group (omega arith) in omega arith;
      }

  pub joined-rising : IsRising (slice_set xs k m)
  joined-rising = set-rising xs k m r size (subst (λ (s : IdSpan). m.low ≡ s.low) is low) rising sm

  pub joined-members : (x : ℕ) → IsMember (slice_set xs k m) x ↔ (IsMember xs x ⊎ IsInSpan x t)
  joined-members x =
      set-members xs k m t r x size (subst (λ (s : IdSpan). m.low ≡ s.low) is low) high (subst (λ (s : IdSpan). s.high + 1 ≡ t.low) is joins.0) sr st

-- a search by the highest id of each span
highs-climb : (xs : List IdSpan) (i j : ℕ) (d : IdSpan) → IsRising xs → i ≤ j → j < length xs → (get_or xs i d).high ≤ (get_or xs j d).high
highs-climb [] i j d r le lt = absurd (omega arith)
highs-climb (x ∷ xs) zero zero d r le lt = le_refl _
highs-climb (x ∷ xs) zero (suc j) d r le lt =
    let less : j < length xs = le_of_suc-le-suc lt in
    let o = over-at x xs j r.1 less in let p = (span-at xs j d r.2 less).order in omega arith
  where
    over-at : (s : IdSpan) (xs : List IdSpan) (j : ℕ) → AreOver s xs → j < length xs → s.high < (get_or xs j d).low
    over-at s [] j o lt = absurd (omega arith)
    over-at s (x ∷ xs) zero o lt = o.0
    over-at s (x ∷ xs) (suc j) o lt = over-at s xs j o.1 (le_of_suc-le-suc lt)
highs-climb (x ∷ xs) (suc i) zero d r le lt = absurd (omega arith)
highs-climb (x ∷ xs) (suc i) (suc j) d r le lt = highs-climb xs i j d r.2 (le_of_suc-le-suc le) (le_of_suc-le-suc lt)

pub highs-parted : (n : ℕ) (xs : List IdSpan) → IsRising xs → IsPartitionedBy (λ (s : IdSpan). nat_lt s.high n) xs
highs-parted n xs r i j d le lt t = let more = ltb-true _ _ t in let climb = highs-climb xs i j d r le lt in lt-ltb _ _ (omega arith)

-- what stands from the lowest id of the last span on
last-top : (xs : List IdSpan) (k : ℕ) (d : IdSpan) (x : ℕ) → IsRising xs → length xs ≡ suc k → IsMember xs x → x ≤ (get_or xs k d).high
last-top [] k d x r e m = absurd m
last-top (s ∷ []) zero d x r e (inl i) = i.1
last-top (s ∷ []) zero d x r e (inr m) = absurd m
last-top (s ∷ t ∷ xs) zero d x r e m = absurd (omega arith)
last-top (s ∷ xs) (suc k) d x r e (inl i) = let top = i.1 in let more = highs-climb (s ∷ xs) 0 (suc k) d r zero-le (omega arith) in omega arith
last-top (s ∷ xs) (suc k) d x r e (inr m) = last-top xs k d x r.2 (omega arith) m

pub last-holds : (xs : List IdSpan) (k : ℕ) (a b : IdSpan) (x : ℕ) → IsRising xs → length xs ≡ suc k → a ≡ get_or xs k a → b ≡ get_or xs k b → a.low ≤ x
    → (x ≤ b.high → IsMember xs x) × (IsMember xs x → x ≤ b.high)
last-holds xs k a b x r e is also le =
    let same : b ≡ a = also ∙ get_or_default xs k b a (omega arith) ∙ sym is in (
      λ top. member-at xs k a x (omega arith) (subst (λ (s : IdSpan). IsInSpan x s) is (le, subst (λ (s : IdSpan). x ≤ s.high) same top)),
      λ m. subst (λ (s : IdSpan). x ≤ s.high) (sym also) (last-top xs k b x r e m),
    )

-- whether all stand below a bound is told by the last span
pub last-under : (xs : List IdSpan) (k : ℕ) (d : IdSpan) (bound : ℕ) → IsRising xs → length xs ≡ suc k → d ≡ get_or xs k d
    → (d.high < bound → (x : ℕ) → IsMember xs x → x < bound) × (((x : ℕ) → IsMember xs x → x < bound) → d.high < bound)
last-under xs k d bound r e is =
    let top = ap (λ (s : IdSpan). s.high) is in let o = (span-at xs k d r (omega arith)).order in (
      λ lt x m. let le = last-top xs k d x r e m in omega arith,
      λ all. let lt = all (get_or xs k d).high (member-at xs k d (get_or xs k d).high (omega arith) (o, le_refl _)) in omega arith,
    )

below-point : (id n : ℕ) (xs : List IdSpan) → AllWithin (λ (s : IdSpan). nat_lt s.high id ≡ true) xs 0 n → (x : ℕ) → IsMember (take n xs) x → x < id
below-point id zero xs h x m = absurd m
below-point id (suc n) [] h x m = absurd m
below-point id (suc n) (s ∷ xs) h x (inl i) = let lt = ltb-true _ _ (h 0 s zero-le (omega arith)) in let b = i.1 in omega arith
below-point id (suc n) (s ∷ xs) h x (inr m) = below-point id n xs (λ k d a b. h (suc k) d zero-le (suc-le-suc b)) x m

-- no member lies below the first span
first-low : (s : IdSpan) (xs : List IdSpan) (x : ℕ) → IsRising (s ∷ xs) → IsMember (s ∷ xs) x → s.low ≤ x
first-low s xs x r (inl i) = i.0
first-low s xs x r (inr m) = let lt = over-member s xs x r.1 m in let o = r.0.order in omega arith
  where
    over-member : (s : IdSpan) (xs : List IdSpan) (x : ℕ) → AreOver s xs → IsMember xs x → s.high < x
    over-member s [] x o m = absurd m
    over-member s (y ∷ xs) x o (inl i) = let a = o.0 in let b = i.0 in omega arith
    over-member s (y ∷ xs) x o (inr m) = over-member s xs x o.1 m

rising-drop : (n : ℕ) (xs : List IdSpan) → IsRising xs → IsRising (drop n xs)
rising-drop zero xs r = r
rising-drop (suc n) [] r = r
rising-drop (suc n) (x ∷ xs) r = rising-drop n xs r.2

module _ (id n : ℕ) (xs : List IdSpan) (rising : IsRising xs) (before : AllWithin (λ (s : IdSpan). nat_lt s.high id ≡ true) xs 0 n) where
  behind : IsMember xs id → IsMember (drop n xs) id
  behind m = ⊎_elim (λ a. let lt = below-point id n xs before id a in absurd (omega arith)) (λ b. b)
      (member-either (take n xs) (drop n xs) id (subst (λ l. IsMember l id) (sym (take-append-drop n xs)) m))

  pub contains-none : length xs ≤ n → IsMember xs id → ⊥
  contains-none le m = past xs n le (behind m)
    where
      past : (xs : List IdSpan) (n : ℕ) → length xs ≤ n → IsMember (drop n xs) id → ⊥
      past [] zero le m = m
      past [] (suc n) le m = m
      past (x ∷ xs) zero le m = absurd (omega arith)
      past (x ∷ xs) (suc n) le m = past xs n (le_of_suc-le-suc le) m

  pub contains-at : (r : IdSpan) → n < length xs → AllWithin (λ (s : IdSpan). nat_lt s.high id ≡ false) xs n (length xs) → r ≡ get_or xs n r
      → (r.low ≤ id → IsMember xs id) × (IsMember xs id → r.low ≤ id)
  contains-at r lt rest is =
      let top : id ≤ (get_or xs n r).high = ltb-false _ _ (rest n r (le_refl _) lt) in
      let cons = drop-cons xs n r lt in (
        λ le. member-at xs n r id lt (subst (λ (s : IdSpan). s.low ≤ id) is le, top),
        λ m. subst (λ (s : IdSpan). s.low ≤ id) (sym is)
            (first-low (get_or xs n r) (drop (suc n) xs) id (subst IsRising cons (rising-drop n xs rising)) (subst (λ l. IsMember l id) cons (behind m))),
      )
