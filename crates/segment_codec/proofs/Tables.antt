-- The segments of a lawful table: which one has an id, and the parents that it gives.
use Rattle.std.proofs.Common.{◌≡◌, ℕ, zero, suc, ◌+◌, ◌-◌, ◌<◌, ◌≤◌, ◌^◌, ◌⊎◌, inl, inr, Bool, true, false, List, [], ◌∷◌, ◌++◌, Option, Some, None, nat_le, refl, sym, subst, ap, ◌∙◌, arith, ⊎_elim, true≢false, if◌then◌else◌, eq-eqb}
use Rattle.std.specs.Prelude.{⊤}
use Rattle.std.proofs.lemmas.Bool.{ne_eqb, leb-true, le-leb}
use Rattle.std.specs.List.{AllByRecursion}
use Rattle.id_groups.specs.Lists.{IsIn}
use Rattle.id_groups.proofs.Listing.{and_true, both_true}
use Rattle.segment_codec.specs.Record.{Segment}
use Rattle.segment_codec.specs.Table.{IsInSegment, holds, segment_at, parents_in, parents_at, IsHeld, Follow, Cover, IsLawful}

pub le_or_lt : (a b : ℕ) → (a ≤ b) ⊎ (b < a)
le_or_lt zero b = inl (omega arith)
le_or_lt (suc a) zero = inr (omega arith)
le_or_lt (suc a) (suc b) = ⊎_elim (λ h. inl (omega arith)) (λ h. inr (omega arith)) (le_or_lt a b)

pub in-holds : (s : Segment) (x : ℕ) → IsInSegment x s → holds s x ≡ true
in-holds s x h = both_true (nat_le s.low x) (nat_le x s.high) (le-leb s.low x h.0) (le-leb x s.high h.1)

pub holds-in : (s : Segment) (x : ℕ) → holds s x ≡ true → IsInSegment x s
holds-in s x e = let b = and_true (nat_le s.low x) (nat_le x s.high) e in (leb-true s.low x b.0, leb-true x s.high b.1)

pub found-head : (s : Segment) (rest : List Segment) (x : ℕ) → IsInSegment x s → segment_at (s ∷ rest) x ≡ Some s
found-head s rest x h = ap (λ b. if b then Some s else segment_at rest x) (in-holds s x h)

pub found-behind : (s : Segment) (rest : List Segment) (x : ℕ) → (IsInSegment x s → ⊥) → segment_at (s ∷ rest) x ≡ segment_at rest x
found-behind s rest x h = go (holds s x) refl
  where
    go : (b : Bool) → holds s x ≡ b → (if holds s x then Some s else segment_at rest x) ≡ segment_at rest x
    go true e = absurd (h (holds-in s x e))
    go false e = ap (λ b. if b then Some s else segment_at rest x) e

pub head-or-behind : (s : Segment) (x : ℕ) → IsInSegment x s ⊎ (IsInSegment x s → ⊥)
head-or-behind s x = go (holds s x) refl
  where
    go : (b : Bool) → holds s x ≡ b → IsInSegment x s ⊎ (IsInSegment x s → ⊥)
    go true e = inl (holds-in s x e)
    go false e = inr (λ h. true≢false (sym (in-holds s x h) ∙ e))

some-same : (a b : Segment) → Some a ≡ Some b → a ≡ b
some-same a b e = cc

none-some : (a : Segment) → None ≡ Some a → ⊥
none-some a e = cc

-- the segment found is one of the list, and has the id
pub segment-in : (flats : List Segment) (x : ℕ) (s : Segment) → segment_at flats x ≡ Some s → IsIn s flats × IsInSegment x s
segment-in [] x s e = absurd (none-some s e)
segment-in (t ∷ rest) x s e =
    ⊎_elim
    (λ h. let same = some-same t s (sym (found-head t rest x h) ∙ e) in (inl (sym same), subst (λ (f : Segment). IsInSegment x f) same h))
    (λ h. let r = segment-in rest x s (sym (found-behind t rest x h) ∙ e) in (inr r.0, r.1))
    (head-or-behind t x)

-- each lies above the ones before
abbrev pub AreOver : Segment → List Segment → Type 0
AreOver s [] = ⊤
AreOver s (t ∷ rest) = (s.high < t.low) × AreOver s rest

abbrev pub AreRising : List Segment → Type 0
AreRising [] = ⊤
AreRising (s ∷ rest) = (s.low ≤ s.high) × AreOver s rest × AreRising rest

follow-over : (s : Segment) (first end : ℕ) (rest : List Segment) → s.high < first → Follow first end rest → AreOver s rest
follow-over s first end [] lt h = tt
follow-over s first end (t ∷ rest) lt h = let l = h.0 in let o = h.1 in (omega arith, follow-over s (t.high + 1) end rest (omega arith) h.2)

pub follow-rising : (first end : ℕ) (segments : List Segment) → Follow first end segments → AreRising segments
follow-rising first end [] h = tt
follow-rising first end (s ∷ rest) h =
    let l = h.0 in let o = h.1 in
    (omega arith, follow-over s (s.high + 1) end rest (omega arith) h.2, follow-rising (s.high + 1) end rest h.2)

pub follow-ends : (first end : ℕ) (segments : List Segment) → Follow first end segments → first ≤ end
follow-ends first end [] e = omega arith
follow-ends first end (s ∷ rest) h = let o = h.1 in let r = follow-ends (s.high + 1) end rest h.2 in omega arith

-- each of these ids is had
pub follow-held : (first end : ℕ) (segments : List Segment) → Follow first end segments → (x : ℕ) → first ≤ x → x < end → IsHeld segments x
follow-held first end [] e x a b = absurd (omega arith)
follow-held first end (t ∷ rest) h x a b =
    ⊎_elim
    (λ (i : IsInSegment x t). (t, found-head t rest x i))
    (λ (n : IsInSegment x t → ⊥).
    let low = h.0 in
    let past : t.high + 1 ≤ x = ⊎_elim (λ (v : x ≤ t.high). absurd (n (omega arith, v))) (λ (v : t.high < x). omega arith) (le_or_lt x t.high) in
    let r = follow-held (t.high + 1) end rest h.2 x past b in (r.0, found-behind t rest x n ∙ r.1))
    (head-or-behind t x)

-- and no other
pub follow-within : (first end : ℕ) (segments : List Segment) → Follow first end segments → (s : Segment) → IsIn s segments → (first ≤ s.low) × (s.low ≤ s.high) × (s.high < end)
follow-within first end [] h s i = absurd i
follow-within first end (t ∷ rest) h s (inl e) =
    let low = h.0 in let order = h.1 in let ends = follow-ends (t.high + 1) end rest h.2 in
    subst (λ (q : Segment). (first ≤ q.low) × (q.low ≤ q.high) × (q.high < end)) (sym e) (omega arith, omega arith, omega arith)
follow-within first end (t ∷ rest) h s (inr i) =
    let order = h.1 in let r = follow-within (t.high + 1) end rest h.2 s i in let a = r.0 in (omega arith, r.1, r.2)

pub over-append : (s : Segment) (front back : List Segment) → AreOver s front → AreOver s back → AreOver s (front ++ back)
over-append s [] back f b = b
over-append s (t ∷ front) back f b = (f.0, over-append s front back f.1 b)

all-over : (s : Segment) (back : List Segment) → ((t : Segment) → IsIn t back → s.high < t.low) → AreOver s back
all-over s [] h = tt
all-over s (t ∷ back) h = (h t (inl refl), all-over s back (λ q i. h q (inr i)))

rising-append : (front back : List Segment) → ((s t : Segment) → IsIn s front → IsIn t back → s.high < t.low) → AreRising front → AreRising back → AreRising (front ++ back)
rising-append [] back h f b = b
rising-append (s ∷ front) back h f b =
    (f.0, over-append s front back f.1 (all-over s back (λ t i. h s t (inl refl) i)), rising-append front back (λ s t i j. h s t (inr i) j) f.2 b)

pub cover-rising : (flats : List Segment) (master others : ℕ) → Cover flats master others → AreRising flats
cover-rising flats master others c =
    subst AreRising (sym c.parts)
    (rising-append c.front c.back
    (λ s t i j.
    let a = (follow-within 0 master c.front c.master_ids s i).2 in
    let b = (follow-within (2 ^ 56) (2 ^ 56 + others) c.back c.other_ids t j).0 in
    let r = c.room in omega arith)
    (follow-rising 0 master c.front c.master_ids) (follow-rising (2 ^ 56) (2 ^ 56 + others) c.back c.other_ids))

pub over-in : (s : Segment) (rest : List Segment) (t : Segment) → AreOver s rest → IsIn t rest → s.high < t.low
over-in s [] t h i = absurd i
over-in s (r ∷ rest) t h (inl e) = subst (λ (f : Segment). s.high < f.low) (sym e) h.0
over-in s (r ∷ rest) t h (inr i) = over-in s rest t h.1 i

-- each id of a segment of the list is found in it
pub rising-at : (flats : List Segment) (y : ℕ) (s : Segment) → AreRising flats → IsIn s flats → IsInSegment y s → segment_at flats y ≡ Some s
rising-at [] y s h i f = absurd i
rising-at (t ∷ rest) y s h (inl e) f = found-head t rest y (subst (λ (q : Segment). IsInSegment y q) e f) ∙ ap (λ q. Some q) (sym e)
rising-at (t ∷ rest) y s h (inr i) f =
    let over = over-in t rest s h.1 i in let a = f.0 in
    found-behind t rest y (λ g. let b = g.1 in omega arith) ∙ rising-at rest y s h.2 i f

pub lawful-rising : (flats : List Segment) → IsLawful flats → AreRising flats
lawful-rising flats l = cover-rising flats l.master l.others l.cover

pub lawful-at : (flats : List Segment) → IsLawful flats → (y : ℕ) (s : Segment) → IsIn s flats → IsInSegment y s → segment_at flats y ≡ Some s
lawful-at flats l y s i f = rising-at flats y s (lawful-rising flats l) i f

-- the parents of the ids of a segment
module _ (flats : List Segment) (lawful : IsLawful flats) (s : Segment) (i : IsIn s flats) where
  pub order-of : s.low ≤ s.high
  order-of = (lawful.each s i).segment.ascending

  pub parents-low : parents_at flats s.low ≡ s.parents
  parents-low =
      let o = order-of in
      ap (λ f. parents_in f s.low) (lawful-at flats lawful s.low s i (omega arith, o))
      ∙ ap (λ b. if b then s.parents else (s.low - 1) ∷ []) (eq-eqb s.low s.low refl)

  pub parents-over : (y : ℕ) → s.low < y → y ≤ s.high → parents_at flats y ≡ (y - 1) ∷ []
  parents-over y lt le =
      ap (λ f. parents_in f y) (lawful-at flats lawful y s i (omega arith, le))
      ∙ ap (λ b. if b then s.parents else (y - 1) ∷ []) (ne_eqb y s.low (omega arith))

pub all-pass : {X : Type 0} (P : X → Type 0) (xs : List X) → AllByRecursion P xs → (x : X) → IsIn x xs → P x
all-pass P [] h x i = absurd i
all-pass P (y ∷ ys) h x (inl e) = subst P (sym e) h.0
all-pass P (y ∷ ys) h x (inr i) = all-pass P ys h.1 x i

-- a parent lies below its child, in the bounds
pub parent-below : (flats : List Segment) → IsLawful flats → (y p : ℕ) → IsIn p (parents_at flats y) → (p < y) × IsHeld flats p
parent-below flats lawful y p j = go (segment_at flats y) refl j
  where
    go : (o : Option Segment) → segment_at flats y ≡ o → IsIn p (parents_in (segment_at flats y) y) → (p < y) × IsHeld flats p
    go None e j = absurd (subst (λ o. IsIn p (parents_in o y)) e j)
    go (Some s) e j =
        let f = segment-in flats y s e in
        let low = f.1.0 in let high = f.1.1 in
        ⊎_elim
        (λ (le : y ≤ s.low).
        let same : y ≡ s.low = omega arith in
        let k : IsIn p s.parents = subst (IsIn p) (ap (λ z. parents_at flats z) same ∙ parents-low flats lawful s f.0) j in
        let flat = lawful.each s f.0 in
        let lt : p < s.low = all-pass (λ q. q < s.low) s.parents flat.segment.below p k in
        (omega arith, flat.parents p k))
        (λ (lt : s.low < y).
        let k : IsIn p ((y - 1) ∷ []) = subst (IsIn p) (parents-over flats lawful s f.0 y lt high) j in
        let q : p ≡ y - 1 = ⊎_elim (λ e. e) (λ n. absurd n) k in
        (omega arith, (s, lawful-at flats lawful p s f.0 (omega arith, omega arith))))
        (le_or_lt y s.low)
