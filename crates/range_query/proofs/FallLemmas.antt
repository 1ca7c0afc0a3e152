-- A walk down: what waits, and what its turns keep.
use Rattle.std.proofs.Common.{◌≡◌, ℕ, zero, suc, ◌+◌, ◌-◌, ◌<◌, ◌≤◌, ◌⊎◌, inl, inr, ◌↔◌, List, [], ◌∷◌, Option, Some, None, true, false, length, drop, max, min, refl, sym, subst, arith, ⊎_elim, le_refl}
use Rattle.id_groups.specs.Lists.{IsIn}
use Rattle.segment_codec.specs.Record.{Segment}
use Rattle.segment_codec.specs.Table.{IsHeld}
use Rattle.segment_codec.proofs.Tables.{AreRising, over-in, le_or_lt}
use Rattle.ancestor_query.specs.Visits.{ToVisit, Greatest}
use Rattle.ancestor_query.specs.Window.{Takes}
use Rattle.range_query.specs.Places.{IsOf, IsPlace}
use Rattle.range_query.specs.Falls.{AreAbove, one_above, IsEndOf, IsOfBoth, IsRaised, IsLeastParent}
use Rattle.range_query.proofs.Rows.{held-of, of-parts, before-place}

-- the segments behind the one at a place
next-above : (flats : List Segment) → AreRising flats → (place id : ℕ) → ((s : Segment) → IsIn s (drop place flats) → id ≤ s.high) → AreAbove id (drop (suc place) flats)
next-above [] r place id h t i = absurd i
next-above (x ∷ rest) r zero id h t i = let over = over-in x rest t r.1 i in let le = h x (inl refl) in omega arith
next-above (x ∷ rest) r (suc place) id h t i = next-above rest r.2 place id h t i

of-length : (flats : List Segment) (place x : ℕ) → IsOf (drop place flats) x → place < length flats
of-length [] zero x h = absurd h
of-length [] (suc place) x h = absurd h
of-length (s ∷ rest) zero x h = omega arith
of-length (s ∷ rest) (suc place) x h = let lt = of-length rest place x h in omega arith

pub place-within : (flats : List Segment) (id place : ℕ) → IsPlace flats id place → IsHeld flats id → place < length flats
place-within flats id place p h =
    of-length flats place id (⊎_elim (λ a. let lt = before-place flats id place place id p (le_refl place) a in absurd (omega arith)) (λ b. b) (of-parts flats place id (held-of flats id h)))

pub place-above : (flats : List Segment) → AreRising flats → (id place next : ℕ) → IsPlace flats id place → next ≡ suc place → (x : ℕ) → x ≤ id → AreAbove x (drop next flats)
place-above flats rising id place next p e x le t i =
    let lt = next-above flats rising place id p.behind t (subst (λ n. IsIn t (drop n flats)) e i) in omega arith

-- one above the greatest
pub end-of-greatest : (P : ℕ → Type 0) (bound : ℕ) (o : Option ℕ) (end : ℕ) → end ≡ one_above o → Greatest P bound o → IsEndOf P bound end
end-of-greatest P bound None end e g = record {
  within = omega arith;
  is = λ some. absurd (omega arith);
  over = λ w h lt. absurd (g w h lt);
}
end-of-greatest P bound (Some x) end e g =
    let lt = g.under in
    record {
      within = omega arith;
      is = λ some. let same : x ≡ end - 1 = omega arith in subst P same g.is;
      over = λ w h lt. let le = g.greatest w h lt in omega arith;
    }

-- a lower bound that the end doesn't pass
pub end-lower : (P : ℕ → Type 0) (b bound end : ℕ) → bound ≤ b → end ≤ bound → IsEndOf P b end → IsEndOf P bound end
end-lower P b bound end le low h = record { within = low; is = h.is; over = λ w p lt. h.over w p (omega arith) }

-- one more id that waits
module _ (near near' far : List ℕ) (x : ℕ) where
  pub put-near : Takes near near' x true → (w : ℕ) → IsIn w near' → IsIn w near ⊎ (w ≡ x)
  put-near t w i = (t w).0 i

  pub put-all : Takes near near' x true → (w : ℕ) → IsOfBoth near' far w ↔ (IsOfBoth near far w ⊎ (w ≡ x))
  put-all t w = (
    λ h. ⊎_elim (λ i. ⊎_elim (λ j. inl (inl j)) (λ e. inr e) ((t w).0 i)) (λ f. inl (inr f)) h,
    λ h. ⊎_elim (λ o. ⊎_elim (λ i. inl ((t w).1 (inl i))) (λ f. inr f) o) (λ e. inl ((t w).1 (inr e))) h,
  )

  pub pushed-all : Takes near near' x false → (far' : List ℕ) → ((w : ℕ) → IsIn w far' ↔ (IsIn w far ⊎ (w ≡ x))) → (w : ℕ) → IsOfBoth near' far' w ↔ (IsOfBoth near far w ⊎ (w ≡ x))
  pushed-all t far' more w = (
    λ h. ⊎_elim (λ i. inl (inl (subst (IsIn w) t i))) (λ f. ⊎_elim (λ j. inl (inr j)) (λ e. inr e) ((more w).0 f)) h,
    λ h. ⊎_elim (λ o. ⊎_elim (λ i. inl (subst (IsIn w) (sym t) i)) (λ f. inr ((more w).1 (inl f))) o) (λ e. inr ((more w).1 (inr e))) h,
  )

pub raised-one : (far far' : List ℕ) (x end r : ℕ) → ((w : ℕ) → IsIn w far' ↔ (IsIn w far ⊎ (w ≡ x))) → r ≡ max end (x + 1) → IsRaised far far' (λ p. p ≡ x) end r
raised-one far far' x end r more e = record {
  up = omega arith;
  is = λ lt. let same : x ≡ r - 1 = omega arith in (sym same, (more (r - 1)).1 (inr (sym same)));
  over = λ w i. ⊎_elim (λ j. inl j) (λ s. inr (omega arith)) ((more w).0 i);
  kept = λ w i. (more w).1 (inl i);
}

-- an end that was raised over ids below the bound
pub raised-end : (S : ℕ → Type 0) (far far' : List ℕ) (P : ℕ → Type 0) (bound end r : ℕ) → ((p : ℕ) → P p → p < bound) → IsRaised far far' P end r
    → IsEndOf (ToVisit S far) bound end → IsEndOf (ToVisit S far') bound r
raised-end S far far' P bound end r under h was =
    let up = h.up in let w = was.within in
    record {
      within = ⊎_elim (λ (le : r ≤ end). omega arith) (λ (lt : end < r). let u = under (r - 1) (h.is lt).0 in omega arith) (le_or_lt r end);
      is = λ some. ⊎_elim
          (λ (le : r ≤ end). let same : r ≡ end = omega arith in
          ⊎_elim (λ s. inl s) (λ i. inr (h.kept (r - 1) i)) (subst (λ n. ToVisit S far (n - 1)) (sym same) (was.is (omega arith))))
          (λ (lt : end < r). inr (h.is lt).1) (le_or_lt r end);
      over = λ w v lt. ⊎_elim
          (λ s. let u = was.over w (inl s) lt in omega arith)
          (λ i. ⊎_elim (λ j. let u = was.over w (inr j) lt in omega arith) (λ u. u) (h.over w i)) v;
    }

-- the parents of a segment, of which some are yet to come
pub record Pushing (near0 far0 parents left near far : List ℕ) (least end l e : ℕ) : Type 0 where
  pub added : (x : ℕ) → IsIn x near → IsIn x near0 ⊎ IsIn x parents
  pub all : (x : ℕ) → (IsOfBoth near far x ⊎ IsIn x left) ↔ (IsOfBoth near0 far0 x ⊎ IsIn x parents)
  pub sub : (x : ℕ) → IsIn x left → IsIn x parents
  pub most : l ≤ least
  pub none : parents ≡ [] → l ≡ 0
  pub low : (p : ℕ) → IsIn p parents → IsIn p left ⊎ (l ≤ p)
  pub raised : IsRaised far0 far (λ p. IsIn p parents) end e

module _ (near0 far0 parents left near far : List ℕ) (least end l e : ℕ) (h : Pushing near0 far0 parents left near far least end l e) where
  pub pushing-one : (x : ℕ) (rest near' far' : List ℕ) (l' e' : ℕ) → left ≡ x ∷ rest → l' ≡ min l x → ((w : ℕ) → IsIn w near' → IsIn w near ⊎ (w ≡ x))
      → ((w : ℕ) → IsOfBoth near' far' w ↔ (IsOfBoth near far w ⊎ (w ≡ x))) → IsRaised far far' (λ p. p ≡ x) e e'
      → Pushing near0 far0 parents rest near' far' least end l' e'
  pushing-one x rest near' far' l' e' is least-is put all more =
      let own : IsIn x left = subst (IsIn x) (sym is) (inl refl) in
      let behind : (w : ℕ) → IsIn w rest → IsIn w left = λ w i. subst (IsIn w) (sym is) (inr i) in
      let most = h.most in let up = h.raised.up in let up' = more.up in
      record {
        added = λ w i. ⊎_elim (λ o. h.added w o) (λ s. inr (subst (λ n. IsIn n parents) (sym s) (h.sub x own))) (put w i);
        all = λ w. (
          λ q. (h.all w).0 (⊎_elim (λ b. ⊎_elim (λ o. inl o) (λ s. inr (subst (λ n. IsIn n left) (sym s) own)) ((all w).0 b)) (λ i. inr (behind w i)) q),
          λ q. ⊎_elim (λ b. inl ((all w).1 (inl b))) (λ i. ⊎_elim (λ s. inl ((all w).1 (inr s))) (λ j. inr j) (subst (IsIn w) is i)) ((h.all w).1 q),
        );
        sub = λ w i. h.sub w (behind w i);
        most = omega arith;
        none = λ e. absurd (subst (IsIn x) e (h.sub x own));
        low = λ p i. ⊎_elim (λ j. ⊎_elim (λ (s : p ≡ x). inr (omega arith)) (λ k. inl k) (subst (IsIn p) is j)) (λ (le : l ≤ p). inr (omega arith)) (h.low p i);
        raised = record {
          up = omega arith;
          is = λ lt. ⊎_elim
              (λ (le : e' ≤ e). let same : e' ≡ e = omega arith in let was = h.raised.is (omega arith) in
              (subst (λ n. IsIn (n - 1) parents) (sym same) was.0, subst (λ n. IsIn (n - 1) far') (sym same) (more.kept (e - 1) was.1)))
              (λ (lt : e < e'). let now = more.is lt in (subst (λ n. IsIn n parents) (sym now.0) (h.sub x own), now.1)) (le_or_lt e' e);
          over = λ w i. ⊎_elim (λ j. ⊎_elim (λ k. inl k) (λ (lt : w < e). inr (omega arith)) (h.raised.over w j)) (λ lt. inr lt) (more.over w i);
          kept = λ w i. more.kept w (h.raised.kept w i);
        };
      }

  -- when none is left
  pub pushing-all : left ≡ [] → (x : ℕ) → IsOfBoth near far x ↔ (IsOfBoth near0 far0 x ⊎ IsIn x parents)
  pushing-all none x = (
    λ b. (h.all x).0 (inl b),
    λ q. ⊎_elim (λ b. b) (λ i. absurd (subst (IsIn x) none i)) ((h.all x).1 q),
  )

  pub pushing-least : left ≡ [] → IsLeastParent parents least l
  pushing-least none = record {
    most = h.most;
    each = λ p j. ⊎_elim (λ k. absurd (subst (IsIn p) none k)) (λ le. le) (h.low p j);
    none = h.none;
  }
