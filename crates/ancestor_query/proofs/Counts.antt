-- How many segments have their lowest id, from a floor on, in the answer.
use Rattle.std.proofs.Common.{◌≡◌, ℕ, ◌<◌, ◌≤◌, inl, inr, Bool, true, false, ◌&&◌, nat_le, max, List, [], ◌∷◌, refl, sym, subst, arith, ⊎_elim, if◌then◌else◌, zero-le, true≢false}
use Rattle.std.specs.List.{list_any}
use Rattle.std.proofs.lemmas.Bool.{leb-true, le-leb}
use Rattle.id_groups.specs.Lists.{IsIn}
use Rattle.id_groups.specs.declared.span.IdSpan.{IdSpan}
use Rattle.id_groups.proofs.Listing.{and_true, both_true, or_true, or_left, or_right}
use Rattle.segment_codec.specs.Record.{Segment}
use Rattle.segment_codec.specs.Table.{IsLawful}
use Rattle.span_set.specs.Members.{IsMember}
use Rattle.ancestor_query.specs.Counts.{count_segments, meets, count_met}

-- whether some span has the segment's lowest id from the floor on
abbrev pub has_first : ℕ → List IdSpan → Segment → Bool
has_first floor spans s = nat_le floor s.high && list_any (λ t. nat_le t.low (max s.low floor) && nat_le (max s.low floor) t.high) spans

any-member : (spans : List IdSpan) (x : ℕ) → list_any (λ t. nat_le t.low x && nat_le x t.high) spans ≡ true → IsMember spans x
any-member [] x e = true≢false (sym e)
any-member (t ∷ rest) x e = ⊎_elim
    (λ h. let b = and_true (nat_le t.low x) (nat_le x t.high) h in inl (leb-true t.low x b.0, leb-true x t.high b.1))
    (λ h. inr (any-member rest x h))
    (or_true (nat_le t.low x && nat_le x t.high) (list_any (λ t. nat_le t.low x && nat_le x t.high) rest) e)

member-any : (spans : List IdSpan) (x : ℕ) → IsMember spans x → list_any (λ t. nat_le t.low x && nat_le x t.high) spans ≡ true
member-any [] x m = absurd m
member-any (t ∷ rest) x (inl i) =
    or_left (nat_le t.low x && nat_le x t.high) (list_any (λ t. nat_le t.low x && nat_le x t.high) rest)
    (both_true (nat_le t.low x) (nat_le x t.high) (le-leb t.low x i.0) (le-leb x t.high i.1))
member-any (t ∷ rest) x (inr m) = or_right (nat_le t.low x && nat_le x t.high) (list_any (λ t. nat_le t.low x && nat_le x t.high) rest) (member-any rest x m)

first-member : (floor : ℕ) (spans : List IdSpan) (s : Segment) → has_first floor spans s ≡ true → (floor ≤ s.high) × IsMember spans (max s.low floor)
first-member floor spans s e =
    let b = and_true (nat_le floor s.high) (list_any (λ t. nat_le t.low (max s.low floor) && nat_le (max s.low floor) t.high) spans) e in
    (leb-true floor s.high b.0, any-member spans (max s.low floor) b.1)

member-first : (floor : ℕ) (spans : List IdSpan) (s : Segment) → floor ≤ s.high → IsMember spans (max s.low floor) → has_first floor spans s ≡ true
member-first floor spans s le m =
    both_true (nat_le floor s.high) (list_any (λ t. nat_le t.low (max s.low floor) && nat_le (max s.low floor) t.high) spans)
    (le-leb floor s.high le) (member-any spans (max s.low floor) m)

member-meets : (spans : List IdSpan) (s : Segment) (x : ℕ) → s.low ≤ x → x ≤ s.high → IsMember spans x → meets spans s ≡ true
member-meets [] s x a b m = absurd m
member-meets (t ∷ rest) s x a b (inl i) =
    let low = i.0 in let high = i.1 in
    or_left (nat_le t.low s.high && nat_le s.low t.high) (meets rest s)
    (both_true (nat_le t.low s.high) (nat_le s.low t.high) (le-leb t.low s.high (omega arith)) (le-leb s.low t.high (omega arith)))
member-meets (t ∷ rest) s x a b (inr m) = or_right (nat_le t.low s.high && nat_le s.low t.high) (meets rest s) (member-meets rest s x a b m)

bit-le : (b c : Bool) → (b ≡ true → c ≡ true) → (if b then 1 else 0) ≤ (if c then 1 else 0)
bit-le false c h = zero-le
bit-le true c h = subst (λ d. 1 ≤ (if d then 1 else 0)) (sym (h refl)) (omega arith)

bit-lt : (b c : Bool) → b ≡ false → c ≡ true → (if b then 1 else 0) < (if c then 1 else 0)
bit-lt b c e f = subst (λ d. (if b then 1 else 0) < (if d then 1 else 0)) (sym f) (subst (λ d. (if d then 1 else 0) < 1) (sym e) (omega arith))

module _ (p q : Segment → Bool) where
  count-le : (xs : List Segment) → ((t : Segment) → IsIn t xs → p t ≡ true → q t ≡ true) → count_segments p xs ≤ count_segments q xs
  count-le [] h = zero-le
  count-le (t ∷ xs) h = let a = bit-le (p t) (q t) (h t (inl refl)) in let b = count-le xs (λ u i. h u (inr i)) in omega arith

  count-lt : (xs : List Segment) (s : Segment) → IsIn s xs → p s ≡ false → q s ≡ true → ((t : Segment) → IsIn t xs → p t ≡ true → q t ≡ true) → count_segments p xs < count_segments q xs
  count-lt [] s i e f h = absurd i
  count-lt (t ∷ xs) s (inl same) e f h =
      let a = bit-lt (p t) (q t) (subst (λ u. p u ≡ false) same e) (subst (λ u. q u ≡ true) same f) in
      let b = count-le xs (λ u i. h u (inr i)) in omega arith
  count-lt (t ∷ xs) s (inr i) e f h =
      let a = bit-le (p t) (q t) (h t (inl refl)) in let b = count-lt xs s i e f (λ u i. h u (inr i)) in omega arith

-- one more segment has its lowest id from the floor on in the answer
pub one-more : (flats : List Segment) (floor : ℕ) (answer longer : List IdSpan) (s : Segment) → IsIn s flats → floor ≤ s.high
    → (IsMember answer (max s.low floor) → ⊥) → IsMember longer (max s.low floor) → ((x : ℕ) → IsMember answer x → IsMember longer x)
    → count_segments (has_first floor answer) flats < count_segments (has_first floor longer) flats
one-more flats floor answer longer s i le out into grows =
    count-lt (has_first floor answer) (has_first floor longer) flats s i (absent (has_first floor answer s) refl) (member-first floor longer s le into)
    (λ t _ e. let h = first-member floor answer t e in member-first floor longer t h.0 (grows (max t.low floor) h.1))
  where
    absent : (b : Bool) → has_first floor answer s ≡ b → has_first floor answer s ≡ false
    absent true e = absurd (out (first-member floor answer s e).1)
    absent false e = e

pub first-met : (flats : List Segment) (floor : ℕ) (answer : List IdSpan) → IsLawful flats → count_segments (has_first floor answer) flats ≤ count_met answer flats
first-met flats floor answer lawful =
    count-le (has_first floor answer) (meets answer) flats
    (λ t i e. let h = first-member floor answer t e in let le = h.0 in let order = (lawful.each t i).segment.ascending in
    member-meets answer t (max t.low floor) (omega arith) (omega arith) h.1)
