-- The ids and parents of maximal segments, and of those that are cut.
use Rattle.std.proofs.Common.{◌≡◌, ℕ, ◌+◌, ◌-◌, ◌<◌, ◌≤◌, ◌⊎◌, inl, inr, Bool, true, false, not, List, [], ◌∷◌, Some, cond, min, refl, sym, subst, ap, ◌∙◌, arith, ⊎_elim, eq-eqb}
use Rattle.std.specs.Prelude.{filter, nat_lt}
use Rattle.std.specs.List.{AllByRecursion}
use Rattle.std.proofs.lemmas.Bool.{ne_eqb, ltb-true, ltb-false}
use Rattle.segment_codec.specs.Record.{Segment}
use Rattle.segment_codec.specs.Table.{IsInSegment, parents_in, parents_at, Follow}
use Rattle.segment_codec.specs.Flat.{IsFlat}
use Rattle.segment_codec.proofs.Tables.{le_or_lt, found-head, found-behind}
use Rattle.segment_codec.specs.Turns.{goes_on}
use Rattle.segment_codec.proofs.Turns.{goes-on-means}
use Rattle.flat_segments.specs.Maximal.{begin_of, up_to, maximal, cut}
use Rattle.flat_segments.proofs.Rising.{rise-follow, follow-rise}
use Rattle.flat_segments.proofs.Cutting.{rise-filter, maximal-begins}

-- ---- parents

pub at-low : (s : Segment) (x : ℕ) → x ≡ s.low → parents_in (Some s) x ≡ s.parents
at-low s x e = ap (λ b. cond b s.parents ((x - 1) ∷ [])) (eq-eqb x s.low e)

pub over-low : (s : Segment) (x : ℕ) → (x ≡ s.low → ⊥) → parents_in (Some s) x ≡ (x - 1) ∷ []
over-low s x n = ap (λ b. cond b s.parents ((x - 1) ∷ [])) (ne_eqb x s.low n)

pub here : (s : Segment) (rest : List Segment) (x : ℕ) → IsInSegment x s → parents_at (s ∷ rest) x ≡ parents_in (Some s) x
here s rest x i = ap (λ o. parents_in o x) (found-head s rest x i)

pub behind : (s : Segment) (rest : List Segment) (x : ℕ) → (IsInSegment x s → ⊥) → parents_at (s ∷ rest) x ≡ parents_at rest x
behind s rest x n = ap (λ o. parents_in o x) (found-behind s rest x n)

abbrev begins : Segment → Bool
begins s = not (goes_on s)

abbrev firsts : List Segment → List Segment
firsts xs = filter begins xs

first-below : (first end : ℕ) (xs : List Segment) → Follow first end xs → first ≤ begin_of end (firsts xs)
first-below first end [] h = omega (arith, h)
first-below first end (s ∷ more) h = go (goes_on s) (first-below (s.high + 1) end more h.2)
  where
    go : (b : Bool) → s.high + 1 ≤ begin_of end (firsts more) → first ≤ begin_of end (cond (not b) (s ∷ firsts more) (firsts more))
    go true le = let order = h.1 in omega arith
    go false le = let low = h.0 in omega (arith, low)

-- each id before the first that begins a segment goes on from the id before it
goes-from : (first end : ℕ) (xs : List Segment) (x : ℕ) → Follow first end xs → first ≤ x → x < begin_of end (firsts xs) → parents_at xs x ≡ (x - 1) ∷ []
goes-from first end [] x h le lt = absurd (omega (arith, h))
goes-from first end (s ∷ more) x h le lt = go (goes_on s) refl lt (goes-from (s.high + 1) end more x h.2)
  where
    go : (b : Bool) → goes_on s ≡ b → x < begin_of end (cond (not b) (s ∷ firsts more) (firsts more))
        → (s.high + 1 ≤ x → x < begin_of end (firsts more) → parents_at more x ≡ (x - 1) ∷ []) → parents_at (s ∷ more) x ≡ (x - 1) ∷ []
    go false e lt rest = let low = h.0 in absurd (omega (arith, low, lt))
    go true e lt rest =
        let low = h.0 in
        ⊎_elim
        (λ (in-it : x ≤ s.high). here s more x (omega (arith, low), in-it)
        ∙ ⊎_elim
        (λ (at : x ≤ s.low). let is : x ≡ s.low = omega (arith, low) in at-low s x is ∙ goes-on-means s e ∙ ap (λ n. (n - 1) ∷ []) (sym is))
        (λ (over : s.low < x). over-low s x (λ is. absurd (omega (arith, over, is))))
        (le_or_lt x s.low))
        (λ (past : s.high < x). behind s more x (λ (i : IsInSegment x s). let b = i.1 in absurd (omega (arith, b, past))) ∙ rest (omega (arith, past)) lt)
        (le_or_lt x s.high)

lt_or_le : (a b : ℕ) → (a < b) ⊎ (b ≤ a)
lt_or_le a b = ⊎_elim (λ h. inr h) (λ h. inl h) (le_or_lt b a)

same-over : (s : Segment) (high x : ℕ) → parents_in (Some (record s { high = high })) x ≡ parents_in (Some s) x
same-over s high x = refl

-- the other ids have the same parents
pub same-parents : (first end : ℕ) (xs : List Segment) (x : ℕ) → Follow first end xs → begin_of end (firsts xs) ≤ x → x < end → parents_at (up_to end (firsts xs)) x ≡ parents_at xs x
same-parents first end [] x h le lt = refl
same-parents first end (s ∷ more) x h le lt =
    go (goes_on s) refl le (same-parents (s.high + 1) end more x h.2) (goes-from (s.high + 1) end more x h.2) (first-below (s.high + 1) end more h.2)
  where
    go : (b : Bool) → goes_on s ≡ b → begin_of end (cond (not b) (s ∷ firsts more) (firsts more)) ≤ x
        → (begin_of end (firsts more) ≤ x → x < end → parents_at (up_to end (firsts more)) x ≡ parents_at more x)
        → (s.high + 1 ≤ x → x < begin_of end (firsts more) → parents_at more x ≡ (x - 1) ∷ []) → s.high + 1 ≤ begin_of end (firsts more)
        → parents_at (up_to end (cond (not b) (s ∷ firsts more) (firsts more))) x ≡ parents_at (s ∷ more) x
    go true e le rest from up =
        rest le lt ∙ sym (behind s more x (λ (i : IsInSegment x s). let b = i.1 in absurd (omega (arith, b, up, le))))
    go false e le rest from up =
        let low = h.0 in let order = h.1 in
        ⊎_elim
        (λ (in-it : x < begin_of end (firsts more)). here (record s { high = begin_of end (firsts more) - 1 }) (up_to end (firsts more)) x (le, omega (arith, in-it))
        ∙ ⊎_elim
        (λ (inside : x ≤ s.high). same-over s (begin_of end (firsts more) - 1) x ∙ sym (here s more x (le, inside)))
        (λ (past : s.high < x). over-low (record s { high = begin_of end (firsts more) - 1 }) x (λ is. absurd (omega (arith, past, is, order, low)))
        ∙ sym (from (omega (arith, past)) in-it) ∙ sym (behind s more x (λ (i : IsInSegment x s). let b = i.1 in absurd (omega (arith, b, past)))))
        (le_or_lt x s.high))
        (λ (out : begin_of end (firsts more) ≤ x). behind (record s { high = begin_of end (firsts more) - 1 }) (up_to end (firsts more)) x (λ i. let b = i.1 in absurd (omega (arith, b, out, up)))
        ∙ rest out lt ∙ sym (behind s more x (λ (i : IsInSegment x s). let b = i.1 in absurd (omega (arith, b, out, up)))))
        (lt_or_le x (begin_of end (firsts more)))

pub maximal-parents : (end x : ℕ) (records : List Segment) → AllByRecursion IsFlat records → Follow 0 end records → x < end → parents_at (maximal end records) x ≡ parents_at records x
maximal-parents end x records flat h lt = let first = maximal-begins end records flat h in same-parents 0 end records x h (omega (arith, first)) lt

pub maximal-ids : (end : ℕ) (records : List Segment) → AllByRecursion IsFlat records → Follow 0 end records → Follow 0 end (maximal end records)
maximal-ids end records flat h =
    subst (λ (n : ℕ). Follow n end (maximal end records)) (maximal-begins end records flat h)
    (rise-follow end (firsts records) (rise-filter begins end records (follow-rise 0 end records h)))

up_to-apart : (end : ℕ) (xs : List Segment) → AllByRecursion (λ (s : Segment). goes_on s ≡ false) xs → AllByRecursion (λ (s : Segment). goes_on s ≡ false) (up_to end xs)
up_to-apart end [] h = tt
up_to-apart end (s ∷ more) h = (h.0, up_to-apart end more h.1)

firsts-apart : (xs : List Segment) → AllByRecursion (λ (s : Segment). goes_on s ≡ false) (firsts xs)
firsts-apart [] = tt
firsts-apart (s ∷ more) = go (goes_on s) refl (firsts-apart more)
  where
    go : (b : Bool) → goes_on s ≡ b → AllByRecursion (λ (s : Segment). goes_on s ≡ false) (firsts more) → AllByRecursion (λ (s : Segment). goes_on s ≡ false) (cond (not b) (s ∷ firsts more) (firsts more))
    go true e rest = rest
    go false e rest = (e, rest)

pub maximal-apart : (end : ℕ) (records : List Segment) → AllByRecursion (λ (s : Segment). goes_on s ≡ false) (maximal end records)
maximal-apart end records = up_to-apart end (firsts records) (firsts-apart records)

-- ---- cut

pub cut-none : (below first end : ℕ) (xs : List Segment) → Follow first end xs → below ≤ first → cut below xs ≡ []
cut-none below first end [] h le = refl
cut-none below first end (s ∷ more) h le = go (nat_lt s.low below) refl (λ a. cut-none below (s.high + 1) end more h.2 a)
  where
    go : (b : Bool) → nat_lt s.low below ≡ b → (below ≤ s.high + 1 → cut below more ≡ []) → cond b (record s { high = min s.high (below - 1) } ∷ cut below more) (cut below more) ≡ []
    go true e rest = let lt = ltb-true s.low below e in let low = h.0 in absurd (omega (arith, lt, low, le))
    go false e rest = let order = h.1 in rest (omega (arith, order, le))

pub cut-ids : (below first end : ℕ) (xs : List Segment) → Follow first end xs → first ≤ below → below ≤ end → Follow first below (cut below xs)
cut-ids below first end [] h le most = omega (arith, h, le, most)
cut-ids below first end (s ∷ more) h le most =
    go (nat_lt s.low below) refl (cut-ids below (s.high + 1) end more h.2) (cut-none below (s.high + 1) end more h.2) (cut-none below (s.high + 1) end more h.2)
  where
    go : (b : Bool) → nat_lt s.low below ≡ b → (s.high + 1 ≤ below → below ≤ end → Follow (s.high + 1) below (cut below more))
        → (below ≤ s.high + 1 → cut below more ≡ []) → (below ≤ s.high + 1 → cut below more ≡ [])
        → Follow first below (cond b (record s { high = min s.high (below - 1) } ∷ cut below more) (cut below more))
    go false e rest none none2 =
        let ge = ltb-false s.low below e in let low = h.0 in let order = h.1 in
        subst (λ (z : List Segment). Follow first below z) (sym (none (omega (arith, ge, low, order, le)))) (omega (arith, ge, low, le))
    go true e rest none none2 =
        let lt = ltb-true s.low below e in let low = h.0 in let order = h.1 in
        ⊎_elim
        (λ (inside : s.high + 1 ≤ below).
        let high : min s.high (below - 1) + 1 ≡ s.high + 1 = omega (arith, inside) in
        (low, omega (arith, inside, order), subst (λ (n : ℕ). Follow n below (cut below more)) (sym high) (rest inside most)))
        (λ (out : below < s.high + 1).
        let high : min s.high (below - 1) + 1 ≡ below = omega (arith, out, lt) in
        (low, omega (arith, out, lt, low), subst (λ (z : List Segment). Follow (min s.high (below - 1) + 1) below z) (sym (none (omega (arith, out)))) high))
        (le_or_lt (s.high + 1) below)

pub cut-parents : (below first end x : ℕ) (xs : List Segment) → Follow first end xs → x < below → parents_at (cut below xs) x ≡ parents_at xs x
cut-parents below first end x [] h lt = refl
cut-parents below first end x (s ∷ more) h lt = go (nat_lt s.low below) refl (cut-parents below (s.high + 1) end x more h.2 lt)
  where
    go : (b : Bool) → nat_lt s.low below ≡ b → parents_at (cut below more) x ≡ parents_at more x
        → parents_at (cond b (record s { high = min s.high (below - 1) } ∷ cut below more) (cut below more)) x ≡ parents_at (s ∷ more) x
    go false e rest =
        let ge = ltb-false s.low below e in
        rest ∙ sym (behind s more x (λ (i : IsInSegment x s). let a = i.0 in absurd (omega (arith, a, ge, lt))))
    go true e rest =
        ⊎_elim
        (λ (under : x < s.low). behind (record s { high = min s.high (below - 1) }) (cut below more) x (λ i. let a = i.0 in absurd (omega (arith, a, under)))
        ∙ rest ∙ sym (behind s more x (λ (i : IsInSegment x s). let a = i.0 in absurd (omega (arith, a, under)))))
        (λ (over : s.low ≤ x).
        ⊎_elim
        (λ (inside : x ≤ s.high). here (record s { high = min s.high (below - 1) }) (cut below more) x (over, omega (arith, inside, lt)) ∙ sym (here s more x (over, inside)))
        (λ (past : s.high < x). behind (record s { high = min s.high (below - 1) }) (cut below more) x (λ i. let b = i.1 in absurd (omega (arith, b, past)))
        ∙ rest ∙ sym (behind s more x (λ (i : IsInSegment x s). let b = i.1 in absurd (omega (arith, b, past)))))
        (le_or_lt x s.high))
        (⊎_elim (λ a. inr a) (λ a. inl a) (le_or_lt s.low x))
