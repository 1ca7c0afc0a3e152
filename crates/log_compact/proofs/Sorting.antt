-- Segments by their groups.
use Rattle.std.proofs.Common.{◌≡◌, ◌<◌, ◌≤◌, ◌+◌, ◌^◌, ◌++◌, ◌∷◌, [], ℕ, List, Bool, true, false, not, cond, filter, nat_lt, take, Some, refl, sym, ap, ap₂, subst₂, ◌∙◌, append_assoc, append-nil, arith}
use Rattle.std.specs.Prelude.{slice_get}
use Rattle.std.specs.List.{AllByRecursion}
use Rattle.std.proofs.lemmas.Bool.{lt-ltb, le-ltb}
use Rattle.std.proofs.lemmas.List.Elements.{filter-append}
use Rattle.segment_codec.specs.Record.{Segment}
use Rattle.segment_codec.specs.Table.{Follow}
use Rattle.batch_codec.specs.Payload.{Payload}
use Rattle.batch_codec.specs.Building.{Building, IsBuilt}
use Rattle.change_parts.proofs.Gathered.{taken-more}
use Rattle.log_compact.specs.Sections.{masters_in, others_in}

-- a number below another is so by test, and one above isn't
is-below : (n m : ℕ) → n < m → nat_lt n m ≡ true
is-below n m lt = lt-ltb n m lt

is-above : (n m : ℕ) → m ≤ n → nat_lt n m ≡ false
is-above n m le = le-ltb n m le

-- one segment more of those that were gone over
sorted-more : (test : Segment → Bool) (front ss : List Segment) (i : ℕ) (s : Segment) → slice_get ss i ≡ Some s
    → (front ++ filter test (take i ss)) ++ filter test (s ∷ []) ≡ front ++ filter test (take (i + 1) ss)
sorted-more test front ss i s e =
    append_assoc front (filter test (take i ss)) (filter test (s ∷ []))
    ∙ ap (λ l. front ++ l) (sym (filter-append test (take i ss) (s ∷ [])) ∙ ap (filter test) (taken-more ss i s e))

pub built-more : (b : Building) (p : Payload) (ss : List Segment) (i : ℕ) (s : Segment) → slice_get ss i ≡ Some s
    → IsBuilt b (record p { master = (p.master ++ masters_in (take i ss)) ++ masters_in (s ∷ []); others = (p.others ++ others_in (take i ss)) ++ others_in (s ∷ []) })
    → IsBuilt b (record p { master = p.master ++ masters_in (take (i + 1) ss); others = p.others ++ others_in (take (i + 1) ss) })
built-more b p ss i s e is =
    subst₂ (λ m o. IsBuilt b (record p { master = m; others = o }))
    (sorted-more (λ (t : Segment). nat_lt t.low (2 ^ 56)) p.master ss i s e) (sorted-more (λ (t : Segment). not (nat_lt t.low (2 ^ 56))) p.others ss i s e) is

-- ---- the segments of a world

all-kept : (test : Segment → Bool) (ss : List Segment) → AllByRecursion (λ s. test s ≡ true) ss → filter test ss ≡ ss
all-kept test [] h = refl
all-kept test (s ∷ ss) h = ap (λ b. cond b (s ∷ filter test ss) (filter test ss)) h.0 ∙ ap (λ l. s ∷ l) (all-kept test ss h.1)

none-kept : (test : Segment → Bool) (ss : List Segment) → AllByRecursion (λ s. test s ≡ false) ss → filter test ss ≡ []
none-kept test [] h = refl
none-kept test (s ∷ ss) h = ap (λ b. cond b (s ∷ filter test ss) (filter test ss)) h.0 ∙ none-kept test ss h.1

-- segments that follow one another up to an end lie below it, and from the first on
below-end : (first end : ℕ) (ss : List Segment) → Follow first end ss → first ≤ end
below-end first end [] h = omega (arith, h)
below-end first end (s ∷ ss) h = let a = h.1 in let b = below-end (s.high + 1) end ss h.2 in omega (arith, a, b)

masters-low : (first end : ℕ) (ss : List Segment) → Follow first end ss → end ≤ 2 ^ 56 → AllByRecursion (λ (s : Segment). nat_lt s.low (2 ^ 56) ≡ true) ss
masters-low first end [] h le = tt
masters-low first end (s ∷ ss) h le =
    let a = h.0 in let b = h.1 in let c = below-end (s.high + 1) end ss h.2 in
    (is-below s.low (2 ^ 56) (omega (arith, a, b, c, le)), masters-low (s.high + 1) end ss h.2 le)

others-high : (first end : ℕ) (ss : List Segment) → Follow first end ss → 2 ^ 56 ≤ first → AllByRecursion (λ (s : Segment). nat_lt s.low (2 ^ 56) ≡ false) ss
others-high first end [] h le = tt
others-high first end (s ∷ ss) h le =
    let a = h.0 in let b = h.1 in
    (is-above s.low (2 ^ 56) (omega (arith, a, le)), others-high (s.high + 1) end ss h.2 (omega (arith, b, le)))

by-not : (ss : List Segment) (b : Bool) → AllByRecursion (λ (s : Segment). nat_lt s.low (2 ^ 56) ≡ b) ss → AllByRecursion (λ (s : Segment). not (nat_lt s.low (2 ^ 56)) ≡ not b) ss
by-not [] b h = tt
by-not (s ∷ ss) b h = (ap not h.0, by-not ss b h.1)

pub masters-first : (end last : ℕ) (ms os : List Segment) → Follow 0 end ms → end ≤ 2 ^ 56 → Follow (2 ^ 56) last os → masters_in (ms ++ os) ≡ ms
masters-first end last ms os f le g =
    let test : Segment → Bool = λ s. nat_lt s.low (2 ^ 56) in
    filter-append test ms os ∙ ap₂ (λ a b. a ++ b) (all-kept test ms (masters-low 0 end ms f le)) (none-kept test os (others-high (2 ^ 56) last os g (omega arith))) ∙ append-nil ms

pub others-last : (end last : ℕ) (ms os : List Segment) → Follow 0 end ms → end ≤ 2 ^ 56 → Follow (2 ^ 56) last os → others_in (ms ++ os) ≡ os
others-last end last ms os f le g =
    let test : Segment → Bool = λ s. not (nat_lt s.low (2 ^ 56)) in
    filter-append test ms os
    ∙ ap₂ (λ a b. a ++ b) (none-kept test ms (by-not ms true (masters-low 0 end ms f le))) (all-kept test os (by-not os false (others-high (2 ^ 56) last os g (omega arith))))
