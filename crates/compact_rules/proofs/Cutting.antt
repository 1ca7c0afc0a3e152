-- Segments cut at an id: of a group's beginning and of the whole group they are the same, and what is known of them is known of those.
use Rattle.std.proofs.Common.{◌≡◌, ◌≤◌, ◌+◌, ◌-◌, ◌&&◌, ◌||◌, not, ℕ, zero, suc, Bool, true, false, List, [], ◌∷◌, ◌++◌, length, map, filter, flat_map, take, drop, min, nat_eq, nat_lt, refl, sym, ap, ap₂, ◌∙◌, arith, append_assoc, append-nil, length-append, zero-le, if◌then◌else◌}
use Rattle.std.specs.List.{AllByRecursion}
use Rattle.std.proofs.lemmas.Bool.{ltb-true, ltb-false, le-ltb, ne_eqb}
use Rattle.std.proofs.lemmas.List.{take-append-drop, length-take-le}
use Rattle.std.proofs.lemmas.List.Elements.{filter-append}
use Rattle.id_groups.specs.Lists.{IsIn, is_in}
use Rattle.commit_graph.proofs.Histories.{in-all}
use Rattle.segment_codec.specs.Record.{Segment}
use Rattle.segment_codec.specs.Table.{Follow}
use Rattle.segment_rules.specs.Flat.{flat_segments_of, followers, segment_parents, parents_listed}
use Rattle.batch_codec.specs.Payload.{Known}
use Rattle.batch_codec.specs.Grammar.{AreMaximal, KnowsCloned, merge_parents, cut_below, heads_among}
use Rattle.batch_codec.proofs.Knowing.{KnowsEnds}
use Rattle.change_rules.proofs.Again.{made-again}
use Rattle.change_rules.proofs.Agreeing.{flat-cut}
use Rattle.change_rules.proofs.Cloned.{all-in}
use Rattle.compact_rules.proofs.Lists.{filter-none}

-- ---- the same ids

followers-long : (id n : ℕ) → length (followers id n) ≡ n
followers-long id zero = refl
followers-long id (suc n) = ap suc (followers-long (id + 1) n)

listed-long : (first end : ℕ) (ss : List Segment) → Follow first end ss → first + length (parents_listed ss) ≡ end
listed-long first end [] f = (let e : first ≡ end = f in omega (arith, e))
listed-long first end (s ∷ ss) f =
    let low = f.0 in let up = f.1 in
    let all = length-append (segment_parents s) (parents_listed ss) in
    let few : length (segment_parents s) ≡ suc (s.high - s.low) = ap suc (followers-long s.low (s.high - s.low)) in
    let rest = listed-long (s.high + 1) end ss f.2 in
    omega (arith, low, up, all, few, rest)

cut-front : (c : ℕ) (xs ys : List (List ℕ)) → length xs ≡ c → cut_below c (flat_segments_of 0 (xs ++ ys)) ≡ flat_segments_of 0 xs
cut-front c xs ys e =
    let at : c ≡ 0 + length xs = omega (arith, e) in
    ap (λ n. cut_below n (flat_segments_of 0 (xs ++ ys))) at ∙ flat-cut 0 xs ys

-- of parents that fall in two parts
cut-parts : (c : ℕ) (xs ys ps more : List (List ℕ)) (ss : List Segment) → xs ++ ys ≡ ps → length xs ≡ c → flat_segments_of 0 ps ≡ ss → cut_below c (flat_segments_of 0 (ps ++ more)) ≡ cut_below c ss
cut-parts c xs ys ps more ss e size made =
    ap (λ l. cut_below c (flat_segments_of 0 l)) (ap (λ l. l ++ more) (sym e) ∙ append_assoc xs ys more)
    ∙ cut-front c xs (ys ++ more) size
    ∙ sym (ap (cut_below c) (sym made) ∙ ap (λ l. cut_below c (flat_segments_of 0 l)) (sym e) ∙ cut-front c xs ys size)

-- maximal segments, and those of a group that begins with their ids
pub cut-same : (c end : ℕ) (ss : List Segment) (more : List (List ℕ)) → Follow 0 end ss → AllByRecursion (λ (s : Segment). s.level ≡ 0) ss → AreMaximal ss → c ≤ end
    → cut_below c (flat_segments_of 0 (parents_listed ss ++ more)) ≡ cut_below c ss
cut-same c end ss more f flat max le =
    cut-parts c (take c (parents_listed ss)) (drop c (parents_listed ss)) (parents_listed ss) more ss (take-append-drop c (parents_listed ss))
    (length-take-le c (parents_listed ss) (let e = listed-long 0 end ss f in omega (arith, e, le))) (made-again 0 end ss f flat max)

-- ---- what is known of them

pub cut-none : (ss : List Segment) → cut_below 0 ss ≡ []
cut-none [] = refl
cut-none (s ∷ ss) = ap (λ b. if b then record s { high = min s.high (0 - 1) } ∷ cut_below 0 ss else cut_below 0 ss) (le-ltb s.low 0 zero-le) ∙ cut-none ss

pub cut-ends : (c : ℕ) (ids : List ℕ) (ss : List Segment) → AllByRecursion (KnowsCloned c ids) ss → KnowsEnds ids (cut_below c ss)
cut-ends c ids [] h = tt
cut-ends c ids (s ∷ ss) h = by_place (nat_lt s.low c) refl (cut-ends c ids ss h.1)
  where
    by_place : (b : Bool) → nat_lt s.low c ≡ b → KnowsEnds ids (cut_below c ss) → KnowsEnds ids (if b then record s { high = min s.high (c - 1) } ∷ cut_below c ss else cut_below c ss)
    by_place true e r = (h.0 (ltb-true s.low c e), r)
    by_place false e r = r

pub ends-cut : (c : ℕ) (ids : List ℕ) (ss : List Segment) → KnowsEnds ids (cut_below c ss) → AllByRecursion (KnowsCloned c ids) ss
ends-cut c ids [] h = tt
ends-cut c ids (s ∷ ss) h = by_place (nat_lt s.low c) refl h (ends-cut c ids ss)
  where
    by_place : (b : Bool) → nat_lt s.low c ≡ b → KnowsEnds ids (if b then record s { high = min s.high (c - 1) } ∷ cut_below c ss else cut_below c ss)
        → (KnowsEnds ids (cut_below c ss) → AllByRecursion (KnowsCloned c ids) ss) → AllByRecursion (KnowsCloned c ids) (s ∷ ss)
    by_place true e g rec = ((λ lt. g.0), rec g.1)
    by_place false e g rec = ((λ lt. absurd (let le = ltb-false s.low c e in omega (arith, le, lt))), rec g)

-- where more is known
pub ends-wider : (ids more : List ℕ) → ((id : ℕ) → IsIn id ids → IsIn id more) → (ss : List Segment) → KnowsEnds ids ss → KnowsEnds more ss
ends-wider ids more f [] h = tt
ends-wider ids more f (s ∷ ss) h =
    ((f s.high h.0.0, all-in (merge_parents s.parents) more (λ p i. f p (in-all p (merge_parents s.parents) ids i h.0.1))), ends-wider ids more f ss h.1)

-- ---- their heads

cut-apart : (c x : ℕ) (ss : List Segment) → c ≤ x → is_in nat_eq x (map (λ (s : Segment). s.high) (cut_below c ss)) ≡ false
cut-apart c x [] le = refl
cut-apart c x (s ∷ ss) le = by_place (nat_lt s.low c) refl (cut-apart c x ss le)
  where
    by_place : (b : Bool) → nat_lt s.low c ≡ b → is_in nat_eq x (map (λ (s : Segment). s.high) (cut_below c ss)) ≡ false
        → is_in nat_eq x (map (λ (s : Segment). s.high) (if b then record s { high = min s.high (c - 1) } ∷ cut_below c ss else cut_below c ss)) ≡ false
    by_place true e r =
        let lt = ltb-true s.low c e in
        ap₂ (λ a b. a || b) (ne_eqb x (min s.high (c - 1)) (λ g. absurd (omega (arith, g, lt, le)))) r
    by_place false e r = r

-- names of ids that weren't cut off are no heads
heads-all : (head : Known → Bool) (ks more : List Known) → ((k : Known) → IsIn k more → head k ≡ false) → map (λ (k : Known). k.name) (filter head (ks ++ more)) ≡ map (λ (k : Known). k.name) (filter head ks)
heads-all head ks more h =
    ap (map (λ (k : Known). k.name)) (filter-append head ks more ∙ ap (λ l. filter head ks ++ l) (filter-none head more h) ∙ append-nil (filter head ks))

pub heads-more : (c : ℕ) (ss : List Segment) (ks more : List Known) → ((k : Known) → IsIn k more → c ≤ k.id) → heads_among (cut_below c ss) (ks ++ more) ≡ heads_among (cut_below c ss) ks
heads-more c ss ks more h =
    heads-all (λ (k : Known). is_in nat_eq k.id (map (λ (s : Segment). s.high) (cut_below c ss)) && not (is_in nat_eq k.id (flat_map (λ (s : Segment). s.parents) (cut_below c ss)))) ks more
    (λ k i. ap (λ b. b && not (is_in nat_eq k.id (flat_map (λ (s : Segment). s.parents) (cut_below c ss)))) (cut-apart c k.id ss (h k i)))

-- where nothing is left, no name is a head
pub heads-none : (ks : List Known) → heads_among [] ks ≡ []
heads-none ks = ap (map (λ (k : Known). k.name)) (filter-none (λ (k : Known). false && not (is_in nat_eq k.id [])) ks (λ k i. refl))
