-- Flat segments are made again of the parents that they list.
use Rattle.std.proofs.Common.{◌≡◌, ◌≢◌, ◌≤◌, ℕ, zero, suc, ◌+◌, ◌-◌, false, List, [], ◌∷◌, ◌++◌, refl, sym, ap, subst, ◌∙◌, if◌then◌else◌, arith}
use Rattle.std.specs.List.{AllByRecursion}
use Rattle.std.proofs.lemmas.Bool.{eq-eqb, false_from_ne_true}
use Rattle.segment_codec.specs.Record.{Segment}
use Rattle.segment_codec.specs.Table.{Follow}
use Rattle.segment_codec.specs.Turns.{is_only}
use Rattle.segment_rules.specs.Flat.{single, with_id, flat_segments_of, followers, parents_listed}
use Rattle.segment_rules.proofs.Flats.{only-one}
use Rattle.batch_codec.specs.Grammar.{AreMaximal}

-- the first of these doesn't go on from the id
abbrev IsApart : ℕ → List Segment → Type 0
IsApart id [] = Unit {0}
IsApart id (next ∷ more) = is_only id next.parents ≡ false

begun : (id : ℕ) (parents : List ℕ) (rest : List Segment) → IsApart id rest → with_id id parents rest ≡ single id parents ∷ rest
begun id parents [] h = refl
begun id parents (next ∷ more) h =
    ap (λ b. if b then record { low = id; high = next.high; level = 0; parents = parents } ∷ more else single id parents ∷ next ∷ more) h

one-run : (n id high : ℕ) (parents : List ℕ) (rest : List (List ℕ)) (segments : List Segment) → high ≡ id + n → flat_segments_of (high + 1) rest ≡ segments → IsApart high segments
    → flat_segments_of id (parents ∷ (followers id n ++ rest)) ≡ record { low = id; high = high; level = 0; parents = parents } ∷ segments
one-run zero id high parents rest segments is e apart =
    let same : id ≡ high = omega (arith, is) in
    ap (λ n. with_id id parents (flat_segments_of (n + 1) rest)) same ∙ ap (with_id id parents) e ∙ begun id parents segments (subst (λ n. IsApart n segments) (sym same) apart)
    ∙ ap (λ n. record { low = id; high = n; level = 0; parents = parents } ∷ segments) same
one-run (suc n) id high parents rest segments is e apart =
    ap (with_id id parents) (one-run n (id + 1) high (id ∷ []) rest segments (omega (arith, is)) e apart)
    ∙ ap (λ b. if b then record { low = id; high = high; level = 0; parents = parents } ∷ segments else single id parents ∷ record { low = id + 1; high = high; level = 0; parents = id ∷ [] } ∷ segments) (eq-eqb id id refl)

maximal-behind : (segments : List Segment) → AllByRecursion (λ s. s.parents ≢ (s.low - 1) ∷ []) segments → AreMaximal segments
maximal-behind [] h = tt
maximal-behind (s ∷ more) h = h.1

apart-behind : (high end : ℕ) (segments : List Segment) → Follow (high + 1) end segments → AllByRecursion (λ s. s.parents ≢ (s.low - 1) ∷ []) segments → IsApart high segments
apart-behind high end [] f h = tt
apart-behind high end (s ∷ more) f h =
    let low = f.0 in
    let before : high ≡ s.low - 1 = omega (arith, low) in
    false_from_ne_true (is_only high s.parents) (λ e. h.0 (only-one high s.parents e ∙ ap (λ n. n ∷ []) before))

-- flat segments of which none but the first goes on from the id before it
pub made-again : (first end : ℕ) (segments : List Segment) → Follow first end segments → AllByRecursion (λ (s : Segment). s.level ≡ 0) segments → AreMaximal segments
    → flat_segments_of first (parents_listed segments) ≡ segments
made-again first end [] f flat h = refl
made-again first end (s ∷ more) f flat h =
    let order = subst (λ n. n ≤ s.high) (sym f.0) f.1 in
    ap (λ n. flat_segments_of n (parents_listed (s ∷ more))) (sym f.0)
    ∙ one-run (s.high - s.low) s.low s.high s.parents (parents_listed more) more (omega (arith, order)) (made-again (s.high + 1) end more f.2 flat.1 (maximal-behind more h)) (apart-behind s.high end more f.2 h)
    ∙ ap (λ n. record { low = s.low; high = s.high; level = n; parents = s.parents } ∷ more) (sym flat.0)
