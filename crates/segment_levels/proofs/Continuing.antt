-- Flat segments of ids to which more are added: what is complete stays.
use Rattle.std.proofs.Common.{◌≡◌, ℕ, suc, ◌+◌, ◌-◌, length, take, arith, Bool, true, false, cond, List, [], ◌∷◌, ◌++◌, refl, sym, subst, ap, ap₂, ◌∙◌}
use Rattle.segment_codec.specs.Record.{Segment}
use Rattle.segment_codec.specs.Turns.{is_only}
use Rattle.segment_rules.specs.Flat.{single, with_id, flat_segments_of}
use Rattle.segment_rules.specs.Levels.{complete}
use Rattle.segment_levels.specs.Whole.{Grows}

-- the parents of the first segment
abbrev Begins : List ℕ → List Segment → Type 0
Begins parents [] = ⊥
Begins parents (s ∷ more) = s.parents ≡ parents

begins-case : (b : Bool) (id : ℕ) (parents : List ℕ) (next : Segment) (more : List Segment)
    → Begins parents (cond b (record { low = id; high = next.high; level = 0; parents = parents } ∷ more) (single id parents ∷ next ∷ more))
begins-case true id parents next more = refl
begins-case false id parents next more = refl

begins-with : (id : ℕ) (parents : List ℕ) (xs : List Segment) → Begins parents (with_id id parents xs)
begins-with id parents [] = refl
begins-with id parents (next ∷ more) = begins-case (is_only id next.parents) id parents next more

abbrev first-or : Segment → List Segment → Segment
first-or d [] = d
first-or d (s ∷ more) = s

abbrev behind-first : List Segment → List Segment
behind-first [] = []
behind-first (s ∷ more) = more

first-same : (a b : Segment) (xs ys : List Segment) → a ∷ xs ≡ b ∷ ys → a ≡ b
first-same a b xs ys e = ap (first-or a) e

behind-same : (a b : Segment) (xs ys : List Segment) → a ∷ xs ≡ b ∷ ys → xs ≡ ys
behind-same a b xs ys e = ap behind-first e

-- the complete ones of two and more, and none of one
complete-more : (s t : Segment) (more : List Segment) → complete (s ∷ t ∷ more) ≡ s ∷ complete (t ∷ more)
complete-more s t more =
    let long : length (s ∷ t ∷ more) - 1 ≡ suc (length more) = omega arith in
    let short : length (t ∷ more) - 1 ≡ length more = omega arith in
    ap (λ n. take n (s ∷ t ∷ more)) long ∙ ap (λ n. s ∷ take n (t ∷ more)) (sym short)

complete-one : (s : Segment) → complete (s ∷ []) ≡ []
complete-one s = refl

none-first : (s : Segment) (xs ys : List Segment) → xs ≡ [] → xs ≡ s ∷ ys → ⊥
none-first s xs ys e f = none (sym e ∙ f)
  where
    none : [] ≡ s ∷ ys → ⊥
    none g = cc

-- a longer first segment
longer : (id : ℕ) (parents : List ℕ) (a b : Segment) (olds news : List Segment) → Grows (a ∷ olds) (b ∷ news)
    → Grows (record { low = id; high = a.high; level = 0; parents = parents } ∷ olds) (record { low = id; high = b.high; level = 0; parents = parents } ∷ news)
longer id parents a b [] news g = record { more = complete (record { low = id; high = b.high; level = 0; parents = parents } ∷ news); is = refl }
longer id parents a b (o ∷ olds) [] g =
    absurd (none-first a (complete (b ∷ [])) (complete (o ∷ olds) ++ g.more) (complete-one b) (g.is ∙ ap (λ z. z ++ g.more) (complete-more a o olds)))
longer id parents a b (o ∷ olds) (n ∷ news) g =
    let e : b ∷ complete (n ∷ news) ≡ a ∷ (complete (o ∷ olds) ++ g.more) = sym (complete-more b n news) ∙ g.is ∙ ap (λ z. z ++ g.more) (complete-more a o olds) in
    let left : Segment = record { low = id; high = a.high; level = 0; parents = parents } in
    let right : Segment = record { low = id; high = b.high; level = 0; parents = parents } in
    record {
      more = g.more;
      is =
          complete-more right n news
          ∙ ap₂ {C = List Segment} (λ (h : ℕ) (z : List Segment). (let s : Segment = record { low = id; high = h; level = 0; parents = parents } in s) ∷ z)
          (ap (λ (s : Segment). s.high) (first-same b a (complete (n ∷ news)) (complete (o ∷ olds) ++ g.more) e))
          (behind-same b a (complete (n ∷ news)) (complete (o ∷ olds) ++ g.more) e)
          ∙ ap (λ z. z ++ g.more) (sym (complete-more left o olds));
    }

-- one id more in front of both
with-front : (b : Bool) (id : ℕ) (parents : List ℕ) (s t : Segment) (olds news : List Segment) → Grows (s ∷ olds) (t ∷ news)
    → Grows (cond b (record { low = id; high = s.high; level = 0; parents = parents } ∷ olds) (single id parents ∷ s ∷ olds))
    (cond b (record { low = id; high = t.high; level = 0; parents = parents } ∷ news) (single id parents ∷ t ∷ news))
with-front true id parents s t olds news g = longer id parents s t olds news g
with-front false id parents s t olds news g = record {
  more = g.more;
  is = complete-more (single id parents) t news ∙ ap (λ z. single id parents ∷ z) g.is ∙ ap (λ z. z ++ g.more) (sym (complete-more (single id parents) s olds));
}

with-more : (id : ℕ) (parents next : List ℕ) (olds news : List Segment) → Begins next olds → Begins next news → Grows olds news → Grows (with_id id parents olds) (with_id id parents news)
with-more id parents next [] news h k g = absurd h
with-more id parents next (s ∷ olds) [] h k g = absurd k
with-more id parents next (s ∷ olds) (t ∷ news) h k g =
    let same : is_only id t.parents ≡ is_only id s.parents = ap (is_only id) (k ∙ sym h) in
    subst (λ c. Grows (with_id id parents (s ∷ olds)) (cond c (record { low = id; high = t.high; level = 0; parents = parents } ∷ news) (single id parents ∷ t ∷ news))) (sym same)
    (with-front (is_only id s.parents) id parents s t olds news g)

-- the flat segments of ids, and of these with more behind them
pub flats-grow : (first : ℕ) (parents more : List (List ℕ)) → Grows (flat_segments_of first parents) (flat_segments_of first (parents ++ more))
flats-grow first [] more = record { more = complete (flat_segments_of first more); is = refl }
flats-grow first (p ∷ []) more = record { more = complete (flat_segments_of first (p ∷ more)); is = refl }
flats-grow first (p ∷ q ∷ parents) more =
    with-more first p q (flat_segments_of (first + 1) (q ∷ parents)) (flat_segments_of (first + 1) (q ∷ (parents ++ more)))
    (begins-with (first + 1) q (flat_segments_of (first + 1 + 1) parents)) (begins-with (first + 1) q (flat_segments_of (first + 1 + 1) (parents ++ more)))
    (flats-grow (first + 1) (q ∷ parents) more)
