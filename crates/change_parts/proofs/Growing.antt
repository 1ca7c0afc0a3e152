-- Flat segments, one id after another.
use Rattle.std.proofs.Common.{◌≡◌, ◌<◌, ℕ, zero, suc, ◌+◌, ◌^◌, Bool, true, false, List, [], ◌∷◌, ◌++◌, length, map, take, drop, get_or, refl, sym, ap, subst, ◌∙◌, if◌then◌else◌, append-nil, append_assoc, arith, nat_eq}
use Rattle.std.specs.Cmp.Lexicographic.{pointwise}
use Rattle.std.proofs.lemmas.List.{take_more, map-append, length-map, length-take-le, take-append-drop}
use Rattle.std.specs.List.{AllByRecursion}
use Rattle.id_groups.specs.Id.{other_id}
use Rattle.segment_codec.specs.Record.{Segment}
use Rattle.segment_codec.specs.Table.{IsLawful, parents_at}
use Rattle.segment_codec.proofs.Tables.{parent-below}
use Rattle.commit_graph.proofs.Naming.{all-each}
use Rattle.change_parts.specs.Flat.{Span, single_span, with_id_span, flat_segments}
use Rattle.change_parts.specs.Moves.{grown}

pub any-default : {X : Type 0} (xs : List X) (i : ℕ) (a b : X) → i < length xs → get_or xs i a ≡ get_or xs i b
any-default [] i a b lt = absurd (omega (arith, lt))
any-default (x ∷ xs) zero a b lt = refl
any-default (x ∷ xs) (suc i) a b lt = any-default xs i a b (omega (arith, lt))

ending : Span → ℕ → Span
ending s id = record { low = s.low; high = id; parents = s.parents }

-- The segments of one id more are those with it behind them.

with-first : (id : ℕ) (ps : List ℕ) (r : Span) (more : List Span) (b : Bool) → pointwise nat_eq r.parents (id ∷ []) ≡ b
    → with_id_span id ps (r ∷ more) ≡ (if b then record { low = id; high = r.high; parents = ps } ∷ more else single_span id ps ∷ r ∷ more)
with-first id ps r more b e = ap (λ z. if z then record { low = id; high = r.high; parents = ps } ∷ more else single_span id ps ∷ r ∷ more) e

grown-one : (r : Span) (last : ℕ) (qs : List ℕ) (c : Bool) → pointwise nat_eq qs (r.high ∷ []) ≡ c
    → grown (r ∷ []) last qs ≡ (if c then record { low = r.low; high = last; parents = r.parents } ∷ [] else r ∷ single_span last qs ∷ [])
grown-one r last qs c e = ap (λ z. if z then record { low = r.low; high = last; parents = r.parents } ∷ [] else r ∷ single_span last qs ∷ []) e

-- an id before segments that have one id more behind them
with-grown : (id last : ℕ) (ps qs : List ℕ) (spans : List Span) (r : Span) → grown (with_id_span id ps (r ∷ spans)) last qs ≡ with_id_span id ps (grown (r ∷ spans) last qs)
with-grown id last ps qs [] r = by_test (pointwise nat_eq r.parents (id ∷ [])) (pointwise nat_eq qs (r.high ∷ [])) refl refl
  where
    whole : Span
    whole = record { low = id; high = r.high; parents = ps }

    longer : Span
    longer = record { low = r.low; high = last; parents = r.parents }

    by_test : (b c : Bool) → pointwise nat_eq r.parents (id ∷ []) ≡ b → pointwise nat_eq qs (r.high ∷ []) ≡ c → grown (with_id_span id ps (r ∷ [])) last qs ≡ with_id_span id ps (grown (r ∷ []) last qs)
    by_test true true eb ec = ap (λ l. grown l last qs) (with-first id ps r [] true eb) ∙ grown-one whole last qs true ec
        ∙ sym (ap (with_id_span id ps) (grown-one r last qs true ec) ∙ with-first id ps longer [] true eb)
    by_test true false eb ec = ap (λ l. grown l last qs) (with-first id ps r [] true eb) ∙ grown-one whole last qs false ec
        ∙ sym (ap (with_id_span id ps) (grown-one r last qs false ec) ∙ with-first id ps r (single_span last qs ∷ []) true eb)
    by_test false true eb ec = ap (λ l. grown l last qs) (with-first id ps r [] false eb) ∙ ap (λ l. single_span id ps ∷ l) (grown-one r last qs true ec)
        ∙ sym (ap (with_id_span id ps) (grown-one r last qs true ec) ∙ with-first id ps longer [] false eb)
    by_test false false eb ec = ap (λ l. grown l last qs) (with-first id ps r [] false eb) ∙ ap (λ l. single_span id ps ∷ l) (grown-one r last qs false ec)
        ∙ sym (ap (with_id_span id ps) (grown-one r last qs false ec) ∙ with-first id ps r (single_span last qs ∷ []) false eb)
with-grown id last ps qs (q ∷ more) r = by_test (pointwise nat_eq r.parents (id ∷ []))
  where
    by_test : (b : Bool) → grown (if b then record { low = id; high = r.high; parents = ps } ∷ q ∷ more else single_span id ps ∷ r ∷ q ∷ more) last qs
        ≡ (if b then record { low = id; high = r.high; parents = ps } ∷ grown (q ∷ more) last qs else single_span id ps ∷ r ∷ grown (q ∷ more) last qs)
    by_test true = refl
    by_test false = refl

pub flat-grown : (first last : ℕ) (ps : List (List ℕ)) (q : List ℕ) → last ≡ first + length ps → flat_segments first (ps ++ q ∷ []) ≡ grown (flat_segments first ps) last q
flat-grown first last [] q e = ap (λ n. single_span n q ∷ []) (let f : first ≡ last = omega (arith, e) in f)
flat-grown first last (p ∷ ps) q e =
    ap (with_id_span first p) (flat-grown (first + 1) last ps q (omega (arith, e))) ∙ by_rest (flat_segments (first + 1) ps)
  where
    by_rest : (spans : List Span) → with_id_span first p (grown spans last q) ≡ grown (with_id_span first p spans) last q
    by_rest [] = refl
    by_rest (r ∷ spans) = sym (with-grown first last p q spans r)

-- the segments of one number more
pub runs-next : (first last : ℕ) (f : ℕ → List ℕ) (numbers : List ℕ) (i : ℕ) (runs : List Span) → i < length numbers → last ≡ first + i
    → runs ≡ flat_segments first (map f (take i numbers)) → grown runs last (f (get_or numbers i 0)) ≡ flat_segments first (map f (take (i + 1) numbers))
runs-next first last f numbers i runs lt e h =
    ap (λ l. grown l last (f (get_or numbers i 0))) h
    ∙ sym (ap (λ l. flat_segments first (map f l)) (take_more numbers i 0 lt)
    ∙ ap (flat_segments first) (map-append f (take i numbers) (get_or numbers i 0 ∷ []))
    ∙ flat-grown first last (map f (take i numbers)) (f (get_or numbers i 0)) (let a = length-map (take i numbers) f in let b = length-take-le i numbers (let l = lt in omega (arith, l)) in omega (arith, a, b, e)))

pub below-parents : (flats : List Segment) → IsLawful flats → (k n : ℕ) → k < n → AllByRecursion (λ p. p < 2 ^ 56 + n) (parents_at flats (other_id k))
below-parents flats lawful k n lt = all-each (λ p. p < 2 ^ 56 + n) (parents_at flats (other_id k)) (λ p i. let b = (parent-below flats lawful (other_id k) p i).0 in omega (arith, b, lt))

-- The last of the segments goes on by an id, or another begins behind it.
pub grown-on : (done : List Span) (s : Span) (id : ℕ) (ps : List ℕ) → pointwise nat_eq ps (s.high ∷ []) ≡ true → grown (done ++ s ∷ []) id ps ≡ done ++ record { low = s.low; high = id; parents = s.parents } ∷ []
grown-on [] s id ps e = grown-one s id ps true e
grown-on (r ∷ []) s id ps e = ap (λ l. r ∷ l) (grown-one s id ps true e)
grown-on (r ∷ t ∷ done) s id ps e = ap (λ l. r ∷ l) (grown-on (t ∷ done) s id ps e)

pub grown-off : (done : List Span) (s : Span) (id : ℕ) (ps : List ℕ) → pointwise nat_eq ps (s.high ∷ []) ≡ false → grown (done ++ s ∷ []) id ps ≡ (done ++ s ∷ []) ++ single_span id ps ∷ []
grown-off [] s id ps e = grown-one s id ps false e
grown-off (r ∷ []) s id ps e = ap (λ l. r ∷ l) (grown-one s id ps false e)
grown-off (r ∷ t ∷ done) s id ps e = ap (λ l. r ∷ l) (grown-off (t ∷ done) s id ps e)

-- segments before the last stay whatever comes behind
grown-behind : (done : List Span) (t : Span) (tail : List Span) (last : ℕ) (q : List ℕ) → (u : Span) × (us : List Span) × (grown (done ++ t ∷ tail) last q ≡ done ++ u ∷ us)
grown-behind [] t [] last q = by_test (pointwise nat_eq q (t.high ∷ [])) refl
  where
    by_test : (b : Bool) → pointwise nat_eq q (t.high ∷ []) ≡ b → (u : Span) × (us : List Span) × (grown (t ∷ []) last q ≡ u ∷ us)
    by_test true e = (record { low = t.low; high = last; parents = t.parents }, [], grown-one t last q true e)
    by_test false e = (t, single_span last q ∷ [], grown-one t last q false e)
grown-behind [] t (v ∷ tail) last q = (t, grown (v ∷ tail) last q, refl)
grown-behind (r ∷ []) t tail last q = let g = grown-behind [] t tail last q in (g.0, g.1, ap (λ l. r ∷ l) g.2)
grown-behind (r ∷ s ∷ done) t tail last q = let g = grown-behind (s ∷ done) t tail last q in (g.0, g.1, ap (λ l. r ∷ l) g.2)

stays-front : (more : List (List ℕ)) (first : ℕ) (ps : List (List ℕ)) (done : List Span) (t : Span) (tail : List Span) → flat_segments first ps ≡ done ++ t ∷ tail
    → (u : Span) × (us : List Span) × (flat_segments first (ps ++ more) ≡ done ++ u ∷ us)
stays-front [] first ps done t tail e = (t, tail, ap (flat_segments first) (append-nil ps) ∙ e)
stays-front (q ∷ more) first ps done t tail e =
    let g = grown-behind done t tail (first + length ps) q in
    let r = stays-front more first (ps ++ q ∷ []) done g.0 g.1 (flat-grown first (first + length ps) ps q refl ∙ ap (λ l. grown l (first + length ps) q) e ∙ g.2) in
    (r.0, r.1, ap (flat_segments first) (sym (append_assoc ps (q ∷ []) more)) ∙ r.2)

pub in-front : (P : Span → Type 0) (done : List Span) (s : Span) (xs : List Span) → AllByRecursion P ((done ++ s ∷ []) ++ xs) → P s
in-front P [] s xs h = h.0
in-front P (r ∷ done) s xs h = in-front P done s xs h.1

pub last-in : (P : Span → Type 0) (done : List Span) (s : Span) → AllByRecursion P (done ++ s ∷ []) → P s
last-in P [] s h = h.0
last-in P (r ∷ done) s h = last-in P done s h.1

-- a segment from which the next number doesn't go on is one of all
pub run-segment : (P : Span → Type 0) (first : ℕ) (f : ℕ → List ℕ) (numbers : List ℕ) (i : ℕ) (done : List Span) (run : Span) → i < length numbers
    → flat_segments first (map f (take i numbers)) ≡ done ++ run ∷ [] → pointwise nat_eq (f (get_or numbers i 0)) (run.high ∷ []) ≡ false
    → AllByRecursion P (flat_segments first (map f numbers)) → P run
run-segment P first f numbers i done run lt e test all =
    let next = sym (runs-next first (first + i) f numbers i (flat_segments first (map f (take i numbers))) lt refl refl)
    ∙ ap (λ l. grown l (first + i) (f (get_or numbers i 0))) e ∙ grown-off done run (first + i) (f (get_or numbers i 0)) test in
    let r = stays-front (map f (drop (i + 1) numbers)) first (map f (take (i + 1) numbers)) (done ++ run ∷ []) (single_span (first + i) (f (get_or numbers i 0))) [] next in
    let whole = sym (map-append f (take (i + 1) numbers) (drop (i + 1) numbers)) ∙ ap (map f) (take-append-drop (i + 1) numbers) in
    in-front P done run (r.0 ∷ r.1) (subst (AllByRecursion P) (sym (ap (flat_segments first) whole) ∙ r.2) all)

pub first-run : (first : ℕ) (f : ℕ → List ℕ) (numbers : List ℕ) → 0 < length numbers → flat_segments first (map f (take 1 numbers)) ≡ single_span first (f (get_or numbers 0 0)) ∷ []
first-run first f [] lt = absurd (omega (arith, lt))
first-run first f (k ∷ ks) lt = refl
