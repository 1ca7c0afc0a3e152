-- Flat segments of a world reach up as far as ids have no other parent than the one below.
use Rattle.std.proofs.Common.{◌≡◌, ◌≤◌, ◌<◌, ◌+◌, ◌-◌, ℕ, Bool, true, false, inl, inr, List, [], ◌∷◌, ◌++◌, length, map, refl, sym, ap, subst, ◌∙◌, ⊎_elim, arith, le_refl, zero-le, true≢false, nat_eq, if◌then◌else◌}
use Rattle.std.proofs.lemmas.List.{length-map}
use Rattle.id_groups.specs.Lists.{IsIn}
use Rattle.id_groups.specs.Name.{Name, same_name}
use Rattle.commit_graph.specs.World.{Row, World}
use Rattle.commit_graph.specs.Ids.{id_in, parent_ids}
use Rattle.commit_graph.proofs.Down.{in-left}
use Rattle.segment_codec.specs.Record.{Segment}
use Rattle.segment_codec.specs.Table.{Follow, IsInSegment, parents_at, parents_in}
use Rattle.segment_codec.specs.Turns.{is_only}
use Rattle.segment_codec.proofs.Tables.{found-head, found-behind, le_or_lt}
use Rattle.segment_rules.specs.Flat.{single, with_id, flat_segments_of}
use Rattle.payload_tables.proofs.Joined.{front-parents}
use Rattle.payload_tables.proofs.Lists.{same-self}

-- the first of these doesn't go on from the id
abbrev IsBegun : ℕ → List Segment → Type 0
IsBegun id [] = Unit {0}
IsBegun id (next ∷ more) = is_only id next.parents ≡ false

-- none goes on from the one before
abbrev AreApart : List Segment → Type 0
AreApart [] = Unit {0}
AreApart (s ∷ more) = IsBegun s.high more × AreApart more

with-follow : (id end : ℕ) (ps : List ℕ) (ss : List Segment) → Follow (id + 1) end ss → Follow id end (with_id id ps ss)
with-follow id end ps [] h = (refl, le_refl _, h)
with-follow id end ps (next ∷ more) h = by_test (is_only id next.parents)
  where
    by_test : (b : Bool) → Follow id end (if b then record { low = id; high = next.high; level = 0; parents = ps } ∷ more else single id ps ∷ next ∷ more)
    by_test true = (refl, (let o = h.1 in omega (arith, o)), h.2)
    by_test false = (refl, le_refl _, h)

flat-follow : (first end : ℕ) (pss : List (List ℕ)) → first + length pss ≡ end → Follow first end (flat_segments_of first pss)
flat-follow first end [] e = omega (arith, e)
flat-follow first end (ps ∷ pss) e = with-follow first end ps (flat_segments_of (first + 1) pss) (flat-follow (first + 1) end pss (omega (arith, e)))

with-apart : (id : ℕ) (ps : List ℕ) (ss : List Segment) → AreApart ss → AreApart (with_id id ps ss)
with-apart id ps [] h = (tt, tt)
with-apart id ps (next ∷ more) h = by_test (is_only id next.parents) refl
  where
    by_test : (b : Bool) → is_only id next.parents ≡ b → AreApart (if b then record { low = id; high = next.high; level = 0; parents = ps } ∷ more else single id ps ∷ next ∷ more)
    by_test true e = (h.0, h.1)
    by_test false e = (e, h)

flats-apart : (first : ℕ) (pss : List (List ℕ)) → AreApart (flat_segments_of first pss)
flats-apart first [] = tt
flats-apart first (ps ∷ pss) = with-apart first ps (flat_segments_of (first + 1) pss) (flats-apart (first + 1) pss)

abbrev Up : List Segment → ℕ → ℕ → Type 0
Up ss id h = (s : Segment) × IsIn s ss × IsInSegment id s × (h ≤ s.high)

up-to : (first end : ℕ) (ss : List Segment) → Follow first end ss → AreApart ss → (id h : ℕ) → first ≤ id → id ≤ h → h < end → ((x : ℕ) → id < x → x ≤ h → parents_at ss x ≡ (x - 1) ∷ []) → Up ss id h
up-to first end [] f a id h low le lt only = absurd (omega (arith, f, low, le, lt))
up-to first end (s ∷ more) f a id h low le lt only = ⊎_elim
    (λ (out : s.high < id). behind (up-to (s.high + 1) end more f.2 a.1 id h (omega (arith, out)) le lt (λ x over within. sym (past x (omega (arith, out, over))) ∙ only x over within)))
    (λ (inside : id ≤ s.high). ⊎_elim
    (λ (short : s.high < h). absurd (ends more f.2 a.0 (sym (past (s.high + 1) (omega arith)) ∙ only (s.high + 1) (omega (arith, inside)) (omega (arith, short))) short))
    (λ (far : h ≤ s.high). (s, inl refl, ((let b = f.0 in omega (arith, b, low)), inside), far))
    (⊎_elim (λ (z : h ≤ s.high). inr z) (λ (z : s.high < h). inl z) (le_or_lt h s.high)))
    (⊎_elim (λ (z : id ≤ s.high). inr z) (λ (z : s.high < id). inl z) (le_or_lt id s.high))
  where
    past : (x : ℕ) → s.high < x → parents_at (s ∷ more) x ≡ parents_at more x
    past x out = ap (λ o. parents_in o x) (found-behind s more x (λ i. let high = i.1 in absurd (omega (arith, high, out))))

    behind : Up more id h → Up (s ∷ more) id h
    behind u = (u.0, inr u.1, u.2, u.3)

    ends : (others : List Segment) → Follow (s.high + 1) end others → IsBegun s.high others → parents_at others (s.high + 1) ≡ (s.high + 1 - 1) ∷ [] → s.high < h → ⊥
    ends [] g begun at short = omega (arith, g, short, lt)
    ends (t ∷ rest) g begun at short =
        let x = s.high + 1 in
        let here : parents_at (t ∷ rest) x ≡ t.parents =
        ap (λ o. parents_in o x) (found-head t rest x ((let b = g.0 in omega (arith, b)), (let o = g.1 in omega (arith, o))))
        ∙ ap (λ n. if nat_eq x n then t.parents else (x - 1) ∷ []) g.0
        ∙ ap (λ b. if b then t.parents else (x - 1) ∷ []) (same-self x) in
        let are : t.parents ≡ (x - 1) ∷ [] = sym here ∙ at in
        let one : x - 1 ≡ s.high = omega arith in
        true≢false (sym (ap (is_only s.high) are ∙ ap (λ n. nat_eq n s.high) one ∙ same-self s.high) ∙ begun)

-- the same of a table that begins with those of master rows
pub reach-up : (rows : List (Row Name)) (w : World Name) (flats rest : List Segment) → flats ≡ flat_segments_of 0 (parent_ids same_name w rows) ++ rest → (id h : ℕ) → id ≤ h → h < length rows
    → ((x : ℕ) → id < x → x ≤ h → parents_at flats x ≡ (x - 1) ∷ []) → (s : Segment) × IsIn s flats × IsInSegment id s × (h ≤ s.high)
reach-up rows w flats rest e id h le lt only =
    let front = flat_segments_of 0 (parent_ids same_name w rows) in
    let follow = flat-follow 0 (length rows) (parent_ids same_name w rows) (let long = length-map rows (λ (row : Row Name). map (id_in same_name w) row.parents) in omega (arith, long)) in
    let (s, i, holds, over) = up-to 0 (length rows) front follow (flats-apart 0 (parent_ids same_name w rows)) id h zero-le le lt
    (λ x out within. sym (front-parents 0 (length rows) front rest x follow zero-le (omega (arith, within, lt))) ∙ ap (λ l. parents_at l x) (sym e) ∙ only x out within) in
    (s, subst (IsIn s) (sym e) (in-left s front rest i), holds, over)
