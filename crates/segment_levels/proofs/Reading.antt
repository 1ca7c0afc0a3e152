-- What the definitions say of ids.
use Rattle.std.proofs.Common.{◌≡◌, ℕ, zero, suc, ◌+◌, ◌-◌, ◌<◌, ◌≤◌, ◌⊎◌, inl, inr, Bool, true, false, cond, List, [], ◌∷◌, length, take, refl, sym, subst, ap, ◌∙◌, arith, ⊎_elim}
use Rattle.std.specs.Prelude.{nat_eq, nat_le}
use Rattle.std.specs.List.{list_any}
use Rattle.id_groups.specs.Lists.{IsIn, is_in}
use Rattle.id_groups.proofs.Listing.{in-any, there}
use Rattle.segment_codec.specs.Record.{Segment}
use Rattle.segment_codec.specs.Table.{parents_at}
use Rattle.segment_codec.proofs.Tables.{follow-ends, follow-within, parent-below}
use Rattle.segment_rules.specs.Levels.{groups, merged, level_segments, heads, have_one_head, group_size, count_grouped}
use Rattle.segment_levels.specs.Heads.{HasOneHead, AreHeaded}
use Rattle.segment_levels.proofs.Grouping.{groups-few, groups-many, first-group, count-few, count-many, few-or-many}
use Rattle.segment_levels.proofs.Heading.{last-in, in-take, one-head-covers, holder}

-- ---- one head, by segments and by ids

-- segments with one head together: each id but the last is a parent
pub by-ids : (flats : List Segment) (first end : ℕ) (s : Segment) (more : List Segment) → AreHeaded flats first end (s ∷ more) → have_one_head (s ∷ more) ≡ true → HasOneHead flats first end
by-ids flats first end s [] h one y a b =
    let f = h.follow in let low = f.0 in let e = f.2 in
    let c = (h.each s (inl refl)).one_head y (omega (arith, low, a), omega (arith, e, b)) (omega (arith, e, b)) in
    let in-it = c.1 in let l = in-it.0 in let r = in-it.1 in
    (c.0, omega (arith, low, l), omega (arith, e, r), c.2)
by-ids flats first end s (t ∷ more) h one y a b =
    let f = h.follow in let low = f.0 in let order = f.1 in
    let cov = one-head-covers s t more one in
    let behind = follow-ends (s.high + 1) end (t ∷ more) f.2 in
    ⊎_elim
    (λ (le : y ≤ s.high).
    ⊎_elim
    (λ (top : s.high ≤ y).
    let same : s.high ≡ y = omega (arith, le, top) in
    let c = (h.each cov.later (inr cov.is_later)).stored s.high cov.parent in
    let within = follow-within (s.high + 1) end (t ∷ more) f.2 cov.later cov.is_later in
    let l = c.1.0 in let r = c.1.1 in let w0 = within.0 in let w2 = within.2 in
    (c.0, omega (arith, low, order, l, w0), omega (arith, r, w2), subst (λ (n : ℕ). IsIn n (parents_at flats c.0)) same c.2))
    (λ (lt : y < s.high).
    let c = (h.each s (inl refl)).one_head y (omega (arith, low, a), omega (arith, lt)) lt in
    let l = c.1.0 in let r = c.1.1 in
    (c.0, omega (arith, low, l), omega (arith, r, behind), c.2))
    (Rattle.segment_codec.proofs.Tables.le_or_lt s.high y))
    (λ (over : s.high < y).
    let c = by-ids flats (s.high + 1) end t more (record { lawful = h.lawful; follow = f.2; each = λ q i. h.each q (inr i) }) cov.rest y (omega (arith, over)) b in
    let l = c.1 in
    (c.0, omega (arith, l, order), c.2, c.3))
    (Rattle.segment_codec.proofs.Tables.le_or_lt y s.high)

-- and the other way
pub by-segments : (flats : List Segment) (first end : ℕ) (s : Segment) (more : List Segment) → AreHeaded flats first end (s ∷ more) → HasOneHead flats first end → have_one_head (s ∷ more) ≡ true
by-segments flats first end s [] h one = refl
by-segments flats first end s (t ∷ more) h one =
    let f = h.follow in let low = f.0 in let order = f.1 in
    let next = f.2 in let next-low = next.0 in let next-order = next.1 in
    let behind = follow-ends (t.high + 1) end more next.2 in
    let c = one s.high order (omega (arith, next-low, next-order, behind)) in
    let up = (parent-below flats h.lawful c.0 s.high c.3).0 in
    let q = holder flats (s.high + 1) end (t ∷ more) f.2 c.0 (omega (arith, up)) c.2 in
    let w = follow-within (s.high + 1) end (t ∷ more) f.2 q.0 q.1 in let w0 = w.0 in
    let parent = (h.each q.0 (inr q.1)).outside c.0 s.high q.2 c.3 (omega (arith, w0)) in
    let covered : list_any (λ r. is_in nat_eq s.high r.parents) (t ∷ more) ≡ true =
    in-any (λ (r : Segment). is_in nat_eq s.high r.parents) (t ∷ more) q.0 q.1 (there nat_eq Rattle.std.proofs.lemmas.Bool.eqb-true (λ n. Rattle.std.proofs.Common.eq-eqb n n refl) s.high q.0.parents parent) in
    let rest : HasOneHead flats (s.high + 1) end = λ y a b. (
    let d = one y (omega (arith, a, order)) b in
    let more-up = (parent-below flats h.lawful d.0 y d.3).0 in
    (d.0, omega (arith, more-up, a), d.2, d.3)) in
    ap (λ b. nat_le (length (cond b (heads (t ∷ more)) (s.high ∷ heads (t ∷ more)))) 1) covered
    ∙ by-segments flats (s.high + 1) end t more (record { lawful = h.lawful; follow = f.2; each = λ r i. h.each r (inr i) }) rest

-- ---- the greatest group, and what is left

size-greatest-case : (n k m : ℕ) (xs : List Segment) (b : Bool) → have_one_head (take (suc n) xs) ≡ b → (k < m → m ≤ n → have_one_head (take m xs) ≡ false) → cond b (suc n) k < m → m ≤ suc n → have_one_head (take m xs) ≡ false
size-greatest-case n k m xs true e rest lt le = absurd (omega (arith, lt, le))
size-greatest-case n k m xs false e rest lt le =
    ⊎_elim (λ (a : m ≤ n). rest lt a) (λ (a : n < m). let same : suc n ≡ m = omega (arith, a, le) in ap (λ j. have_one_head (take j xs)) (sym same) ∙ e) (Rattle.segment_codec.proofs.Tables.le_or_lt m n)

pub size-greatest : (n m : ℕ) (xs : List Segment) → group_size n xs < m → m ≤ n → have_one_head (take m xs) ≡ false
unfolding group_size
size-greatest zero m xs lt le = absurd (omega (arith, lt, le))
size-greatest (suc n) m xs lt le = size-greatest-case n (group_size n xs) m xs (have_one_head (take (suc n) xs)) refl (λ a b. size-greatest n m xs a b) lt le

-- fewer than sixteen segments are left ungrouped
pub left-few : (taken : ℕ) (xs : List Segment) → taken ≤ length xs → length xs - count_grouped taken xs < 16
left-few taken [] le = omega arith
left-few (suc taken) (s ∷ more) le = let r = left-few taken more (Rattle.std.proofs.Common.le_of_suc-le-suc le) in omega (arith, r)
left-few zero (s ∷ more) le =
    let g = first-group s more in let most = g.few in
    let again : 15 ≤ length more → length more - count_grouped g.others more < 16 = λ m. left-few g.others more (omega (arith, most, m)) in
    few-or-many (length more) (suc (length more) - count_grouped 0 (s ∷ more) < 16)
    (λ f. let e = count-few s more f in omega (arith, e, f))
    (λ m. let e = count-many s more m in let r = again m in omega (arith, e, r))

-- ---- levels nest

group-ends : (level taken : ℕ) (xs : List Segment) (s : Segment) → taken ≤ length xs → IsIn s (groups level taken xs) → (t : Segment) × IsIn t xs × (t.high ≡ s.high)
group-ends level zero [] s le i = absurd i
group-ends level (suc taken) [] s le i = absurd i
group-ends level (suc taken) (x ∷ xs) s le i = let r = group-ends level taken xs s (Rattle.std.proofs.Common.le_of_suc-le-suc le) i in (r.0, inr r.1, r.2)
group-ends level zero (x ∷ xs) s le i =
    let g = first-group x xs in let most = g.few in
    let again : 15 ≤ length xs → IsIn s (groups level g.others xs) → (t : Segment) × IsIn t xs × (t.high ≡ s.high) = λ m j. group-ends level g.others xs s (omega (arith, most, m)) j in
    few-or-many (length xs) ((t : Segment) × IsIn t (x ∷ xs) × (t.high ≡ s.high))
    (λ f. absurd (subst (λ (z : List Segment). IsIn s z) (groups-few level x xs f) i))
    (λ m.
    ⊎_elim
    (λ (e : s ≡ merged level x (take g.others xs)).
    let last = last-in x (take g.others xs) in
    (last.0, ⊎_elim (λ e. inl e) (λ j. inr (in-take g.others xs last.0 j)) last.1, last.2 ∙ ap (λ (q : Segment). q.high) (sym e)))
    (λ j. let r = again m j in (r.0, inr r.1, r.2))
    (subst (λ (z : List Segment). IsIn s z) (groups-many level x xs m) i))

-- where a segment of a level ends, one of the level below does
pub levels-nest : (flats : List Segment) (level : ℕ) (s : Segment) → IsIn s (level_segments flats (suc level)) → (t : Segment) × IsIn t (level_segments flats level) × (t.high ≡ s.high)
levels-nest flats level s i = group-ends (suc level) 0 (level_segments flats level) s (omega arith) i
