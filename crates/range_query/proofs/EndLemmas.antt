-- Heads and roots, a part of a span and of a segment at a time.
use Rattle.std.proofs.Common.{◌≡◌, ℕ, suc, ◌+◌, ◌-◌, ◌<◌, ◌≤◌, ◌⊎◌, inl, inr, ◌↔◌, List, [], ◌∷◌, Some, length, get_or, take, drop, max, nat_eq, refl, sym, subst, ap, ◌∙◌, arith, ⊎_elim, if◌then◌else◌, eq-eqb}
use Rattle.std.specs.Prelude.{IsTrue}
use Rattle.std.proofs.lemmas.Bool.{ne_eqb, eqb-true}
use Rattle.std.proofs.Math.Seq.{drop-cons}
use Rattle.std.proofs.lemmas.List.{take-append-drop}
use Rattle.id_groups.specs.Lists.{IsIn}
use Rattle.id_groups.specs.declared.span.IdSpan.{IdSpan}
use Rattle.id_groups.specs.Span.{IsInSpan}
use Rattle.commit_graph.specs.Sets as sets
use Rattle.segment_codec.specs.Record.{Segment}
use Rattle.segment_codec.specs.Table.{segment_at, parents_in, parents_at, IsLawful}
use Rattle.segment_codec.proofs.Tables.{le_or_lt, segment-in, parents-over, parent-below, lawful-at}
use Rattle.span_set.specs.Members.{IsMember, IsCanonical}
use Rattle.span_set.proofs.MemberLemmas.{take-member-at, member-at, member-either, member-high}
use Rattle.span_set.proofs.Below.{canonical-drop}
use Rattle.ancestor_query.specs.Graph.{table_graph}
use Rattle.ancestor_query.specs.Visits.{Keeps, Peeks}
use Rattle.range_query.specs.Ends.{HeadsFrom}
use Rattle.range_query.specs.Parts.{HasParentOf}
use Rattle.range_query.proofs.Pieces.{rest-below, none-from}

-- the parents of the lowest of some ids of a segment come to wait
pub pushed-before : (s : Segment) (low id x : ℕ) → s.low < low → id ≡ low - 1 → {N O : Type 0} → N ↔ (O ⊎ (x ≡ id)) → N ↔ (O ⊎ IsIn x (parents_in (Some s) low))
pushed-before s low id x lt e {N} {O} n =
    let own : parents_in (Some s) low ≡ (low - 1) ∷ [] = ap (λ b. if b then s.parents else (low - 1) ∷ []) (ne_eqb low s.low (omega arith)) in
    subst (λ l. N ↔ (O ⊎ IsIn x l)) (sym own) (
      λ m. ⊎_elim (λ o. inl o) (λ k. inr (inl (omega arith))) (n.0 m),
      λ h. n.1 (⊎_elim (λ o. inl o) (λ i. ⊎_elim (λ k. inr (omega arith)) (λ k. absurd k) i) h),
    )

pub pushed-own : (s : Segment) (r x : ℕ) → r ≡ s.low → {N O : Type 0} → N ↔ (O ⊎ IsIn x s.parents) → N ↔ (O ⊎ IsIn x (parents_in (Some s) r))
pushed-own s r x e {N} {O} n =
    let own : parents_in (Some s) r ≡ s.parents = ap (λ b. if b then s.parents else (r - 1) ∷ []) (eq-eqb r s.low e) in
    subst (λ l. N ↔ (O ⊎ IsIn x l)) (sym own) n

-- whether an id waits, by the greatest that waits no higher
pub top-waits : (before after : List ℕ) (id below top a b : ℕ) → below ≡ id + 1 → a ≡ top → b ≡ id → Peeks before after below (Some top) → IsTrue (nat_eq a b) ↔ IsIn id before
top-waits before after id below top a b more same own p = (
  λ t. let e : a ≡ b = eqb-true a b t in let top_is : top ≡ id = omega arith in subst (λ z. IsIn z before) top_is (p.keeps.kept top p.greatest.is),
  λ i. let up = p.greatest.greatest id (p.keeps.lost id i (omega arith)) (omega arith) in let under = p.greatest.under in eq-eqb a b (omega arith),
)

module _ (flats : List Segment) (lawful : IsLawful flats) (set : List IdSpan) where
  abbrev Child : ℕ → Type 0
  Child x = sets.children (table_graph flats) (IsMember set) x

  abbrev Parent : ℕ → Type 0
  Parent x = sets.parents (table_graph flats) (IsMember set) x

  abbrev Head : ℕ → Type 0
  Head x = sets.heads (table_graph flats) (IsMember set) x

  -- a part of a segment, all of whose ids are members
  module _ (s : Segment) (low id end from : ℕ) (found : segment_at flats id ≡ Some s) (at : id ≡ end - 1) (some : low < end) (start : from ≡ max s.low low)
      (inside : (x : ℕ) → low ≤ x → x < end → IsMember set x) where
    part-order : (s.low ≤ id) × (id ≤ s.high) × (from ≤ id)
    part-order = let f = segment-in flats id s found in let a = f.1.0 in let b = f.1.1 in (a, b, omega arith)

    own : (x : ℕ) → from ≤ x → x ≤ id → parents_at flats x ≡ parents_in (Some s) x
    own x a b = let o = part-order in let high = o.1 in ap (λ q. parents_in q x) (lawful-at flats lawful x s (segment-in flats id s found).0 (omega arith, omega arith))

    over : (x : ℕ) → from < x → x ≤ id → parents_at flats x ≡ (x - 1) ∷ []
    over x a b = let o = part-order in let high = o.1 in parents-over flats lawful s (segment-in flats id s found).0 x (omega arith) (omega arith)

    same-id : (x y : ℕ) → x ≡ y → HasParentOf set s x → HasParentOf set s y
    same-id x y e h = subst (λ z. HasParentOf set s z) e h

    root-part : (x : ℕ) → ((x ≡ from) × (HasParentOf set s from → ⊥)) ↔ ((from ≤ x) × (x < end) × (Child x → ⊥))
    root-part x =
        let o = part-order in let top = o.2 in (
          λ h. let e = h.0 in (
            omega arith,
            omega arith,
            λ c. h.1 (same-id x from e (c.0, subst (IsIn c.0) (own x (omega arith) (omega arith)) c.2, c.1)),
          ),
          λ h. let a = h.0 in let b = h.1 in ⊎_elim
              (λ (le : x ≤ from). let e : x ≡ from = omega arith in
              (e, λ k. let p = same-id from x (sym e) k in h.2 (p.0, p.2, subst (IsIn p.0) (sym (own x a (omega arith))) p.1)))
              (λ (lt : from < x). absurd (h.2 (x - 1, inside (x - 1) (omega arith) (omega arith), subst (IsIn (x - 1)) (sym (over x lt (omega arith))) (inl refl))))
              (le_or_lt x from),
        )

    module _ (answer longer : List IdSpan) (before kept after : List ℕ) (so_far : HeadsFrom flats set end answer before)
        (added : (x : ℕ) → IsMember longer x ↔ (IsMember answer x ⊎ ((x ≡ id) × (IsIn id before → ⊥))))
        (keeps : Keeps before kept (id + 1)) (pushed : (x : ℕ) → IsIn x after ↔ (IsIn x kept ⊎ IsIn x (parents_in (Some s) from))) where
      parent-waits : Parent id → IsIn id before
      parent-waits c = let up = (parent-below flats lawful c.0 id c.2).0 in so_far.whole c.0 id c.1 (omega arith) c.2 (omega arith)

      pub heads-part : HeadsFrom flats set from longer after
      heads-part =
          let o = part-order in let top = o.2 in
          record {
            exact = λ x. (
              λ m. ⊎_elim
                  (λ b. let h = (so_far.exact x).0 b in let le = h.1 in (h.0, omega arith))
                  (λ k. let e = k.0 in
                  (subst Head (sym e) (inside id (omega arith) (omega arith), λ c. k.1 (parent-waits c)), omega arith)) ((added x).0 m),
              λ h. let a = h.1 in ⊎_elim
                  (λ (le : end ≤ x). (added x).1 (inl ((so_far.exact x).1 (h.0, le))))
                  (λ (lt : x < end). ⊎_elim
                  (λ (ge : id ≤ x). let e : x ≡ id = omega arith in
                  (added x).1 (inr (e, λ i. h.0.1 (subst Parent (sym e) (so_far.sound id i)))))
                  (λ (under : x < id). absurd (h.0.1 (
                    x + 1,
                    inside (x + 1) (omega arith) (omega arith),
                    subst (IsIn x) (sym (over (x + 1) (omega arith) (omega arith))) (inl (omega arith)),
                  )))
                  (le_or_lt id x)) (le_or_lt end x),
            );
            sound = λ w i. ⊎_elim (λ k. so_far.sound w (keeps.kept w k))
                (λ k. (from, inside from (omega arith) (omega arith), subst (IsIn w) (sym (own from (omega arith) top)) k)) ((pushed w).0 i);
            whole = λ c p m a i lt. (pushed p).1 (⊎_elim
                (λ (le : end ≤ c). inl (keeps.lost p (so_far.whole c p m le i (omega arith)) (omega arith)))
                (λ (under : c < end). ⊎_elim
                (λ (low : c ≤ from). let e : c ≡ from = omega arith in inr (subst (IsIn p) (ap (λ z. parents_at flats z) e ∙ own from (omega arith) top) i))
                (λ (more : from < c). let q = in-one p (c - 1) (subst (IsIn p) (over c more (omega arith)) i) in absurd (omega arith))
                (le_or_lt c from)) (le_or_lt end c));
          }
        where
          in-one : (p q : ℕ) → IsIn p (q ∷ []) → p ≡ q
          in-one p q h = ⊎_elim (λ e. e) (λ n. absurd n) h

  -- one part more of a span's roots
  pub roots-more : {O : Type 0} (s : Segment) (low id end from high x : ℕ) → segment_at flats id ≡ Some s → id ≡ end - 1 → low < end → end ≤ high + 1 → from ≡ max s.low low
      → ((y : ℕ) → low ≤ y → y < end → IsMember set y) → {M N : Type 0} → M ↔ (O ⊎ ((end ≤ x) × (x ≤ high) × (Child x → ⊥))) → N ↔ (M ⊎ ((x ≡ from) × (HasParentOf set s from → ⊥)))
      → N ↔ (O ⊎ ((from ≤ x) × (x ≤ high) × (Child x → ⊥)))
  roots-more s low id end from high x found at some ends start inside m n =
      let p = root-part s low id end from found at some start inside x in
      let o = part-order s low id end from found at some start inside in let top = o.2 in (
        λ h. ⊎_elim (λ a. ⊎_elim (λ b. inl b) (λ k. let le = k.0 in inr (omega arith, k.1, k.2)) (m.0 a)) (λ a. let k = p.0 a in let lt = k.1 in inr (k.0, omega arith, k.2)) (n.0 h),
        λ h. n.1 (⊎_elim (λ b. inl (m.1 (inl b))) (λ k. ⊎_elim (λ (le : end ≤ x). inl (m.1 (inr (le, k.1, k.2)))) (λ (lt : x < end). inr (p.1 (k.0, lt, k.2))) (le_or_lt end x)) h),
      )

  -- where no member stands from an id to before an end
  pub heads-gap : (next end : ℕ) (answer : List IdSpan) (waiting : List ℕ) → next ≤ end → ((x : ℕ) → IsMember set x → next ≤ x → end ≤ x) → HeadsFrom flats set end answer waiting → HeadsFrom flats set next answer waiting
  heads-gap next end answer waiting le none h = record {
    exact = λ x. (λ m. let k = (h.exact x).0 m in let a = k.1 in (k.0, omega arith), λ k. (h.exact x).1 (k.0, none x k.0.0 k.1));
    sound = h.sound;
    whole = λ c p m a i lt. h.whole c p m (none c m a) i (omega arith);
  }

  pub heads-begin : (end : ℕ) (answer : List IdSpan) (waiting : List ℕ) → answer ≡ [] → waiting ≡ [] → ((x : ℕ) → IsMember set x → x < end) → HeadsFrom flats set end answer waiting
  heads-begin end answer waiting none nothing under = record {
    exact = λ x. (λ m. absurd (subst (λ l. IsMember l x) none m), λ k. let lt = under x k.0.0 in let le = k.1 in absurd (omega arith));
    sound = λ w i. absurd (subst (IsIn w) nothing i);
    whole = λ c p m a i lt. let u = under c m in absurd (omega arith);
  }

-- the spans of a set that were gone over lie from an id on, and the others below it
pub record PartedAt (spans : List IdSpan) (i end : ℕ) : Type 0 where
  pub over : (x : ℕ) → IsMember (take i spans) x → end ≤ x
  pub under : (x : ℕ) → IsMember (drop i spans) x → x < end

module _ (spans : List IdSpan) (i : ℕ) (t : IdSpan) (canonical : IsCanonical spans) (lt : i < length spans) (is : t ≡ get_or spans i t) where
  first-is : drop i spans ≡ t ∷ drop (suc i) spans
  first-is = subst (λ q. drop i spans ≡ q ∷ drop (suc i) spans) (sym is) (drop-cons spans i t lt)

  in-first : (x : ℕ) → IsInSpan x t → IsMember (drop i spans) x
  in-first x h = subst (λ l. IsMember l x) (sym first-is) (inl h)

  pub parted-gap : (end : ℕ) → PartedAt spans i end → (x : ℕ) → IsMember spans x → t.high + 1 ≤ x → end ≤ x
  parted-gap end p x m a = ⊎_elim (λ h. p.over x h) (λ h. let top = rest-below spans i t x canonical lt is h in absurd (omega arith))
      (member-either (take i spans) (drop i spans) x (subst (λ l. IsMember l x) (sym (take-append-drop i spans)) m))

  pub parted-next : (next end : ℕ) → next ≡ suc i → t.low ≤ t.high → PartedAt spans i end → (t.high + 1 ≤ end) × PartedAt spans next t.low
  parted-next next end one order p =
      let high = p.under t.high (in-first t.high (order, omega arith)) in
      let c = subst IsCanonical first-is (canonical-drop i spans canonical) in (
        omega arith,
        subst (λ k. PartedAt spans k t.low) (sym one) (record {
          over = λ x m. ⊎_elim (λ h. let a = p.over x h in omega arith) (λ h. h.0) ((take-member-at spans i (suc i) t x lt refl is).0 m);
          under = λ x m. member-high t (drop (suc i) spans) x c.2 c.1 m;
        }),
      )

-- an id of a span of a set is a member
pub span-inside : (spans set : List IdSpan) (i : ℕ) (t : IdSpan) → spans ≡ set → i < length spans → t ≡ get_or spans i t → (x : ℕ) → IsInSpan x t → IsMember set x
span-inside spans set i t same lt is x h = subst (λ l. IsMember l x) same (member-at spans i t x lt (subst (λ (s : IdSpan). IsInSpan x s) is h))

-- behind the last span the answer is whole
pub heads-whole : (flats : List Segment) (lawful : IsLawful flats) (set spans : List IdSpan) (i end : ℕ) (answer : List IdSpan) (waiting : List ℕ) → spans ≡ set → length spans ≤ i
    → PartedAt spans i end → HeadsFrom flats set end answer waiting → (x : ℕ) → IsMember answer x ↔ Head flats lawful set x
heads-whole flats lawful set spans i end answer waiting same le parted h x = (
  λ m. ((h.exact x).0 m).0,
  λ k. (h.exact x).1 (
    k,
    ⊎_elim (λ m. parted.over x m) (λ m. absurd (none-from spans i x le m))
        (member-either (take i spans) (drop i spans) x (subst (λ l. IsMember l x) (sym (take-append-drop i spans ∙ same)) k.0)),
  ),
)
