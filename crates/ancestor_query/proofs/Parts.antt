-- The parents of the ids of a span, a segment at a time.
use Rattle.std.proofs.Common.{◌≡◌, ℕ, suc, ◌+◌, ◌-◌, ◌<◌, ◌≤◌, ◌^◌, ◌⊎◌, ◌↔◌, inl, inr, max, List, [], ◌∷◌, length, take, get_or, Some, None, refl, sym, subst, ap, ◌∙◌, arith, ⊎_elim, if◌then◌else◌, eq-eqb}
use Rattle.std.proofs.lemmas.Bool.{ne_eqb}
use Rattle.id_groups.specs.Lists.{IsIn}
use Rattle.id_groups.specs.Span.{IsInSpan}
use Rattle.id_groups.specs.declared.span.IdSpan.{IdSpan}
use Rattle.commit_graph.specs.Sets as sets
use Rattle.segment_codec.specs.Record.{Segment}
use Rattle.segment_codec.specs.Table.{segment_at, parents_in, parents_at, IsHeld, IsLawful}
use Rattle.segment_codec.proofs.Tables.{le_or_lt, segment-in, lawful-at}
use Rattle.span_set.specs.Members.{IsMember, IsCanonical}
use Rattle.span_set.proofs.MemberLemmas.{take-member-at, member-at}
use Rattle.ancestor_query.specs.Graph.{table_graph}
use Rattle.ancestor_query.specs.Visits.{Keeps, Peeks}
use Rattle.ancestor_query.specs.Parts.{IsParentOfPart, IsFound, IsSettled}
use Rattle.ancestor_query.proofs.Best.{same-group}

-- one of the two steps of a shuffle: more is had on the left by what is new
swap-in : {M W N T : Type 0} → N ↔ (M ⊎ T) → (N ⊎ W) ↔ ((M ⊎ W) ⊎ T)
swap-in n = (
  λ a. ⊎_elim (λ i. ⊎_elim (λ m. inl (inl m)) (λ t. inr t) (n.0 i)) (λ w. inl (inr w)) a,
  λ b. ⊎_elim (λ c. ⊎_elim (λ m. inl (n.1 (inl m))) (λ w. inr w) c) (λ t. inl (n.1 (inr t))) b,
)

-- both are had by more
both-in : {M W N V T U : Type 0} → N ↔ (M ⊎ T) → V ↔ (W ⊎ U) → (N ⊎ V) ↔ ((M ⊎ W) ⊎ (T ⊎ U))
both-in n v = (
  λ a. ⊎_elim (λ i. ⊎_elim (λ m. inl (inl m)) (λ t. inr (inl t)) (n.0 i)) (λ i. ⊎_elim (λ w. inl (inr w)) (λ u. inr (inr u)) (v.0 i)) a,
  λ b. ⊎_elim (λ c. ⊎_elim (λ m. inl (n.1 (inl m))) (λ w. inr (v.1 (inl w))) c) (λ c. ⊎_elim (λ t. inl (n.1 (inr t))) (λ u. inr (v.1 (inr u))) c) b,
)

same-right : {A M T U : Type 0} → A ↔ (M ⊎ T) → T ↔ U → A ↔ (M ⊎ U)
same-right a t = (
  λ x. ⊎_elim (λ m. inl m) (λ y. inr (t.0 y)) (a.0 x),
  λ y. a.1 (⊎_elim (λ m. inl m) (λ u. inr (t.1 u)) y),
)

pub same-left : {A M N T : Type 0} → A ↔ (M ⊎ T) → M ↔ N → A ↔ (N ⊎ T)
same-left a m = (
  λ x. ⊎_elim (λ y. inl (m.0 y)) (λ t. inr t) (a.0 x),
  λ y. a.1 (⊎_elim (λ n. inl (m.1 n)) (λ t. inr t) y),
)

pub both-ways : {A B C : Type 0} → A ↔ B → B ↔ C → A ↔ C
both-ways a b = (λ x. b.0 (a.0 x), λ z. a.1 (b.1 z))

-- two steps in one
pub join-steps : {A B C T U V : Type 0} → B ↔ (A ⊎ T) → C ↔ (B ⊎ U) → V ↔ (T ⊎ U) → C ↔ (A ⊎ V)
join-steps b c v = (
  λ x. ⊎_elim (λ y. ⊎_elim (λ a. inl a) (λ t. inr (v.1 (inl t))) (b.0 y)) (λ u. inr (v.1 (inr u))) (c.0 x),
  λ y. ⊎_elim (λ a. c.1 (inl (b.1 (inl a)))) (λ w. ⊎_elim (λ t. c.1 (inl (b.1 (inr t)))) (λ u. c.1 (inr u)) (v.0 w)) y,
)

module _ (s : Segment) where
  of-low : parents_in (Some s) s.low ≡ s.parents
  of-low = ap (λ b. if b then s.parents else (s.low - 1) ∷ []) (eq-eqb s.low s.low refl)

  of-over : (c : ℕ) → s.low < c → parents_in (Some s) c ≡ (c - 1) ∷ []
  of-over c lt = ap (λ b. if b then s.parents else (c - 1) ∷ []) (ne_eqb c s.low (omega arith))

  over-is : (c x : ℕ) → s.low < c → IsIn x (parents_in (Some s) c) → x ≡ c - 1
  over-is c x lt i = ⊎_elim (λ e. e) (λ n. absurd n) (subst (IsIn x) (of-over c lt) i)

  over-has : (c x : ℕ) → s.low < c → x ≡ c - 1 → IsIn x (parents_in (Some s) c)
  over-has c x lt e = subst (IsIn x) (sym (of-over c lt)) (inl e)

  -- the part begins over the lowest id
  part-over : (low high x : ℕ) → s.low < low → ((low - 1 ≤ x) × (x < high)) ↔ IsParentOfPart s low high x
  part-over low high x lt = (
    λ h. let a = h.0 in let b = h.1 in (x + 1, omega arith, omega arith, over-has (x + 1) x (omega arith) (omega arith)),
    λ h. let a = h.1 in let b = h.2 in let e = over-is h.0 x (omega arith) h.3 in (omega arith, omega arith),
  )

  -- it has the lowest id
  part-whole : (low high x : ℕ) → low ≤ s.low → s.low ≤ high → (((s.low ≤ x) × (x < high)) ⊎ IsIn x s.parents) ↔ IsParentOfPart s low high x
  part-whole low high x le order = (
    λ h. ⊎_elim (λ k. let a = k.0 in let b = k.1 in (x + 1, omega arith, omega arith, over-has (x + 1) x (omega arith) (omega arith)))
        (λ i. (s.low, omega arith, order, subst (IsIn x) (sym of-low) i)) h,
    λ h. let a = h.1 in let b = h.2 in
        ⊎_elim (λ (l : h.0 ≤ s.low). let same : h.0 ≡ s.low = omega arith in inr (subst (IsIn x) (ap (λ c. parents_in (Some s) c) same ∙ of-low) h.3))
        (λ (l : s.low < h.0). let e = over-is h.0 x l h.3 in inl (omega arith, omega arith)) (le_or_lt h.0 s.low),
  )

  pub add-over : (moved longer : List IdSpan) (work : List ℕ) (low high : ℕ) → s.low < low → ((x : ℕ) → IsMember longer x ↔ (IsMember moved x ⊎ ((low - 1 ≤ x) × (x < high))))
      → (x : ℕ) → (IsMember longer x ⊎ IsIn x work) ↔ ((IsMember moved x ⊎ IsIn x work) ⊎ IsParentOfPart s low high x)
  add-over moved longer work low high lt added x = same-right (swap-in (added x)) (part-over low high x lt)

  pub add-whole : (moved longer : List IdSpan) (work more : List ℕ) (low high : ℕ) → low ≤ s.low → s.low ≤ high → ((x : ℕ) → IsMember longer x ↔ (IsMember moved x ⊎ ((s.low ≤ x) × (x < high))))
      → ((x : ℕ) → IsIn x more ↔ (IsIn x work ⊎ IsIn x s.parents))
      → (x : ℕ) → (IsMember longer x ⊎ IsIn x more) ↔ ((IsMember moved x ⊎ IsIn x work) ⊎ IsParentOfPart s low high x)
  add-whole moved longer work more low high le order added pushed x = same-right (both-in (added x) (pushed x)) (part-whole low high x le order)

-- the parents of the ids from `first` to `last`
abbrev pub ParentsFrom : List Segment → ℕ → ℕ → ℕ → Type 0
ParentsFrom flats first last x = (c : ℕ) × (first ≤ c) × (c ≤ last) × IsIn x (parents_at flats c)

module _ (flats : List Segment) (lawful : IsLawful flats) where
  -- a part more, below those from `end` on
  pub parents-part : (s : Segment) (low last high end next : ℕ) → segment_at flats high ≡ Some s → low ≤ high → end ≡ high + 1 → end ≤ last + 1 → next ≡ max s.low low
      → (x : ℕ) → ParentsFrom flats next last x ↔ (ParentsFrom flats end last x ⊎ IsParentOfPart s low high x)
  parents-part s low last high end next found order ends over is x =
      let f = segment-in flats high s found in
      let top = f.1.1 in (
        λ h. let a = h.1 in let b = h.2 in
            ⊎_elim (λ (le : end ≤ h.0). inl (h.0, le, b, h.3))
            (λ (lt : h.0 < end). inr (h.0, omega arith, omega arith, subst (IsIn x) (ap (λ o. parents_in o h.0) (lawful-at flats lawful h.0 s f.0 (omega arith, omega arith))) h.3)) (le_or_lt end h.0),
        λ h. ⊎_elim (λ k. let a = k.1 in let low_f = f.1.0 in (k.0, omega arith, k.2, k.3))
            (λ k. let a = k.1 in let b = k.2 in (k.0, omega arith, omega arith, subst (IsIn x) (sym (ap (λ o. parents_in o k.0) (lawful-at flats lawful k.0 s f.0 (omega arith, omega arith)))) k.3)) h,
      )

  pub part-facts : (s : Segment) (high : ℕ) → segment_at flats high ≡ Some s → (s.low ≤ high) × (s.low < 2 ^ 56 → high < 2 ^ 56)
  part-facts s high found =
      let f = segment-in flats high s found in let top = f.1.1 in
      (f.1.0, λ small. let h = same-group s.low s.high (lawful.each s f.0).segment.one_group small in omega arith)

-- the spans of a set, one after another
pub parents-next : (flats : List Segment) {A B : Type 0} (spans : List IdSpan) (i k : ℕ) (t : IdSpan) (x : ℕ) → i < length spans → k ≡ suc i → t ≡ get_or spans i t
    → A ↔ sets.parents (table_graph flats) (IsMember (take i spans)) x → B ↔ (A ⊎ sets.parents (table_graph flats) (λ c. IsInSpan c t) x)
    → B ↔ sets.parents (table_graph flats) (IsMember (take k spans)) x
parents-next flats spans i k t x lt e is a b = (
  λ y. ⊎_elim (λ z. let h = a.0 z in (h.0, (take-member-at spans i k t h.0 lt e is).1 (inl h.1), h.2))
      (λ h. (h.0, (take-member-at spans i k t h.0 lt e is).1 (inr h.1), h.2)) (b.0 y),
  λ h. b.1 (⊎_elim (λ m. inl (a.1 (h.0, m, h.2))) (λ s. inr (h.0, s, h.2)) ((take-member-at spans i k t h.0 lt e is).0 h.1)),
)

pub span-held : (flats : List Segment) (spans : List IdSpan) (i : ℕ) (t : IdSpan) → ((x : ℕ) → IsMember spans x → IsHeld flats x) → i < length spans → t ≡ get_or spans i t
    → (x : ℕ) → IsInSpan x t → IsHeld flats x
span-held flats spans i t inside lt is x m = inside x (member-at spans i t x lt (subst (λ s. IsInSpan x s) is m))

-- what waits is taken from the greatest down
module _ (before after : List ℕ) (ids : List IdSpan) (end : ℕ) (settled : IsSettled ids before end) where
  module _ (keeps : Keeps before after end) where
    still : IsSettled ids after end
    still = record { canonical = settled.canonical; has = λ x i le. settled.has x (keeps.kept x i) le }

    pub found-kept : (x : ℕ) → IsFound ids after x ↔ IsFound ids before x
    found-kept x = (
      λ f. ⊎_elim (λ m. inl m) (λ i. inr (keeps.kept x i)) f,
      λ f. ⊎_elim (λ m. inl m) (λ i. ⊎_elim (λ (over : end ≤ x). inl (settled.has x i over)) (λ (under : x < end). inr (keeps.lost x i under)) (le_or_lt end x)) f,
    )

  module _ (id : ℕ) (peeks : Peeks before after end (Some id)) where
    pub settled-stop : (least : ℕ) → id < least → IsSettled ids after least
    settled-stop least lt = record {
      canonical = settled.canonical;
      has = λ x i le. ⊎_elim (λ (over : end ≤ x). (still peeks.keeps).has x i over)
          (λ (under : x < end). let most = peeks.greatest.greatest x i under in absurd (omega arith)) (le_or_lt end x);
    }

    module _ (longer : List IdSpan) (t : IdSpan) (low : t.low ≡ id) (high : t.high ≡ id)
        (added : (x : ℕ) → IsMember longer x ↔ (IsMember ids x ⊎ IsInSpan x t)) where
      pub found-next : (x : ℕ) → IsFound longer after x ↔ IsFound ids before x
      found-next x = (
        λ f. ⊎_elim (λ m. ⊎_elim (λ o. inl o)
            (λ (i : IsInSpan x t). let a = i.0 in let b = i.1 in let same : x ≡ id = omega arith in
            inr (subst (λ n. IsIn n before) (sym same) (peeks.keeps.kept id peeks.greatest.is))) ((added x).0 m))
            (λ i. inr (peeks.keeps.kept x i)) f,
        λ f. ⊎_elim (λ m. inl ((added x).1 (inl m))) (λ i. inr i) ((found-kept peeks.keeps x).1 f),
      )

      pub settled-next : (next : ℕ) → next ≡ id → IsCanonical longer → IsSettled longer after next
      settled-next next e canonical = record {
        canonical = canonical;
        has = λ x i le. (added x).1 (⊎_elim (λ (over : end ≤ x). inl ((still peeks.keeps).has x i over))
            (λ (under : x < end). let most = peeks.greatest.greatest x i under in inr (omega arith, omega arith)) (le_or_lt end x));
      }

  pub settled-none : (least : ℕ) → Peeks before after end None → IsSettled ids after least
  settled-none least peeks = record {
    canonical = settled.canonical;
    has = λ x i le. ⊎_elim (λ (over : end ≤ x). (still peeks.keeps).has x i over) (λ (under : x < end). absurd (peeks.greatest x i under)) (le_or_lt end x);
  }

-- a part goes into the set, and only ids below it come to wait
pub settled-part : (ids longer : List IdSpan) (before after : List ℕ) (from high : ℕ) → IsSettled ids before high → ((x : ℕ) → IsMember longer x ↔ (IsMember ids x ⊎ ((from ≤ x) × (x < high))))
    → ((x : ℕ) → IsIn x after → IsIn x before ⊎ (x < from)) → IsCanonical longer → IsSettled longer after from
settled-part ids longer before after from high settled added came canonical = record {
  canonical = canonical;
  has = λ x i le. (added x).1 (⊎_elim (λ (over : high ≤ x). inl (⊎_elim (λ o. settled.has x o over) (λ (lt : x < from). absurd (omega arith)) (came x i)))
      (λ (under : x < high). inr (le, under)) (le_or_lt high x));
}
