-- What is known of the cloned ids, and what the kinds of payloads keep.
use Rattle.std.proofs.Common.{◌≡◌, ◌≢◌, ℕ, zero, suc, ◌+◌, ◌-◌, ◌<◌, ◌≤◌, Bool, true, false, cond, ltb, leb, eqb, ◌&&◌, ◌||◌, ◌⊎◌, List, [], ◌∷◌, length, get_or, min, refl, sym, ap, subst, ◌∙◌, inl, inr, ⊎_elim, true≢false, arith}
use Rattle.std.specs.Prelude.{nat_eq}
use Rattle.std.specs.List.{AllByRecursion}
use Rattle.std.proofs.Math.Nat.{min-eq_left}
use Rattle.std.proofs.lemmas.List.{nil_from_length}
use Rattle.std.proofs.lemmas.Bool.{and_parts, and_from, or_cases, ltb-true, lt-ltb, leb-true, le-leb, lt-leb, eqb-true, eq-eqb, ne_eqb, cases_lt, cases_eq}
use Rattle.id_groups.specs.Lists.{IsIn, is_in, AreAllIn}
use Rattle.id_groups.proofs.Listing.{found, there}
use Rattle.segment_codec.specs.Record.{Segment}
use Rattle.batch_codec.specs.Payload.{Payload, known_ids}
use Rattle.batch_codec.specs.Grammar.{IsFlush, IsClone, IsWholePayload, KnowsCloned, merge_parents}
use Rattle.batch_codec.specs.Reading.{ids_ascend, are_known, knows_merge, knows_segment, knows_needed, knows_from, flush_fits, clone_fits, whole_fits, kind_fits}
use Rattle.batch_codec.proofs.Ascending.{ascend-parts, ascend-made}
use Rattle.batch_codec.proofs.Meanings.{or-left, or-right, in-above, all-known, known-length}

-- ---- what is known of the cloned ids

same-number : (n : ℕ) → nat_eq n n ≡ true
same-number n = eq-eqb n n refl

in-means : (n : ℕ) (ids : List ℕ) → is_in nat_eq n ids ≡ true → IsIn n ids
in-means n ids h = found nat_eq eqb-true same-number n ids h

in-decided : (n : ℕ) (ids : List ℕ) → IsIn n ids → is_in nat_eq n ids ≡ true
in-decided n ids h = there nat_eq eqb-true same-number n ids h

known-all : (ids ps : List ℕ) → are_known ids ps ≡ true → AreAllIn ps ids
known-all ids [] h = tt
known-all ids (p ∷ ps) h = let t = and_parts (is_in nat_eq p ids) (are_known ids ps) h in (in-means p ids t.0, known-all ids ps t.1)

all-are-known : (ids ps : List ℕ) → AreAllIn ps ids → are_known ids ps ≡ true
all-are-known ids [] h = refl
all-are-known ids (p ∷ ps) h = and_from (is_in nat_eq p ids) (are_known ids ps) (in-decided p ids h.0) (all-are-known ids ps h.1)

merge-means : (ids ps : List ℕ) → knows_merge ids ps ≡ true → AreAllIn (merge_parents ps) ids
merge-means ids [] h = tt
merge-means ids (p ∷ []) h = tt
merge-means ids (p ∷ q ∷ more) h = known-all ids (p ∷ q ∷ more) h

merge-decided : (ids ps : List ℕ) → AreAllIn (merge_parents ps) ids → knows_merge ids ps ≡ true
merge-decided ids [] h = refl
merge-decided ids (p ∷ []) h = refl
merge-decided ids (p ∷ q ∷ more) h = all-are-known ids (p ∷ q ∷ more) h

segment-means : (cloned : ℕ) (ids : List ℕ) (s : Segment) → knows_segment cloned ids s ≡ true → KnowsCloned cloned ids s
segment-means cloned ids s h lt = elim (or_cases (leb cloned s.low) (is_in nat_eq (min s.high (cloned - 1)) ids && knows_merge ids s.parents) h) [
  | inl behind ↦ let le = leb-true cloned s.low behind in absurd (omega (arith, le, lt))
  | inr both ↦ let b = and_parts (is_in nat_eq (min s.high (cloned - 1)) ids) (knows_merge ids s.parents) both in (in-means (min s.high (cloned - 1)) ids b.0, merge-means ids s.parents b.1)
]

segment-decided : (cloned : ℕ) (ids : List ℕ) (s : Segment) → KnowsCloned cloned ids s → knows_segment cloned ids s ≡ true
segment-decided cloned ids s h = elim (cases_lt s.low cloned) [
  | inl lt ↦
      let k = h lt in
      or-right (leb cloned s.low) (is_in nat_eq (min s.high (cloned - 1)) ids && knows_merge ids s.parents)
      (and_from (is_in nat_eq (min s.high (cloned - 1)) ids) (knows_merge ids s.parents) (in-decided (min s.high (cloned - 1)) ids k.0) (merge-decided ids s.parents k.1))
  | inr ge ↦ or-left (leb cloned s.low) (is_in nat_eq (min s.high (cloned - 1)) ids && knows_merge ids s.parents) (le-leb cloned s.low ge)
]

needed-means : (cloned : ℕ) (ids : List ℕ) (ss : List Segment) → knows_needed cloned ids ss ≡ true → AllByRecursion (KnowsCloned cloned ids) ss
needed-means cloned ids [] h = tt
needed-means cloned ids (s ∷ ss) h =
    let a = and_parts (knows_segment cloned ids s) (knows_needed cloned ids ss) h in
    (segment-means cloned ids s a.0, needed-means cloned ids ss a.1)

needed-decided : (cloned : ℕ) (ids : List ℕ) (ss : List Segment) → AllByRecursion (KnowsCloned cloned ids) ss → knows_needed cloned ids ss ≡ true
needed-decided cloned ids [] h = refl
needed-decided cloned ids (s ∷ ss) h =
    and_from (knows_segment cloned ids s) (knows_needed cloned ids ss) (segment-decided cloned ids s h.0) (needed-decided cloned ids ss h.1)

-- where all ids are cloned, the greatest cloned one of a segment is its highest
abbrev pub KnowsEnds : List ℕ → List Segment → Type 0
KnowsEnds ids ss = AllByRecursion (λ (s : Segment). IsIn s.high ids × AreAllIn (merge_parents s.parents) ids) ss

abbrev pub LieBelow : ℕ → List Segment → Type 0
LieBelow end ss = AllByRecursion (λ (s : Segment). (s.low ≤ s.high) × (s.high < end)) ss

pub highest : (end : ℕ) (s : Segment) → s.high < end → min s.high (end - 1) ≡ s.high
highest end s lt = min-eq_left {n = s.high} {m = end - 1} (omega (arith, lt))

ends-known : (end : ℕ) (ids : List ℕ) (ss : List Segment) → LieBelow end ss → AllByRecursion (KnowsCloned end ids) ss → KnowsEnds ids ss
ends-known end ids [] w h = tt
ends-known end ids (s ∷ ss) w h =
    let up = w.0.0 in let lt = w.0.1 in
    let k = h.0 (omega (arith, up, lt)) in
    ((subst (λ (n : ℕ). IsIn n ids) (highest end s lt) k.0, k.1), ends-known end ids ss w.1 h.1)

known-ends : (end : ℕ) (ids : List ℕ) (ss : List Segment) → LieBelow end ss → KnowsEnds ids ss → AllByRecursion (KnowsCloned end ids) ss
known-ends end ids [] w h = tt
known-ends end ids (s ∷ ss) w h =
    ((λ _. (subst (λ (n : ℕ). IsIn n ids) (sym (highest end s w.0.1)) h.0.0, h.0.1)), known-ends end ids ss w.1 h.1)

-- ---- all ids from the cloned count on

-- the last of ids that ascend are all from one on, where that one stands so many before the end
from-one : (least end k cloned : ℕ) (ids : List ℕ) → ids_ascend least end ids ≡ true → length ids ≡ k + (end - cloned) → get_or ids k 0 ≡ cloned → (id : ℕ) → cloned ≤ id → id < end → IsIn id ids
from-one least end k cloned [] h len e id le lt = absurd (omega (arith, len, le, lt))
from-one least end zero cloned (x ∷ ids) h len e id le lt =
    let p = ascend-parts least end x ids h in
    all-known x end (x ∷ ids) (ascend-made x end x ids (omega arith) p.1 p.2) (omega (arith, len, e)) id (omega (arith, le, e)) lt
from-one least end (suc k) cloned (x ∷ ids) h len e id le lt =
    inr (from-one (x + 1) end k cloned ids (ascend-parts least end x ids h).2 (omega (arith, len)) e id le lt)

from-means : (end cloned : ℕ) (ids : List ℕ) → ids_ascend 0 end ids ≡ true → knows_from cloned end ids ≡ true → (id : ℕ) → cloned ≤ id → id < end → IsIn id ids
from-means end cloned ids up h id le lt =
    let many = leb (end - cloned) (length ids) in
    let at = eqb (get_or ids (length ids - (end - cloned)) 0) cloned in
    elim (or_cases (leb end cloned) (many && at) h) [
      | inl none ↦ let ge = leb-true end cloned none in absurd (omega (arith, ge, le, lt))
      | inr both ↦
          let b = and_parts many at both in
          let enough = leb-true (end - cloned) (length ids) b.0 in
          from-one 0 end (length ids - (end - cloned)) cloned ids up (omega (arith, enough)) (eqb-true (get_or ids (length ids - (end - cloned)) 0) cloned b.1) id le lt
    ]

record StandsAt (end cloned : ℕ) (ids : List ℕ) : Type 0 where
  pub enough : end - cloned ≤ length ids
  pub at : get_or ids (length ids - (end - cloned)) 0 ≡ cloned

one-from : (least end cloned : ℕ) (ids : List ℕ) → ids_ascend least end ids ≡ true → least ≤ cloned → cloned < end → ((id : ℕ) → cloned ≤ id → id < end → IsIn id ids) → StandsAt end cloned ids
one-from least end cloned [] h le lt all = absurd (all cloned (omega arith) lt)
one-from least end cloned (x ∷ ids) h le lt all =
    let p = ascend-parts least end x ids h in
    elim (cases_eq cloned x) [
      | inl e ↦
          let many = known-length cloned end (x ∷ ids) (ascend-made cloned end x ids (omega (arith, e)) p.1 p.2) all in
          let first : length (x ∷ ids) - (end - cloned) ≡ 0 = omega (arith, many) in
          record { enough = omega (arith, many); at = ap (λ (k : ℕ). get_or (x ∷ ids) k 0) first ∙ sym e }
      | inr ne ↦
          let lower = in-above (x + 1) end ids cloned p.2 (later ne (all cloned (omega arith) lt)) in
          let more = one-from (x + 1) end cloned ids p.2 lower lt (λ id low high. later (apart lower id low) (all id low high)) in
          let enough = more.enough in
          let next : length (x ∷ ids) - (end - cloned) ≡ suc (length ids - (end - cloned)) = omega (arith, enough) in
          record { enough = omega (arith, enough); at = ap (λ (k : ℕ). get_or (x ∷ ids) k 0) next ∙ more.at }
    ]
  where
    later : {id : ℕ} → id ≢ x → IsIn id (x ∷ ids) → IsIn id ids
    later ne (inl e) = absurd (ne e)
    later ne (inr i) = i

    apart : x + 1 ≤ cloned → (id : ℕ) → cloned ≤ id → id ≢ x
    apart lower id low e = absurd (omega (arith, lower, low, e))

from-decided : (end cloned : ℕ) (ids : List ℕ) → ids_ascend 0 end ids ≡ true → ((id : ℕ) → cloned ≤ id → id < end → IsIn id ids) → knows_from cloned end ids ≡ true
from-decided end cloned ids up all =
    let many = leb (end - cloned) (length ids) in
    let at = eqb (get_or ids (length ids - (end - cloned)) 0) cloned in
    elim (cases_lt cloned end) [
      | inl lt ↦
          let s = one-from 0 end cloned ids up (omega arith) lt all in
          or-right (leb end cloned) (many && at) (and_from many at (le-leb (end - cloned) (length ids) s.enough) (eq-eqb (get_or ids (length ids - (end - cloned)) 0) cloned s.at))
      | inr ge ↦ or-left (leb end cloned) (many && at) (le-leb end cloned ge)
    ]

-- ids that are too few
pub few-known : (cloned after : ℕ) (ids : List ℕ) → cloned < after → length ids < after - cloned → knows_from cloned after ids ≡ false
few-known cloned after ids lt few = rw (lt-leb after cloned lt, lt-leb (after - cloned) (length ids) few) refl

-- the one id that tells it
pub told-known : (cloned after count at-place : ℕ) (ids : List ℕ) → length ids ≡ count → cloned < after → after - cloned ≤ count → at-place ≡ get_or ids (count - (after - cloned)) 0
    → eqb at-place cloned ≡ knows_from cloned after ids
told-known cloned after count at-place ids many lt enough is =
    let at : at-place ≡ get_or ids (length ids - (after - cloned)) 0 = is ∙ ap (λ (n : ℕ). get_or ids (n - (after - cloned)) 0) (sym many) in
    rw (lt-leb after cloned lt, le-leb (after - cloned) (length ids) (omega (arith, many, enough))) (ap (λ (n : ℕ). eqb n cloned) at)

-- ---- the kinds

stores-means : (p : Payload) → (ltb 0 p.after || ltb 0 (length p.other_names)) ≡ true → (0 < p.after) ⊎ (0 < length p.other_names)
stores-means p h = ⊎_elim (λ e. inl (ltb-true 0 p.after e)) (λ e. inr (ltb-true 0 (length p.other_names) e)) (or_cases (ltb 0 p.after) (ltb 0 (length p.other_names)) h)

stores-decided : (p : Payload) → (0 < p.after) ⊎ (0 < length p.other_names) → (ltb 0 p.after || ltb 0 (length p.other_names)) ≡ true
stores-decided p h = ⊎_elim (λ lt. or-left (ltb 0 p.after) (ltb 0 (length p.other_names)) (lt-ltb 0 p.after lt)) (λ lt. or-right (ltb 0 p.after) (ltb 0 (length p.other_names)) (lt-ltb 0 (length p.other_names) lt)) h

-- what the tests of a payload know of it beforehand
pub record IsReady (p : Payload) : Type 0 where
  pub ascend : ids_ascend p.before p.after (known_ids p) ≡ true
  pub many : length (known_ids p) ≡ length p.known
  pub below : LieBelow p.after p.master

flush-means : (p : Payload) → IsReady p → p.kind ≡ 1 → flush_fits p ≡ true → IsFlush p
flush-means p r kind h =
    let some = ltb 0 p.after || ltb 0 (length p.other_names) in
    let a = and_parts (eqb p.cloned 0 && eqb (length p.known) (p.after - p.before) && eqb (length p.heads) 0) some h in
    let b = and_parts (eqb p.cloned 0 && eqb (length p.known) (p.after - p.before)) (eqb (length p.heads) 0) a.0 in
    let c = and_parts (eqb p.cloned 0) (eqb (length p.known) (p.after - p.before)) b.0 in
    record {
      kind = kind;
      cloned = eqb-true p.cloned 0 c.0;
      all_known = all-known p.before p.after (known_ids p) r.ascend (r.many ∙ eqb-true (length p.known) (p.after - p.before) c.1);
      no_heads = nil_from_length p.heads (eqb-true (length p.heads) 0 b.1);
      something = stores-means p a.1;
    }

flush-decided : (p : Payload) → IsReady p → IsFlush p → flush_fits p ≡ true
flush-decided p r h =
    let some = ltb 0 p.after || ltb 0 (length p.other_names) in
    let cloned = eq-eqb p.cloned 0 h.cloned in
    let known = eq-eqb (length p.known) (p.after - p.before) (sym r.many ∙ known-length p.before p.after (known_ids p) r.ascend h.all_known) in
    let heads = eq-eqb (length p.heads) 0 (ap length h.no_heads) in
    and_from (eqb p.cloned 0 && eqb (length p.known) (p.after - p.before) && eqb (length p.heads) 0) some
    (and_from (eqb p.cloned 0 && eqb (length p.known) (p.after - p.before)) (eqb (length p.heads) 0) (and_from (eqb p.cloned 0) (eqb (length p.known) (p.after - p.before)) cloned known) heads)
    (stores-decided p h.something)

clone-means : (p : Payload) → IsReady p → p.kind ≡ 2 → clone_fits p ≡ true → IsClone p
clone-means p r kind h =
    let a = and_parts (eqb p.cloned p.after && eqb p.before 0 && ltb 0 p.after && eqb (length p.other_names) 0) (knows_needed p.cloned (known_ids p) p.master) h in
    let b = and_parts (eqb p.cloned p.after && eqb p.before 0 && ltb 0 p.after) (eqb (length p.other_names) 0) a.0 in
    let c = and_parts (eqb p.cloned p.after && eqb p.before 0) (ltb 0 p.after) b.0 in
    let d = and_parts (eqb p.cloned p.after) (eqb p.before 0) c.0 in
    let all = eqb-true p.cloned p.after d.0 in
    record {
      kind = kind;
      cloned = all;
      first = eqb-true p.before 0 d.1;
      something = ltb-true 0 p.after c.1;
      no_others = eqb-true (length p.other_names) 0 b.1;
      known = ends-known p.after (known_ids p) p.master r.below (subst (λ (n : ℕ). AllByRecursion (KnowsCloned n (known_ids p)) p.master) all (needed-means p.cloned (known_ids p) p.master a.1));
    }

clone-decided : (p : Payload) → IsReady p → IsClone p → clone_fits p ≡ true
clone-decided p r h =
    let known = subst (λ (n : ℕ). AllByRecursion (KnowsCloned n (known_ids p)) p.master) (sym h.cloned) (known-ends p.after (known_ids p) p.master r.below h.known) in
    and_from (eqb p.cloned p.after && eqb p.before 0 && ltb 0 p.after && eqb (length p.other_names) 0) (knows_needed p.cloned (known_ids p) p.master)
    (and_from (eqb p.cloned p.after && eqb p.before 0 && ltb 0 p.after) (eqb (length p.other_names) 0)
    (and_from (eqb p.cloned p.after && eqb p.before 0) (ltb 0 p.after) (and_from (eqb p.cloned p.after) (eqb p.before 0) (eq-eqb p.cloned p.after h.cloned) (eq-eqb p.before 0 h.first)) (lt-ltb 0 p.after h.something))
    (eq-eqb (length p.other_names) 0 h.no_others))
    (needed-decided p.cloned (known_ids p) p.master known)

whole-means : (p : Payload) → IsReady p → p.kind ≡ 3 → whole_fits p ≡ true → IsWholePayload p
whole-means p r kind h =
    let some = ltb 0 p.after || ltb 0 (length p.other_names) in
    let behind = knows_from p.cloned p.after (known_ids p) in
    let needed = knows_needed p.cloned (known_ids p) p.master in
    let a = and_parts (eqb p.version 2 && leb p.cloned p.after && eqb p.before 0 && some && behind) needed h in
    let b = and_parts (eqb p.version 2 && leb p.cloned p.after && eqb p.before 0 && some) behind a.0 in
    let c = and_parts (eqb p.version 2 && leb p.cloned p.after && eqb p.before 0) some b.0 in
    let d = and_parts (eqb p.version 2 && leb p.cloned p.after) (eqb p.before 0) c.0 in
    let e = and_parts (eqb p.version 2) (leb p.cloned p.after) d.0 in
    let first = eqb-true p.before 0 d.1 in
    record {
      kind = kind;
      version = eqb-true p.version 2 e.0;
      cloned = leb-true p.cloned p.after e.1;
      first = first;
      something = stores-means p c.1;
      all_known = from-means p.after p.cloned (known_ids p) (subst (λ (n : ℕ). ids_ascend n p.after (known_ids p) ≡ true) first r.ascend) b.1;
      known = needed-means p.cloned (known_ids p) p.master a.1;
    }

whole-decided : (p : Payload) → IsReady p → IsWholePayload p → whole_fits p ≡ true
whole-decided p r h =
    let some = ltb 0 p.after || ltb 0 (length p.other_names) in
    let behind = knows_from p.cloned p.after (known_ids p) in
    let needed = knows_needed p.cloned (known_ids p) p.master in
    and_from (eqb p.version 2 && leb p.cloned p.after && eqb p.before 0 && some && behind) needed
    (and_from (eqb p.version 2 && leb p.cloned p.after && eqb p.before 0 && some) behind
    (and_from (eqb p.version 2 && leb p.cloned p.after && eqb p.before 0) some
    (and_from (eqb p.version 2 && leb p.cloned p.after) (eqb p.before 0) (and_from (eqb p.version 2) (leb p.cloned p.after) (eq-eqb p.version 2 h.version) (le-leb p.cloned p.after h.cloned)) (eq-eqb p.before 0 h.first))
    (stores-decided p h.something))
    (from-decided p.after p.cloned (known_ids p) (subst (λ (n : ℕ). ids_ascend n p.after (known_ids p) ≡ true) h.first r.ascend) h.all_known))
    (needed-decided p.cloned (known_ids p) p.master h.known)

pub kind-means : (p : Payload) → IsReady p → kind_fits p ≡ true → IsFlush p ⊎ (IsClone p ⊎ IsWholePayload p)
kind-means p r h = first (eqb p.kind 1) refl h
  where
    third : (b : Bool) → eqb p.kind 3 ≡ b → cond b (whole_fits p) false ≡ true → IsFlush p ⊎ (IsClone p ⊎ IsWholePayload p)
    third true e h = inr (inr (whole-means p r (eqb-true p.kind 3 e) h))
    third false e h = absurd (true≢false (sym h))

    second : (b : Bool) → eqb p.kind 2 ≡ b → cond b (clone_fits p) (cond (eqb p.kind 3) (whole_fits p) false) ≡ true → IsFlush p ⊎ (IsClone p ⊎ IsWholePayload p)
    second true e h = inr (inl (clone-means p r (eqb-true p.kind 2 e) h))
    second false e h = third (eqb p.kind 3) refl h

    first : (b : Bool) → eqb p.kind 1 ≡ b → cond b (flush_fits p) (cond (eqb p.kind 2) (clone_fits p) (cond (eqb p.kind 3) (whole_fits p) false)) ≡ true → IsFlush p ⊎ (IsClone p ⊎ IsWholePayload p)
    first true e h = inl (flush-means p r (eqb-true p.kind 1 e) h)
    first false e h = second (eqb p.kind 2) refl h

another-kind : (p : Payload) (n m : ℕ) → p.kind ≡ n → n ≢ m → eqb p.kind m ≡ false
another-kind p n m kind other = ne_eqb p.kind m (λ e. absurd (other (sym kind ∙ e)))

pub kind-decided : (p : Payload) → IsReady p → IsFlush p ⊎ (IsClone p ⊎ IsWholePayload p) → kind_fits p ≡ true
kind-decided p r (inl h) = let t = eq-eqb p.kind 1 h.kind in rw t (flush-decided p r h)
kind-decided p r (inr (inl h)) =
    let s = another-kind p 2 1 h.kind (λ e. absurd (omega (arith, e))) in
    let t = eq-eqb p.kind 2 h.kind in
    rw (s, t) (clone-decided p r h)
kind-decided p r (inr (inr h)) =
    let s = another-kind p 3 1 h.kind (λ e. absurd (omega (arith, e))) in
    let t = another-kind p 3 2 h.kind (λ e. absurd (omega (arith, e))) in
    let u = eq-eqb p.kind 3 h.kind in
    rw (s, t, u) (whole-decided p r h)
