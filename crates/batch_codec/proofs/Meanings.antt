-- The tests of a payload mean its rules.
use Rattle.std.proofs.Common.{◌≡◌, ◌≢◌, ℕ, ◌+◌, ◌-◌, ◌^◌, ◌<◌, ◌≤◌, Bool, true, false, not, ltb, leb, eqb, ◌&&◌, ◌||◌, ◌⊎◌, List, [], ◌∷◌, length, refl, sym, ap, inl, inr, ⊎_elim, true≢false, arith}
use Rattle.std.specs.List.{AllByRecursion}
use Rattle.std.proofs.lemmas.Bool.{and_parts, and_from, or_cases, not-true, ltb-true, lt-ltb, leb-true, le-leb, eqb-true, eq-eqb, cases_lt, cases_eq}
use Rattle.id_groups.specs.Lists.{IsIn}
use Rattle.segment_codec.specs.Record.{Segment}
use Rattle.segment_codec.specs.Table.{Follow}
use Rattle.segment_codec.specs.Turns.{goes_on, MayStandAt, StandInTurn}
use Rattle.batch_codec.specs.Grammar.{HasOthersParents}
use Rattle.batch_codec.specs.Reading.{are_within, may_stand, ids_ascend}
use Rattle.batch_codec.proofs.Records.{AllStand}
use Rattle.batch_codec.proofs.Ascending.{ascend-parts}

pub or-left : (b c : Bool) → b ≡ true → (b || c) ≡ true
or-left true c h = refl
or-left false c h = absurd (true≢false (sym h))

pub or-right : (b c : Bool) → c ≡ true → (b || c) ≡ true
or-right true c h = refl
or-right false c h = h

-- ---- a record at its place

record Tests (end first place : ℕ) (s : Segment) : Type 0 where
  pub level : s.level ≡ 0
  pub low : s.low ≡ place
  pub apart : (eqb place first || not (goes_on s)) ≡ true
  pub within : are_within end s.parents ≡ true

tests-of : (end first place : ℕ) (s : Segment) → may_stand end first place s ≡ true → Tests end first place s
tests-of end first place s h =
    let a = and_parts (eqb s.level 0 && eqb s.low place && (eqb place first || not (goes_on s))) (are_within end s.parents) h in
    let b = and_parts (eqb s.level 0 && eqb s.low place) (eqb place first || not (goes_on s)) a.0 in
    let c = and_parts (eqb s.level 0) (eqb s.low place) b.0 in
    record { level = eqb-true s.level 0 c.0; low = eqb-true s.low place c.1; apart = b.1; within = a.1 }

apart-means : (first place : ℕ) (s : Segment) → (eqb place first || not (goes_on s)) ≡ true → place ≢ first → goes_on s ≡ false
apart-means first place s h other = ⊎_elim (λ t. absurd (other (eqb-true place first t))) (λ t. not-true (goes_on s) t) (or_cases (eqb place first) (not (goes_on s)) h)

pub stand-turn : (end first place : ℕ) (ss : List Segment) → AllStand end first place ss → StandInTurn (MayStandAt first) place ss
stand-turn end first place [] h = tt
stand-turn end first place (s ∷ more) h =
    let t = tests-of end first place s h.1 in (
      record { segment = h.0; flat = t.level; low = t.low; apart = apart-means first place s t.apart },
      stand-turn end first (s.high + 1) more h.2,
    )

apart-decided : (first place : ℕ) (s : Segment) → (place ≢ first → goes_on s ≡ false) → (eqb place first || not (goes_on s)) ≡ true
apart-decided first place s h = elim (cases_eq place first) [
  | inl e ↦ or-left (eqb place first) (not (goes_on s)) (eq-eqb place first e)
  | inr ne ↦ or-right (eqb place first) (not (goes_on s)) (ap not (h ne))
]

pub turn-stand : (end first place : ℕ) (ss : List Segment) → AllByRecursion (λ (s : Segment). are_within end s.parents ≡ true) ss → StandInTurn (MayStandAt first) place ss → AllStand end first place ss
turn-stand end first place [] w h = tt
turn-stand end first place (s ∷ more) w h =
    let flat = eq-eqb s.level 0 h.0.flat in
    let low = eq-eqb s.low place h.0.low in
    let apart = apart-decided first place s h.0.apart in
    let within = w.0 in
    (h.0.segment, rw (flat, low, apart, within) refl, turn-stand end first (s.high + 1) more w.1 h.1)

-- ---- parents

within-means : (end low : ℕ) (ps : List ℕ) → are_within end ps ≡ true → AllByRecursion (λ p. p < low) ps → AllByRecursion (λ p. (p < end) ⊎ ((2 ^ 56 ≤ p) × (p < low))) ps
within-means end low [] h b = tt
within-means end low (p ∷ ps) h b =
    let t = and_parts (ltb p end || leb (2 ^ 56) p) (are_within end ps) h in
    (⊎_elim (λ e. inl (ltb-true p end e)) (λ e. inr (leb-true (2 ^ 56) p e, b.0)) (or_cases (ltb p end) (leb (2 ^ 56) p) t.0), within-means end low ps t.1 b.1)

within-decided : (end low : ℕ) (ps : List ℕ) → AllByRecursion (λ p. (p < end) ⊎ ((2 ^ 56 ≤ p) × (p < low))) ps → are_within end ps ≡ true
within-decided end low [] h = refl
within-decided end low (p ∷ ps) h =
    and_from (ltb p end || leb (2 ^ 56) p) (are_within end ps)
    (⊎_elim (λ e. or-left (ltb p end) (leb (2 ^ 56) p) (lt-ltb p end e)) (λ e. or-right (ltb p end) (leb (2 ^ 56) p) (le-leb (2 ^ 56) p e.0)) h.0)
    (within-decided end low ps h.1)

within-any : (ps : List ℕ) → are_within (2 ^ 56) ps ≡ true
within-any [] = refl
within-any (p ∷ ps) =
    and_from (ltb p (2 ^ 56) || leb (2 ^ 56) p) (are_within (2 ^ 56) ps)
    (elim (cases_lt p (2 ^ 56)) [
      | inl lt ↦ or-left (ltb p (2 ^ 56)) (leb (2 ^ 56) p) (lt-ltb p (2 ^ 56) lt)
      | inr ge ↦ or-right (ltb p (2 ^ 56)) (leb (2 ^ 56) p) (le-leb (2 ^ 56) p ge)
    ]) (within-any ps)

pub master-within : (ss : List Segment) → AllByRecursion (λ (s : Segment). are_within (2 ^ 56) s.parents ≡ true) ss
master-within [] = tt
master-within (s ∷ ss) = (within-any s.parents, master-within ss)

pub others-within : (end : ℕ) (ss : List Segment) → AllByRecursion (HasOthersParents end) ss → AllByRecursion (λ (s : Segment). are_within end s.parents ≡ true) ss
others-within end [] h = tt
others-within end (s ∷ ss) h = (within-decided end s.low s.parents h.0, others-within end ss h.1)

pub stand-parents : (end first place : ℕ) (ss : List Segment) → AllStand end first place ss → AllByRecursion (HasOthersParents end) ss
stand-parents end first place [] h = tt
stand-parents end first place (s ∷ ss) h = (within-means end s.low s.parents (tests-of end first place s h.1).within h.0.below, stand-parents end first (s.high + 1) ss h.2)

pub stand-below : (end first place : ℕ) (ss : List Segment) → AllStand end first place ss → AllByRecursion (λ (s : Segment). AllByRecursion (λ q. q < s.low) s.parents) ss
stand-below end first place [] h = tt
stand-below end first place (s ∷ ss) h = (h.0.below, stand-below end first (s.high + 1) ss h.2)

pub follow-length : (first end : ℕ) (ss : List Segment) → Follow first end ss → first + length ss ≤ end
follow-length first end [] h = omega (arith, h)
follow-length first end (s ∷ ss) h = let up = h.1 in omega (arith, up, follow-length (s.high + 1) end ss h.2)

follow-up : (first end : ℕ) (ss : List Segment) → Follow first end ss → first ≤ end
follow-up first end ss h = omega (arith, follow-length first end ss h)

-- each of records in turn lies below the end
pub follow-within : (first end : ℕ) (ss : List Segment) → Follow first end ss → AllByRecursion (λ (s : Segment). (s.low ≤ s.high) × (s.high < end)) ss
follow-within first end [] h = tt
follow-within first end (s ∷ ss) h =
    let low = h.0 in let up = h.1 in
    ((omega (arith, low, up), omega (arith, follow-up (s.high + 1) end ss h.2)), follow-within (s.high + 1) end ss h.2)

-- ---- known ids

pub ascend-length : (least end : ℕ) (ids : List ℕ) → ids_ascend least end ids ≡ true → length ids ≤ end - least
ascend-length least end [] h = omega arith
ascend-length least end (id ∷ ids) h =
    let p = ascend-parts least end id ids h in
    let low = p.0 in let high = p.1 in
    omega (arith, low, high, ascend-length (id + 1) end ids p.2)

pub in-above : (least end : ℕ) (ids : List ℕ) (n : ℕ) → ids_ascend least end ids ≡ true → IsIn n ids → least ≤ n
in-above least end [] n h i = absurd i
in-above least end (id ∷ ids) n h (inl e) = let low = (ascend-parts least end id ids h).0 in omega (arith, low, e)
in-above least end (id ∷ ids) n h (inr i) =
    let p = ascend-parts least end id ids h in
    let low = p.0 in
    omega (arith, low, in-above (id + 1) end ids n p.2 i)

-- as many as there are is all of them
pub all-known : (least end : ℕ) (ids : List ℕ) → ids_ascend least end ids ≡ true → length ids ≡ end - least → (id : ℕ) → least ≤ id → id < end → IsIn id ids
all-known least end [] h e id le lt = absurd (omega (arith, e, le, lt))
all-known least end (x ∷ ids) h e id le lt =
    let p = ascend-parts least end x ids h in
    let low = p.0 in let high = p.1 in
    let short = ascend-length (x + 1) end ids p.2 in
    let first : x ≡ least = omega (arith, low, high, short, e) in
    elim (cases_eq id x) [
      | inl same ↦ inl same
      | inr other ↦ inr (all-known (x + 1) end ids p.2 (omega (arith, e, first, high)) id (omega (arith, le, first, other)) lt)
    ]

pub known-length : (least end : ℕ) (ids : List ℕ) → ids_ascend least end ids ≡ true → ((id : ℕ) → least ≤ id → id < end → IsIn id ids) → length ids ≡ end - least
known-length least end [] h all = elim (cases_lt least end) [
  | inl lt ↦ absurd (all least (omega arith) lt)
  | inr ge ↦ omega (arith, ge)
]
known-length least end (x ∷ ids) h all =
    let p = ascend-parts least end x ids h in
    let low = p.0 in let high = p.1 in
    let first : x ≡ least = first-of (all least (omega arith) (omega (arith, low, high))) in
    let others = known-length (x + 1) end ids p.2 (λ id le lt. later id le (all id (omega (arith, le, low)) lt)) in
    omega (arith, others, first, high)
  where
    first-of : IsIn least (x ∷ ids) → x ≡ least
    first-of (inl e) = sym e
    first-of (inr i) =
        let p = ascend-parts least end x ids h in
        let low = p.0 in
        let more = in-above (x + 1) end ids least p.2 i in absurd (omega (arith, low, more))

    later : (id : ℕ) → x + 1 ≤ id → IsIn id (x ∷ ids) → IsIn id ids
    later id le (inl e) = absurd (omega (arith, le, e))
    later id le (inr i) = i
