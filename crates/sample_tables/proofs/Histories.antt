-- Drawn histories: what is added so far, and what the next number does to it.
use Rattle.std.proofs.Common.{◌≡◌, ℕ, zero, suc, ◌+◌, ◌-◌, ◌/◌, ◌<◌, ◌≤◌, ◌^◌, inr, List, [], ◌∷◌, ◌++◌, Some, None, sym, subst, ap, ◌∙◌, arith, ⊎_elim, if◌then◌else◌, eq-eqb}
use Rattle.std.specs.Prelude.{nat_lt}
use Rattle.std.proofs.lemmas.Bool.{ne_eqb, lt-ltb}
use Rattle.segment_codec.specs.Record.{Segment}
use Rattle.segment_codec.specs.Table.{parents_in, parents_at, Follow}
use Rattle.segment_codec.proofs.Tables.{le_or_lt, found-head, follow-held}
use Rattle.flat_segments.proofs.Looking.{at-front, none-outside, at-back}
use Rattle.sample_tables.specs.declared.history.Begin.{Begin}
use Rattle.sample_tables.specs.declared.history.Rule.{Rule}
use Rattle.sample_tables.specs.Drawn.{MayBegin, parents_begun, next_drawn, drawn, begin_by, parents_by, history}
use Rattle.sample_tables.specs.Samples.{Written, IsSampleOf, next_segment}

pub in-turn : (sample : Written) (segments : List Segment) → IsSampleOf sample segments → Follow 0 sample.table.end segments
in-turn sample segments is = subst (Follow 0 sample.table.end) is.segments_are is.table_of.in_turn

-- one segment more gives its ids the parents that it has, and leaves those of the others
pub behind : (segments : List Segment) (sample : Written) (parents : List ℕ) (count : ℕ) (f : ℕ → List ℕ) → IsSampleOf sample segments → 0 < count
    → ((j : ℕ) → j < sample.table.end → parents_at segments j ≡ f j) → parents ≡ f sample.table.end
    → ((j : ℕ) → sample.table.end < j → j < sample.table.end + count → f j ≡ (j - 1) ∷ [])
    → (j : ℕ) → j < sample.table.end + count → parents_at (segments ++ next_segment sample.table.end parents count ∷ []) j ≡ f j
behind segments sample parents count f is some done opens goes j lt =
    let end = sample.table.end in
    let next = next_segment end parents count in
    let follow = in-turn sample segments is in
    ⊎_elim
    (λ (from : end ≤ j).
    let at = at-back segments (next ∷ []) j (none-outside 0 end segments j follow (inr from)) ∙ found-head next [] j (from, omega (arith, some, lt)) in
    ap (λ o. parents_in o j) at
    ∙ ⊎_elim
    (λ (le : j ≤ end). let same : j ≡ end = omega (arith, le, from) in
    ap (λ b. if b then parents else (j - 1) ∷ []) (eq-eqb j end same) ∙ opens ∙ ap f (sym same))
    (λ (over : end < j). ap (λ b. if b then parents else (j - 1) ∷ []) (ne_eqb j end (omega (arith, over))) ∙ sym (goes j over lt))
    (le_or_lt j end))
    (λ (below : j < end).
    let held = follow-held 0 end segments follow j (omega arith) below in
    ap (λ o. parents_in o j) (at-front segments (next ∷ []) j held.0 held.1 ∙ sym held.1) ∙ done j below)
    (le_or_lt end j)

-- What was added of the commits below i: all up to some end, and those from there on begin so and stand each on the one before.
pub record Draws (rule : Rule) (start i : ℕ) (sample : Written) (begun : Begin) (state : ℕ) : Type 0 where
  pub segments : List Segment
  pub is : IsSampleOf sample segments
  pub done : (j : ℕ) → j < sample.table.end → parents_at segments j ≡ history rule start j
  pub opens : parents_begun sample.table.end begun ≡ history rule start sample.table.end
  pub goes : (j : ℕ) → sample.table.end < j → j < i → history rule start j ≡ (j - 1) ∷ []
  pub state_is : state ≡ drawn start (i - 2)

-- before the commit i: some commits wait to be added, and may be
abbrev pub Waits : Rule → ℕ → ℕ → ℕ → Written → Begin → ℕ → Type 0
Waits rule start commits i sample begun state = (sample.table.end < i) × (i ≤ commits) × MayBegin sample.table.end begun × Draws rule start i sample begun state

pub next-state : (start state i : ℕ) → 0 < i → state ≡ drawn start (i - 2) → (if nat_lt 1 i then next_drawn state else state) ≡ drawn start (i - 1)
next-state start state zero lt e = absurd (omega (arith, lt))
next-state start state (suc zero) lt e = e
next-state start state (suc (suc k)) lt e =
    let two : suc (suc k) - 2 ≡ k = omega arith in
    let one : suc k ≡ suc (suc k) - 1 = omega arith in
    ap (λ b. if b then next_drawn state else state) (lt-ltb 1 (suc (suc k)) (omega arith))
    ∙ ap next_drawn (e ∙ ap (drawn start) two) ∙ ap (drawn start) one

pub history-at : (rule : Rule) (start state i : ℕ) → 0 < i → state ≡ drawn start (i - 1) → history rule start i ≡ parents_by i (begin_by rule (state / 2 ^ 33) i)
history-at rule start state zero lt e = absurd (omega (arith, lt))
history-at rule start state (suc k) lt e =
    let one : suc k - 1 ≡ k = omega arith in
    ap (λ s. parents_by (suc k) (begin_by rule (s / 2 ^ 33) (suc k))) (sym (e ∙ ap (drawn start) one))

-- the state for the next commit
same-state : (start state i k : ℕ) → k ≡ suc i → state ≡ drawn start (i - 1) → state ≡ drawn start (k - 2)
same-state start state i k e s = let n : i - 1 ≡ k - 2 = omega (arith, e) in s ∙ ap (drawn start) n

pub goes-on : (rule : Rule) (start i k : ℕ) (sample : Written) (begun : Begin) (state next : ℕ) → 0 < i → k ≡ suc i → Draws rule start i sample begun state
    → next ≡ (if nat_lt 1 i then next_drawn state else state) → None ≡ begin_by rule (next / 2 ^ 33) i → Draws rule start k sample begun next
goes-on rule start i k sample begun state next lt e d n b =
    let now = n ∙ next-state start state i lt d.state_is in
    let plain : history rule start i ≡ (i - 1) ∷ [] = history-at rule start next i lt now ∙ ap (parents_by i) (sym b) in
    record {
      segments = d.segments;
      is = d.is;
      done = d.done;
      opens = d.opens;
      goes = λ j a below. ⊎_elim
          (λ (le : i ≤ j). let same : j ≡ i = omega (arith, le, below, e) in subst (λ m. history rule start m ≡ (m - 1) ∷ []) (sym same) plain)
          (λ (less : j < i). d.goes j a less) (le_or_lt i j);
      state_is = same-state start next i k e now;
    }

pub begins : (rule : Rule) (start i k : ℕ) (sample longer : Written) (begun first : Begin) (count state next : ℕ) → sample.table.end < i → k ≡ suc i → Draws rule start i sample begun state
    → next ≡ (if nat_lt 1 i then next_drawn state else state) → Some first ≡ begin_by rule (next / 2 ^ 33) i → count ≡ i - sample.table.end
    → ((segments : List Segment) → IsSampleOf sample segments → IsSampleOf longer (segments ++ next_segment sample.table.end (parents_begun sample.table.end begun) count ∷ []))
    → longer.table.end ≡ sample.table.end + count → Draws rule start k longer first next
begins rule start i k sample longer begun first count state next lt e d n b size added ends =
    let now = n ∙ next-state start state i (omega (arith, lt)) d.state_is in
    let at : longer.table.end ≡ i = omega (arith, ends, size, lt) in
    let opened : parents_begun i first ≡ history rule start i = ap (parents_by i) b ∙ sym (history-at rule start next i (omega (arith, lt)) now) in
    record {
      segments = d.segments ++ next_segment sample.table.end (parents_begun sample.table.end begun) count ∷ [];
      is = added d.segments d.is;
      done = λ j below. behind d.segments sample (parents_begun sample.table.end begun) count (history rule start) d.is (omega (arith, size, lt)) d.done d.opens
          (λ m a c. d.goes m a (omega (arith, c, size, lt))) j (omega (arith, below, ends));
      opens = subst (λ m. parents_begun m first ≡ history rule start m) (sym at) opened;
      goes = λ j a c. absurd (omega (arith, a, c, at, e));
      state_is = same-state start next i k e now;
    }

-- once the last commits are added, all have their parents
pub ends : (rule : Rule) (start commits : ℕ) (sample longer : Written) (begun : Begin) (count state : ℕ) → sample.table.end < commits → Draws rule start commits sample begun state
    → count ≡ commits - sample.table.end
    → ((segments : List Segment) → IsSampleOf sample segments → IsSampleOf longer (segments ++ next_segment sample.table.end (parents_begun sample.table.end begun) count ∷ []))
    → (segments : List Segment) × IsSampleOf longer segments × ((j : ℕ) → j < commits → parents_at segments j ≡ history rule start j)
ends rule start commits sample longer begun count state lt d size added = (
  d.segments ++ next_segment sample.table.end (parents_begun sample.table.end begun) count ∷ [],
  added d.segments d.is,
  λ j below. behind d.segments sample (parents_begun sample.table.end begun) count (history rule start) d.is (omega (arith, size, lt)) d.done d.opens
      (λ m a c. d.goes m a (omega (arith, c, size, lt))) j (omega (arith, below, size, lt)),
)
