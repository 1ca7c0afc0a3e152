-- Records one after another.
use Rattle.std.proofs.Common.{◌≡◌, ℕ, zero, suc, ◌+◌, ◌-◌, ◌<◌, ◌≤◌, Bool, true, false, cond, ◌&&◌, List, [], ◌∷◌, ◌++◌, length, take, drop, Option, Some, None, refl, sym, ap, subst, ◌∙◌, append_assoc, arith}
use Rattle.std.specs.List.{flat_map, AllByRecursion}
use Rattle.std.proofs.lemmas.List.{append-nil, take_at, drop_at, length-append}
use Rattle.std.proofs.lemmas.List.Concat.{flat_map-cons}
use Rattle.std.proofs.lemmas.Bool.{and_left}
use Rattle.segment_codec.specs.Record.{Segment, IsSegment, segment_bytes}
use Rattle.segment_codec.specs.Reading.{◌>>=◌, record_at}
use Rattle.segment_codec.specs.Turns.{place_behind}
use Rattle.segment_codec.proofs.Numbers.{IsBytes, bind_some, chosen, some_is}
use Rattle.segment_codec.proofs.Lists.{bytes-drop}
use Rattle.segment_codec.proofs.Records.{record_takes, record_again}
use Rattle.batch_codec.specs.Reading.{segments_in, may_stand, behind_segment, may_rise, behind_level, records_at, knows_segment, knows_needed}

-- ---- the records that bytes are

pub segments-again : (ss : List Segment) → AllByRecursion IsSegment ss → segments_in (length ss) (flat_map segment_bytes ss) ≡ ss
unfolding segments_in
segments-again [] h = refl
segments-again (s ∷ ss) h =
    let whole = ap record_at (flat_map-cons segment_bytes s ss) ∙ record_again s (flat_map segment_bytes ss) h.0 in
    rw whole (ap (λ (z : List Segment). s ∷ z) (segments-again ss h.1))

-- ---- records, each of which may come at its place

abbrev pub AllCome : (Place : Type 0) → (Place → Segment → Bool) → (Segment → Place) → Place → List Segment → Type 0
AllCome Place may_come behind place [] = Unit {0}
AllCome Place may_come behind place (s ∷ more) = IsSegment s × (may_come place s ≡ true) × AllCome Place may_come behind (behind s) more

-- those of a section that covers ids
abbrev pub AllStand : ℕ → ℕ → ℕ → List Segment → Type 0
AllStand end first place ss = AllCome ℕ (may_stand end first) behind_segment place ss

-- those of the levels
abbrev pub AllRise : ℕ → ℕ × ℕ → List Segment → Type 0
AllRise end least ss = AllCome (ℕ × ℕ) (may_rise end) behind_level least ss

pub record Taken (Place : Type 0) (may_come : Place → Segment → Bool) (behind : Segment → Place) (place : Place) (count : ℕ) (bytes : List ℕ) (x : List Segment × List ℕ) : Type 0 where
  pub parts : bytes ≡ flat_map segment_bytes x.0 ++ x.1
  pub many : length x.0 ≡ count
  pub come : AllCome Place may_come behind place x.0

pub records_take : (Place : Type 0) (may_come : Place → Segment → Bool) (behind : Segment → Place) (place : Place) (count : ℕ) (bytes : List ℕ) (x : List Segment × List ℕ) → IsBytes bytes
    → records_at may_come behind place count bytes ≡ Some x → Taken Place may_come behind place count bytes x
unfolding records_at
records_take Place may_come behind place zero bytes x fits e =
    let made : List Segment × List ℕ = ([], bytes) in
    subst (Taken Place may_come behind place 0 bytes) (some_is made x e) (record { parts = refl; many = refl; come = tt })
records_take Place may_come behind place (suc count) bytes x fits e =
    let a = bind_some (record_at bytes) (λ segment. cond (may_come place segment.0) (records_at may_come behind (behind segment.0) count segment.1) None >>= λ others. Some (segment.0 ∷ others.0, others.1)) x e in
    let b = bind_some (cond (may_come place a.0.0) (records_at may_come behind (behind a.0.0) count a.0.1) None) (λ others. Some (a.0.0 ∷ others.0, others.1)) x a.2 in
    let g = chosen (may_come place a.0.0) (records_at may_come behind (behind a.0.0) count a.0.1) b.0 b.1 in
    let first-one = record_takes bytes a.0 fits a.1 in
    let others = records_take Place may_come behind (behind a.0.0) count a.0.1 b.0 (bytes-drop (segment_bytes a.0.0) a.0.1 bytes first-one.parts fits) g.1 in
    let made : List Segment × List ℕ = (a.0.0 ∷ b.0.0, b.0.1) in
    subst (Taken Place may_come behind place (suc count) bytes) (some_is made x b.2) (record {
      parts = first-one.parts ∙ ap (λ (z : List ℕ). segment_bytes a.0.0 ++ z) others.parts ∙ sym (append_assoc (segment_bytes a.0.0) (flat_map segment_bytes b.0.0) b.0.1) ∙ ap (λ (z : List ℕ). z ++ b.0.1) (sym (flat_map-cons segment_bytes a.0.0 b.0.0));
      many = ap suc others.many;
      come = (first-one.segment, g.0, others.come);
    })

pub records_again : (Place : Type 0) (may_come : Place → Segment → Bool) (behind : Segment → Place) (place : Place) (ss : List Segment) (rest : List ℕ) → AllCome Place may_come behind place ss
    → records_at may_come behind place (length ss) (flat_map segment_bytes ss ++ rest) ≡ Some (ss, rest)
unfolding records_at
records_again Place may_come behind place [] rest h = refl
records_again Place may_come behind place (s ∷ ss) rest h =
    let t = h.1 in
    let regrouped : flat_map segment_bytes (s ∷ ss) ++ rest ≡ segment_bytes s ++ (flat_map segment_bytes ss ++ rest) =
    ap (λ (z : List ℕ). z ++ rest) (flat_map-cons segment_bytes s ss) ∙ append_assoc (segment_bytes s) (flat_map segment_bytes ss) rest in
    ap (records_at may_come behind place (suc (length ss))) regrouped ∙ rw (record_again s (flat_map segment_bytes ss ++ rest) h.0, t, records_again Place may_come behind (behind s) ss rest h.2) refl

-- ---- the same, as a loop does

-- the place behind the last record
abbrev pub last_place : (Place : Type 0) → (Segment → Place) → Place → List Segment → Place
last_place Place behind place [] = place
last_place Place behind place (s ∷ more) = last_place Place behind (behind s) more

pub last-behind : (place : ℕ) (ss : List Segment) → last_place ℕ behind_segment place ss ≡ place_behind place ss
last-behind place [] = refl
last-behind place (s ∷ ss) = last-behind (s.high + 1) ss

-- what was read before, and what is still read
abbrev pub with_front : List Segment → Option (List Segment × List ℕ) → Option (List Segment × List ℕ)
with_front front read = read >>= λ x. Some (front ++ x.0, x.1)

pub record ReadSoFar (Place : Type 0) (may_come : Place → Segment → Bool) (behind : Segment → Place) (first : Place) (count : ℕ) (bytes : List ℕ) (i : ℕ) (place : Place) (rest : List ℕ) : Type 0 where
  pub done : List Segment
  pub many : length done ≡ i
  pub parts : bytes ≡ flat_map segment_bytes done ++ rest
  pub each : AllByRecursion IsSegment done
  pub place_is : place ≡ last_place Place behind first done
  pub goes_on : records_at may_come behind first count bytes ≡ with_front done (records_at may_come behind place (count - i) rest)

pub so_far-first : (Place : Type 0) (may_come : Place → Segment → Bool) (behind : Segment → Place) (first : Place) (count : ℕ) (bytes : List ℕ) → ReadSoFar Place may_come behind first count bytes 0 first bytes
so_far-first Place may_come behind first count bytes =
    record { done = []; many = refl; parts = refl; each = tt; place_is = refl; goes_on = let k : count - 0 ≡ count = omega arith in rw k (same (records_at may_come behind first count bytes)) }
  where
    same : (r : Option (List Segment × List ℕ)) → r ≡ with_front [] r
    same None = refl
    same (Some x) = refl

all-append : (s : Segment) (ss : List Segment) → AllByRecursion IsSegment ss → IsSegment s → AllByRecursion IsSegment (ss ++ s ∷ [])
all-append s [] h g = (g, tt)
all-append s (t ∷ ss) h g = (h.0, all-append s ss h.1 g)

last-append : (Place : Type 0) (behind : Segment → Place) (place : Place) (ss : List Segment) (s : Segment) → behind s ≡ last_place Place behind place (ss ++ s ∷ [])
last-append Place behind place [] s = refl
last-append Place behind place (t ∷ ss) s = last-append Place behind (behind t) ss s

spelled-append : (ss : List Segment) (s : Segment) (rest : List ℕ) → flat_map segment_bytes ss ++ (segment_bytes s ++ rest) ≡ flat_map segment_bytes (ss ++ s ∷ []) ++ rest
spelled-append [] s rest = ap (λ (z : List ℕ). z ++ rest) (sym (append-nil (segment_bytes s)) ∙ sym (flat_map-cons segment_bytes s []))
spelled-append (t ∷ ss) s rest =
    ap (λ (z : List ℕ). z ++ (segment_bytes s ++ rest)) (flat_map-cons segment_bytes t ss) ∙ append_assoc (segment_bytes t) (flat_map segment_bytes ss) (segment_bytes s ++ rest)
    ∙ ap (λ (z : List ℕ). segment_bytes t ++ z) (spelled-append ss s rest) ∙ sym (append_assoc (segment_bytes t) (flat_map segment_bytes (ss ++ s ∷ [])) rest)
    ∙ ap (λ (z : List ℕ). z ++ rest) (sym (flat_map-cons segment_bytes t (ss ++ s ∷ [])))

regroup : (front : List Segment) (s : Segment) (read : Option (List Segment × List ℕ)) → with_front front (read >>= λ x. Some (s ∷ x.0, x.1)) ≡ with_front (front ++ s ∷ []) read
regroup front s (Some x) = ap (λ (ss : List Segment). Some (ss, x.1)) (simp append_assoc)
regroup front s None = refl

pub so_far-next : (Place : Type 0) (may_come : Place → Segment → Bool) (behind : Segment → Place) (first : Place) (count : ℕ) (bytes : List ℕ) (i : ℕ) (place : Place) (rest : List ℕ) (s : Segment) (after : List ℕ)
    → IsBytes bytes → i < count → record_at rest ≡ Some (s, after) → may_come place s ≡ true → ReadSoFar Place may_come behind first count bytes i place rest
    → ReadSoFar Place may_come behind first count bytes (i + 1) (behind s) after
unfolding records_at
so_far-next Place may_come behind first count bytes i place rest s after fits lt e t h =
    let took = record_takes rest (s, after) (bytes-drop (flat_map segment_bytes h.done) rest bytes h.parts fits) e in
    let k : count - i ≡ suc (count - (i + 1)) = omega arith in
    let many = h.many in
    record {
      done = h.done ++ s ∷ [];
      many = omega (arith, many, length-append h.done (s ∷ []));
      parts = h.parts ∙ ap (λ (z : List ℕ). flat_map segment_bytes h.done ++ z) took.parts ∙ spelled-append h.done s after;
      each = all-append s h.done h.each took.segment;
      place_is = last-append Place behind first h.done s;
      goes_on = h.goes_on ∙ rw (k, e, t) (regroup h.done s (records_at may_come behind (behind s) (count - (i + 1)) after));
    }

pub so_far-none : (Place : Type 0) (may_come : Place → Segment → Bool) (behind : Segment → Place) (first : Place) (count : ℕ) (bytes : List ℕ) (i : ℕ) (place : Place) (rest : List ℕ) → i < count → record_at rest ≡ None
    → ReadSoFar Place may_come behind first count bytes i place rest → records_at may_come behind first count bytes ≡ None
unfolding records_at
so_far-none Place may_come behind first count bytes i place rest lt e h =
    let k : count - i ≡ suc (count - (i + 1)) = omega arith in
    h.goes_on ∙ rw (k, e) refl

pub so_far-bad : (Place : Type 0) (may_come : Place → Segment → Bool) (behind : Segment → Place) (first : Place) (count : ℕ) (bytes : List ℕ) (i : ℕ) (place : Place) (rest : List ℕ) (s : Segment) (after : List ℕ) → i < count
    → record_at rest ≡ Some (s, after) → may_come place s ≡ false → ReadSoFar Place may_come behind first count bytes i place rest → records_at may_come behind first count bytes ≡ None
unfolding records_at
so_far-bad Place may_come behind first count bytes i place rest s after lt e t h =
    let k : count - i ≡ suc (count - (i + 1)) = omega arith in
    h.goes_on ∙ rw (k, e, t) refl

-- what is read in the end, the front being cut off the bytes
pub record AllRead (Place : Type 0) (may_come : Place → Segment → Bool) (behind : Segment → Place) (first : Place) (count : ℕ) (bytes front rest : List ℕ) (place : Place) : Type 0 where
  pub exact : records_at may_come behind first count bytes ≡ Some (segments_in count front, rest)
  pub many : length (segments_in count front) ≡ count
  pub spelled : front ≡ flat_map segment_bytes (segments_in count front)
  pub place_is : place ≡ last_place Place behind first (segments_in count front)

pub so_far-all : (Place : Type 0) (may_come : Place → Segment → Bool) (behind : Segment → Place) (first : Place) (count : ℕ) (bytes : List ℕ) (i : ℕ) (place : Place) (left front rest : List ℕ) → i ≤ count → count ≤ i → ReadSoFar Place may_come behind first count bytes i place left
    → front ≡ take (length bytes - length left) bytes → rest ≡ drop (length bytes - length left) bytes → AllRead Place may_come behind first count bytes front rest place
unfolding records_at
so_far-all Place may_come behind first count bytes i place left front rest short done h front-is rest-is =
    let k : count - i ≡ 0 = omega arith in
    let many = h.many in
    let same : length h.done ≡ count = omega (arith, many) in
    let len : length (flat_map segment_bytes h.done) ≡ length bytes - length left = omega (arith, ap (length {A = ℕ}) h.parts, length-append (flat_map segment_bytes h.done) left) in
    let f : front ≡ flat_map segment_bytes h.done = front-is ∙ ap (take (length bytes - length left)) h.parts ∙ take_at (flat_map segment_bytes h.done) left (length bytes - length left) len in
    let r : rest ≡ left = rest-is ∙ ap (drop (length bytes - length left)) h.parts ∙ drop_at (flat_map segment_bytes h.done) left (length bytes - length left) len in
    let ss : segments_in count front ≡ h.done = ap (segments_in count) f ∙ ap (λ (n : ℕ). segments_in n (flat_map segment_bytes h.done)) (sym same) ∙ segments-again h.done h.each in
    record {
      exact = h.goes_on ∙ rw (k, ss, r) (ap (λ (z : List Segment). Some (z, left)) (append-nil h.done));
      many = ap (length {A = Segment}) ss ∙ same;
      spelled = f ∙ ap (flat_map segment_bytes) (sym ss);
      place_is = h.place_is ∙ ap (last_place Place behind first) (sym ss);
    }

-- ---- what has to be known of cloned ids, record by record

pub needed-none : (cloned : ℕ) (ids : List ℕ) (n i : ℕ) (rest : List ℕ) (whole : Bool) → i < n → record_at rest ≡ None → knows_needed cloned ids (segments_in (n - i) rest) ≡ whole → true ≡ whole
unfolding segments_in
needed-none cloned ids n i rest whole lt e h =
    let k : n - i ≡ suc (n - (i + 1)) = omega arith in
    let none : knows_needed cloned ids (segments_in (n - i) rest) ≡ true = rw (k, e) refl in
    sym none ∙ h

needed-one : (n i : ℕ) (rest : List ℕ) (s : Segment) (after : List ℕ) → i < n → record_at rest ≡ Some (s, after) → segments_in (n - i) rest ≡ s ∷ segments_in (n - (i + 1)) after
unfolding segments_in
needed-one n i rest s after lt e = let k : n - i ≡ suc (n - (i + 1)) = omega arith in rw (k, e) refl

pub needed-bad : (cloned : ℕ) (ids : List ℕ) (n i : ℕ) (rest : List ℕ) (s : Segment) (after : List ℕ) (whole : Bool) → i < n → record_at rest ≡ Some (s, after) → false ≡ knows_segment cloned ids s
    → knows_needed cloned ids (segments_in (n - i) rest) ≡ whole → false ≡ whole
needed-bad cloned ids n i rest s after whole lt e bad h =
    sym (ap (knows_needed cloned ids) (needed-one n i rest s after lt e) ∙ and_left (knows_segment cloned ids s) (knows_needed cloned ids (segments_in (n - (i + 1)) after)) (sym bad)) ∙ h

pub needed-next : (cloned : ℕ) (ids : List ℕ) (n i : ℕ) (rest : List ℕ) (s : Segment) (after : List ℕ) (whole : Bool) → i < n → record_at rest ≡ Some (s, after) → true ≡ knows_segment cloned ids s
    → knows_needed cloned ids (segments_in (n - i) rest) ≡ whole → knows_needed cloned ids (segments_in (n - (i + 1)) after) ≡ whole
needed-next cloned ids n i rest s after whole lt e good h =
    let others = knows_needed cloned ids (segments_in (n - (i + 1)) after) in
    ap (λ (b : Bool). b && others) good ∙ sym (ap (knows_needed cloned ids) (needed-one n i rest s after lt e)) ∙ h

pub needed-end : (cloned : ℕ) (ids : List ℕ) (n i : ℕ) (rest : List ℕ) (whole : Bool) → n ≤ i → knows_needed cloned ids (segments_in (n - i) rest) ≡ whole → true ≡ whole
unfolding segments_in
needed-end cloned ids n i rest whole le h =
    let k : n - i ≡ 0 = omega arith in
    let none : knows_needed cloned ids (segments_in (n - i) rest) ≡ true = rw k refl in
    sym none ∙ h
