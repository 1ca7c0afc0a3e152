-- The records of a batch, gone over from the first to the last.
use Rattle.std.proofs.Common.{◌≡◌, ℕ, suc, ◌+◌, ◌-◌, ◌<◌, ◌≤◌, ◌^◌, Bool, true, false, not, List, [], ◌∷◌, ◌++◌, length, map, Err, cond, refl, sym, subst, ap, ◌∙◌, arith, append_assoc}
use Rattle.std.specs.Prelude.{filter, flat_map}
use Rattle.std.specs.List.{AllByRecursion}
use Rattle.std.proofs.lemmas.List.{append-nil, length-append}
use Rattle.std.proofs.lemmas.List.Concat.{flat_map-cons}
use Rattle.std.specs.declared.result.Result.{Result}
use Rattle.segment_codec.specs.Record.{Segment, IsSegment, segment_bytes}
use Rattle.flat_segments.specs.declared.fault.FlatFault.{FlatFault}
use Rattle.flat_segments.specs.declared.fault.FlatFault.TheVariants.{BadSegment}
use Rattle.segment_codec.proofs.Records.{one-record}
use Rattle.flat_segments.specs.Entries.{PlainEntry}
use Rattle.segment_codec.specs.Turns.{goes_on, StandInTurn, IsFirstBroken, place_behind}
use Rattle.flat_segments.specs.Placed.{PlacedSegment, placed_segments, AreRecords, MasterMayStandAt}
use Rattle.flat_segments.specs.Kept.{entry_of, kept_of}

-- the records that are left of those of a batch, and what is still to come of them
pub record Keeps (first at : ℕ) (records : List ℕ) (old new : List PlainEntry) (next number : ℕ) (rest : List ℕ) (segments : List Segment) : Type 0 where
  pub left : List Segment
  pub each : AllByRecursion IsSegment left
  pub rest_is : rest ≡ flat_map segment_bytes left
  pub stand : StandInTurn (MasterMayStandAt first) next left → StandInTurn (MasterMayStandAt first) first segments
  pub broken : (k : ℕ) → IsFirstBroken (MasterMayStandAt first) next left k → IsFirstBroken (MasterMayStandAt first) first segments (number + k)
  pub behind : place_behind next left ≡ place_behind first segments
  pub kept : new ++ kept_of (placed_segments (at + (length records - length rest)) left) ≡ old ++ kept_of (placed_segments at segments)
  pub many : number + length left ≡ length segments

pub record Appending (first at : ℕ) (records : List ℕ) (old new : List PlainEntry) (next number : ℕ) (rest : List ℕ) : Type 0 where
  pub within : length rest ≤ length records
  pub small : next ≤ 2 ^ 56
  pub more : List PlainEntry
  pub front : new ≡ old ++ more
  pub keeps : (segments : List Segment) → AreRecords segments records → Keeps first at records old new next number rest segments

pub starts : (first at : ℕ) (records : List ℕ) (old : List PlainEntry) → first ≤ 2 ^ 56 → Appending first at records old old first 0 records
starts first at records old small = record {
  within = omega arith;
  small = small;
  more = [];
  front = sym (append-nil old);
  keeps = λ segments h. record {
    left = segments;
    each = h.each;
    rest_is = h.bytes_are;
    stand = λ s. s;
    broken = λ k b. let none : k ≡ 0 + k = omega arith in subst (IsFirstBroken (MasterMayStandAt first) first segments) none b;
    behind = refl;
    kept = let place : at + (length records - length records) ≡ at = omega arith in ap (λ n. old ++ kept_of (placed_segments n segments)) place;
    many = omega arith;
  };
}

kept-case : (p : PlacedSegment) (ps : List PlacedSegment) (b : Bool)
    → map entry_of (cond b (p ∷ filter (λ r. not (goes_on r.segment)) ps) (filter (λ r. not (goes_on r.segment)) ps))
    ≡ map entry_of (cond b (p ∷ []) []) ++ map entry_of (filter (λ r. not (goes_on r.segment)) ps)
kept-case p ps true = refl
kept-case p ps false = refl

pub kept-cons : (p : PlacedSegment) (ps : List PlacedSegment) → kept_of (p ∷ ps) ≡ kept_of (p ∷ []) ++ kept_of ps
kept-cons p ps = kept-case p ps (not (goes_on p.segment))

nonempty : (s : Segment) (after : List ℕ) → [] ≡ segment_bytes s ++ after → ⊥
unfolding segment_bytes
nonempty s after e = absurd cc

-- the first of the records that are left is the one that was read
pub record Left (s : Segment) (after : List ℕ) (left : List Segment) : Type 0 where
  pub more : List Segment
  pub is : left ≡ s ∷ more
  pub each : AllByRecursion IsSegment more
  pub after_is : after ≡ flat_map segment_bytes more

pub left-first : (s : Segment) (rest after : List ℕ) (left : List Segment) → IsSegment s → rest ≡ segment_bytes s ++ after
    → AllByRecursion IsSegment left → rest ≡ flat_map segment_bytes left → Left s after left
left-first s rest after [] h e each is = absurd (nonempty s after (sym is ∙ e))
left-first s rest after (t ∷ more) h e each is =
    let one = one-record s t after (flat_map segment_bytes more) h each.0 (sym e ∙ is ∙ flat_map-cons segment_bytes t more) in
    record { more = more; is = ap (λ q. q ∷ more) (sym one.0); each = each.1; after_is = one.1 }

pub none-left : (left : List Segment) (rest : List ℕ) → AllByRecursion IsSegment left → rest ≡ flat_map segment_bytes left
    → ((s : Segment) (after : List ℕ) → IsSegment s → rest ≡ segment_bytes s ++ after → ⊥) → left ≡ []
none-left [] rest each is none = refl
none-left (t ∷ more) rest each is none = absurd (none t (flat_map segment_bytes more) each.0 (is ∙ flat_map-cons segment_bytes t more))

module _ (first at : ℕ) (records : List ℕ) (old new : List PlainEntry) (next number : ℕ) (rest : List ℕ)
    (h : Appending first at records old new next number rest) where
  -- a record that may not come is the first broken one
  pub is-broken : (s : Segment) (after : List ℕ) (segments : List Segment) (k : ℕ) → IsSegment s → rest ≡ segment_bytes s ++ after → (MasterMayStandAt first next s → ⊥)
      → AreRecords segments records → k ≡ number → IsFirstBroken (MasterMayStandAt first) first segments k
  is-broken s after segments k i e bad are same =
      let p = h.keeps segments are in
      let l = left-first s rest after p.left i e p.each p.rest_is in
      let here : IsFirstBroken (MasterMayStandAt first) next p.left 0 = subst (λ (q : List Segment). IsFirstBroken (MasterMayStandAt first) next q 0) (sym l.is) bad in
      let zero-more : number + 0 ≡ k = omega arith in
      subst (IsFirstBroken (MasterMayStandAt first) first segments) zero-more (p.broken 0 here)

  -- there is room for one more in the count
  pub is-counted : (s : Segment) (after : List ℕ) (segments : List Segment) → IsSegment s → rest ≡ segment_bytes s ++ after → AreRecords segments records
      → number < length segments
  is-counted s after segments i e are =
      let p = h.keeps segments are in
      let l = left-first s rest after p.left i e p.each p.rest_is in
      let many = p.many in let len = ap length l.is in omega (arith, many, len)

  -- one more record was kept
  pub goes-on : (s : Segment) (after : List ℕ) (place : ℕ) (new2 : List PlainEntry) → IsSegment s → rest ≡ segment_bytes s ++ after → MasterMayStandAt first next s
      → place ≡ at + (length records - length rest) → new2 ≡ new ++ kept_of (record { place = place; segment = s } ∷ [])
      → Appending first at records old new2 (s.high + 1) (number + 1) after
  goes-on s after place new2 i e may place-is new2-is =
      let len : length rest ≡ length (segment_bytes s) + length after = ap length e ∙ length-append (segment_bytes s) after in
      let within = h.within in
      let master = may.1 in
      let here = kept_of (record { place = place; segment = s } ∷ []) in
      record {
        within = omega arith;
        small = omega arith;
        more = h.more ++ here;
        front = new2-is ∙ ap (λ z. z ++ here) h.front ∙ append_assoc old h.more here;
        keeps = λ segments are.
            let p = h.keeps segments are in
            let l = left-first s rest after p.left i e p.each p.rest_is in
            let behind : place + length (segment_bytes s) ≡ at + (length records - length after) = omega arith in
            let later = kept_of (placed_segments (at + (length records - length after)) l.more) in
            record {
              left = l.more;
              each = l.each;
              rest_is = l.after_is;
              stand = λ t. p.stand (subst (λ (q : List Segment). StandInTurn (MasterMayStandAt first) next q) (sym l.is) (may, t));
              broken = λ k b.
                  let one : number + suc k ≡ number + 1 + k = omega arith in
                  subst (IsFirstBroken (MasterMayStandAt first) first segments) one (p.broken (suc k) (subst (λ (q : List Segment). IsFirstBroken (MasterMayStandAt first) next q (suc k)) (sym l.is) (may, b)));
              behind = ap (λ q. place_behind next q) (sym l.is) ∙ p.behind;
              kept =
                  ap (λ z. z ++ later) new2-is ∙ append_assoc new here later
                  ∙ ap (λ n. new ++ (here ++ kept_of (placed_segments n l.more))) (sym behind)
                  ∙ ap (λ z. new ++ z) (sym (kept-cons (record { place = place; segment = s }) (placed_segments (place + length (segment_bytes s)) l.more)))
                  ∙ ap (λ n. new ++ kept_of (placed_segments n (s ∷ l.more))) place-is
                  ∙ ap (λ q. new ++ kept_of (placed_segments (at + (length records - length rest)) q)) (sym l.is)
                  ∙ p.kept;
              many = let m = p.many in let n = ap length l.is in omega (arith, m, n);
            };
      }

  -- all were gone over
  pub record All (segments : List Segment) : Type 0 where
    pub stand : StandInTurn (MasterMayStandAt first) first segments
    pub end : next ≡ place_behind first segments
    pub kept : new ≡ old ++ kept_of (placed_segments at segments)

  pub is-all : (segments : List Segment) → AreRecords segments records → ((s : Segment) (after : List ℕ) → IsSegment s → rest ≡ segment_bytes s ++ after → ⊥) → All segments
  is-all segments are none =
      let p = h.keeps segments are in
      let l = none-left p.left rest p.each p.rest_is none in
      record {
        stand = p.stand (subst (λ (q : List Segment). StandInTurn (MasterMayStandAt first) next q) (sym l) tt);
        end = ap (λ q. place_behind next q) (sym l) ∙ p.behind;
        kept = sym (append-nil new) ∙ ap (λ q. new ++ kept_of (placed_segments (at + (length records - length rest)) q)) (sym l) ∙ p.kept;
      }

abbrev bad : ℕ → Result ℕ FlatFault
bad n = Err (BadSegment n)

pub bad-number : (m n : ℕ) → bad m ≡ bad n → m ≡ n
bad-number m n e = cc

some-bytes : (s : Segment) → 1 ≤ length (segment_bytes s)
unfolding segment_bytes
some-bytes s = omega arith

pub shorter : (s : Segment) (rest after : List ℕ) → rest ≡ segment_bytes s ++ after → length after < length rest
shorter s rest after e = let some = some-bytes s in let len = ap length e ∙ length-append (segment_bytes s) after in omega (arith, some, len)

-- what is left begins with a record
pub some-left : (left : List Segment) (rest : List ℕ) → AllByRecursion IsSegment left → rest ≡ flat_map segment_bytes left → (length rest ≡ 0 → ⊥)
    → (s : Segment) × (after : List ℕ) × IsSegment s × (rest ≡ segment_bytes s ++ after)
some-left [] rest each rest_is some = absurd (some (ap (length {A = ℕ}) rest_is))
some-left (s ∷ more) rest each rest_is some = (s, flat_map segment_bytes more, each.0, rest_is ∙ flat_map-cons segment_bytes s more)

-- what was passed is a record, and the first of those that are left
pub passed-first : (left : List Segment) (rest after : List ℕ) (t : Segment) → AllByRecursion IsSegment left → rest ≡ flat_map segment_bytes left → (length rest ≡ 0 → ⊥)
    → ((s : Segment) (behind : List ℕ) → IsSegment s → rest ≡ segment_bytes s ++ behind → (t ≡ s) × (after ≡ behind))
    → IsSegment t × (rest ≡ segment_bytes t ++ after)
passed-first left rest after t each rest_is some passed =
    let f = some-left left rest each rest_is some in
    let p = passed f.0 f.1 f.2 f.3 in
    (subst IsSegment (sym p.0) f.2, f.3 ∙ ap (λ (z : Segment). segment_bytes z ++ f.1) (sym p.0) ∙ ap (λ (z : List ℕ). segment_bytes t ++ z) (sym p.1))

pub no-record : (s : Segment) (rest after : List ℕ) → length rest ≡ 0 → rest ≡ segment_bytes s ++ after → ⊥
no-record s rest after none whole = let less = shorter s rest after whole in omega (arith, none, less)
