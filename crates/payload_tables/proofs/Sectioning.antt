-- A section, record by record.
use Rattle.std.proofs.Common.{◌≡◌, ◌≤◌, ℕ, ◌+◌, ◌-◌, ◌*◌, ◌^◌, List, [], ◌∷◌, ◌++◌, length, flat_map, refl, sym, ap, subst, ◌∙◌, arith, append_assoc, append-nil, length-append}
use Rattle.std.specs.List.{AllByRecursion}
use Rattle.segment_codec.specs.Record.{Segment, IsSegment, segment_bytes}
use Rattle.segment_codec.specs.Flat.{IsFlat}
use Rattle.segment_codec.specs.Table.{Follow}
use Rattle.flat_segments.specs.Placed.{placed_segments}
use Rattle.flat_segments.specs.Kept.{KeptFlats, IsSectionOf, MayPush}
use Rattle.flat_segments.proofs.Batches.{left-first, none-left, shorter}
use Rattle.flat_segments.proofs.Sections.{follow-middle}
use Rattle.segment_codec.proofs.Tables.{follow-ends}
use Rattle.std.proofs.lemmas.Grind.{flat_map-append}
use Rattle.std.proofs.lemmas.List.Concat.{flat_map-cons}
use Rattle.payload_tables.specs.Sections.{AreOthers}
use Rattle.payload_tables.proofs.Joined.{follow-once}
use Rattle.payload_tables.proofs.Standing.{placed-segments, other-names-in}
use Rattle.batch_codec.specs.Payload.{Payload, payload_bytes, names_bytes, names_start}
use Rattle.batch_codec.specs.Grammar.{IsPayload}
use Rattle.batch_codec.proofs.Entries.{names-size}

-- so far the section is that of the records before the rest
pub record SoFar (at : ℕ) (bytes : List ℕ) (section : KeptFlats) (rest : List ℕ) (segments : List Segment) : Type 0 where
  pub done : List Segment
  pub left : List Segment
  pub parts : segments ≡ done ++ left
  pub rest_is : rest ≡ flat_map segment_bytes left
  pub each : AllByRecursion IsSegment left
  pub is : IsSectionOf section (placed_segments at done)
  pub size : length bytes ≡ length (flat_map segment_bytes done) + length rest

pub starts : (at : ℕ) (bytes : List ℕ) (section : KeptFlats) (segments : List Segment) → IsSectionOf section [] → AreOthers segments bytes → SoFar at bytes section bytes segments
starts at bytes section segments is a = record { done = []; left = segments; parts = refl; rest_is = a.records.bytes_are; each = a.records.each; is = is; size = omega arith }

pub placed-snoc : (at : ℕ) (done : List Segment) (s : Segment) → placed_segments at (done ++ s ∷ []) ≡ placed_segments at done ++ record { place = at + length (flat_map segment_bytes done); segment = s } ∷ []
placed-snoc at [] s = ap (λ n. record { place = n; segment = s } ∷ []) (let z : at ≡ at + 0 = omega arith in z)
placed-snoc at (d ∷ done) s =
    ap (λ l. record { place = at; segment = d } ∷ l)
    (placed-snoc (at + length (segment_bytes d)) done s
    ∙ ap (λ n. placed_segments (at + length (segment_bytes d)) done ++ record { place = n; segment = s } ∷ [])
    (let l = length-append (segment_bytes d) (flat_map segment_bytes done) in
    let z : at + length (segment_bytes d) + length (flat_map segment_bytes done) ≡ at + length (flat_map segment_bytes (d ∷ done)) = omega (arith, l) in z))

flat-at : (done : List Segment) (s : Segment) (more : List Segment) → AllByRecursion IsFlat (done ++ (s ∷ more)) → IsFlat s
flat-at [] s more h = h.0
flat-at (d ∷ done) s more h = flat-at done s more h.1

module _ (at : ℕ) (bytes : List ℕ) (section : KeptFlats) (rest : List ℕ) (segments : List Segment) (a : AreOthers segments bytes) (f : SoFar at bytes section rest segments)
    (s : Segment) (after : List ℕ) (whole : IsSegment s) (read : rest ≡ segment_bytes s ++ after) where
  next-is : (more : List Segment) × (f.left ≡ s ∷ more) × AllByRecursion IsSegment more × (after ≡ flat_map segment_bytes more)
  next-is = let l = left-first s rest after f.left whole read f.each f.rest_is in (l.more, l.is, l.each, l.after_is)

  parts-are : segments ≡ f.done ++ (s ∷ next-is.0)
  parts-are = f.parts ∙ ap (λ l. f.done ++ l) next-is.1

  turn : (middle : ℕ) × Follow a.first middle f.done × Follow middle a.end (s ∷ next-is.0)
  turn = follow-middle a.first a.end f.done (s ∷ next-is.0) (subst (Follow a.first a.end) parts-are a.follow)

  end-is : (done : List Segment) → Follow a.first turn.0 done → IsSectionOf section (placed_segments at done) → (section.entries ≡ [] → ⊥) → turn.0 ≡ section.end
  end-is [] h is some = absurd (some is.kept)
  end-is (d ∷ done) h is some =
      let g : Follow is.first section.end (d ∷ done) = subst (Follow is.first section.end) (placed-segments at (d ∷ done)) is.in_turn in
      follow-once a.first turn.0 section.end (d ∷ done) h (subst (λ n. Follow n section.end (d ∷ done)) (sym g.0 ∙ h.0) g)

  pub may-push : MayPush section s
  may-push = record {
    flat = flat-at f.done s next-is.0 (subst (AllByRecursion IsFlat) parts-are a.flat);
    other = (let low = turn.2.0 in let up = follow-ends a.first turn.0 f.done turn.1 in let o = a.others in omega (arith, low, up, o));
    begins = λ some. turn.2.0 ∙ end-is f.done turn.1 f.is some;
  }

  pub so-far : (new : KeptFlats) (place : ℕ) → place ≡ at + (length bytes - length rest) → IsSectionOf new (placed_segments at f.done ++ record { place = place; segment = s } ∷ []) → SoFar at bytes new after segments
  so-far new place e is =
      let size = f.size in
      let behind = ap (length {A = ℕ}) read in let l = length-append (segment_bytes s) after in
      let d = ap (length {A = ℕ}) (flat_map-append segment_bytes f.done (s ∷ [])) in let m = length-append (flat_map segment_bytes f.done) (flat_map segment_bytes (s ∷ [])) in
      let one = ap (length {A = ℕ}) (append-nil (segment_bytes s)) in
      let same : place ≡ at + length (flat_map segment_bytes f.done) = omega (arith, e, size) in
      record {
        done = f.done ++ s ∷ [];
        left = next-is.0;
        parts = parts-are ∙ sym (append_assoc f.done (s ∷ []) next-is.0);
        rest_is = next-is.3;
        each = next-is.2;
        is = subst (IsSectionOf new) (sym (placed-snoc at f.done s ∙ ap (λ n. placed_segments at f.done ++ record { place = n; segment = s } ∷ []) (sym same))) is;
        size = omega (arith, size, behind, l, d, m, one);
      }

pub all-done : (at : ℕ) (bytes : List ℕ) (section : KeptFlats) (rest : List ℕ) (segments : List Segment) → SoFar at bytes section rest segments
    → ((s : Segment) (after : List ℕ) → IsSegment s → rest ≡ segment_bytes s ++ after → ⊥) → IsSectionOf section (placed_segments at segments)
all-done at bytes section rest segments f none =
    subst (λ l. IsSectionOf section (placed_segments at l)) (sym (f.parts ∙ ap (λ l. f.done ++ l) (none-left f.left rest f.each f.rest_is none) ∙ append-nil f.done)) f.is

-- what is left begins with a record
pub some-left : (left : List Segment) (rest : List ℕ) → AllByRecursion IsSegment left → rest ≡ flat_map segment_bytes left → (length rest ≡ 0 → ⊥)
    → (s : Segment) × (after : List ℕ) × IsSegment s × (rest ≡ segment_bytes s ++ after)
some-left [] rest each rest_is some = absurd (some (ap (length {A = ℕ}) rest_is))
some-left (s ∷ more) rest each rest_is some = (s, flat_map segment_bytes more, each.0, rest_is ∙ flat_map-cons segment_bytes s more)

pub passed-first : (left : List Segment) (rest after : List ℕ) (t : Segment) → AllByRecursion IsSegment left → rest ≡ flat_map segment_bytes left → (length rest ≡ 0 → ⊥)
    → ((s : Segment) (behind : List ℕ) → IsSegment s → rest ≡ segment_bytes s ++ behind → (t ≡ s) × (after ≡ behind))
    → IsSegment t × (rest ≡ segment_bytes t ++ after)
passed-first left rest after t each rest_is some passed =
    let f = some-left left rest each rest_is some in
    let p = passed f.0 f.1 f.2 f.3 in
    (subst IsSegment (sym p.0) f.2, f.3 ∙ ap (λ (z : Segment). segment_bytes z ++ f.1) (sym p.0) ∙ ap (λ (z : List ℕ). segment_bytes t ++ z) (sym p.1))

pub no-record : (s : Segment) (rest after : List ℕ) → length rest ≡ 0 → rest ≡ segment_bytes s ++ after → ⊥
no-record s rest after none whole = let less = shorter s rest after whole in omega (arith, none, less)

-- ---- a payload's other ids

all-flat : (segments : List Segment) → AllByRecursion (λ s. IsSegment s × (s.level ≡ 0)) segments → AllByRecursion IsFlat segments
all-flat [] h = tt
all-flat (s ∷ more) h = (record { segment = h.0.0; flat = h.0.1 }, all-flat more h.1)

all-segment : (segments : List Segment) → AllByRecursion (λ s. IsSegment s × (s.level ≡ 0)) segments → AllByRecursion IsSegment segments
all-segment [] h = tt
all-segment (s ∷ more) h = (h.0.0, all-segment more h.1)

pub are-others : (p : Payload) (bytes : List ℕ) → IsPayload p → bytes ≡ flat_map segment_bytes p.others → AreOthers p.others bytes
are-others p bytes h e = record {
  records = record { each = all-segment p.others h.cover.flat_others; bytes_are = e };
  flat = all-flat p.others h.cover.flat_others;
  first = 2 ^ 56;
  end = 2 ^ 56 + length p.other_names;
  others = omega arith;
  follow = h.cover.others;
}

pub names-fit : (p : Payload) → IsPayload p → names_start p + 20 * length p.other_names ≤ length (payload_bytes p)
names-fit p h =
    let s = other-names-in p h in let whole = ap (length {A = ℕ}) s.whole in let a = length-append s.front (names_bytes p.other_names ++ s.behind) in let b = length-append (names_bytes p.other_names) s.behind in
    let z = names-size p.other_names h.other_names in let size = s.size in omega (arith, whole, a, b, z, size)
