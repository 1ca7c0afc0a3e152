-- A record behind those of a part of the other group, and parts that are joined to a sample.
use Rattle.std.proofs.Common.{◌≡◌, ℕ, ◌+◌, ◌-◌, ◌≤◌, ◌<◌, ◌^◌, inl, inr, List, [], ◌∷◌, ◌++◌, length, drop, refl, sym, subst, ap, ◌∙◌, arith, ⊎_elim}
use Rattle.std.specs.List.{AllByRecursion}
use Rattle.std.proofs.lemmas.Bool.{le-ltb}
use Rattle.std.proofs.lemmas.List.{map-append, length-append, length-map, append-nil, drop_at}
use Rattle.segment_codec.specs.Record.{Segment, IsSegment, segment_bytes, HasFront}
use Rattle.segment_codec.specs.Table.{Follow}
use Rattle.segment_codec.proofs.Flats.{follow-append}
use Rattle.flat_segments.specs.declared.view.FlatView.{FlatView}
use Rattle.flat_segments.specs.Placed.{PlacedSegment, Stand, segments_of}
use Rattle.flat_segments.specs.Kept.{KeptFlats, IsSectionOf, MayPush}
use Rattle.flat_segments.specs.Views.{master_count}
use Rattle.flat_segments.specs.Joined.{StandAs, MayJoin}
use Rattle.flat_segments.proofs.Adding.{all-append}
use Rattle.flat_segments.proofs.Callers.{few-flats}
use Rattle.sample_tables.specs.Samples.{Written, next_segment}
use Rattle.sample_tables.specs.Others.{OthersWritten, IsOthersOf, AreNear, MayPushOther, MayJoinSample}
use Rattle.sample_tables.proofs.Pushing.{all-within, stand-longer, follow-few, follow-last}

-- what stands behind the bytes is the record
pub record-behind : (s : Segment) (bytes longer all back : List ℕ) (at : ℕ) → longer ≡ bytes ++ segment_bytes s → all ≡ longer → at ≡ length bytes → back ≡ drop at all → back ≡ segment_bytes s ++ []
record-behind s bytes longer all back at e f n b =
    b ∙ ap (drop at) (f ∙ e) ∙ ap (λ k. drop k (bytes ++ segment_bytes s)) n ∙ drop_at bytes (segment_bytes s) (length bytes) refl ∙ sym (append-nil (segment_bytes s))

module _ (part : OthersWritten) (segments : List Segment) (is : IsOthersOf part segments) (parents : List ℕ) (count : ℕ) (may : MayPushOther part.masters part.end parents count) where
  abbrev next : Segment
  next = next_segment part.end parents count

  low-other : 2 ^ 56 ≤ part.end
  low-other = let a = is.others in let b = is.rising in omega (arith, a, b)

  pub next-other : IsSegment next
  next-other =
      let some = may.some in let room = may.room in let low = low-other in
      record {
        ascending = omega arith;
        one_group = le-ltb part.end (2 ^ 56) low ∙ sym (le-ltb (part.end + (count - 1)) (2 ^ 56) (omega arith));
        valid = omega arith;
        level = omega arith;
        below = may.below;
        distinct = may.distinct;
        level_parents = may.few;
      }

  pub next-may : (s : Segment) → s ≡ next → MayPush part.section s
  next-may s e = subst (MayPush part.section) (sym e) (record {
    flat = record { segment = next-other; flat = refl };
    other = low-other;
    begins = λ some. sym (is.behind some);
  })

  pub next-others : (s : Segment) → s ≡ next → (longer : List ℕ) (at end : ℕ) (section : KeptFlats) → longer ≡ part.bytes ++ segment_bytes next → at ≡ length part.bytes → end ≡ part.end + count
      → ((records : List PlacedSegment) → IsSectionOf part.section records → IsSectionOf section (records ++ record { place = at; segment = s } ∷ []))
      → IsOthersOf (record { bytes = longer; section = section; masters = part.masters; start = part.start; end = end }) (segments ++ next ∷ [])
  next-others s same longer at end section e n ends added =
      let more = segment_bytes next in
      let some = may.some in
      let r : PlacedSegment = record { place = at; segment = next } in
      let len = length-append part.bytes more in let long = ap length e in
      let behind : IsSectionOf section (is.records ++ r ∷ []) = subst (λ (t : Segment). IsSectionOf section (is.records ++ record { place = at; segment = t } ∷ [])) same (added is.records is.stand_as.section_of) in
      let mapped : segments_of (is.records ++ r ∷ []) ≡ segments_of is.records ++ next ∷ [] = map-append (λ (p : PlacedSegment). p.segment) is.records (r ∷ []) in
      let last = follow-last behind.first section.end (segments_of is.records) next (subst (Follow behind.first section.end) mapped behind.in_turn) in
      let low = is.rising in let room = may.room in
      record {
        records = is.records ++ r ∷ [];
        segments_are = mapped ∙ ap (λ z. z ++ next ∷ []) is.segments_are;
        stand_as = record {
          section_of = behind;
          stand = subst (λ z. Stand z (is.records ++ r ∷ [])) (sym e)
              (all-append (λ (p : PlacedSegment). HasFront (segment_bytes p.segment) (drop p.place (part.bytes ++ more))) is.records (r ∷ [])
              (stand-longer part.bytes more is.records is.within is.stand_as.stand)
              (([], ap (λ k. drop k (part.bytes ++ more)) n ∙ drop_at part.bytes more (length part.bytes) refl ∙ sym (append-nil more)), tt));
        };
        within = all-append (λ (p : PlacedSegment). p.place ≤ length longer) is.records (r ∷ [])
            (all-within (length part.bytes) (length longer) is.records (omega (arith, len, long)) is.within) (omega (arith, len, long, n), tt);
        in_turn = follow-append part.start part.end end segments (next ∷ []) is.in_turn (refl, omega (arith, some), omega (arith, some, ends));
        behind = λ _. omega (arith, last, some, ends);
        near = all-append (λ (t : Segment). AreNear part.masters t.parents) segments (next ∷ []) is.near (may.near, tt);
        others = is.others;
        rising = omega (arith, low, ends);
        room = omega (arith, room, ends);
      }

near-more : (n m : ℕ) (ids : List ℕ) → n ≤ m → AreNear n ids → AreNear m ids
near-more n m [] le h = tt
near-more n m (p ∷ ids) le h = (⊎_elim (λ (a : p < n). inl (omega (arith, a, le))) (λ b. inr b) h.0, near-more n m ids le h.1)

all-near : (n m : ℕ) (segments : List Segment) → n ≤ m → AllByRecursion (λ (s : Segment). AreNear n s.parents) segments → AllByRecursion (λ (s : Segment). AreNear m s.parents) segments
all-near n m [] le h = tt
all-near n m (s ∷ segments) le h = (near-more n m s.parents le h.0, all-near n m segments le h.1)

pub parts-may : (v : FlatView) (sample : Written) (below : ℕ) (others pending : OthersWritten) (some more : List ℕ) (first second : List Segment) → master_count v ≡ below
    → MayJoinSample sample below others pending → some ≡ others.bytes → more ≡ pending.bytes → IsOthersOf others first → IsOthersOf pending second
    → MayJoin v others.section some pending.section more
parts-may v sample below others pending some more first second count may e f one two =
    let flats = few-flats v in
    let near = may.others_near in let near2 = may.pending_near in let room = may.room in
    let follow : Follow (2 ^ 56) pending.end (first ++ second) =
    follow-append (2 ^ 56) others.end pending.end first second (subst (λ n. Follow n others.end first) may.first one.in_turn) (subst (λ n. Follow n pending.end second) may.next two.in_turn) in
    let few = follow-few (2 ^ 56) pending.end (first ++ second) follow in
    let long = length-append first second in
    let a = ap length one.segments_are in let a2 = length-map one.records (λ (r : PlacedSegment). r.segment) in
    let b = ap length two.segments_are in let b2 = length-map two.records (λ (r : PlacedSegment). r.segment) in
    let parts : segments_of one.records ++ segments_of two.records ≡ first ++ second = ap (λ z. z ++ segments_of two.records) one.segments_are ∙ ap (λ z. first ++ z) two.segments_are in
    record {
      first = one.records;
      second = two.records;
      others_stand = subst (λ z. StandAs others.section z one.records) (sym e) one.stand_as;
      pending_stand = subst (λ z. StandAs pending.section z two.records) (sym f) two.stand_as;
      end = pending.end;
      in_turn = subst (Follow (2 ^ 56) pending.end) (sym parts) follow;
      parents = subst (AllByRecursion (λ (s : Segment). AreNear (master_count v) s.parents)) (sym parts)
          (all-append (λ (s : Segment). AreNear (master_count v) s.parents) first second
          (all-near others.masters (master_count v) first (omega (arith, near, count)) one.near) (all-near pending.masters (master_count v) second (omega (arith, near2, count)) two.near));
      few = omega (arith, flats, count, few, long, a, a2, b, b2, room);
    }
