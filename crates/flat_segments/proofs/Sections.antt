-- Sections: what is pushed, and what is joined to a view.
use Rattle.std.proofs.Common.{◌≡◌, ℕ, suc, ◌+◌, ◌-◌, ◌<◌, ◌≤◌, ◌^◌, ◌⊎◌, inl, inr, true, ⊎_elim, List, [], ◌∷◌, ◌++◌, length, map, refl, sym, subst, ap, ◌∙◌, arith}
use Rattle.std.specs.Prelude.{◌≢◌}
use Rattle.std.specs.List.{AllByRecursion}
use Rattle.id_groups.specs.Lists.{IsIn}
use Rattle.std.proofs.lemmas.List.{map-append}
use Rattle.segment_codec.specs.Record.{Segment}
use Rattle.segment_codec.specs.Table.{Follow}
use Rattle.segment_codec.specs.Flat.{IsFlat, is_lawful}
use Rattle.segment_codec.proofs.Flats.{follow-append, IsPlaced, Parts, lawful-parts, lawful-decided}
use Rattle.segment_codec.proofs.Tables.{all-pass, follow-within, follow-ends}
use Rattle.flat_segments.specs.Entries.{PlainEntry}
use Rattle.flat_segments.specs.declared.run.Run.{Run}
use Rattle.flat_segments.specs.declared.view.FlatView.{FlatView}
use Rattle.flat_segments.specs.Maximal.{begin_of}
use Rattle.flat_segments.specs.Placed.{PlacedSegment, segments_of}
use Rattle.flat_segments.specs.Runs.{flats_in}
use Rattle.flat_segments.specs.Views.{flats_of, master_flats, other_flats}
use Rattle.flat_segments.specs.Joined.{StandAs, MayJoin}
use Rattle.flat_segments.proofs.Rising.{follow-begin, follow-rise, follow-up_to}
use Rattle.flat_segments.proofs.Looking.{flats-length}
use Rattle.flat_segments.proofs.Standing.{IsRunOf, run-of, all-segments}
use Rattle.flat_segments.specs.Kept.{KeptFlats, entry_of, IsSectionOf, MayPush}
use Rattle.flat_segments.proofs.Adding.{all-append}

-- the section with one more entry
abbrev pub with_record : KeptFlats → PlacedSegment → KeptFlats
with_record section r = record { entries = section.entries ++ entry_of r ∷ []; end = r.segment.high + 1 }

pub pushed : (section : KeptFlats) (records : List PlacedSegment) (r : PlacedSegment) → MayPush section r.segment → IsSectionOf section records → IsSectionOf (with_record section r) (records ++ r ∷ [])
pushed section [] r may is =
    let order = may.flat.segment.ascending in
    record {
      first = r.segment.low;
      flat = (may.flat, tt);
      in_turn = (refl, order, refl);
      others = may.other;
      kept = ap (λ z. z ++ entry_of r ∷ []) is.kept;
    }
pushed section (q ∷ records) r may is =
    let order = may.flat.segment.ascending in
    let some : section.entries ≡ [] → ⊥ = λ none. let e = is.kept in cc in
    let low = may.begins some in
    let one : Follow section.end (r.segment.high + 1) (r.segment ∷ []) = (low, omega (arith, order, low), refl) in
    record {
      first = is.first;
      flat = all-append (λ (p : PlacedSegment). IsFlat p.segment) (q ∷ records) (r ∷ []) is.flat (may.flat, tt);
      in_turn = subst (λ (z : List Segment). Follow is.first (r.segment.high + 1) z) (sym (map-append (λ (p : PlacedSegment). p.segment) (q ∷ records) (r ∷ [])))
          (follow-append is.first section.end (r.segment.high + 1) (segments_of (q ∷ records)) (segments_of (r ∷ [])) is.in_turn one);
      others = is.others;
      kept = ap (λ z. z ++ entry_of r ∷ []) is.kept ∙ sym (map-append entry_of (q ∷ records) (r ∷ []));
    }

-- as the code makes it
pub made : (section : KeptFlats) (records : List PlacedSegment) (r : PlacedSegment) (entries : List PlainEntry) (end : ℕ) → entries ≡ section.entries ++ entry_of r ∷ [] → end ≡ r.segment.high + 1
    → IsSectionOf (with_record section r) (records ++ r ∷ []) → IsSectionOf (record { entries = entries; end = end }) (records ++ r ∷ [])
made section records r entries end e f is =
    subst (λ (z : List PlainEntry). IsSectionOf (record { entries = z; end = end }) (records ++ r ∷ [])) (sym e)
    (subst (λ (n : ℕ). IsSectionOf (record { entries = section.entries ++ entry_of r ∷ []; end = n }) (records ++ r ∷ [])) (sym f) is)

-- ---- the run of a section

follow-once : (start end first last : ℕ) (s : Segment) (more : List Segment) → Follow start end (s ∷ more) → Follow first last (s ∷ more) → end ≡ last
follow-once start end first last s more h g = go (s.high + 1) more h.2 g.2
  where
    go : (n : ℕ) (xs : List Segment) → Follow n end xs → Follow n last xs → end ≡ last
    go n [] a b = sym a ∙ b
    go n (x ∷ xs) a b = go (x.high + 1) xs a.2 b.2

module _ (section : KeptFlats) (bytes : List ℕ) (small : length bytes < 2 ^ 64) (start e : ℕ) (none : section.entries ≡ [] → e ≡ start) (some : section.entries ≢ [] → e ≡ section.end) where
  kept-some : (r : PlacedSegment) (records : List PlacedSegment) → section.entries ≡ map entry_of (r ∷ records) → section.entries ≢ []
  kept-some r records k n = cc

  pub section-run : (records : List PlacedSegment) → StandAs section bytes records → IsRunOf bytes e section.entries (segments_of records)
  section-run [] h = subst (λ (z : List PlainEntry). IsRunOf bytes e z []) (sym h.section_of.kept) (run-of bytes e [] small tt tt tt tt)
  section-run (r ∷ records) h =
      let is = h.section_of in
      let end = some (kept-some r records is.kept) in
      let follow : Follow is.first e (segments_of (r ∷ records)) = subst (λ (n : ℕ). Follow is.first n (segments_of (r ∷ records))) (sym end) is.in_turn in
      let same = follow-up_to is.first e (segments_of (r ∷ records)) follow in
      let run = run-of bytes e (r ∷ records) small is.flat h.stand (follow-rise is.first e (segments_of (r ∷ records)) follow)
      (subst (AllByRecursion IsFlat) (sym same) (all-segments (r ∷ records) is.flat)) in
      subst (λ (z : List PlainEntry). IsRunOf bytes e z (segments_of (r ∷ records))) (sym is.kept) (subst (λ (z : List Segment). IsRunOf bytes e (map entry_of (r ∷ records)) z) same run)

  pub section-end : (records : List PlacedSegment) (end : ℕ) → StandAs section bytes records → Follow start end (segments_of records) → e ≡ end
  section-end [] end h f = none h.section_of.kept ∙ f
  section-end (r ∷ records) end h f =
      some (kept-some r records h.section_of.kept) ∙ sym (follow-once start end h.section_of.first section.end r.segment (segments_of records) f h.section_of.in_turn)

  pub section-begin : (records : List PlacedSegment) (end : ℕ) → StandAs section bytes records → Follow start end (segments_of records) → begin_of e (flats_in bytes e section.entries) ≡ start
  section-begin records end h f =
      let run = section-run records h in
      ap (begin_of e) run.flats_are ∙ ap (λ n. begin_of n (segments_of records)) (section-end records end h f) ∙ follow-begin start end (segments_of records) f

-- ---- joined

pub follow-middle : (first end : ℕ) (front back : List Segment) → Follow first end (front ++ back) → (middle : ℕ) × Follow first middle front × Follow middle end back
follow-middle first end [] back h = (first, refl, h)
follow-middle first end (s ∷ front) back h = let r = follow-middle (s.high + 1) end front back h.2 in (r.0, (h.0, h.1, r.1), r.2)

either : {X : Type 0} (x : X) (front back : List X) → IsIn x (front ++ back) → IsIn x front ⊎ IsIn x back
either x [] back i = inr i
either x (y ∷ front) back (inl e) = inl (inl e)
either x (y ∷ front) back (inr i) = ⊎_elim (λ j. inl (inr j)) (λ j. inr j) (either x front back i)

in-front : {X : Type 0} (x : X) (front back : List X) → IsIn x front → IsIn x (front ++ back)
in-front x [] back i = absurd i
in-front x (y ∷ front) back (inl e) = inl e
in-front x (y ∷ front) back (inr i) = inr (in-front x front back i)

-- a master segment stays placed, whatever is joined
master-placed : (master others end : ℕ) (front back : List Segment) → Parts master others front back → (s : Segment) → IsIn s front → IsPlaced master end s
master-placed master others end front back h s i =
    let flat = (h.each s (in-front s front back i)).flat in
    let within = follow-within 0 master front h.master_ids s i in
    let order = within.1 in let high = within.2 in
    record {
      flat = flat;
      parents = λ p j. let lt : p < s.low = all-pass (λ q. q < s.low) s.parents flat.segment.below p j in inl (omega (arith, lt, order, high));
    }

-- and a segment of the sections has its parents below it
other-placed : (master end count : ℕ) (all : List Segment) → count ≡ end → Follow (2 ^ 56) end all → AllByRecursion IsFlat all
    → AllByRecursion (λ (s : Segment). AllByRecursion (λ p. (p < master) ⊎ (2 ^ 56 ≤ p)) s.parents) all → (s : Segment) → IsIn s all → IsPlaced master count s
other-placed master end count all same follow flats parents s i =
    let flat : IsFlat s = all-pass IsFlat all flats s i in
    let within = follow-within (2 ^ 56) end all follow s i in
    let order = within.1 in let high = within.2 in
    let here : AllByRecursion (λ p. (p < master) ⊎ (2 ^ 56 ≤ p)) s.parents = all-pass (λ (s : Segment). AllByRecursion (λ p. (p < master) ⊎ (2 ^ 56 ≤ p)) s.parents) all parents s i in
    record {
      flat = flat;
      parents = λ p j.
          let lt : p < s.low = all-pass (λ q. q < s.low) s.parents flat.segment.below p j in
          ⊎_elim (λ (a : p < master). inl a) (λ (b : 2 ^ 56 ≤ p). inr (b, omega (arith, lt, order, high, same))) (all-pass (λ p. (p < master) ⊎ (2 ^ 56 ≤ p)) s.parents here p j);
    }

pub joined-lawful : (view : FlatView) (others : KeptFlats) (other_bytes : List ℕ) (pending : KeptFlats) (pending_bytes : List ℕ) → (may : MayJoin view others other_bytes pending pending_bytes)
    → (back : List Segment) (end : ℕ) → back ≡ segments_of may.first ++ segments_of may.second → end ≡ may.end
    → is_lawful view.master.end (end - 2 ^ 56) (master_flats view) back ≡ true
joined-lawful view others other_bytes pending pending_bytes may back end same end-is =
    let old = lawful-parts view.master.end (view.pending.end - 2 ^ 56) (master_flats view) (other_flats view) view.lawful in
    let all = segments_of may.first ++ segments_of may.second in
    let ends = follow-ends (2 ^ 56) may.end all may.in_turn in
    let count : 2 ^ 56 + (may.end - 2 ^ 56) ≡ may.end = omega (arith, ends) in
    let flats = all-append IsFlat (segments_of may.first) (segments_of may.second) (all-segments may.first may.others_stand.section_of.flat) (all-segments may.second may.pending_stand.section_of.flat) in
    let whole : is_lawful view.master.end (may.end - 2 ^ 56) (master_flats view) all ≡ true = lawful-decided view.master.end (may.end - 2 ^ 56) (master_flats view) all (record {
      room = old.room;
      master_ids = old.master_ids;
      other_ids = subst (λ (n : ℕ). Follow (2 ^ 56) n all) (sym count) may.in_turn;
      each = λ s i. ⊎_elim
          (λ j. master-placed view.master.end (view.pending.end - 2 ^ 56) (2 ^ 56 + (may.end - 2 ^ 56)) (master_flats view) (other_flats view) old s j)
          (λ j. other-placed view.master.end may.end (2 ^ 56 + (may.end - 2 ^ 56)) all count may.in_turn flats may.parents s j)
          (either s (master_flats view) all i);
    }) in
    ap (λ n. is_lawful view.master.end (n - 2 ^ 56) (master_flats view) back) end-is ∙ ap (is_lawful view.master.end (may.end - 2 ^ 56) (master_flats view)) same ∙ whole

-- what a view wants of the runs of the sections
pub record JoinFacts (v : FlatView) (o p : Run) : Type 0 where
  pub lawful : is_lawful v.master.end (p.end - 2 ^ 56) (master_flats v) (flats_of o ++ flats_of p) ≡ true
  pub other_ids : begin_of o.end (flats_of o) ≡ 2 ^ 56
  pub pending_ids : begin_of p.end (flats_of p) ≡ o.end
  pub few : length v.master.entries.now + length o.entries.now + length p.entries.now < 2 ^ 32

segments-length : (records : List PlacedSegment) → length (segments_of records) ≡ length records
segments-length [] = refl
segments-length (r ∷ records) = ap suc (segments-length records)

pub joined : (v : FlatView) (others : KeptFlats) (other_bytes : List ℕ) (pending : KeptFlats) (pending_bytes : List ℕ) → (may : MayJoin v others other_bytes pending pending_bytes)
    → (o p : Run) → flats_of o ≡ segments_of may.first
    → ((end : ℕ) → Follow (2 ^ 56) end (segments_of may.first) → begin_of o.end (flats_of o) ≡ 2 ^ 56)
    → ((end : ℕ) → Follow (2 ^ 56) end (segments_of may.first) → o.end ≡ end)
    → flats_of p ≡ segments_of may.second
    → ((end : ℕ) → Follow o.end end (segments_of may.second) → begin_of p.end (flats_of p) ≡ o.end)
    → ((end : ℕ) → Follow o.end end (segments_of may.second) → p.end ≡ end)
    → JoinFacts v o p
joined v others other_bytes pending pending_bytes may o p o-flats o-begin o-end p-flats p-begin p-end =
    let parts = follow-middle (2 ^ 56) may.end (segments_of may.first) (segments_of may.second) may.in_turn in
    let o-is = o-end parts.0 parts.1 in
    let behind : Follow o.end may.end (segments_of may.second) = subst (λ (n : ℕ). Follow n may.end (segments_of may.second)) (sym o-is) parts.2 in
    let same : flats_of o ++ flats_of p ≡ segments_of may.first ++ segments_of may.second =
    ap (λ z. z ++ flats_of p) o-flats ∙ ap (λ z. segments_of may.first ++ z) p-flats in
    record {
      lawful = joined-lawful v others other_bytes pending pending_bytes may (flats_of o ++ flats_of p) p.end same (p-end may.end behind);
      other_ids = o-begin parts.0 parts.1;
      pending_ids = p-begin may.end behind;
      few =
          let few = may.few in
          let m = flats-length v.master.bytes.now v.master.end v.master.entries.now in
          let a = flats-length o.bytes.now o.end o.entries.now in let b = ap length o-flats in let c = segments-length may.first in
          let d = flats-length p.bytes.now p.end p.entries.now in let e = ap length p-flats in let f = segments-length may.second in
          omega (arith, few, m, a, b, c, d, e, f);
    }
