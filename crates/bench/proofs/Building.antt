-- The records that are written one after another.
use Rattle.std.proofs.Common.{◌≡◌, ℕ, ◌+◌, ◌<◌, ◌≤◌, ◌^◌, List, [], ◌∷◌, ◌++◌, length, refl, sym, ap, ◌∙◌, arith, lit≤}
use Rattle.std.specs.Prelude.{flat_map}
use Rattle.std.proofs.lemmas.List.{length-append, append-nil}
use Rattle.std.proofs.lemmas.List.Concat.{flat_map-cons, flat_map-append}
use Rattle.segment_codec.specs.Record.{Segment, IsSegment, segment_bytes}
use Rattle.flat_segments.specs.Placed.{AreRecords}
use Rattle.flat_segments.proofs.Adding.{all-append}

pub record Built (bytes : List ℕ) (count : ℕ) : Type 0 where
  pub segments : List Segment
  pub records : AreRecords segments bytes
  pub few : length segments ≤ count

pub built-next : (bytes more : List ℕ) (count next : ℕ) (s : Segment) → Built bytes count → IsSegment s → more ≡ bytes ++ segment_bytes s → count < next → Built more next
built-next bytes more count next s h i e lt =
    let few = h.few in let len = length-append h.segments (s ∷ []) in
    record {
      segments = h.segments ++ s ∷ [];
      records = record {
        each = all-append IsSegment h.segments (s ∷ []) h.records.each (i, tt);
        bytes_are = e ∙ ap (λ z. z ++ segment_bytes s) h.records.bytes_are
            ∙ ap (λ z. flat_map segment_bytes h.segments ++ z) (sym (append-nil (segment_bytes s)) ∙ sym (flat_map-cons segment_bytes s []))
            ∙ sym (flat_map-append segment_bytes h.segments (s ∷ []));
      };
      few = omega (arith, few, len, lt);
    }

pub built-none : Built [] 0
built-none = record { segments = []; records = record { each = tt; bytes_are = refl }; few = lit≤ tt }

-- what a written record gives
abbrev pub Wrote : List ℕ → List ℕ → Type 0
Wrote old new = (s : Segment) × IsSegment s × (new ≡ old ++ segment_bytes s)

pub wrote-first : (old new : List ℕ) → old ≡ [] → Wrote old new → Built new 1
wrote-first old new e w = built-next [] new 0 1 w.0 built-none w.1 (w.2 ∙ ap (λ z. z ++ segment_bytes w.0) e) (omega arith)

pub wrote-next : (old new : List ℕ) (count : ℕ) → Built old count → Wrote old new → Built new (count + 1)
wrote-next old new count h w = built-next old new count (count + 1) w.0 h w.1 w.2 (omega arith)

pub built-all : (bytes : List ℕ) (count : ℕ) → count ≤ 2 ^ 30 → Built bytes count → (segments : List Segment) × AreRecords segments bytes × (length segments ≤ 2 ^ 30)
built-all bytes count le h = let few = h.few in (h.segments, h.records, omega (arith, few, le))
