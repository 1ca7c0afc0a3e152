-- The three lists of clone data, read one behind another.
use Rattle.std.proofs.Common.{◌≡◌, ℕ, List, Option, Some, None, sym, ap, ◌∙◌}
use Rattle.id_groups.specs.Name.{Name}
use Rattle.segment_codec.specs.Record.{Segment}
use Rattle.segment_codec.specs.Reading.{◌>>=◌}
use Rattle.batch_codec.specs.Reading.{piece_at}
use Rattle.remote_rules.specs.CloneData.{CloneData, KnownName}
use Rattle.remote_pipe.specs.Reading.{only, counted_at, segment_at, known_at, told_at}

heads-of : List Segment → List KnownName → Option (List Name × List ℕ) → Option CloneData
heads-of s n o = o >>= λ heads. only (record { segments = s; names = n; heads = heads.0 }) heads.1

names-of : List Segment → Option (List KnownName × List ℕ) → Option CloneData
names-of s o = o >>= λ names. counted_at (piece_at 20) names.1 >>= λ heads. only (record { segments = s; names = names.0; heads = heads.0 }) heads.1

segments-of : Option (List Segment × List ℕ) → Option CloneData
segments-of o = o >>= λ segments. counted_at known_at segments.1 >>= λ names. counted_at (piece_at 20) names.1 >>= λ heads. only (record { segments = segments.0; names = names.0; heads = heads.0 }) heads.1

pub no-segments : (bytes : List ℕ) → counted_at segment_at bytes ≡ None → told_at bytes ≡ None
unfolding told_at segments-of
no-segments bytes e = ap segments-of e

pub no-names : (bytes rest : List ℕ) (s : List Segment) → counted_at segment_at bytes ≡ Some (s, rest) → counted_at known_at rest ≡ None → told_at bytes ≡ None
unfolding told_at segments-of names-of
no-names bytes rest s e f = ap segments-of e ∙ ap (names-of s) f

pub no-heads : (bytes behind rest : List ℕ) (s : List Segment) (n : List KnownName) → counted_at segment_at bytes ≡ Some (s, behind) → counted_at known_at behind ≡ Some (n, rest)
    → counted_at (piece_at 20) rest ≡ None → told_at bytes ≡ None
unfolding told_at segments-of names-of heads-of
no-heads bytes behind rest s n e f g = ap segments-of e ∙ ap (names-of s) f ∙ ap (heads-of s n) g

pub all-lists : (bytes behind rest last : List ℕ) (s : List Segment) (n : List KnownName) (h : List Name) (told : CloneData) → counted_at segment_at bytes ≡ Some (s, behind)
    → counted_at known_at behind ≡ Some (n, rest) → counted_at (piece_at 20) rest ≡ Some (h, last) → told ≡ record { segments = s; names = n; heads = h }
    → told_at bytes ≡ only told last
unfolding told_at segments-of names-of heads-of
all-lists bytes behind rest last s n h told e f g whole = ap segments-of e ∙ ap (names-of s) f ∙ ap (heads-of s n) g ∙ ap (λ (t : CloneData). only t last) (sym whole)
