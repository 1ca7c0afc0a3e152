-- The table of a bundle's records.
use Rattle.std.proofs.Common.{◌≡◌, ℕ, zero, suc, ◌+◌, ◌-◌, ◌*◌, ◌<◌, ◌≤◌, ◌^◌, false, not, cond, List, [], ◌∷◌, ◌++◌, length, filter, min, refl, sym, ap, ap₂, subst, ◌∙◌, arith, length-append, append_assoc}
use Rattle.std.specs.List.{AllByRecursion, flat_map}
use Rattle.std.specs.Int.{w32, to_be_bytes}
use Rattle.std.proofs.lemmas.Bool.{lt-ltb}
use Rattle.std.proofs.lemmas.List.{drop_at}
use Rattle.segment_codec.specs.Record.{Segment, IsSegment, segment_bytes}
use Rattle.segment_codec.specs.Table.{Follow}
use Rattle.segment_codec.specs.Turns.{goes_on, MayStandAt, StandInTurn, IsFirstBroken}
use Rattle.segment_codec.proofs.Tables.{follow-ends}
use Rattle.segment_codec.proofs.Turns.{none-broken}
use Rattle.flat_segments.specs.Maximal.{maximal, cut, up_to}
use Rattle.flat_segments.specs.Placed.{placed_segments, segments_of, Stand, AreRecords, MasterMayStandAt}
use Rattle.flat_segments.specs.Kept.{KeptFlats, IsTableOf, MayExtend}
use Rattle.flat_segments.proofs.Adding.{placed-segments}
use Rattle.flat_segments.proofs.Callers.{placed-stand, follow-few}
use Rattle.flat_segments.proofs.Cutting.{first-begins}
use Rattle.flat_segments.proofs.Rising.{follow-up_to}
use Rattle.batch_codec.specs.Grammar.{AreFlat}
use Rattle.batch_codec.specs.Payload.{names_bytes}
use Rattle.batch_codec.proofs.Turns.{stand-in-turn}
use Rattle.batch_codec.proofs.Entries.{names-size}
use Rattle.bundle_codec.specs.Bundle.{Contents, IsBundle, bundle_bytes, mark}
use Rattle.bundle_codec.specs.Places.{records_start, names_start, named_from}
use Rattle.bundle_codec.proofs.Indexed.{bundle-names}
use Rattle.name_index.specs.Index.{IsIndexOf}
use Rattle.name_index.specs.Named.{NamesStand as StandAt}
use Rattle.remote_bundle.specs.Names.{ArePlaced}
use Rattle.remote_bundle.specs.Held.{PlainRead, IsReadOf}

-- ---- the bytes

front-of : Contents → List ℕ
front-of c = mark ++ (to_be_bytes w32 (length c.names) ++ to_be_bytes w32 (length c.segments))

-- the bytes behind the front
abbrev behind-of : Contents → List ℕ
behind-of c = flat_map segment_bytes c.segments ++ names_bytes c.names

bytes-are : (c : Contents) → bundle_bytes c ≡ front-of c ++ behind-of c
unfolding bundle_bytes front-of
bytes-are c =
    let rows = to_be_bytes w32 (length c.names) in
    let count = to_be_bytes w32 (length c.segments) in
    sym (append_assoc mark (rows ++ count) (behind-of c) ∙ ap (λ (l : List ℕ). mark ++ l) (append_assoc rows count (behind-of c)))

front-long : (c : Contents) → length (front-of c) ≡ 16
unfolding front-of
front-long c = refl

pub size : (c : Contents) → IsBundle c → names_start c + 20 * length c.names ≡ length (bundle_bytes c)
size c h =
    let l = ap (length {A = ℕ}) (bytes-are c) ∙ length-append (front-of c) (behind-of c) in
    let b = length-append (flat_map segment_bytes c.segments) (names_bytes c.names) in
    let f = front-long c in
    let n = names-size c.names h.names in
    omega (arith, l, b, f, n)

-- ---- the records

pub each-segment : (ss : List Segment) → AreFlat ss → AllByRecursion IsSegment ss
each-segment [] h = tt
each-segment (s ∷ ss) h = (h.0.0, each-segment ss h.1)

pub records-are : (c : Contents) → IsBundle c → (records : List ℕ) → records ≡ flat_map segment_bytes c.segments → AreRecords c.segments records
records-are c h records e = record { each = each-segment c.segments h.flat; bytes_are = e }

pub may-extend : (c : Contents) → IsBundle c → (table : KeptFlats) → IsTableOf table [] → (records : List ℕ) → records ≡ flat_map segment_bytes c.segments → MayExtend table records
may-extend c h table t records e = record {
  before = [];
  table_of = t;
  segments = c.segments;
  records = records-are c h records e;
  few = (let f = follow-few 0 (length c.names) c.segments h.cover in let few = h.few in omega (arith, f, few));
}

pub records-fit : (c : Contents) → IsBundle c → (bytes records : List ℕ) → bytes ≡ bundle_bytes c → length bytes < 2 ^ 63 → records ≡ flat_map segment_bytes c.segments → records_start + length records < 2 ^ 63
records-fit c h bytes records e fits is =
    let s = size c h in
    let l = ap (length {A = ℕ}) e in
    let r = ap (length {A = ℕ}) is in
    omega (arith, s, l, r, fits)

turn-master : (place end : ℕ) (ss : List Segment) → Follow place end ss → end ≤ 2 ^ 56 → StandInTurn (MayStandAt 0) place ss → StandInTurn (MasterMayStandAt 0) place ss
turn-master place end [] f le h = tt
turn-master place end (s ∷ ss) f le h = let e = follow-ends (s.high + 1) end ss f.2 in ((h.0, omega (arith, e, le)), turn-master (s.high + 1) end ss f.2 le h.1)

in-turn : (c : Contents) → IsBundle c → StandInTurn (MayStandAt 0) 0 c.segments
in-turn c h = stand-in-turn 0 (length c.names) c.segments h.cover h.maximal h.flat

pub never-bad : (c : Contents) → IsBundle c → (table : KeptFlats) → IsTableOf table [] → (k : ℕ) → IsFirstBroken (MasterMayStandAt table.end) table.end c.segments k → ⊥
never-bad c h table t k b =
    let few = h.few in
    let e : table.end ≡ 0 = sym t.in_turn in
    none-broken (MasterMayStandAt 0) 0 c.segments k (turn-master 0 (length c.names) c.segments h.cover (omega (arith, few)) (in-turn c h)) (subst (λ n. IsFirstBroken (MasterMayStandAt n) n c.segments k) e b)

pub records-stand : (c : Contents) → Stand (bundle_bytes c) (placed_segments records_start c.segments)
records-stand c =
    subst (λ (l : List ℕ). Stand l (placed_segments records_start c.segments)) (sym (bytes-are c))
    (placed-stand (front-of c ++ behind-of c) (names_bytes c.names) records_start c.segments (drop_at (front-of c) (behind-of c) records_start (front-long c)))

-- ---- the segments

all-begin : (place : ℕ) (ss : List Segment) → StandInTurn (MayStandAt 0) place ss → AllByRecursion (λ s. goes_on s ≡ false) ss
all-begin place [] h = tt
all-begin zero (s ∷ ss) h = (first-begins s h.0.segment h.0.low, all-begin (s.high + 1) ss h.1)
all-begin (suc place) (s ∷ ss) h = (h.0.apart (λ e. let z : ⊥ = omega (arith, e) in z), all-begin (s.high + 1) ss h.1)

filter-all : (ss : List Segment) → AllByRecursion (λ s. goes_on s ≡ false) ss → filter (λ s. not (goes_on s)) ss ≡ ss
filter-all [] h = refl
filter-all (s ∷ ss) h =
    let rest = filter (λ (t : Segment). not (goes_on t)) ss in
    ap (λ b. cond (not b) (s ∷ rest) rest) h.0 ∙ ap (λ (l : List Segment). s ∷ l) (filter-all ss h.1)

cut-all : (first end : ℕ) (ss : List Segment) → Follow first end ss → cut end ss ≡ ss
cut-all first end [] f = refl
cut-all first end (s ∷ ss) f =
    let e = follow-ends (s.high + 1) end ss f.2 in
    let low = f.0 in
    let order = f.1 in
    let high : min s.high (end - 1) ≡ s.high = omega (arith, e) in
    ap (λ b. cond b (record s { high = min s.high (end - 1) } ∷ cut end ss) (cut end ss)) (lt-ltb s.low end (omega (arith, e, low, order)))
    ∙ ap₂ (λ (n : ℕ) (l : List Segment). record s { high = n } ∷ l) high (cut-all (s.high + 1) end ss f.2)

-- a table of the records has the segments themselves
pub flats-are : (c : Contents) → IsBundle c → (table : KeptFlats) → IsTableOf table (placed_segments records_start c.segments) → cut table.end (maximal table.end (segments_of (placed_segments records_start c.segments))) ≡ c.segments
flats-are c h table t =
    let same = placed-segments records_start c.segments in
    let follow = subst (Follow 0 table.end) same t.in_turn in
    ap (λ (ss : List Segment). cut table.end (maximal table.end ss)) same
    ∙ ap (λ (ss : List Segment). cut table.end (up_to table.end ss)) (filter-all c.segments (all-begin 0 c.segments (in-turn c h)))
    ∙ ap (cut table.end) (follow-up_to 0 table.end c.segments follow)
    ∙ cut-all 0 table.end c.segments follow

-- ---- the names

pub placed-names : (r : PlainRead) (c : Contents) → IsReadOf r c → (bytes : List ℕ) → bytes ≡ r.bytes → ArePlaced (record { bytes = bytes; start = r.start; index = r.index }) c.names
placed-names r c h bytes e =
    let is = e ∙ h.spelled in record {
      stand = subst (λ (at : ℕ). StandAt bytes (named_from at c.names)) (sym h.start) (subst (λ (l : List ℕ). StandAt l (named_from (names_start c) c.names)) (sym is) (bundle-names c h.bundle.names));
      index = subst (λ (at : ℕ). IsIndexOf r.index (named_from at c.names)) (sym h.start) h.index;
      size = (let s = size c h.bundle in let l = ap (length {A = ℕ}) is in let at = h.start in omega (arith, s, l, at));
      few = h.bundle.few;
    }
