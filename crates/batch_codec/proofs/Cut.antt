-- The sections of bytes that are known to be a payload's, where the records of the other ids aren't read.
use Rattle.std.proofs.Common.{◌≡◌, ℕ, ◌-◌, ◌*◌, ◌^◌, ◌≤◌, Bool, cond, eqb, ◌&&◌, List, [], ◌∷◌, ◌++◌, append-nil, length, take, drop, Option, Some, None, refl, sym, ap, subst, ◌∙◌, arith}
use Rattle.std.specs.Int.{w32}
use Rattle.std.specs.List.{flat_map, AllByRecursion}
use Rattle.std.proofs.lemmas.List.{nil_from_length, take_at, drop_at, length-append}
use Rattle.std.proofs.lemmas.Bool.{eqb-true}
use Rattle.id_groups.specs.Name.{Name}
use Rattle.segment_codec.specs.Record.{Segment, IsSegment, segment_bytes}
use Rattle.segment_codec.specs.Reading.{◌>>=◌}
use Rattle.segment_codec.proofs.Numbers.{IsBytes, bind_some, guard_some, some_is}
use Rattle.segment_codec.proofs.Lists.{bytes-drop}
use Rattle.batch_codec.specs.Payload.{Payload}
use Rattle.batch_codec.specs.Reading.{fixed_at, piece_at, names_read, segments_in, may_stand, behind_segment, records_at, section_at, names_at, heads_at, Others, others_at, Masters, masters_at, joined, parts_at, ends_fit, kind_fits, payload_at}
use Rattle.batch_codec.proofs.Records.{AllCome, records_take, segments-again}
use Rattle.batch_codec.proofs.Pieces.{wide32, fixed_takes, piece_takes}

come-segments : (Place : Type 0) (may_come : Place → Segment → Bool) (behind : Segment → Place) (place : Place) (ss : List Segment) → AllCome Place may_come behind place ss → AllByRecursion IsSegment ss
come-segments Place may_come behind place [] h = tt
come-segments Place may_come behind place (s ∷ ss) h = (h.0, come-segments Place may_come behind (behind s) ss h.2)

-- what stands behind the two counts: so many records, and so many names to the end
pub record OthersCut (count records : ℕ) (rest : List ℕ) (o : Others) : Type 0 where
  pub names : List ℕ
  pub parts : rest ≡ flat_map segment_bytes o.others ++ names
  pub size : length names ≡ 20 * count
  pub many : length o.others ≡ records
  pub each : AllByRecursion IsSegment o.others
  pub named : o.other_names ≡ names_read count names

abbrev made : List Segment → List Name × List ℕ → Others × List ℕ
made others names = (record { others = others; other_names = names.0 }, names.1)

-- the sections of the other ids behind their count
abbrev behind-count : ℕ → ℕ × List ℕ → Option (Others × List ℕ)
behind-count after count = section_at after (2 ^ 56) count.1 >>= λ others. names_at count.0 others.1 >>= λ names. Some (made others.0 names)

pub no-count : (after : ℕ) (bytes : List ℕ) (o : Others × List ℕ) → others_at after bytes ≡ Some o → fixed_at w32 bytes ≡ None → ⊥
unfolding others_at
no-count after bytes o e none = let f : None ≡ Some o = sym (ap (λ r. r >>= behind-count after) none) ∙ e in absurd cc

pub no-records : (after : ℕ) (bytes : List ℕ) (o : Others × List ℕ) (count : ℕ) (rest : List ℕ) → others_at after bytes ≡ Some o → fixed_at w32 bytes ≡ Some (count, rest)
    → fixed_at w32 rest ≡ None → ⊥
unfolding others_at section_at
no-records after bytes o count rest e e1 none =
    let e2 : behind-count after (count, rest) ≡ Some o = sym (ap (λ r. r >>= behind-count after) e1) ∙ e in
    let b = bind_some (section_at after (2 ^ 56) rest) (λ others. names_at count others.1 >>= λ names. Some (made others.0 names)) o e2 in
    let f : None ≡ Some b.0 = sym (ap (λ r. r >>= λ n. records_at (may_stand after (2 ^ 56)) behind_segment (2 ^ 56) n.0 n.1) none) ∙ b.1 in
    absurd cc

pub others-cut : (after : ℕ) (bytes : List ℕ) (o : Others) (count : ℕ) (behind : List ℕ) (records : ℕ) (rest : List ℕ) → IsBytes bytes → others_at after bytes ≡ Some (o, [])
    → fixed_at w32 bytes ≡ Some (count, behind) → fixed_at w32 behind ≡ Some (records, rest) → OthersCut count records rest o
unfolding others_at section_at names_at
others-cut after bytes o count behind records rest fits e e1 e2 =
    let whole : behind-count after (count, behind) ≡ Some (o, []) = sym (ap (λ r. r >>= behind-count after) e1) ∙ e in
    let b = bind_some (section_at after (2 ^ 56) behind) (λ others. names_at count others.1 >>= λ names. Some (made others.0 names)) (o, []) whole in
    let c = bind_some (names_at count b.0.1) (λ names. Some (made b.0.0 names)) (o, []) b.2 in
    let section = sym (ap (λ r. r >>= λ n. records_at (may_stand after (2 ^ 56)) behind_segment (2 ^ 56) n.0 n.1) e2) ∙ b.1 in
    let fits1 = (fixed_takes w32 (2 ^ 32) wide32 bytes (count, behind) fits e1).rest in
    let fits2 = (fixed_takes w32 (2 ^ 32) wide32 behind (records, rest) fits1 e2).rest in
    let t = records_take ℕ (may_stand after (2 ^ 56)) behind_segment (2 ^ 56) records rest b.0 fits2 section in
    let d = bind_some (piece_at (20 * count) b.0.1) (λ piece. Some (names_read count piece.0, piece.1)) c.0 c.1 in
    let piece = piece_takes (20 * count) b.0.1 d.0 (bytes-drop (flat_map segment_bytes b.0.0) b.0.1 rest t.parts fits2) d.1 in
    let read : List Name × List ℕ = (names_read count d.0.0, d.0.1) in
    let same = some_is read c.0 d.2 in
    let cut = λ (none : c.0.1 ≡ []). (let r : OthersCut count records rest (record { others = b.0.0; other_names = c.0.0 }) = record {
      names = d.0.0;
      parts = t.parts ∙ ap (λ z. flat_map segment_bytes b.0.0 ++ z) (piece.parts ∙ ap (λ z. d.0.0 ++ z) (ap (λ x. x.1) same ∙ none) ∙ append-nil d.0.0);
      size = piece.len;
      many = t.many;
      each = come-segments ℕ (may_stand after (2 ^ 56)) behind_segment (2 ^ 56) b.0.0 t.come;
      named = sym (ap (λ x. x.0) same);
    } in r) in
    subst (λ (x : Others × List ℕ). x.1 ≡ [] → OthersCut count records rest x.0) (some_is (made b.0.0 c.0) (o, []) c.2) cut refl

-- the two sections, cut there
pub record SectionsCut (count records : ℕ) (front back : List ℕ) (o : Others) : Type 0 where
  pub segments : segments_in records front ≡ o.others
  pub many : length (segments_in records front) ≡ records
  pub spelled : front ≡ flat_map segment_bytes (segments_in records front)
  pub size : length back ≡ 20 * count
  pub names : names_read count back ≡ o.other_names

pub sections-cut : (count records : ℕ) (rest front back : List ℕ) (o : Others) → OthersCut count records rest o → front ≡ take (length rest - 20 * count) rest → back ≡ drop (length rest - 20 * count) rest
    → SectionsCut count records front back o
sections-cut count records rest front back o h front-is back-is =
    let size = h.size in
    let len : length (flat_map segment_bytes o.others) ≡ length rest - 20 * count = omega (arith, ap (length {A = ℕ}) h.parts, length-append (flat_map segment_bytes o.others) h.names, size) in
    let f : front ≡ flat_map segment_bytes o.others = front-is ∙ ap (take (length rest - 20 * count)) h.parts ∙ take_at (flat_map segment_bytes o.others) h.names (length rest - 20 * count) len in
    let b : back ≡ h.names = back-is ∙ ap (drop (length rest - 20 * count)) h.parts ∙ drop_at (flat_map segment_bytes o.others) h.names (length rest - 20 * count) len in
    let ss : segments_in records front ≡ o.others = ap (segments_in records) f ∙ ap (λ (n : ℕ). segments_in n (flat_map segment_bytes o.others)) (sym h.many) ∙ segments-again o.others h.each in
    record {
      segments = ss;
      many = ap (length {A = Segment}) ss ∙ h.many;
      spelled = f ∙ ap (flat_map segment_bytes) (sym ss);
      size = ap (length {A = ℕ}) b ∙ size;
      names = ap (names_read count) b ∙ sym h.named;
    }

pub names-within : (count records : ℕ) (rest : List ℕ) (o : Others) → OthersCut count records rest o → 20 * count ≤ length rest
names-within count records rest o h = let size = h.size in omega (arith, ap (length {A = ℕ}) h.parts, length-append (flat_map segment_bytes o.others) h.names, size)

-- ---- what stands before them

-- the last sections of a payload, and nothing behind them
abbrev ended : Masters → List Name → Others × List ℕ → Option Payload
ended masters heads others = cond (eqb (length others.1) 0) (Some (joined masters heads others.0)) None

abbrev behind-heads : Masters → List Name × List ℕ → Option Payload
behind-heads masters heads = others_at masters.counts.after heads.1 >>= ended masters heads.0

abbrev behind-masters : Masters × List ℕ → Option Payload
behind-masters masters = heads_at masters.1 >>= behind-heads masters.0

parts-of : (bytes : List ℕ) (p : Payload) → payload_at bytes ≡ Some p → parts_at bytes ≡ Some p
unfolding payload_at
parts-of bytes p e =
    let a = bind_some (parts_at bytes) (λ q. cond (ends_fit q && kind_fits q) (Some q) None) p e in
    let g = guard_some (ends_fit a.0 && kind_fits a.0) a.0 p a.2 in
    a.1 ∙ ap Some g.1

pub no-masters : (bytes : List ℕ) (p : Payload) → payload_at bytes ≡ Some p → masters_at bytes ≡ None → ⊥
unfolding parts_at
no-masters bytes p e none = let f : None ≡ Some p = sym (ap (λ r. r >>= behind-masters) none) ∙ parts-of bytes p e in absurd cc

pub no-heads : (bytes : List ℕ) (p : Payload) (masters : Masters) (rest : List ℕ) → payload_at bytes ≡ Some p → masters_at bytes ≡ Some (masters, rest) → heads_at rest ≡ None → ⊥
unfolding parts_at
no-heads bytes p masters rest e m none =
    let f : None ≡ Some p = sym (ap (λ r. r >>= behind-masters) m ∙ ap (λ r. r >>= behind-heads masters) none) ∙ parts-of bytes p e in absurd cc

-- the other ids are all that stands behind the heads
pub others-are : (bytes : List ℕ) (p : Payload) (masters : Masters) (rest : List ℕ) (heads : List Name) (behind : List ℕ) → payload_at bytes ≡ Some p
    → masters_at bytes ≡ Some (masters, rest) → heads_at rest ≡ Some (heads, behind)
    → (o : Others) × (others_at masters.counts.after behind ≡ Some (o, [])) × (joined masters heads o ≡ p)
unfolding parts_at
others-are bytes p masters rest heads behind e m h =
    let whole : behind-heads masters (heads, behind) ≡ Some p = sym (ap (λ r. r >>= behind-masters) m ∙ ap (λ r. r >>= behind-heads masters) h) ∙ parts-of bytes p e in
    let c = bind_some (others_at masters.counts.after behind) (ended masters heads) p whole in
    let d = guard_some (eqb (length c.0.1) 0) (joined masters heads c.0.0) p c.2 in
    let none = nil_from_length c.0.1 (eqb-true (length c.0.1) 0 d.0) in
    (c.0.0, c.1 ∙ ap (λ z. Some (c.0.0, z)) none, d.1)
