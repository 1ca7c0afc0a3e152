-- What stands in the log where payloads stand, and which ids their records have.
use Rattle.std.proofs.Common.{◌≡◌, ◌≤◌, ℕ, ◌+◌, ◌*◌, List, [], ◌∷◌, ◌++◌, length, take, drop, flat_map, refl, sym, ap, ap₂, ◌∙◌, subst, arith, append_assoc, append-nil}
use Rattle.std.proofs.lemmas.List.{length-append, length-take, length-drop, take_at, take-append-drop, map-append}
use Rattle.segment_codec.specs.Record.{Segment, segment_bytes}
use Rattle.segment_codec.specs.Table.{Follow}
use Rattle.batch_codec.specs.Payload.{Payload, payload_bytes, names_bytes, master_start, others_start, names_start}
use Rattle.batch_codec.specs.Grammar.{IsPayload, count_after}
use Rattle.change_rules.specs.Lawful.{AreLawful}
use Rattle.batch_codec.proofs.Entries.{names-size}
use Rattle.flat_segments.specs.Placed.{PlacedSegment, placed_segments, segments_of, Stand}
use Rattle.flat_segments.proofs.Callers.{placed-stand}
use Rattle.name_map.specs.Added.{Placed, AllStand, payloads_of}
use Rattle.name_map.proofs.Standing.{stand-parts}
pub use Rattle.name_map.proofs.OtherNames.{Stands, other-names-in}
use Rattle.batch_codec.proofs.Places.{master-stands, section-stands}
use Rattle.payload_tables.specs.Kept.{master_records, other_records}
use Rattle.payload_tables.proofs.Lists.{all-append, count-last}
use Rattle.payload_tables.proofs.Joined.{follow-join}

pub masters-in : (p : Payload) → Stands p (flat_map segment_bytes p.master) (master_start p)
masters-in p = master-stands p

-- a piece stands in the log
piece-stands : (bytes : List ℕ) (a : Placed) (piece : List ℕ) (n : ℕ) → Stands a.payload piece n → take (length (payload_bytes a.payload)) (drop a.at bytes) ≡ payload_bytes a.payload
    → drop (a.at + n) bytes ≡ piece ++ drop (length piece) (drop (a.at + n) bytes)
piece-stands bytes a piece n s h =
    let whole = subst (λ (z : List ℕ). take (length z) (drop a.at bytes) ≡ z) s.whole h in
    let back = (stand-parts s.front (piece ++ s.behind) a.at bytes whole).1 in
    let at = subst (λ (m : ℕ). take (length (piece ++ s.behind)) (drop (a.at + m) bytes) ≡ piece ++ s.behind) s.size back in
    let here = (stand-parts piece s.behind (a.at + n) bytes at).0 in
    sym (take-append-drop (length piece) (drop (a.at + n) bytes)) ∙ ap (λ l. l ++ drop (length piece) (drop (a.at + n) bytes)) here

pub masters-stand : (bytes : List ℕ) (added : List Placed) → AllStand bytes added → Stand bytes (master_records added)
masters-stand bytes [] h = tt
masters-stand bytes (a ∷ added) h =
    all-append _ (placed_segments (a.at + master_start a.payload) a.payload.master) (master_records added)
    (placed-stand bytes (drop (length (flat_map segment_bytes a.payload.master)) (drop (a.at + master_start a.payload) bytes)) (a.at + master_start a.payload) a.payload.master
    (piece-stands bytes a (flat_map segment_bytes a.payload.master) (master_start a.payload) (masters-in a.payload) h.0))
    (masters-stand bytes added h.1)

pub placed-segments : (at : ℕ) (segments : List Segment) → segments_of (placed_segments at segments) ≡ segments
placed-segments at [] = refl
placed-segments at (s ∷ more) = ap (λ l. s ∷ l) (placed-segments (at + length (segment_bytes s)) more)

pub masters-segments : (added : List Placed) → segments_of (master_records added) ≡ flat_map (λ p. p.master) (payloads_of added)
masters-segments [] = refl
masters-segments (a ∷ added) =
    map-append (λ (r : PlacedSegment). r.segment) (placed_segments (a.at + master_start a.payload) a.payload.master) (master_records added)
    ∙ ap₂ (λ x y. x ++ y) (placed-segments (a.at + master_start a.payload) a.payload.master) (masters-segments added)

-- the master ids of lawful payloads
pub lawful-follow : (before more : List Payload) → AreLawful before more → Follow (count_after 0 before) (count_after 0 (before ++ more)) (flat_map (λ p. p.master) more)
lawful-follow before [] h = ap (count_after 0) (sym (append-nil before))
lawful-follow before (p ∷ more) h =
    let rest = lawful-follow (before ++ p ∷ []) more h.1 in
    follow-join (count_after 0 before) p.after (count_after 0 (before ++ (p ∷ more))) p.master (flat_map (λ q. q.master) more)
    (subst (λ n. Follow n p.after p.master) h.0.count h.0.whole.cover.master)
    (subst (λ n. Follow n (count_after 0 (before ++ (p ∷ more))) (flat_map (λ q. q.master) more)) (count-last 0 before p)
    (subst (λ l. Follow (count_after 0 (before ++ p ∷ [])) (count_after 0 l) (flat_map (λ q. q.master) more)) (append_assoc before (p ∷ []) more) rest))

others-in : (p : Payload) → IsPayload p → Stands p (flat_map segment_bytes p.others) (others_start p)
others-in p h = section-stands p h

-- the names of the other ids stand in the log
pub names-stand : (bytes : List ℕ) (a : Placed) → IsPayload a.payload → take (length (payload_bytes a.payload)) (drop a.at bytes) ≡ payload_bytes a.payload
    → take (20 * length a.payload.other_names) (drop (a.at + names_start a.payload) bytes) ≡ names_bytes a.payload.other_names
names-stand bytes a h stand =
    let here = piece-stands bytes a (names_bytes a.payload.other_names) (names_start a.payload) (other-names-in a.payload h) stand in
    let size = names-size a.payload.other_names h.other_names in
    ap (λ n. take n (drop (a.at + names_start a.payload) bytes)) (sym size)
    ∙ ap (take (length (names_bytes a.payload.other_names))) here
    ∙ take_at (names_bytes a.payload.other_names) (drop (length (names_bytes a.payload.other_names)) (drop (a.at + names_start a.payload) bytes)) (length (names_bytes a.payload.other_names)) refl

pub names-within : (bytes : List ℕ) (a : Placed) → IsPayload a.payload → take (length (payload_bytes a.payload)) (drop a.at bytes) ≡ payload_bytes a.payload
    → a.at + names_start a.payload + 20 * length a.payload.other_names ≤ length bytes
names-within bytes a h stand =
    let s = other-names-in a.payload h in
    let whole = ap (length {A = ℕ}) s.whole in
    let x = length-append s.front (names_bytes a.payload.other_names ++ s.behind) in
    let y = length-append (names_bytes a.payload.other_names) s.behind in
    let z = names-size a.payload.other_names h.other_names in
    let size = s.size in
    let got = ap (length {A = ℕ}) stand in
    let t = length-take {A = ℕ} (length (payload_bytes a.payload)) (drop a.at bytes) in
    let d = length-drop {A = ℕ} a.at bytes in
    omega (arith, whole, x, y, z, size, got, t, d)

pub others-stand : (bytes : List ℕ) (a : Placed) → IsPayload a.payload → take (length (payload_bytes a.payload)) (drop a.at bytes) ≡ payload_bytes a.payload → Stand bytes (other_records a)
others-stand bytes a h stand =
    placed-stand bytes (drop (length (flat_map segment_bytes a.payload.others)) (drop (a.at + others_start a.payload) bytes)) (a.at + others_start a.payload) a.payload.others
    (piece-stands bytes a (flat_map segment_bytes a.payload.others) (others_start a.payload) (others-in a.payload h) stand)
