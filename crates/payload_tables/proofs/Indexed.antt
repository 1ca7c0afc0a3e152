-- The index of edges, of a table to which a payload came.
use Rattle.std.proofs.Common.{◌≡◌, ◌<◌, ◌≤◌, ℕ, zero, suc, ◌+◌, not, Bool, List, [], ◌∷◌, ◌++◌, length, map, filter, Option, Some, None, slice_get, Result, Ok, Err, refl, sym, ap, subst, ◌∙◌, arith, length-append, le_of_suc-le-suc}
use Rattle.std.specs.Prelude.{OnOk, OnErr}
use Rattle.std.proofs.lemmas.List.{map-append, length-map}
use Rattle.std.proofs.lemmas.List.Elements.{filter-append}
use Rattle.id_groups.specs.Lists.{IsIn}
use Rattle.segment_codec.specs.Record.{Segment}
use Rattle.segment_codec.specs.Turns.{goes_on}
use Rattle.flat_segments.specs.Kept.{KeptFlats}
use Rattle.flat_segments.specs.Maximal.{up_to}
use Rattle.flat_segments.specs.Placed.{PlacedSegment, placed_segments, segments_of}
use Rattle.segment_levels.specs.Flats.{flats_of}
use Rattle.batch_codec.specs.Payload.{master_start}
use Rattle.name_map.specs.Added.{Placed}
use Rattle.edge_index.specs.Index.{PlainEdges, IsEdgeIndexOf}
use Rattle.payload_tables.specs.Kept.{PlainTables, AreTablesOf, master_records}
use Rattle.payload_tables.proofs.Lists.{flat-snoc}
use Rattle.payload_tables.proofs.Joined.{get-map}

abbrev parents_of : List Segment → List (List ℕ)
parents_of segments = map (λ (s : Segment). s.parents) segments

abbrev begins : Segment → Bool
begins s = not (goes_on s)

up-parents : (end : ℕ) (xs : List Segment) → parents_of (up_to end xs) ≡ parents_of xs
up-parents end [] = refl
up-parents end (s ∷ more) = ap (λ l. s.parents ∷ l) (up-parents end more)

-- the parents of the flat segments of a table
flats-parents : (table : KeptFlats) (records : List PlacedSegment) → parents_of (flats_of table records) ≡ parents_of (filter begins (segments_of records))
flats-parents table records = up-parents table.end (filter begins (segments_of records))

some-same : (a b : List ℕ) → ◌≡◌ {A = Option (List ℕ)} (Some a) (Some b) → a ≡ b
some-same a b e = ap (some_or a) e
  where
    some_or : List ℕ → Option (List ℕ) → List ℕ
    some_or d None = d
    some_or d (Some x) = x

-- a segment in front, by the parents in its place
front-of : (old : List Segment) (more : List (List ℕ)) (k : ℕ) (parents : List ℕ) → k < length old → slice_get (parents_of old ++ more) k ≡ Some parents
    → (t : Segment) × (slice_get old k ≡ Some t) × (t.parents ≡ parents)
front-of [] more k parents lt e = absurd (omega (arith, lt))
front-of (s ∷ old) more zero parents lt e = (s, refl, some-same s.parents parents e)
front-of (s ∷ old) more (suc k) parents lt e = front-of old more k parents (le_of_suc-le-suc lt) e

-- an index is one of more segments too, where the first have the same parents
index-kept : (edges : PlainEdges) (old new : List Segment) (more : List (List ℕ)) → parents_of new ≡ parents_of old ++ more → IsEdgeIndexOf edges old → IsEdgeIndexOf edges new
index-kept edges old new more same h = record {
  edges = record {
    order = h.edges.order;
    whole = λ k s p lt get i.
        let few = h.few in
        let at = sym (ap (λ l. slice_get l k) same) ∙ get-map (λ (z : Segment). z.parents) new k s get in
        let back = front-of old more k s.parents (omega (arith, lt, few)) at in
        h.edges.whole k back.0 p lt back.1 (subst (IsIn p) (sym back.2) i);
  };
  few = let few = h.few in let all = ap length same ∙ length-append (parents_of old) more in
      let a : length (parents_of new) ≡ length new = length-map new (λ (z : Segment). z.parents) in
      let b : length (parents_of old) ≡ length old = length-map old (λ (z : Segment). z.parents) in omega (arith, few, all, a, b);
}

-- an index of the tables of some payloads is one of those with one more
pub index-more : (edges : PlainEdges) (old new : KeptFlats) (added : List Placed) (a : Placed) → IsEdgeIndexOf edges (flats_of old (master_records added)) → IsEdgeIndexOf edges (flats_of new (master_records (added ++ a ∷ [])))
index-more edges old new added a h =
    let own = placed_segments (a.at + master_start a.payload) a.payload.master in
    let all : segments_of (master_records (added ++ a ∷ [])) ≡ segments_of (master_records added) ++ segments_of own =
    ap segments_of (flat-snoc (λ (b : Placed). placed_segments (b.at + master_start b.payload) b.payload.master) added a) ∙ map-append (λ (r : PlacedSegment). r.segment) (master_records added) own in
    index-kept edges (flats_of old (master_records added)) (flats_of new (master_records (added ++ a ∷ []))) (parents_of (filter begins (segments_of own)))
    (flats-parents new (master_records (added ++ a ∷ []))
    ∙ ap (λ l. parents_of (filter begins l)) all
    ∙ ap parents_of (filter-append begins (segments_of (master_records added)) (segments_of own))
    ∙ map-append (λ (z : Segment). z.parents) (filter begins (segments_of (master_records added))) (filter begins (segments_of own))
    ∙ ap (λ l. l ++ parents_of (filter begins (segments_of own))) (sym (flats-parents old (master_records added))))
    h

-- what is grown, or stays as it was
pub grown-or : {X Y : Type 0} (r : Result X Y) (P : PlainEdges → Type 0) (old new : PlainEdges) → OnOk r (P new) → OnErr r (new ≡ old) → P old → P new
grown-or (Ok x) P old new h e p = h
grown-or (Err y) P old new h e p = subst P (sym e) p

-- tables with another index of theirs
pub with-index : (tables : PlainTables) (edges : PlainEdges) (added : List Placed) → AreTablesOf tables added → IsEdgeIndexOf edges (flats_of tables.flat (master_records added)) → AreTablesOf (record tables { edges = edges }) added
with-index tables edges added t is = record {
  lawful = t.lawful;
  flat = t.flat;
  levels = t.levels;
  names = t.names;
  others = t.others;
  heads = t.heads;
  cloned = t.cloned;
  version = t.version;
  edges = is;
}
