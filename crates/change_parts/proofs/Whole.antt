-- The sections that were built are those of the change by numbers.
use Rattle.std.proofs.Common.{◌≡◌, ◌<◌, ◌≤◌, ℕ, ◌+◌, ◌-◌, ◌^◌, List, [], ◌∷◌, length, map, slice_index, get_or, refl, sym, ap, ap₂, subst, ◌∙◌, ⊎_elim, append-nil, arith}
use Rattle.std.specs.List.{AllByRecursion}
use Rattle.id_groups.specs.Name.{Name}
use Rattle.id_groups.specs.Id.{is_master_id, other_id}
use Rattle.commit_graph.proofs.Places.{chosen, left-out, below-master, over-master}
use Rattle.segment_codec.specs.Record.{Segment, IsSegment}
use Rattle.segment_codec.specs.Table.{IsLawful, parents_at}
use Rattle.segment_codec.proofs.Tables.{parent-below, le_or_lt}
use Rattle.batch_codec.specs.Payload.{Payload}
use Rattle.assign_ids.specs.Numbers.{AreBelow}
use Rattle.change_parts.specs.Flat.{Span, flat_segments}
use Rattle.change_parts.specs.Moves.{flat_record, new_id, moved_id, moved_parents, rest_of, name_at, change_in}
use Rattle.change_rules.specs.Change.{known_from}
use Rattle.id_groups.specs.declared.id.Group.TheVariants.{Master, Others}
use Rattle.batch_codec.specs.Building.{Building, IsBuilt}
use Rattle.change_parts.specs.Rows.{table_rows}
use Rattle.change_parts.specs.Sections.{with_spans}
use Rattle.change_parts.proofs.Moving.{map-in, map-below}
use Rattle.change_parts.proofs.RowLemmas.{rows-of}

module _ (ids : List ℕ) (before n : ℕ) (order : List ℕ) (are : (k : ℕ) → k < n → get_or ids k 0 ≡ moved_id before n order (other_id k)) where
  new-is : (p : ℕ) → p < 2 ^ 56 + n → new_id ids p ≡ moved_id before n order p
  new-is p lt = ⊎_elim over under (le_or_lt (2 ^ 56) p)
    where
      under : p < 2 ^ 56 → new_id ids p ≡ moved_id before n order p
      under small =
          let m = below-master p small in
          chosen (is_master_id p) p (slice_index ids (p - 2 ^ 56)) m ∙ sym (chosen (is_master_id p) p _ m)

      over : 2 ^ 56 ≤ p → new_id ids p ≡ moved_id before n order p
      over le =
          let e : other_id (p - 2 ^ 56) ≡ p = omega (arith, le) in
          left-out (is_master_id p) p (slice_index ids (p - 2 ^ 56)) (ap is_master_id (sym e) ∙ over-master (p - 2 ^ 56))
          ∙ are (p - 2 ^ 56) (omega (arith, lt, le))
          ∙ ap (moved_id before n order) e

  pub parents-new : (flats : List Segment) → IsLawful flats → (ks : List ℕ) → AreBelow n ks
      → map (λ k. map (new_id ids) (parents_at flats (other_id k))) ks ≡ moved_parents before n order (λ k. parents_at flats (other_id k)) ks
  parents-new flats lawful ks h =
      map-below (λ k. map (new_id ids) (parents_at flats (other_id k))) (λ k. map (moved_id before n order) (parents_at flats (other_id k))) n ks h
      (λ k lt. map-in (new_id ids) (moved_id before n order) (parents_at flats (other_id k)) (λ p i. new-is p (let b = (parent-below flats lawful (other_id k) p i).0 in omega (arith, b, lt))))

pub segments-only : (spans : List Span) → AllByRecursion (λ s. IsSegment s × (s.level ≡ 0)) (map flat_record spans) → AllByRecursion (λ s. IsSegment (flat_record s)) spans
segments-only [] h = tt
segments-only (s ∷ spans) h = (h.0.0, segments-only spans h.1)

-- the payload of these sections
abbrev pub sections : ℕ → ℕ → List Span → List Segment → List Name → List Span → List Name → Payload
sections before after masters levels known others names = record {
  version = 2;
  kind = 1;
  before = before;
  after = after;
  cloned = 0;
  levels = levels;
  master = map flat_record masters;
  known = known_from before known;
  heads = [];
  others = map flat_record others;
  other_names = names;
}

pub sections-are : (flats : List Segment) (bytes : List ℕ) (before n : ℕ) (order rest : List ℕ) (after : ℕ) (masters others : List Span) (levels : List Segment) → after ≡ before + length order
    → masters ≡ flat_segments before (moved_parents before n order (λ k. parents_at flats (other_id k)) order)
    → others ≡ flat_segments (2 ^ 56) (moved_parents before n order (λ k. parents_at flats (other_id k)) (rest_of n order))
    → rest ≡ rest_of n order
    → levels ≡ (change_in flats bytes before n order).levels
    → sections before after masters levels (map (name_at bytes) order) others (map (name_at bytes) rest) ≡ change_in flats bytes before n order
sections-are flats bytes before n order rest after masters others levels e m o r h =
    ap₂ {C = Payload} (λ a v. sections before a masters v (map (name_at bytes) order) others (map (name_at bytes) rest)) e h
    ∙ ap (λ l. sections before (before + length order) l (change_in flats bytes before n order).levels (map (name_at bytes) order) others (map (name_at bytes) rest)) m
    ∙ ap₂ {C = Payload} (λ l k. sections before (before + length order) (flat_segments before (moved_parents before n order (λ k. parents_at flats (other_id k)) order)) (change_in flats bytes before n order).levels (map (name_at bytes) order) l (map (name_at bytes) k)) o r

pub spans-are : (flats : List Segment) → IsLawful flats → (ids deref : List ℕ) (before n first : ℕ) (order ks : List ℕ) (spans : List Span)
    → ((k : ℕ) → k < n → get_or ids k 0 ≡ moved_id before n order (other_id k)) → AreBelow n ks → deref ≡ ids
    → spans ≡ flat_segments first (map (λ k. map (new_id deref) (parents_at flats (other_id k))) ks)
    → spans ≡ flat_segments first (moved_parents before n order (λ k. parents_at flats (other_id k)) ks)
spans-are flats lawful ids deref before n first order ks spans are below d e =
    e ∙ ap (λ l. flat_segments first (map (λ k. map (new_id l) (parents_at flats (other_id k))) ks)) d ∙ ap (flat_segments first) (parents-new ids before n order are flats lawful ks below)

-- the same over the rows that were read of the table
pub spans-of : (flats : List Segment) → IsLawful flats → (graph : List (List ℕ)) (ids deref : List ℕ) (before n first : ℕ) (order ks : List ℕ) → graph ≡ table_rows flats n
    → ((k : ℕ) → k < n → get_or ids k 0 ≡ moved_id before n order (other_id k)) → AreBelow n ks → deref ≡ ids
    → flat_segments first (map (λ k. map (new_id deref) (get_or graph k [])) ks) ≡ flat_segments first (moved_parents before n order (λ k. parents_at flats (other_id k)) ks)
spans-of flats lawful graph ids deref before n first order ks g are below d =
    ap (flat_segments first) (rows-of (map (new_id deref)) flats n graph ks g below) ∙ spans-are flats lawful ids deref before n first order ks _ are below d refl

-- before any segment is added
pub no-masters : (b : Building) (p : Payload) → IsBuilt b p → IsBuilt b (with_spans Master p [])
no-masters b p is = subst (λ l. IsBuilt b (record p { master = l })) (sym (append-nil p.master)) is

pub no-others : (b : Building) (p : Payload) → IsBuilt b p → IsBuilt b (with_spans Others p [])
no-others b p is = subst (λ l. IsBuilt b (record p { others = l })) (sym (append-nil p.others)) is
