-- The look-ups that the answer of the ancestors of one name takes, by the segments of the world that a session sees.
use Rattle.std.proofs.Common.{◌≡◌, ◌≤◌, ◌^◌, ℕ, zero, suc, ◌+◌, ◌*◌, inl, inr, Bool, true, false, ◌&&◌, nat_le, nat_eq, List, [], ◌∷◌, ◌++◌, length, map, filter, Some, slice_get, refl, sym, ap, subst, ◌∙◌, ⊎_elim, if◌then◌else◌, true≢false, arith, zero-le}
use Rattle.std.specs.List.{list_any}
use Rattle.std.proofs.lemmas.Bool.{leb-true}
use Rattle.id_groups.specs.Lists.{IsIn, is_in}
use Rattle.id_groups.specs.Name.{Name, same_name}
use Rattle.id_groups.specs.Id.{other_id}
use Rattle.id_groups.specs.declared.span.IdSpan.{IdSpan}
use Rattle.id_groups.proofs.Listing.{and_true, or_true, there}
use Rattle.id_groups.proofs.Names.{same_name-exact, same_name-self}
use Rattle.commit_graph.specs.World.{Row, World, IsWorld, with_pending}
use Rattle.commit_graph.specs.Ids.{id_in, parent_ids}
use Rattle.commit_graph.proofs.Down.{in-left}
use Rattle.commit_graph.proofs.Places.{place-right, id-in-others}
use Rattle.segment_codec.specs.Record.{Segment}
use Rattle.segment_codec.proofs.Flats.{flat_ending-all}
use Rattle.segment_rules.specs.Flat.{flat_segments_of}
use Rattle.segment_levels.specs.Flats.{flats_of}
use Rattle.segment_levels.specs.Endings.{level_ending}
use Rattle.high_segments.specs.declared.view.View.{View}
use Rattle.high_segments.specs.Views.{flats_in, ending_of}
use Rattle.high_segments.proofs.Viewing.{lawful_flats}
use Rattle.span_set.specs.Members.{IsMember, ids_of}
use Rattle.span_set.proofs.Counts.{member-ids}
use Rattle.ancestor_query.specs.Counts.{meets, count_met, EndsWhole}
use Rattle.name_map.specs.Added.{Placed, payloads_of}
use Rattle.change_rules.specs.Tables.{StandFor}
use Rattle.payload_tables.specs.declared.base.BaseRef.{BaseRef}
use Rattle.payload_tables.specs.Kept.{master_records}
use Rattle.payload_tables.specs.Pending.{segments_from}
use Rattle.payload_tables.specs.Bases.{IsBaseOf, held_row, flat_segments_in}
use Rattle.payload_tables.proofs.Basing.{base-levels}
use Rattle.payload_tables.proofs.Lists.{same-self, same-exact}
use Rattle.store_queries.specs.Bounds.{count_rows, most_looks, segments_of_level, EndsWithoutParents}

-- ---- how many are met

met-append : (spans : List IdSpan) (xs ys : List Segment) → count_met spans (xs ++ ys) ≡ count_met spans xs + count_met spans ys
met-append spans [] ys = omega arith
met-append spans (s ∷ xs) ys = let r = met-append spans xs ys in omega (arith, r)

met-member : (spans : List IdSpan) (x : ℕ) → list_any (λ (t : IdSpan). nat_le t.low x && nat_le x t.high) spans ≡ true → IsMember spans x
met-member [] x e = absurd (true≢false (sym e))
met-member (t ∷ rest) x e = ⊎_elim
    (λ h. let b = and_true (nat_le t.low x) (nat_le x t.high) h in inl (leb-true t.low x b.0, leb-true x t.high b.1))
    (λ h. inr (met-member rest x h))
    (or_true (nat_le t.low x && nat_le x t.high) (list_any (λ (t : IdSpan). nat_le t.low x && nat_le x t.high) rest) e)

one-more : (a b : Bool) (m : ℕ) (rows : List (Row Name)) (row : Row Name) → (a ≡ true → b ≡ true) → m ≤ length rows → (if a then 1 else 0) + m ≤ length (if b then row ∷ rows else rows)
one-more true true m rows row h le = omega (arith, le)
one-more true false m rows row h le = absurd (true≢false (sym (h refl)))
one-more false true m rows row h le = omega (arith, le)
one-more false false m rows row h le = omega (arith, le)

module _ (view : World Name) (spans : List IdSpan) where
  -- the segment of a row is met only where its id is in the set
  rows-met : (first : ℕ) (rows : List (Row Name)) → ((k : ℕ) (row : Row Name) → slice_get rows k ≡ Some row → id_in same_name view row.name ≡ first + k)
      → count_met spans (segments_from first (map (held_row view) rows)) ≤ count_rows view spans rows
  rows-met first [] ids = zero-le
  rows-met first (row ∷ rows) ids =
      let is : id_in same_name view row.name ≡ first = ids 0 row refl ∙ (let z : first + 0 ≡ first = omega arith in z) in
      one-more (meets spans (record { low = first; high = first; level = 0; parents = map (id_in same_name view) row.parents })) (is_in nat_eq (id_in same_name view row.name) (ids_of spans))
      (count_met spans (segments_from (first + 1) (map (held_row view) rows))) (filter (λ (r : Row Name). is_in nat_eq (id_in same_name view r.name) (ids_of spans)) rows) row
      (λ e. there nat_eq same-exact same-self (id_in same_name view row.name) (ids_of spans) (subst (λ n. IsIn n (ids_of spans)) (sym is) (member-ids spans first (met-member spans first e))))
      (rows-met (first + 1) rows (λ k r e. ids (suc k) r e ∙ (let z : first + suc k ≡ first + 1 + k = omega arith in z)))

-- what bounds look-ups by the segments of a view bounds them by the segments of the base and its pending rows
pub few-looks : (w : World Name) (rows : List (Row Name)) → IsWorld (with_pending w rows) → (spans : List IdSpan) (flats : List Segment)
    → flats ≡ flat_segments_in w ++ segments_from (other_id (length w.others)) (map (held_row (with_pending w rows)) rows) → (looks : ℕ) → looks ≤ 8 * (1 + count_met spans flats) → looks ≤ most_looks w rows spans
few-looks w rows whole spans flats are looks le =
    let behind = segments_from (other_id (length w.others)) (map (held_row (with_pending w rows)) rows) in
    let all : count_met spans flats ≡ count_met spans (flat_segments_in w) + count_met spans behind = ap (count_met spans) are ∙ met-append spans (flat_segments_in w) behind in
    let met = rows-met (with_pending w rows) spans (other_id (length w.others)) rows (λ k row e.
    id-in-others same_name same_name-exact same_name-self (with_pending w rows) whole (length w.others + k) row (place-right w.others rows k row e)
    ∙ (let z : other_id (length w.others + k) ≡ other_id (length w.others) + k = omega arith in z)) in
    omega (arith, le, all, met)

-- ---- where a segment without parents ends

-- a segment without parents of the base's master ids ends in the view
pub ends-whole : (base : BaseRef) (added : List Placed) (b : IsBaseOf base added) (w : World Name) → StandFor (payloads_of added) w → (view : View) (behind : List Segment) → flats_in view ≡ flat_segments_in w ++ behind
    → ((level id : ℕ) → ending_of view (suc level) id ≡ level_ending (flats_of base.tables.now.flat (master_records (added ++ b.behind))) base.below (suc level) id)
    → (id : ℕ) → EndsWithoutParents w id → EndsWhole (ending_of view) id
ends-whole base added b w stand view behind are endings id e = subst (EndsWhole (ending_of view)) e.high (ends-at e.level e.segment e.known e.there e.none)
  where
    ends-at : (level : ℕ) (s : Segment) → level ≤ 7 → IsIn s (segments_of_level (flat_segments_of 0 (parent_ids same_name w w.master)) level) → s.parents ≡ [] → EndsWhole (ending_of view) s.high
    ends-at zero s known i none = (
      0,
      s,
      known,
      flat_ending-all (flats_in view) (lawful_flats view) s (subst (IsIn s) (sym are) (in-left s (flat_segments_in w) behind (in-left s (flat_segments_of 0 (parent_ids same_name w w.master)) (flat_segments_of (2 ^ 56) (parent_ids same_name w w.others)) i))),
      none,
    )
    ends-at (suc level) s known i none = (
      suc level,
      s,
      known,
      endings level s.high ∙ base-levels base.bytes.now base.tables.now base.others.now base.below added b w stand level s known i,
      none,
    )
