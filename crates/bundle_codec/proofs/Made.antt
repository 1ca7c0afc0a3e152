-- A world without others has a bundle, and bytes are the bundle of one.
use Rattle.std.proofs.Common.{◌≡◌, ◌<◌, ◌≤◌, ◌+◌, ◌^◌, ℕ, List, [], ◌++◌, length, map, refl, sym, ap, ap₂, subst, ◌∙◌, arith, append-nil, lit≤, zero-le}
use Rattle.std.specs.List.{AllByRecursion}
use Rattle.std.proofs.lemmas.List.{length-map}
use Rattle.id_groups.specs.Name.{Name, IsName, same_name}
use Rattle.commit_graph.specs.World.{Row, World, IsNamedWorld, IsHistory, names_of}
use Rattle.commit_graph.specs.Ids.{id_in, parent_ids}
use Rattle.commit_graph.proofs.Places.{below-master, world-master}
use Rattle.segment_codec.specs.Record.{IsSegment}
use Rattle.segment_codec.specs.Table.{Follow}
use Rattle.batch_codec.specs.Grammar.{AreFlat}
use Rattle.remote_rules.specs.Known.{master_world}
use Rattle.change_rules.proofs.Alone.{segments-cover, segments-maximal}
use Rattle.change_rules.proofs.Spans.{Span, flat_segments, flat_record, same-segments}
use Rattle.change_rules.proofs.Lawful.{MayHave, IsSpanOf, master-from, flat-spans, all-records, history-distinct}
use Rattle.bundle_codec.specs.Bundle.{Contents, IsBundle, IsBundled, StandsFor, contents_of, rows_of, most_rows}
use Rattle.bundle_codec.proofs.Format.{one-bundle}
use Rattle.bundle_codec.proofs.Bundled.{rows-back}

module _ (w : World Name) (h : IsBundled w) where
  history : IsHistory [] w.master
  history = world-master w.master (subst (λ (o : List (Row Name)). IsHistory [] (w.master ++ o)) h.alone h.world.world)

  named : AllByRecursion IsName (names_of w.master)
  named = subst (λ rows. AllByRecursion IsName (names_of rows)) (ap (λ (o : List (Row Name)). w.master ++ o) h.alone ∙ append-nil w.master) h.world.names

  world : IsNamedWorld (master_world w.master)
  world = record {
    world = subst (IsHistory []) (sym (append-nil w.master)) history;
    names = subst (λ rows. AllByRecursion IsName (names_of rows)) (sym (append-nil w.master)) named;
  }

  abbrev parents : List (List ℕ)
  parents = parent_ids same_name (master_world w.master) w.master

  record-is : (s : Span) → IsSpanOf MayHave (length w.master) s → IsSegment (flat_record s) × ((flat_record s).level ≡ 0)
  record-is s i =
      let few : length w.master ≤ most_rows = h.few in
      let in_bounds = i.in_bounds in
      let up = i.up in
      let small : most_rows ≤ 2 ^ 56 = lit≤ tt in
      let wide : 2 ^ 56 ≤ 2 ^ 57 = lit≤ tt in
      let high : s.high < 2 ^ 56 = omega (arith, in_bounds, few, small) in
      let low : s.low < 2 ^ 56 = omega (arith, up, high) in (
        record {
          ascending = i.up;
          one_group = below-master s.low low ∙ sym (below-master s.high high);
          valid = omega (arith, wide, high);
          level = zero-le;
          below = i.own.0;
          distinct = i.own.1;
          level_parents = i.own.2;
        },
        refl,
      )

  flat : AreFlat (contents_of w.master).segments
  flat =
      let size : 0 + length parents ≡ length w.master =
      (let e = length-map w.master (λ (row : Row Name). map (id_in same_name (master_world w.master)) row.parents) in omega (arith, e)) in
      subst AreFlat (sym (same-segments 0 parents))
      (all-records (IsSpanOf MayHave (length w.master)) (λ s. IsSegment s × (s.level ≡ 0)) (flat_segments 0 parents) record-is
      (flat-spans MayHave (length w.master) 0 parents size (master-from (master_world w.master) (λ x i. absurd i) [] w.master refl history)))

  pub made : IsBundle (contents_of w.master)
  made =
      let size : length (names_of w.master) ≡ length w.master = length-map w.master (λ (r : Row Name). r.name) in
      record {
        few = subst (λ n. n ≤ most_rows) (sym size) h.few;
        flat = flat;
        cover = subst (λ n. Follow 0 n (contents_of w.master).segments) (sym size) (segments-cover w world);
        maximal = segments-maximal w world;
        names = named;
        distinct = (history-distinct [] w.master history).0;
      }

pub one-world : (bytes : List ℕ) (w v : World Name) → StandsFor bytes w → StandsFor bytes v → w ≡ v
one-world bytes w v h k =
    let same = one-bundle (contents_of w.master) (contents_of v.master) (made w h.0) (made v k.0) (sym h.1 ∙ k.1) in
    let master : w.master ≡ v.master = sym (rows-back w h.0) ∙ ap (λ (c : Contents). rows_of c) same ∙ rows-back v k.0 in
    ap₂ (λ (m o : List (Row Name)). record { master = m; others = o }) master (h.0.alone ∙ sym k.0.alone)
