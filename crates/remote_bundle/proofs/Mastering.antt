-- The rows of a bundle are a master, whose segments are the bundle's.
use Rattle.std.proofs.Common.{◌≡◌, ℕ, zero, suc, ◌-◌, ◌<◌, ◌≤◌, List, [], ◌∷◌, Option, Some, length, map, sym, ap, subst, ◌∙◌, arith, append-nil, ⊎_elim}
use Rattle.std.specs.Prelude.{slice_get}
use Rattle.std.proofs.lemmas.List.{length-map}
use Rattle.std.proofs.lemmas.Option.{slice_get_within}
use Rattle.id_groups.specs.Name.{Name, same_name}
use Rattle.commit_graph.specs.World.{Row, names_of}
use Rattle.commit_graph.specs.Ids.{id_in, parent_ids}
use Rattle.segment_codec.specs.Record.{Segment}
use Rattle.segment_codec.specs.Table.{Follow, parents_at, parents_in}
use Rattle.segment_codec.proofs.Tables.{le_or_lt, follow-held, segment-in}
use Rattle.flat_segments.proofs.Graphs.{at-low, over-low}
use Rattle.segment_rules.specs.Flat.{parents_listed}
use Rattle.segment_rules.proofs.Flats.{flat-keeps}
use Rattle.change_rules.proofs.Reached.{lowest, inside}
use Rattle.remote_rules.specs.Known.{master_world}
use Rattle.bundle_codec.specs.Bundle.{Contents, IsBundle, contents_of, rows_of}
use Rattle.bundle_codec.proofs.Worlds.{listed-long, rows-named, contents-again}
use Rattle.bundle_codec.proofs.Bundled.{bundled}
use Rattle.remote_answers.specs.Master.{IsMasterIn}

-- the parents that segments list are those that they give each id
listed-at : (ss : List Segment) (end : ℕ) → Follow 0 end ss → (id : ℕ) → id < end → slice_get (parents_listed ss) id ≡ Some (parents_at ss id)
listed-at ss end f id lt =
    let held = follow-held 0 end ss f id (omega arith) lt in
    let s = held.0 in
    let at = segment-in ss id s held.1 in
    let within = at.1 in
    let given : parents_at ss id ≡ parents_in (Some s) id = ap (λ o. parents_in o id) held.1 in
    ⊎_elim
    (λ (le : id ≤ s.low).
    let same : id ≡ s.low = (let low = within.0 in omega (arith, le, low)) in
    let l = lowest 0 end ss f s at.0 in
    ap (slice_get (parents_listed ss)) (let z : id ≡ s.low - 0 = omega (arith, same) in z) ∙ l.3 ∙ ap (λ (ps : List ℕ). Some ps) (sym (at-low s id same) ∙ sym given))
    (λ (up : s.low < id).
    let l = inside 0 end ss f s at.0 id up within.1 in
    ap (slice_get (parents_listed ss)) (let z : id ≡ id - 0 = omega arith in z) ∙ l.1 ∙ ap (λ (ps : List ℕ). Some ps) (sym (over-low s id (λ e. omega (arith, e, up))) ∙ sym given))
    (le_or_lt id s.low)

map-get : {X Y : Type 0} (f : X → Y) (xs : List X) (i : ℕ) (x : X) → slice_get xs i ≡ Some x → slice_get (map f xs) i ≡ Some (f x)
map-get {X} {Y} f [] i x e = cc
map-get {X} {Y} f (y ∷ xs) zero x e = ap (λ z. Some (f z)) (same y x e)
  where
    same : (a b : X) → ◌≡◌ {A = Option X} (Some a) (Some b) → a ≡ b
    same a b e = cc
map-get {X} {Y} f (y ∷ xs) (suc i) x e = map-get f xs i x e

same-ids : (a b : List ℕ) → Some a ≡ Some b → a ≡ b
same-ids a b e = cc

module _ (c : Contents) (h : IsBundle c) where
  pub named : names_of (rows_of c) ≡ c.names
  named = rows-named c.names c.names (parents_listed c.segments) (let l = listed-long 0 (length c.names) c.segments h.cover in omega (arith, l))

  pub long : length (rows_of c) ≡ length c.names
  long = sym (length-map (rows_of c) (λ (r : Row Name). r.name)) ∙ ap (length {A = Name}) named

  segments-are : (contents_of (rows_of c)).segments ≡ c.segments
  segments-are = ap (λ (d : Contents). d.segments) (contents-again c h)

  parents-are : parent_ids same_name (master_world (rows_of c)) (rows_of c) ≡ parents_listed c.segments
  parents-are = sym (flat-keeps 0 (parent_ids same_name (master_world (rows_of c)) (rows_of c))) ∙ ap parents_listed segments-are

  cover : Follow 0 (length (rows_of c)) c.segments
  cover = subst (λ n. Follow 0 n c.segments) (sym long) h.cover

  parents-of : (id : ℕ) (row : Row Name) → slice_get (rows_of c) id ≡ Some row → parents_at c.segments id ≡ map (id_in same_name (master_world (rows_of c))) row.parents
  parents-of id row e =
      let lt = slice_get_within (rows_of c) id row e in
      same-ids (parents_at c.segments id) (map (id_in same_name (master_world (rows_of c))) row.parents)
      (sym (listed-at c.segments (length (rows_of c)) cover id lt) ∙ ap (λ (ps : List (List ℕ)). slice_get ps id) (sym parents-are)
      ∙ map-get (λ (r : Row Name). map (id_in same_name (master_world (rows_of c))) r.parents) (rows_of c) id row e)

  pub master : IsMasterIn c.segments (rows_of c)
  master = record {
    world = (bundled c h).world;
    few = (bundled c h).few;
    masters = c.segments;
    others = [];
    parts = sym (append-nil c.segments);
    flat = sym segments-are;
    follow = cover;
    other_count = 0;
    behind = omega arith;
    parents = parents-of;
  }
