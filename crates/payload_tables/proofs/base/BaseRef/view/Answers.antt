use Rattle.std.proofs.Common.{◌≡◌, ◌∙◌, suc, ◌^◌, ◌++◌, [], map, length, flat_map, append-nil, append_assoc, ap, ap₂, sym, subst, ◌≤◌, zero-le, arith}
use Rattle.id_groups.specs.Id.{other_id}
use Rattle.id_groups.specs.Name.{same_name}
use Rattle.commit_graph.specs.World.{with_pending}
use Rattle.commit_graph.specs.Ids.{parent_ids}
use Rattle.segment_codec.specs.Record.{segment_bytes}
use Rattle.segment_codec.specs.Edges.{AreEdgesOf}
use Rattle.flat_segments.specs.Maximal.{maximal, cut}
use Rattle.flat_segments.specs.Placed.{placed_segments, segments_of}
use Rattle.flat_segments.proofs.Callers.{placed-stand}
use Rattle.flat_segments.specs.Kept.{KeptFlats, IsTableOf}
use Rattle.flat_segments.specs.Joined.{MayJoin, StandAs}
use Rattle.name_map.specs.Added.{payloads_of}
use Rattle.change_rules.specs.Tables.{newest}
use Rattle.payload_tables.specs.Kept.{PlainTables, master_records}
use Rattle.payload_tables.specs.Pending.{PlainPending, segments_from}
use Rattle.payload_tables.specs.Bases.{held_row, AreSegmentsOf}
use Rattle.payload_tables.proofs.Standing.{masters-stand, placed-segments}
use Rattle.flat_segments.specs.Views.{master_count}
use Rattle.segment_levels.specs.Kept.{AreLevelsOf}
use Rattle.segment_levels.specs.Flats.{flats_of}
use Rattle.segment_levels.specs.Endings.{level_ending}
use Rattle.segment_rules.specs.Flat.{flat_segments_of}
use Rattle.payload_tables.proofs.Leveling.{counts-small}
use Rattle.payload_tables.proofs.Basing.{table-end, base-others, base-below, may-join, base-view, masters-are, others-are}
use Rattle.payload_tables.proofs.base.BaseRef.view.Goals as goal

pub view-masters-requires-clause-records : goal.view-masters-requires-clause-records
view-masters-requires-clause-records c =
    let r = c.requires in let b = r.1 in
    (master_records (r.0 ++ b.behind), subst (λ (t : PlainTables). IsTableOf t.flat (master_records (r.0 ++ b.behind))) (sym c.tables.view_is) b.tables_of.flat, masters-stand c.args.self.now.bytes.now (r.0 ++ b.behind) b.stand)

pub view-masters-requires-clause-below : goal.view-masters-requires-clause-below
view-masters-requires-clause-below c =
    let r = c.requires in
    subst (λ (t : PlainTables). c.args.self.now.below ≤ t.flat.end) (sym c.tables.view_is) (base-below c.args.self.now.bytes.now c.args.self.now.tables.now c.args.self.now.others.now c.args.self.now.below r.0 r.1)

pub join-flat-requires : goal.join-flat-requires
join-flat-requires c =
    let r = c.requires in let s = c.args.self.now in let p = c.args.pending.now in
    subst (λ (t : KeptFlats). MayJoin c.view-masters.result t s.bytes.now c.pending.inside.section c.deref.result.now) (sym c.section.ensures)
    (subst (λ (q : PlainPending). MayJoin c.view-masters.result s.others.now.section s.bytes.now q.section c.deref.result.now) (sym c.pending.view_is)
    (may-join c.view-masters.result s.bytes.now s.others.now s.below (newest (payloads_of r.0)) (base-others s.bytes.now s.tables.now s.others.now s.below r.0 r.1) p r.2.rows c.deref.result.now r.2.held r.2.first r.2.parents
    c.view-masters.ensures.count (c.deref.ensures.value ∙ ap (λ (q : PlainPending). q.records) c.pending.view_is)))

pub returns-clause-flats : goal.returns-clause-flats
returns-clause-flats c = λ added w rows b stand pend.
    let s = c.args.self.now in
    let p = c.args.pending.now in
    let v = with_pending w rows in
    let all = master_records (added ++ b.behind) in
    let segs = segments_from (other_id p.first) (map (held_row v) rows) in
    let facts = base-others s.bytes.now s.tables.now s.others.now s.below added b in
    let bytes = c.deref.ensures.value ∙ ap (λ (q : PlainPending). q.records) c.pending.view_is in
    let table = subst (λ (t : PlainTables). IsTableOf t.flat all) (sym c.tables.view_is) b.tables_of.flat in
    let master = c.join-flat.ensures.master ∙ c.view-masters.ensures.master ∙ c.view-masters.ensures.flats all table (masters-stand s.bytes.now (added ++ b.behind) b.stand)
    ∙ ap (λ (t : PlainTables). cut s.below (maximal t.flat.end (segments_of all))) c.tables.view_is
    ∙ masters-are s.bytes.now s.tables.now s.others.now s.below added b w stand in
    let first = subst (λ (t : KeptFlats). StandAs t s.bytes.now facts.records) (sym c.section.ensures) (record { section_of = facts.section; stand = facts.stand }) in
    let second = subst (λ (q : PlainPending). StandAs q.section c.deref.result.now (placed_segments 0 segs)) (sym c.pending.view_is)
    (record { section_of = pend.held.section; stand = placed-stand c.deref.result.now [] 0 segs (bytes ∙ pend.held.records ∙ sym (append-nil (flat_map segment_bytes segs))) }) in
    let others = c.join-flat.ensures.others facts.records (placed_segments 0 segs) first second
    ∙ ap₂ (λ x y. x ++ y) (facts.segments ∙ others-are s.bytes.now s.tables.now s.others.now s.below added b w stand)
    (placed-segments 0 segs ∙ ap (λ n. segments_from (other_id n) (map (held_row v) rows)) pend.first) in
    c.new.ensures.flats ∙ ap₂ (λ x y. x ++ y) master others
    ∙ sym (append_assoc (flat_segments_of 0 (parent_ids same_name w w.master)) (flat_segments_of (2 ^ 56) (parent_ids same_name w w.others)) (segments_from (other_id (length w.others)) (map (held_row v) rows)))

pub returns-clause-graph : goal.returns-clause-graph
returns-clause-graph c = λ added w rows b stand pend.
    let s = c.args.self.now in
    subst (AreSegmentsOf (with_pending w rows)) (sym (returns-clause-flats c added w rows b stand pend)) (base-view s.bytes.now s.tables.now s.others.now s.below added b w stand rows pend.view)

pub returns-clause-endings : goal.returns-clause-endings
returns-clause-endings c = λ added all b tables stand level id.
    let s = c.args.self.now in
    let records = master_records all in
    let table = subst (λ (t : PlainTables). IsTableOf t.flat records) (sym c.tables.view_is) tables.flat in
    let count : master_count c.join-flat.result ≡ s.below = c.join-flat.ensures.count ∙ c.view-masters.ensures.count in
    c.new.ensures.endings s.tables.now.flat records
    (record {
      table_of = tables.flat;
      small = (let e = table-end s.tables.now all tables in let n = counts-small 0 all tables.names.follow zero-le in omega (arith, e, n));
      levels_of = subst (λ (t : PlainTables). AreLevelsOf t.levels (flats_of s.tables.now.flat records)) (sym c.tables.view_is) tables.levels;
      flats = c.join-flat.ensures.master ∙ c.view-masters.ensures.master ∙ c.view-masters.ensures.flats records table (masters-stand s.bytes.now all stand)
          ∙ ap (λ (t : PlainTables). cut s.below (maximal t.flat.end (segments_of records))) c.tables.view_is ∙ ap (λ n. cut n (flats_of s.tables.now.flat records)) (sym count);
      below = subst (λ n. n ≤ s.tables.now.flat.end) (sym count) (base-below s.bytes.now s.tables.now s.others.now s.below added b);
    })
    level id
    ∙ ap (λ n. level_ending (flats_of s.tables.now.flat records) n (suc level) id) count

pub new-requires : goal.new-requires
new-requires c =
    let r = c.requires in let b = r.1 in let s = c.args.self.now in
    let all = master_records (r.0 ++ b.behind) in
    let table = subst (λ (t : PlainTables). IsTableOf t.flat all) (sym c.tables.view_is) b.tables_of.flat in
    let count : master_count c.join-flat.result ≡ s.below = c.join-flat.ensures.count ∙ c.view-masters.ensures.count in (
      s.tables.now.flat,
      all,
      record {
        table_of = b.tables_of.flat;
        small = (let e = table-end s.tables.now (r.0 ++ b.behind) b.tables_of in let n = counts-small 0 (r.0 ++ b.behind) b.tables_of.names.follow zero-le in omega (arith, e, n));
        levels_of = subst (λ (t : PlainTables). AreLevelsOf t.levels (flats_of s.tables.now.flat all)) (sym c.tables.view_is) b.tables_of.levels;
        flats = c.join-flat.ensures.master ∙ c.view-masters.ensures.master ∙ c.view-masters.ensures.flats all table (masters-stand s.bytes.now (r.0 ++ b.behind) b.stand)
            ∙ ap (λ (t : PlainTables). cut s.below (maximal t.flat.end (segments_of all))) c.tables.view_is ∙ ap (λ n. cut n (flats_of s.tables.now.flat all)) (sym count);
        below = subst (λ n. n ≤ s.tables.now.flat.end) (sym count) (base-below s.bytes.now s.tables.now s.others.now s.below r.0 b);
      },
      (let flats = flats_of s.tables.now.flat all in
          subst (λ l. AreEdgesOf l c.lend.result.count flats) (sym c.lend.ensures.items)
          (subst (λ n. AreEdgesOf c.tables.inside.edges.items n flats) (sym c.lend.ensures.count)
          (subst (λ (t : PlainTables). AreEdgesOf t.edges.items t.edges.count flats) (sym c.tables.view_is) b.tables_of.edges.edges))),
    )
