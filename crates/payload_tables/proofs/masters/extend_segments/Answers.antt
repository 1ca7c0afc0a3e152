use Rattle.std.proofs.Common.{◌∙◌, ◌+◌, ℕ, length, flat_map, ap, subst, arith}
use Rattle.segment_codec.specs.Record.{segment_bytes}
use Rattle.flat_segments.specs.Kept.{IsTableOf}
use Rattle.flat_segments.specs.Placed.{placed_segments}
use Rattle.segment_levels.specs.Kept.{AreLevelsOf}
use Rattle.segment_levels.specs.Flats.{flats_of}
use Rattle.batch_codec.specs.Lent.{payload_of}
use Rattle.name_map.specs.Adding.{placed}
use Rattle.payload_tables.specs.Kept.{master_records}
use Rattle.payload_tables.proofs.Adding.{masters-fit, records-more, kept-front}
use Rattle.payload_tables.proofs.Leveling.{records-follow}
use Rattle.payload_tables.proofs.masters.extend_segments.Goals as goal

pub extend_table-requires-clause-records : goal.extend_table-requires-clause-records
extend_table-requires-clause-records c =
    let r = c.requires.table in let p = payload_of c.args.batch.now in
    record {
      before = master_records r.0;
      segments = p.master;
      follow = records-follow c.args.flat.now r.0 p c.args.bytes.now c.bytes.result.now r.1.flat r.2 c.is_payload.ensures.payload c.requires.follows
          (c.bytes.ensures ∙ ap (flat_map segment_bytes) c.master_segments-masters.ensures.segments);
      levels_of = r.1.levels_of;
    }

pub extend_table-requires-clause-place : goal.extend_table-requires-clause-place
extend_table-requires-clause-place c =
    let p = payload_of c.args.batch.now in
    let start = c.start.ensures ∙ c.master_segments-masters.ensures.start ∙ c.is_payload.ensures.places.master in
    let size = ap (length {A = ℕ}) (c.bytes.ensures ∙ ap (flat_map segment_bytes) c.master_segments-masters.ensures.segments) in
    let fit = masters-fit p in let room = c.requires.room in omega (arith, start, size, fit, room)

pub returns-clause-rows : goal.returns-clause-rows
returns-clause-rows c = λ added h stand.
    let a = placed c.args.at c.args.batch.now in let p = payload_of c.args.batch.now in
    let start = c.start.ensures ∙ c.master_segments-masters.ensures.start ∙ c.is_payload.ensures.places.master in
    let follow = records-follow c.args.flat.now added p c.args.bytes.now c.bytes.result.now h.flat stand c.is_payload.ensures.payload c.requires.follows
    (c.bytes.ensures ∙ ap (flat_map segment_bytes) c.master_segments-masters.ensures.segments) in
    let more = records-more added a (c.args.at + c.start.result) (ap (λ n. c.args.at + n) start) in
    record {
      flat = subst (IsTableOf c.extend_table.new.flat) more (c.in_ok-extend_table.ensures.table (master_records added) p.master follow);
      levels_of = subst (λ l. AreLevelsOf c.extend_table.new.levels (flats_of c.extend_table.new.flat l)) more (c.in_ok-extend_table.ensures.levels (master_records added) p.master follow h.levels_of);
    }

pub returns-clause-front : goal.returns-clause-front
returns-clause-front c =
    let r = c.requires.table in let p = payload_of c.args.batch.now in
    let follow = records-follow c.args.flat.now r.0 p c.args.bytes.now c.bytes.result.now r.1.flat r.2 c.is_payload.ensures.payload c.requires.follows
    (c.bytes.ensures ∙ ap (flat_map segment_bytes) c.master_segments-masters.ensures.segments) in
    record {
      entries = kept-front c.args.flat.now c.extend_table.new.flat (master_records r.0) (placed_segments (c.args.at + c.start.result) p.master) r.1.flat
          (c.in_ok-extend_table.ensures.table (master_records r.0) p.master follow);
      levels_front = c.in_ok-extend_table.ensures.front;
    }
