use Rattle.std.proofs.Common.{◌∙◌, ◌++◌, flat_map, length, ap}
use Rattle.segment_codec.specs.Record.{segment_bytes}
use Rattle.segment_levels.specs.Flats.{flats_of, extended}
use Rattle.payload_tables.specs.Kept.{master_records}
use Rattle.payload_tables.proofs.LevelLists.{brings-extend, brings-follow, will-come, written-same}
use Rattle.payload_tables.proofs.masters.write_levels.Goals as goal

pub extend-requires : goal.extend-requires
extend-requires c = let r = c.requires in brings-extend c.args.flat.now c.args.levels.now c.args.bytes.now c.args.records.now r.0 r.1 r.2

pub write_since-requires : goal.write_since-requires
write_since-requires c =
    let r = c.requires in
    let records = master_records r.0 in (
      flats_of c.args.flat.now records,
      extended c.args.flat.now records r.1.master,
      will-come c.args.flat.now c.args.levels.now c.args.bytes.now c.args.records.now r.0 r.1 r.2 c.mark-mark.result c.extend.new.self c.mark-mark.ensures
          (c.in_ok-extend.ensures.levels records r.1.master (brings-follow c.args.flat.now c.args.levels.now c.args.bytes.now c.args.records.now r.0 r.1 r.2) r.2.have.levels_of),
    )

pub returns-in-Ok-clause-written : goal.returns-in-Ok-clause-written
returns-in-Ok-clause-written c = λ added p h.
    let records = master_records added in
    c.in-Ok.ensures.written (flats_of c.args.flat.now records) (extended c.args.flat.now records p.master)
    (will-come c.args.flat.now c.args.levels.now c.args.bytes.now c.args.records.now added p h c.mark-mark.result c.extend.new.self c.mark-mark.ensures
    (c.in_ok-extend.ensures.levels records p.master (brings-follow c.args.flat.now c.args.levels.now c.args.bytes.now c.args.records.now added p h) h.have.levels_of))
    ∙ ap (λ l. c.args.out.now.items ++ flat_map segment_bytes l) (written-same c.args.flat.now c.args.levels.now c.args.bytes.now c.args.records.now added p h)

pub returns-in-Ok-clause-count : goal.returns-in-Ok-clause-count
returns-in-Ok-clause-count c = λ added p h.
    let records = master_records added in
    c.in-Ok.ensures.count (flats_of c.args.flat.now records) (extended c.args.flat.now records p.master)
    (will-come c.args.flat.now c.args.levels.now c.args.bytes.now c.args.records.now added p h c.mark-mark.result c.extend.new.self c.mark-mark.ensures
    (c.in_ok-extend.ensures.levels records p.master (brings-follow c.args.flat.now c.args.levels.now c.args.bytes.now c.args.records.now added p h) h.have.levels_of))
    ∙ ap length (written-same c.args.flat.now c.args.levels.now c.args.bytes.now c.args.records.now added p h)
