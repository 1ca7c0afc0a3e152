use Rattle.std.proofs.Common.{◌∙◌, ◌++◌, ◌∷◌, [], sym}
use Rattle.segment_levels.specs.Flats.{flats_of}
use Rattle.name_map.specs.Adding.{placed}
use Rattle.payload_tables.specs.Kept.{master_records}
use Rattle.payload_tables.proofs.LevelLists.{came, lists-same}
use Rattle.payload_tables.proofs.masters.extend_checked.Goals as goal

pub check_levels-requires : goal.check_levels-requires
check_levels-requires c =
    let r = c.requires.table in let a = placed c.args.at c.args.batch.now in
    let next = c.in_ok-extend_segments.ensures.rows r.0 r.1 r.2 in (
      flats_of c.args.flat.now (master_records r.0),
      flats_of c.extend_segments.new.flat (master_records (r.0 ++ a ∷ [])),
      came c.args.flat.now c.extend_segments.new.flat c.args.levels.now c.extend_segments.new.levels r.0 a r.1 next c.is_payload.ensures.payload c.requires.follows
          c.extent_of-extent.result.levels c.extent_of-extent.ensures.levels_of,
    )

pub returns-in-Ok-clause-sections : goal.returns-in-Ok-clause-sections
returns-in-Ok-clause-sections c = λ added h stand v.
    let a = placed c.args.at c.args.batch.now in
    let next = c.in_ok-extend_segments.ensures.rows added h stand in
    c.in-Ok.ensures.listed (flats_of c.args.flat.now (master_records added)) (flats_of c.extend_segments.new.flat (master_records (added ++ a ∷ [])))
    (came c.args.flat.now c.extend_segments.new.flat c.args.levels.now c.extend_segments.new.levels added a h next c.is_payload.ensures.payload c.requires.follows
    c.extent_of-extent.result.levels c.extent_of-extent.ensures.levels_of) v
    ∙ lists-same c.args.flat.now c.extend_segments.new.flat c.args.levels.now c.extend_segments.new.levels added a h next c.is_payload.ensures.payload c.requires.follows

pub returns-in-Err-clause-unlawful : goal.returns-in-Err-clause-unlawful
returns-in-Err-clause-unlawful c = λ added h stand e right.
    let a = placed c.args.at c.args.batch.now in
    let next = c.in_ok-extend_segments.ensures.rows added h stand in
    c.in-Err.ensures.unlawful e (flats_of c.args.flat.now (master_records added)) (flats_of c.extend_segments.new.flat (master_records (added ++ a ∷ [])))
    (came c.args.flat.now c.extend_segments.new.flat c.args.levels.now c.extend_segments.new.levels added a h next c.is_payload.ensures.payload c.requires.follows
    c.extent_of-extent.result.levels c.extent_of-extent.ensures.levels_of)
    (λ v. right v ∙ sym (lists-same c.args.flat.now c.extend_segments.new.flat c.args.levels.now c.extend_segments.new.levels added a h next c.is_payload.ensures.payload c.requires.follows))

pub returns-in-Err-clause-unchanged : goal.returns-in-Err-clause-unchanged
returns-in-Err-clause-unchanged c = c.cut_back.ensures c.args.flat.now c.args.levels.now c.extent_of-extent.ensures c.in_ok-extend_segments.ensures.front
