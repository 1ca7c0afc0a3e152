use Rattle.std.proofs.Common.{subst, []}
use Rattle.segment_levels.specs.Kept.{AreLevelsOf}
use Rattle.bench.proofs.Leveling.{may-extend, may-follow, same-flats}
use Rattle.bench.proofs.graph.leveled.Goals as goal

pub extend-requires : goal.extend-requires
extend-requires c =
    let r = c.requires.table in
    may-extend c.args.records.now r.0 c.args.table.now c.empty-empty.result c.empty-levels.result r.1 c.empty-empty.ensures c.requires.small c.empty-levels.ensures

pub returns : goal.returns
returns c =
    let r = c.requires.table in (
      r.0,
      r.1,
      subst (AreLevelsOf c.extend.new.self) (same-flats c.args.records.now r.0 c.args.table.now c.empty-empty.result r.1 c.empty-empty.ensures)
          (c.in_ok-extend.ensures.levels [] r.0 (may-follow c.args.records.now r.0 c.args.table.now c.empty-empty.result r.1 c.empty-empty.ensures c.requires.small) c.empty-levels.ensures),
    )
