use Rattle.std.proofs.Common.{◌∙◌, ap, sym, arith}
use Rattle.flat_segments.specs.Maximal.{cut}
use Rattle.flat_segments.specs.Placed.{placed_segments}
use Rattle.segment_levels.specs.Flats.{flats_of}
use Rattle.bench.proofs.levels.lookups.make_view.Goals as goal

pub new-requires : goal.new-requires
new-requires c =
    let f = c.requires.filled in
    let records = placed_segments 0 f.0 in
    let table = c.args.table.now in
    let count = c.view.ensures.count in
    let all = c.count.ensures in (
      table,
      records,
      record {
        table_of = f.1.table_of;
        small = c.requires.small;
        levels_of = f.2;
        flats = c.view.ensures.master ∙ c.view.ensures.flats records f.1.table_of f.1.stand ∙ ap (λ n. cut n (flats_of table records)) (sym count);
        below = omega (arith, count, all);
      },
      c.none.ensures (flats_of table records),
    )
