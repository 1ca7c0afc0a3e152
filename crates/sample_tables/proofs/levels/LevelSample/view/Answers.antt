use Rattle.std.proofs.Common.{◌∙◌, List, ℕ, ap, sym, subst, arith}
use Rattle.flat_segments.specs.Maximal.{cut}
use Rattle.flat_segments.specs.Placed.{Stand}
use Rattle.segment_levels.specs.Flats.{flats_of}
use Rattle.sample_tables.specs.Grown.{Grown}
use Rattle.sample_tables.proofs.levels.LevelSample.view.Goals as goal

pub new-requires : goal.new-requires
new-requires c =
    let g = c.self.invariant in
    let count = c.view-flat.ensures.count in
    let end = ap (λ (v : Grown). v.table.end) c.self.view_is in
    let le = c.requires in
    let stand = subst (λ (z : List ℕ). Stand z g.records) (sym c.deref.ensures.value) g.stand in (
      c.self.inside.tables.table,
      g.records,
      record {
        table_of = g.table_of;
        small = g.small;
        levels_of = g.levels_of;
        flats = c.view-flat.ensures.master ∙ c.view-flat.ensures.flats g.records g.table_of stand ∙ ap (λ n. cut n (flats_of c.self.inside.tables.table g.records)) (sym count);
        below = omega (arith, count, end, le);
      },
      c.none.ensures (flats_of c.self.inside.tables.table g.records),
    )
