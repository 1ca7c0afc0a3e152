use Rattle.std.proofs.Common.{subst, arith, ◌∙◌}
use Rattle.id_groups.specs.Lists.{IsIn}
use Rattle.lazy_names.proofs.Gathering.{dropped}
use Rattle.lazy_names.proofs.Tellings.{ahead-then}
use Rattle.lazy_names.specs.Ahead.{AddsTurn}
use Rattle.name_map.specs.Added.{known_of}
use Rattle.lazy_names.proofs.lazy.LazyNames.runs_ahead.Goals as goal

pub add_run-requires-clause-held : goal.add_run-requires-clause-held
add_run-requires-clause-held g c = λ id i. c.requires.held id (dropped c.runs.at c.args.ids.now id (subst (IsIn id) c.split_at.ensures.back i))

pub runs-preserved : goal.runs-preserved
runs-preserved g c =
    let size = c.in-Some.ensures.some in
    let back = c.split_at.ensures.back_len in (
      let within = size.1 in omega (arith, within, back),
      let one = c.in-Some.ensures.one in let lt = c.if-len-lt-MOST_AHEAD.true in let len = c.len.ensures ∙ c.runs.runs.ok.0 in omega (arith, one, lt, len),
      λ added is stand.
          ahead-then (g.T.SegmentTable.flats c.args.stored.table.now) (known_of added) c.args.self.now.entries c.args.ids.now c.runs.runs.items c.runs.at (c.runs.invariant.2 added is stand)
          c.in-Some.count c.add_run.new.runs.items
          (subst (λ l. AddsTurn (g.T.SegmentTable.flats c.args.stored.table.now) (known_of added) c.args.self.now.entries l c.in-Some.count c.runs.runs.items c.add_run.new.runs.items)
          c.split_at.ensures.back (c.in-Some.ensures.turn added is stand)),
    )
