use Rattle.std.proofs.Common.{length, sym, ◌∙◌, arith}
use Rattle.remote_answers.proofs.Walking.{held-of, within, first-ids}
use Rattle.remote_answers.proofs.Naming.{none-so_far, names-put}
use Rattle.remote_answers.proofs.line.put_names.Goals as goal

pub first_ancestor-requires : goal.first_ancestor-requires
first_ancestor-requires g c =
    let rows = c.requires.master.0 in
    let at = c.in-Some.ensures rows c.requires.master.1.1 in
    held-of (g.T.SegmentTable.flats c.args.table.now) rows c.requires.master.1.0 c.in-Some.id (within rows c.in-Some.id c.args.x.now at)

pub returns-in_default-first_ancestor-clause-names : goal.returns-in_default-first_ancestor-clause-names
returns-in_default-first_ancestor-clause-names g c = λ rows m.
    none-so_far (g.T.SegmentTable.flats c.args.table.now) rows m.0 c.args.x.now c.args.back (length c.args.out.now) c.args.out.now c.in-Some.id (c.in-Some.ensures rows m.1)
    (sym c.in_default-first_ancestor.is ∙ c.first_ancestor.ensures.ancestor)

pub put_line-requires-clause-first : goal.put_line-requires-clause-first
put_line-requires-clause-first g c =
    let rows = c.requires.master.0 in
    let m = c.requires.master.1 in
    let at = c.in-Some.ensures rows m.1 in (
      rows,
      m,
      first-ids (g.T.SegmentTable.flats c.args.table.now) rows m.0 c.args.back c.in-Some.id (within rows c.in-Some.id c.args.x.now at) c.in-Some-first_ancestor.first
          (sym c.first_ancestor.ensures.ancestor ∙ c.in-Some-first_ancestor.is),
    )

pub returns-clause-names : goal.returns-clause-names
returns-clause-names g c = λ rows m.
    names-put (g.T.SegmentTable.flats c.args.table.now) rows m.0 c.args.x.now c.args.back (length c.args.out.now) c.put_line.new.out c.in-Some.id c.in-Some-first_ancestor.first c.put_line.result (c.in-Some.ensures rows m.1)
    (sym c.in-Some-first_ancestor.is ∙ c.first_ancestor.ensures.ancestor)
    (let count = c.put_line.ensures.count in let size = c.put_line.ensures.size in omega (arith, count, size))
    (c.put_line.ensures.each rows m) c.put_line.ensures.all
