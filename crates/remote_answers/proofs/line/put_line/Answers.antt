use Rattle.std.proofs.Common.{◌<◌, length, sym, subst, arith}
use Rattle.remote_trait.specs.Honest.{IsNamed}
use Rattle.remote_answers.proofs.Walking.{held-of, first-ids}
use Rattle.remote_answers.proofs.Naming.{line-start, line-more, each-more, line-end}
use Rattle.remote_answers.proofs.line.put_line.Goals as goal

pub place_of-place-requires : goal.place_of-place-requires
place_of-place-requires g c = held-of (g.T.SegmentTable.flats c.args.table.now) c.requires.first.0 c.requires.first.1.0 c.args.first c.requires.first.2

pub names-init : goal.names-init
names-init g c = line-start (g.T.SegmentTable.flats c.args.table.now) (g.N.MasterNames.are_of c.args.names.now) c.args.first c.place_of-place.result c.args.out.now c.place_of-place.ensures.at c.place_of-place.ensures.place

pub master-requires : goal.master-requires
master-requires g c =
    let flats = g.T.SegmentTable.flats c.args.table.now in
    let m = c.requires.first.1.0 in
    let lt = first-ids flats c.requires.first.0 m c.names.k c.args.first c.requires.first.2 c.names.place.at c.names.invariant.at in
    let few = m.few in omega (arith, lt, few)

pub name-requires : goal.name-requires
name-requires g c =
    let flats = g.T.SegmentTable.flats c.args.table.now in
    let rows = c.requires.first.0 in
    let lt = first-ids flats rows c.requires.first.1.0 c.names.k c.args.first c.requires.first.2 c.names.place.at c.names.invariant.at in
    (rows, c.requires.first.1.1, subst (λ n. n < length rows) (sym c.master.ensures) lt)

pub next_place-requires : goal.next_place-requires
next_place-requires g c = c.names.invariant.is_place

pub returns-in-None-clause-each : goal.returns-in-None-clause-each
returns-in-None-clause-each g c = each-more (g.T.SegmentTable.flats c.args.table.now) (g.N.MasterNames.are_of c.args.names.now) c.args.first c.names.k c.names.place c.names.out c.names.invariant (let t = c.names-test.true in let o = c.names.auto.out in omega (arith, t, o)) c.name.result
    (λ rows h. subst (λ n. IsNamed rows n c.name.result) c.master.ensures (c.name.ensures rows h.1))

pub returns-in-None-clause-all : goal.returns-in-None-clause-all
returns-in-None-clause-all g c = λ _. line-end (g.T.SegmentTable.flats c.args.table.now) (g.N.MasterNames.are_of c.args.names.now) c.args.first c.names.k c.names.place c.names.out c.names.invariant (let t = c.names-test.true in let o = c.names.auto.out in omega (arith, t, o)) c.name.result
    (λ rows h. subst (λ n. IsNamed rows n c.name.result) c.master.ensures (c.name.ensures rows h.1))
    c.in-None.ensures

pub names-preserved : goal.names-preserved
names-preserved g c = line-more (g.T.SegmentTable.flats c.args.table.now) (g.N.MasterNames.are_of c.args.names.now) c.args.first c.names.k c.names.place c.names.out c.names.invariant (let t = c.names-test.true in let o = c.names.auto.out in omega (arith, t, o)) c.name.result
    (λ rows h. subst (λ n. IsNamed rows n c.name.result) c.master.ensures (c.name.ensures rows h.1))
    c.in-Some.next c.in-Some.ensures.0 c.in-Some.ensures.1

pub returns-clause-each : goal.returns-clause-each
returns-clause-each g c = λ rows h k lt. let le = c.names-test.false in c.names.invariant.each rows h k (omega (arith, lt, le))
