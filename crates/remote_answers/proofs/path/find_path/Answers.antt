use Rattle.std.proofs.Common.{sym, subst, ◌<◌, length, arith, true≢false}
use Rattle.remote_trait.specs.Honest.{IsNamed, IsPathOf}
use Rattle.remote_answers.proofs.Climbing.{no-name, no-path, is-path, reached-within}
use Rattle.remote_answers.proofs.path.find_path.Goals as goal

pub returns-in_err-id : goal.returns-in_err-id
returns-in_err-id g c = λ rows m r.
    let flats = g.T.SegmentTable.flats c.args.table.now in
    subst (IsPathOf rows c.args.reached.now.heads.items c.args.name.now) (sym c.from_residual.ensures)
    (no-name flats (g.met.T.SegmentTable.lawful c.args.table.now) rows m.0 c.args.reached.now.heads.items c.args.reached.now.tops c.args.reached.now.ids r c.args.name.now (c.in_err-id.ensures rows m.1))

pub returns-then-not-contains : goal.returns-then-not-contains
returns-then-not-contains g c = λ rows m r.
    let flats = g.T.SegmentTable.flats c.args.table.now in
    let at = c.in_ok-id.ensures rows m.1 in
    no-path flats (g.met.T.SegmentTable.lawful c.args.table.now) rows m.0 c.args.reached.now.heads.items c.args.reached.now.tops c.args.reached.now.ids r c.args.name.now c.in_ok-id.id at
    (λ i. true≢false (sym (c.if-not-contains.ensures.1 i)))

pub master-requires : goal.master-requires
master-requires g c =
    let flats = g.T.SegmentTable.flats c.args.table.now in
    let m = c.requires.1.0 in
    let lt = reached-within flats (g.met.T.SegmentTable.lawful c.args.table.now) c.requires.0 m c.args.reached.now.heads.items c.args.reached.now.tops c.args.reached.now.ids c.requires.2 c.climb-way.result.from c.climb-way.ensures.reached in
    let few = m.few in omega (arith, lt, few)

pub name-requires : goal.name-requires
name-requires g c =
    let flats = g.T.SegmentTable.flats c.args.table.now in
    let m = c.requires.1.0 in
    let lt = reached-within flats (g.met.T.SegmentTable.lawful c.args.table.now) c.requires.0 m c.args.reached.now.heads.items c.args.reached.now.tops c.args.reached.now.ids c.requires.2 c.climb-way.result.from c.climb-way.ensures.reached in
    (c.requires.0, c.requires.1.1, subst (λ n. n < length c.requires.0) (sym c.master.ensures) lt)

pub returns : goal.returns
returns g c = λ rows m r.
    let flats = g.T.SegmentTable.flats c.args.table.now in
    let at = c.in_ok-id.ensures rows m.1 in
    let from = subst (λ n. IsNamed rows n c.name.result) c.master.ensures (c.name.ensures rows m.1) in
    is-path flats (g.met.T.SegmentTable.lawful c.args.table.now) rows m.0 c.args.reached.now.heads.items c.args.reached.now.tops c.args.reached.now.ids r
    c.args.name.now c.name.result c.in_ok-id.id c.climb-way.result at from c.climb-way.ensures.leads c.climb-way.ensures.named
