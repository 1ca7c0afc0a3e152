use Rattle.std.proofs.Common.{◌<◌, ◌^◌, None, sym, subst, arith}
use Rattle.commit_graph.specs.World.{names_of}
use Rattle.bundle_codec.specs.Places.{named_from}
use Rattle.remote_trait.specs.Honest.{IsNamed}
use Rattle.remote_answers.specs.Master.{IsIdIn}
use Rattle.remote_bundle.specs.Names.{PlainNames, ArePlaced}
use Rattle.remote_bundle.proofs.Placing.{place-of, number-back, none-found, id-found}
use Rattle.remote_bundle.proofs.names.BundleNamesMasterNames.id.Goals as goal

pub returns-in_err-place : goal.returns-in_err-place
returns-in_err-place c = λ rows m.
    let n : PlainNames = record { bytes = c.self.inside.bytes.now; start = c.self.inside.start; index = c.self.inside.index.now } in
    let h = subst (λ v. ArePlaced v (names_of rows)) (sym c.self.view_is) m in
    subst (λ o. IsIdIn rows c.args.name.now o) (sym c.from_residual.ensures)
    (subst (λ name. IsIdIn rows name None) c.lend.ensures (none-found n rows h c.lend.result.bytes.now (c.in_err-place.ensures (named_from n.start (names_of rows)) h.index h.stand)))

pub overflow_sub-place : goal.overflow_sub-place
overflow_sub-place c =
    let m = c.self.invariant.1 in
    let p = place-of c.self.inside.start c.self.invariant.0 c.in_ok-place.place c.lend.result.bytes.now (c.in_ok-place.ensures (named_from c.self.inside.start c.self.invariant.0) m.index m.stand) in
    let e = p.place_is in
    omega (arith, e)

pub master-requires : goal.master-requires
master-requires c =
    let m = c.self.invariant.1 in
    let p = place-of c.self.inside.start c.self.invariant.0 c.in_ok-place.place c.lend.result.bytes.now (c.in_ok-place.ensures (named_from c.self.inside.start c.self.invariant.0) m.index m.stand) in
    let lt = p.within in
    let few = m.few in
    subst (λ n. n < 2 ^ 56) (sym (number-back c.self.inside.start c.in_ok-place.place p.number p.place_is)) (omega (arith, lt, few))

pub returns : goal.returns
returns c = λ rows m.
    let n : PlainNames = record { bytes = c.self.inside.bytes.now; start = c.self.inside.start; index = c.self.inside.index.now } in
    let h = subst (λ v. ArePlaced v (names_of rows)) (sym c.self.view_is) m in
    let found = id-found n rows h c.lend.result.bytes.now c.in_ok-place.place (c.in_ok-place.ensures (named_from n.start (names_of rows)) h.index h.stand) in
    subst (λ name. IsNamed rows c.master.result name) c.lend.ensures (subst (λ id. IsNamed rows id c.lend.result.bytes.now) (sym c.master.ensures) found)
