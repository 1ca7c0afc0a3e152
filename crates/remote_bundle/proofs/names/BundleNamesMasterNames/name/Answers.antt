use Rattle.std.proofs.Common.{◌+◌, ◌*◌, take, drop, sym, ap, subst, ◌∙◌, arith}
use Rattle.commit_graph.specs.World.{names_of}
use Rattle.remote_trait.specs.Honest.{IsNamed}
use Rattle.remote_bundle.specs.Names.{PlainNames, ArePlaced}
use Rattle.remote_bundle.proofs.Placing.{named-there, same-long}
use Rattle.remote_bundle.proofs.names.BundleNamesMasterNames.name.Goals as goal

pub returns : goal.returns
returns c = λ rows m.
    let n : PlainNames = record { bytes = c.self.inside.bytes.now; start = c.self.inside.start; index = c.self.inside.index.now } in
    let h = subst (λ v. ArePlaced v (names_of rows)) (sym c.self.view_is) m in
    let e = same-long c.args.self.now rows c.requires.0 m c.requires.1 in
    let under = c.requires.2 in
    subst (λ name. IsNamed rows c.args.id name) (sym (c.name_at.ensures ∙ ap (λ k. take 20 (drop (n.start + 20 * k) n.bytes)) c.number.ensures.number))
    (named-there n rows h c.args.id (omega (arith, e, under)))
