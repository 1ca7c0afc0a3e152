use Rattle.std.proofs.Common.{◌∙◌, sym, subst, arith}
use Rattle.name_index.specs.Index.{IsIndexOf}
use Rattle.name_index.specs.Moved.{AreMoves}
use Rattle.name_index.specs.Named.{named_in}
use Rattle.name_index.proofs.Thinning.{thinned-index}
use Rattle.name_index.proofs.index.NameIndex.thinned.Goals as goal

pub returns : goal.returns
returns c = λ all n is stand size.
    let many = c.len.ensures in
    let same = c.if-len-new.false in
    subst (λ rs. IsIndexOf rs (named_in n c.args.to c.args.new.now)) (sym c.in_ok-index.ensures)
    (thinned-index c.args.from c.args.to c.args.old.now c.args.new.now c.args.self.now c.in-Some.only.now c.in_ok-run.run' all n (sym c.self.view_is ∙ sym c.deref.ensures.value ∙ c.in-Some.ensures)
    is stand size (omega (arith, many, same, size))
    (λ held run there. c.in_ok-run.ensures c.args.old.now c.args.new.now held (subst (AreMoves c.args.old.now c.args.new.now 0) (sym c.deref-2.ensures.value) c.in_ok-moves.ensures) run there))
