use Rattle.std.proofs.Common.{Err, ◌∙◌, sym, ap, subst}
use Rattle.std.proofs.lemmas.Result.{err_from_is_err_and}
use Rattle.name_index.specs.Runs.{AreRuns, joined}
use Rattle.name_index.specs.declared.index.IndexFault.TheVariants.{Double}
use Rattle.name_index.proofs.Indexes.{runs-stand}
use Rattle.name_index.proofs.Inserting.{double-all, distinct-whole, held-distinct, same-fault}
use Rattle.name_index.proofs.index.NameIndex.insert.Goals as goal

pub returns-in_err-run-clause-double : goal.returns-in_err-run-clause-double
returns-in_err-run-clause-double c = λ all new is stand stands places double.
    let p = err_from_is_err_and c.from_residual.result c.from_residual.ensures.1 in
    let fault = ap Err (same-fault c.from_residual.result p.0 c.in_err-run.field-0.0 Double p.1 p.2 double) in
    let runs = subst (λ rs. AreRuns rs is.held) (sym (c.deref.ensures.value ∙ c.self.view_is)) is.in_order in
    double-all all new (joined is.held) is.same (c.in_err-run.ensures.double is.held new runs (runs-stand c.args.bytes.now all is.held is.same stand) stands (places ∙ sym c.deref-2.ensures.value) fault)

pub returns-clause-added : goal.returns-clause-added
returns-clause-added c = λ all new is stand stands places.
    let runs = subst (λ rs. AreRuns rs is.held) (sym (c.deref.ensures.value ∙ c.self.view_is)) is.in_order in
    let made = c.in_ok-run.ensures.ok is.held new runs (runs-stand c.args.bytes.now all is.held is.same stand) stands (places ∙ sym c.deref-2.ensures.value) in
    c.in_ok-put_run.ensures.added all new is stand stands made.0 (distinct-whole all new (joined is.held) is.same (made.1 (held-distinct all (joined is.held) is.same is.distinct)))
