use Rattle.std.proofs.Common.{◌∙◌, sym, subst}
use Rattle.name_index.specs.Runs.{AreRuns}
use Rattle.name_index.proofs.Indexes.{finds-moved, runs-stand}
use Rattle.name_index.proofs.index.NameIndex.find.Goals as goal

pub returns : goal.returns
returns c = λ all is stand.
    let runs = subst (λ rs. AreRuns rs is.held) (sym (c.deref.ensures.value ∙ c.self.view_is)) is.in_order in
    finds-moved all _ c.args.name.bytes.now c.find_in.result is.same (c.find_in.ensures is.held runs (runs-stand c.args.bytes.now all is.held is.same stand))
