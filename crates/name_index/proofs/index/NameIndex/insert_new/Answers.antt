use Rattle.std.proofs.Common.{◌∙◌, sym}
use Rattle.name_index.proofs.index.NameIndex.insert_new.Goals as goal

pub returns-clause-added : goal.returns-clause-added
returns-clause-added c = λ all named is stand stands places distinct.
    c.in_ok-put_run.ensures.added all named is stand stands (c.in_ok-run.ensures named stands (places ∙ sym c.deref.ensures.value)) distinct
