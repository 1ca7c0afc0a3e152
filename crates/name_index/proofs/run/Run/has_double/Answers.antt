use Rattle.std.proofs.Common.{◌∙◌, sym, subst, true≢false}
use Rattle.id_groups.specs.Lists.{AreDistinct}
use Rattle.name_index.specs.Runs.{IsRun}
use Rattle.name_index.proofs.Reading.{run-keys, run-ascending, names-distinct, keys-distinct}
use Rattle.name_index.proofs.run.Run.has_double.Goals as goal

pub returns-clause-twice : goal.returns-clause-twice
returns-clause-twice c = λ yes held run stand distinct.
    let at = c.args.stretch.now.at in let bytes = c.args.stretch.now.bytes.now in
    let own = subst (λ es. IsRun es held) (sym (c.deref.ensures.value ∙ c.self.view_is)) run in
    let up = run-ascending at bytes c.deref.result.now held own stand in
    let keys = run-keys at bytes c.deref.result.now held own.entries_of stand in
    absurd (true≢false (sym yes ∙ (c.has_repeated.ensures up).1 (subst AreDistinct (sym keys) (keys-distinct held distinct))))

pub returns-clause-once : goal.returns-clause-once
returns-clause-once c = λ no held run stand.
    let at = c.args.stretch.now.at in let bytes = c.args.stretch.now.bytes.now in
    let own = subst (λ es. IsRun es held) (sym (c.deref.ensures.value ∙ c.self.view_is)) run in
    let up = run-ascending at bytes c.deref.result.now held own stand in
    let keys = run-keys at bytes c.deref.result.now held own.entries_of stand in
    names-distinct held (subst AreDistinct keys ((c.has_repeated.ensures up).0 no))
