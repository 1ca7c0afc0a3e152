use Rattle.std.proofs.Common.{◌∙◌, ◌++◌, ◌∷◌, [], ap, sym, subst}
use Rattle.name_index.specs.Runs.{IsRun, Holds, MayStandAt, front_of, keys_of, sort_key}
use Rattle.name_index.specs.declared.entry.Entry.{Entry}
use Rattle.name_index.proofs.OneName.{holds-one}
use Rattle.name_index.proofs.run.Run.insert.Goals as goal

pub returns-clause-inserted : goal.returns-clause-inserted
returns-clause-inserted c = λ held n run stand entry name out.
    let own = subst (λ es. IsRun es held) (sym (c.deref.ensures.value ∙ c.self.view_is)) run in
    let front = ap (λ (e : Entry). e.front) entry ∙ ap front_of name in
    let order = c.place_for-at.ensures.order held own stand (ap (λ f. f ∷ c.args.name.now) front) out in
    let at = subst (λ z. MayStandAt (sort_key z) (keys_of held) c.place_for-at.result) (sym name) order in
    subst (λ es. Holds es (held ++ n ∷ [])) (sym c.in_ok-insert.ensures.items)
    (holds-one _ held c.args.entry n c.place_for-at.result (subst (λ es. IsRun es held) (sym c.self.view_is) run) entry at)
