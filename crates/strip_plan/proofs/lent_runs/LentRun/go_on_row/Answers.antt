use Rattle.std.proofs.Common.{◌∙◌, ◌++◌, ◌∷◌, [], List, ℕ, ap, sym}
use Rattle.std.proofs.lemmas.Result.{on_ok_weaker}
use Rattle.change_parts.specs.Moves.{grown}
use Rattle.strip_plan.proofs.lent_runs.LentRun.go_on_row.Goals as goal

pub returns-clause-grows : goal.returns-clause-grows
returns-clause-grows c =
    on_ok_weaker c.go_on_moved.result (λ grows done.
    let g = grows done in
    (g.0, ap (λ (l : List ℕ). grown (done ++ c.args.self.now ∷ []) c.args.numbered.now.id l) (sym (c.deref.ensures.value ∙ c.in_ok-moved_row.ensures)) ∙ g.1, g.2))
    c.go_on_moved.ensures.grows
