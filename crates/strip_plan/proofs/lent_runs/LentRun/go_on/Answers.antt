use Rattle.std.proofs.Common.{◌∙◌, ◌++◌, ◌∷◌, [], List, ℕ, map, ap, nat_eq}
use Rattle.std.specs.Cmp.Lexicographic.{pointwise}
use Rattle.std.proofs.lemmas.Result.{on_ok_weaker}
use Rattle.change_parts.specs.Moves.{grown, new_id}
use Rattle.strip_plan.proofs.lent_runs.LentRun.go_on.Goals as goal

pub go_on_lent-requires-clause-segment : goal.go_on_lent-requires-clause-segment
go_on_lent-requires-clause-segment c = λ test.
    c.requires.segment (ap (λ (l : List ℕ). pointwise nat_eq (map (new_id c.args.ids.now) l) (c.args.self.now.high ∷ [])) (c.in-Some.ensures.1 c.args.numbered.now.k) ∙ test)

pub returns-clause-grows : goal.returns-clause-grows
returns-clause-grows c =
    on_ok_weaker c.go_on_lent.result (λ grows done.
    let g = grows done in
    (g.0, ap (λ (l : List ℕ). grown (done ++ c.args.self.now ∷ []) c.args.numbered.now.id (map (new_id c.args.ids.now) l)) (c.in-Some.ensures.1 c.args.numbered.now.k) ∙ g.1, g.2))
    c.go_on_lent.ensures.grows
