use Rattle.std.proofs.Common.{◌∙◌, ◌++◌, ◌∷◌, [], map, ap, sym, nat_eq}
use Rattle.std.specs.Cmp.Lexicographic.{pointwise}
use Rattle.change_parts.specs.Flat.{Span}
use Rattle.change_parts.specs.Moves.{new_id}
use Rattle.change_parts.proofs.Growing.{grown-on, grown-off}
use Rattle.flush_plan.proofs.runs.Run.go_on.Goals as goal

pub returns-then-is_only-clause-grows : goal.returns-then-is_only-clause-grows
returns-then-is_only-clause-grows c = λ done. (
  done,
  grown-on done c.args.self.now c.args.id (map (new_id c.args.ids.now) c.args.parents.now)
      (ap (λ (s : Span). pointwise nat_eq (map (new_id c.args.ids.now) c.args.parents.now) (s.high ∷ [])) (sym c.self.view_is) ∙ sym c.is_only.ensures ∙ c.if-is_only.true)
      ∙ ap (λ (s : Span). done ++ record { low = s.low; high = c.args.id; parents = s.parents } ∷ []) (sym c.self.view_is),
  λ p is. is,
)

pub returns-clause-grows : goal.returns-clause-grows
returns-clause-grows c = λ done. (
  done ++ c.args.self.now ∷ [],
  grown-off done c.args.self.now c.args.id (map (new_id c.args.ids.now) c.args.parents.now)
      (ap (λ (s : Span). pointwise nat_eq (map (new_id c.args.ids.now) c.args.parents.now) (s.high ∷ [])) (sym c.self.view_is) ∙ sym c.is_only.ensures ∙ c.if-is_only.false)
      ∙ ap (λ (s : Span). (done ++ c.args.self.now ∷ []) ++ s ∷ []) (sym c.in_ok-begin.ensures),
  λ p is. c.in_ok-put.ensures.built p done is,
)
