use Rattle.std.proofs.Common.{◌∙◌, ◌++◌, ◌∷◌, [], List, ℕ, map, ap, sym, nat_eq}
use Rattle.std.specs.Cmp.Lexicographic.{pointwise}
use Rattle.segment_codec.specs.Lent.{parents_left}
use Rattle.change_parts.specs.Flat.{Span, single_span}
use Rattle.change_parts.specs.Moves.{new_id}
use Rattle.change_parts.proofs.Growing.{grown-off}
use Rattle.strip_plan.proofs.Lending.{masters-stay, masters-apart}
use Rattle.strip_plan.proofs.lent_runs.LentRun.go_on_lent.Goals as goal

pub put-requires : goal.put-requires
put-requires c =
    let ps = parents_left c.args.parents in
    c.requires.segment (ap (λ l. pointwise nat_eq l (c.args.self.now.high ∷ [])) (masters-stay c.args.ids.now ps c.requires.masters)
    ∙ masters-apart ps c.args.self.now.high c.requires.high c.requires.masters)

pub returns-clause-grows : goal.returns-clause-grows
returns-clause-grows c = λ done.
    let ps = parents_left c.args.parents in
    let same = masters-stay c.args.ids.now ps c.requires.masters in (
      done ++ c.args.self.now ∷ [],
      grown-off done c.args.self.now c.args.id (map (new_id c.args.ids.now) ps)
          (ap (λ l. pointwise nat_eq l (c.args.self.now.high ∷ [])) same ∙ masters-apart ps c.args.self.now.high c.requires.high c.requires.masters)
          ∙ ap (λ (l : List ℕ). (done ++ c.args.self.now ∷ []) ++ single_span c.args.id l ∷ []) same
          ∙ ap (λ (s : Span). (done ++ c.args.self.now ∷ []) ++ s ∷ []) (sym c.begin_lent.ensures),
      λ p is. c.in_ok-put.ensures.built p done is,
    )
