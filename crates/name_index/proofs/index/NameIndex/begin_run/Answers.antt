use Rattle.std.proofs.Common.{◌∙◌, ◌++◌, ◌∷◌, [], take, drop, ap, sym, subst, append_assoc}
use Rattle.name_index.specs.Index.{IsIndexOf}
use Rattle.name_index.specs.Runs.{AreRuns}
use Rattle.name_index.proofs.OneName.{pushed-one, settled}
use Rattle.name_index.proofs.index.NameIndex.begin_run.Goals as goal

pub returns-then-len-kept-lt2-clause-added : goal.returns-then-len-kept-lt2-clause-added
returns-then-len-kept-lt2-clause-added c = λ all n is stand entry out.
    let items = c.in_ok-push.ensures.items ∙ ap (λ rs. rs ++ c.in_ok-run.run' ∷ []) c.self.view_is ∙ ap (λ r. c.args.self.now ++ r ∷ []) c.in_ok-run.ensures in
    subst (λ rs. IsIndexOf rs (all ++ n ∷ [])) (sym items) (pushed-one c.args.self.now all c.args.entry n is entry out)

pub returns-clause-added : goal.returns-clause-added
returns-clause-added c = λ all n is stand entry out.
    let runs = c.args.self.now in
    let kept = c.count_settled-kept.result in
    let merged = c.in_ok-merged.merged in
    let back = c.split_at.ensures.back ∙ ap (drop kept) (c.deref-2.ensures.value ∙ c.self.view_is) in
    let one = settled c.args.bytes.now runs all is stand kept merged (λ held behind stands. c.in_ok-merged.ensures held (subst (λ rs. AreRuns rs held) (sym back) behind) stands) in
    let two = pushed-one (take kept runs ++ merged ∷ []) all c.args.entry n one entry out in
    let same = append_assoc (take kept runs) (merged ∷ []) ((c.args.entry ∷ []) ∷ []) ∙ ap (λ r. take kept runs ++ (merged ∷ r ∷ [])) (sym c.in_ok-run.ensures) ∙ sym c.replace_by_two.ensures in
    subst (λ rs. IsIndexOf rs (all ++ n ∷ [])) same two
