use Rattle.std.proofs.Common.{◌++◌, ◌∷◌, [], Some, None, sym, subst, append-nil}
use Rattle.segdag.specs.Mirrors.{IsMadeOf, AreMadeOf}
use Rattle.segdag.proofs.Mirrors.{made-more}
use Rattle.segdag.proofs.remotes.add_mirror.Goals as goal

pub returns-in_ok-push-in-Some-clause-added : goal.returns-in_ok-push-in-Some-clause-added
returns-in_ok-push-in-Some-clause-added c words a =
    subst (λ items. AreMadeOf c.args.is_run (words ++ c.args.word.now ∷ []) items) (sym c.in_ok-push-in-Some.ensures.items)
    (made-more c.args.is_run words c.args.list.now.items c.args.word.now c.named_by.result c.named_by.ensures (Some c.in-Some.mirror) (subst (λ o. IsMadeOf c.named_by.result o) c.in-Some.is c.in_ok-mirror.ensures) a)

pub returns-in-None-clause-added : goal.returns-in-None-clause-added
returns-in-None-clause-added c words a =
    subst (λ items. AreMadeOf c.args.is_run (words ++ c.args.word.now ∷ []) items) (append-nil c.args.list.now.items)
    (made-more c.args.is_run words c.args.list.now.items c.args.word.now c.named_by.result c.named_by.ensures None (subst (λ o. IsMadeOf c.named_by.result o) c.in-None.is c.in_ok-mirror.ensures) a)
