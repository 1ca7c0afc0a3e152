use Rattle.std.proofs.Common.{◌≡◌, ◌∙◌, [], length, ap, sym, subst}
use Rattle.std.specs.Prelude.{IfOk}
use Rattle.remote_rules.specs.CloneData.{CloneData, first_some, first_false, names_fit}
use Rattle.remote_trait.specs.Broken.{broken_head}
use Rattle.remote_trait.proofs.Items.{first-is, names-ascend}
use Rattle.remote_trait.proofs.broken.later_broken_item.Goals as goal

pub last_broken_item-requires-clause-ascend : goal.last_broken_item-requires-clause-ascend
last_broken_item-requires-clause-ascend c = names-ascend (length c.args.segments.now) c.end_of_all.result c.args.names.now (sym c.in-None.is ∙ c.in_ok-number.ensures)

pub returns-in-Some : goal.returns-in-Some
returns-in-Some c =
    first-is _ _ c.in-Some.number (sym c.in-Some.is ∙ c.in_ok-number.ensures ∙ ap (λ end. first_false (length c.args.segments.now) (names_fit end [] c.args.names.now)) c.end_of_all.ensures)

pub returns-in-None : goal.returns-in-None
returns-in-None c =
    let told : CloneData = record { segments = c.args.segments.now; names = c.args.names.now; heads = c.args.heads.now } in
    subst (λ o. IfOk c.last_broken_item.result (λ found. found ≡ first_some o (broken_head told)))
    (sym c.in-None.is ∙ c.in_ok-number.ensures ∙ ap (λ end. first_false (length c.args.segments.now) (names_fit end [] c.args.names.now)) c.end_of_all.ensures) c.last_broken_item.ensures
