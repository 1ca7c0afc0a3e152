use Rattle.std.proofs.Common.{◌∙◌, ◌<◌, ◌^◌, sym, ap, subst}
use Rattle.batch_codec.specs.Building.{Building, others_behind}
use Rattle.batch_codec.proofs.Built.{counts-of, finished}
use Rattle.batch_codec.proofs.building.BatchBuild.finish.Goals as goal

pub append_masters-requires-clause-records : goal.append_masters-requires-clause-records
append_masters-requires-clause-records c = (counts-of c.args.self c.requires.0 c.requires.1 c.requires.2).master

pub append_masters-requires-clause-levels : goal.append_masters-requires-clause-levels
append_masters-requires-clause-levels c = (counts-of c.args.self c.requires.0 c.requires.1 c.requires.2).levels

pub append_masters-requires-clause-known : goal.append_masters-requires-clause-known
append_masters-requires-clause-known c = (counts-of c.args.self c.requires.0 c.requires.1 c.requires.2).known_few

pub append_masters-requires-clause-heads : goal.append_masters-requires-clause-heads
append_masters-requires-clause-heads c = (counts-of c.args.self c.requires.0 c.requires.1 c.requires.2).heads_few

pub append_others-requires : goal.append_others-requires
append_others-requires c =
    subst (λ n. n < 2 ^ 32) (sym (ap (λ (b : Building). b.others_count) c.in_ok-append_masters.ensures)) (counts-of c.args.self c.requires.0 c.requires.1 c.requires.2).others

pub returns : goal.returns
returns c = λ p h g oc.
    ap (λ (b : Building). b.front) c.build-2.view_is ∙ ap (λ (b : Building). b.front) c.in_ok-append_others.ensures
    ∙ ap (λ (b : Building). others_behind b b.front) c.in_ok-append_masters.ensures ∙ finished c.args.self p h g oc
