use Rattle.std.proofs.Common.{◌∷◌, ◌≤◌, lit≤, length, refl, sym, subst, ◌∙◌}
use Rattle.command_lines.specs.Parts.{AreNames}
use Rattle.command_lines.proofs.CommandLemmas.{one-name, no-root}
use Rattle.command_lines.proofs.command.parse_root.Goals as goal

pub returns-in-Some-clause-ok : goal.returns-in-Some-clause-ok
returns-in-Some-clause-ok c =
    let none = c.new-in-Some.ensures ∙ c.new.ensures.items in (
      refl,
      subst (λ ps. (length ps ≤ 8) × AreNames c.args.text.now (c.in-Some.name ∷ ps)) (sym none) (lit≤ tt, one-name c.args.text.now c.requires c.in-Some.name c.in-Some.ensures.spelled),
    )

pub returns-in-None-clause-syntax : goal.returns-in-None-clause-syntax
returns-in-None-clause-syntax c = λ _. no-root c.args.text.now c.requires c.in-None.ensures.name
