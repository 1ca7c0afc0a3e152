use Rattle.std.proofs.Common.{rules, ◌≡◌, ◌∙◌, ◌++◌, sym, ap₂}
use Rattle.std.proofs.lemmas.List.{take-append-drop}
use Rattle.name_index.proofs.moved.behind_block.Goals as goal

pub returns : goal.returns
returns c =
    let cut = c.in_ok-names.ensures.cases in
    let cut' = c.in_ok-same.ensures.cases in
    let same : c.in_ok-names.names.now ≡ c.in_ok-same.same.now = search rules in (
      c.in_ok-names.names.now,
      cut.3,
      sym (ap₂ ◌++◌ cut.1 cut.2 ∙ take-append-drop 1280 c.args.rest.now),
      sym (ap₂ ◌++◌ (same ∙ cut'.1) cut'.2 ∙ take-append-drop 1280 c.args.left.now),
    )
