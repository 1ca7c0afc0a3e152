use Rattle.std.proofs.Common.{◌∷◌}
use Rattle.name_index.specs.Runs.{sort_key}
use Rattle.name_index.proofs.OneName.{not-held, placed-for}
use Rattle.name_index.proofs.run.place_for.Goals as goal

pub returns-in-Ok-clause-order : goal.returns-in-Ok-clause-order
returns-in-Ok-clause-order c = λ held run stand key out.
    absurd (not-held c.args.stretch.now.at c.args.stretch.now.bytes.now c.args.entries.now held c.args.name.now (c.args.front ∷ c.args.name.now) c.in-Ok.at run stand key c.in-Ok.ensures.bound c.in-Ok.ensures.position out)

pub returns-in-Err-clause-order : goal.returns-in-Err-clause-order
returns-in-Err-clause-order c = λ held run stand key out.
    placed-for c.args.stretch.now.at c.args.stretch.now.bytes.now c.args.entries.now held (c.args.front ∷ c.args.name.now) (sort_key c.args.name.now) c.in-Err.at run stand key c.in-Err.ensures.position
