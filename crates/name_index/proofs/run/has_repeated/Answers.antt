use Rattle.std.proofs.Common.{◌∙◌, sym, subst, true≢false}
use Rattle.id_groups.specs.Lists.{AreDistinct}
use Rattle.name_index.specs.Runs.{keys_in, IsAscending}
use Rattle.name_index.proofs.Reading.{distinct-more}
use Rattle.name_index.proofs.run.has_repeated.Goals as goal

pub pairs-preserved : goal.pairs-preserved
pairs-preserved c = λ up.
    let keys = keys_in c.args.stretch.now.bytes.now c.args.stretch.now.at in
    let all = AreDistinct (keys c.args.entries.now) in
    let now = subst (λ es. IsAscending (keys es) × ((all → AreDistinct (keys es)) × (AreDistinct (keys es) → all))) c.in-Some.ensures.cases.0 (c.pairs.invariant up) in
    (now.0.1, (λ h. (now.1.0 h).1, λ h. now.1.1 (distinct-more _ _ now.0 (λ first. true≢false (sym (c.is_repeated.ensures.1 first) ∙ c.if-is_repeated.false)) h)))
