use Rattle.std.proofs.Common.{true, subst}
use Rattle.std.specs.BTreeSet.{Updates}
use Rattle.std.specs.Ordering.{nat_cmp}
use Rattle.std.specs.Cmp.Lexicographic.{slice_cmp}
use Rattle.pull_plan.proofs.Beside.{seen-more}
use Rattle.pull_plan.proofs.agreeing.add_seen.Goals as goal

pub returns-clause-seen : goal.returns-clause-seen
returns-clause-seen c = λ before h.
    seen-more before c.args.seen.now c.insert.new.self c.args.name.now h
    (subst (λ x. Updates (slice_cmp nat_cmp) c.args.seen.now c.insert.new.self x true) c.bytes_of.ensures c.in_ok-is_new.ensures.updates)
