use Rattle.std.proofs.Common.{◌+◌, arith, subst}
use Rattle.ancestor_query.specs.Visits.{Peeks}
use Rattle.range_query.proofs.EndLemmas.{top-waits}
use Rattle.range_query.proofs.head_walk.is_waiting.Goals as goal

pub returns-in-Some-clause-found : goal.returns-in-Some-clause-found
returns-in-Some-clause-found c =
    let id = c.number.ensures.number in
    top-waits c.args.waiting.now c.next_below.new.self c.args.id (c.number.result + 1) c.in-Some.top c.number-in-Some.result c.number-in-Some-2.result (omega arith)
    c.number-in-Some.ensures.number c.number-in-Some-2.ensures.number (subst (λ o. Peeks c.args.waiting.now c.next_below.new.self (c.number.result + 1) o) c.in-Some.is c.next_below.ensures)
