use Rattle.std.proofs.Common.{arith}
use Rattle.mirror_set.specs.Fresh.{count_from}
use Rattle.mirror_set.proofs.Parts.{pulled-part, fresh-whole}
use Rattle.mirror_set.proofs.pulling.pull_from.Goals as goal

pub returns-in_err-names-clause-left : goal.returns-in_err-names-clause-left
returns-in_err-names-clause-left g c =
    pulled-part c.args.from c.in-Ok.cloned _ _ _ c.in-Ok.ensures.left c.in-Ok.ensures.given (count_from c.args.from c.in-Ok.cloned) (omega arith) c.in_err-names.ensures.stays

pub returns-clause-left : goal.returns-clause-left
returns-clause-left g c =
    pulled-part c.args.from c.in-Ok.cloned _ _ _ c.in-Ok.ensures.left c.in-Ok.ensures.given (count_from c.args.from c.in-Ok.cloned) (omega arith) c.in_ok-names.ensures.stays

pub returns-clause-gives : goal.returns-clause-gives
returns-clause-gives g c =
    fresh-whole c.args.from c.in-Ok.cloned _ _ _ c.in-Ok.ensures.left c.in-Ok.ensures.given c.in_ok-check_clone.ensures.ok (count_from c.args.from c.in-Ok.cloned) c.in_ok-names.ensures.stays
    c.in_ok-names.names c.in_ok-names.ensures.count c.in_ok-names.ensures.names
