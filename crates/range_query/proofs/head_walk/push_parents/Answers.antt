use Rattle.std.proofs.Common.{arith, ◌↔◌, ◌⊎◌, subst}
use Rattle.id_groups.specs.Lists.{IsIn}
use Rattle.segment_codec.specs.Lent.{segment_of}
use Rattle.range_query.proofs.EndLemmas.{pushed-before, pushed-own}
use Rattle.range_query.proofs.head_walk.push_parents.Goals as goal

pub returns-then-lowest-low-clause-all : goal.returns-then-lowest-low-clause-all
returns-then-lowest-low-clause-all c = λ x. pushed-before (segment_of c.args.segment) c.args.low c.from_number.result x (omega arith) (omega arith) (c.in_ok-push.ensures.all x)

pub returns-clause-all : goal.returns-clause-all
returns-clause-all c = λ x.
    pushed-own (segment_of c.args.segment) c.number-lowest.result x (omega arith)
    (subst (λ l. IsIn x c.push_all.new.self ↔ (IsIn x c.args.waiting.now ⊎ IsIn x l)) c.parents.ensures (c.in_ok-push_all.ensures.all x))
