use Rattle.std.proofs.Common.{arith}
use Rattle.ancestor_query.proofs.Parts.{found-kept, found-next, settled-stop, settled-next, settled-none, both-ways}
use Rattle.ancestor_query.proofs.parent_set.Found.take_from.Goals as goal

pub returns-then-number-least-clause-same : goal.returns-then-number-least-clause-same
returns-then-number-least-clause-same c = λ x.
    both-ways (found-kept c.take.self.waiting c.next_below.new.self c.take.self.ids c.take.self.end c.take.invariant.settled c.in-Some.ensures.keeps x) (c.take.invariant.same x)

pub returns-then-number-least-clause-settled : goal.returns-then-number-least-clause-settled
returns-then-number-least-clause-settled c =
    settled-stop c.take.self.waiting c.next_below.new.self c.take.self.ids c.take.self.end c.take.invariant.settled c.in-Some.id c.in-Some.ensures c.args.least
    (omega (arith, c.if-number-least.true, c.number-number.ensures.number))

pub take-preserved : goal.take-preserved
take-preserved c = record {
  same = λ x. both-ways
      (found-next c.take.self.waiting c.next_below.new.self c.take.self.ids c.take.self.end c.take.invariant.settled c.in-Some.id c.in-Some.ensures
      c.insert_span.new.self c.single.result c.single.ensures.low c.single.ensures.high c.in_ok-insert_span.ensures.members x) (c.take.invariant.same x);
  settled = settled-next c.take.self.waiting c.next_below.new.self c.take.self.ids c.take.self.end c.take.invariant.settled c.in-Some.id c.in-Some.ensures
      c.insert_span.new.self c.single.result c.single.ensures.low c.single.ensures.high c.in_ok-insert_span.ensures.members c.number-number.result c.number-number.ensures.number
      c.in_ok-insert_span.ensures.canonical;
}

pub returns-clause-same : goal.returns-clause-same
returns-clause-same c = λ x.
    both-ways (found-kept c.take.self.waiting c.next_below.new.self c.take.self.ids c.take.self.end c.take.invariant.settled c.in_default.ensures.keeps x) (c.take.invariant.same x)

pub returns-clause-settled : goal.returns-clause-settled
returns-clause-settled c =
    settled-none c.take.self.waiting c.next_below.new.self c.take.self.ids c.take.self.end c.take.invariant.settled c.args.least c.in_default.ensures
