use Rattle.std.proofs.Common.{ap, length, arith}
use Rattle.segment_codec.proofs.Lists.{next-some, next-none}
use Rattle.segment_codec.proofs.segment.ParentsIterator.next.Goals as goal

pub invariant_of-self : goal.invariant_of-self
invariant_of-self c =
    let next = next-some c.args.self.now.rest.now c.in-Some.number c.in-Some.rest.now c.args.self.now.spelled c.args.self.now.valid c.in-Some.ensures in
    record { spelled = next.spelled; valid = next.valid }

pub from_number-requires : goal.from_number-requires
from_number-requires c = (next-some c.args.self.now.rest.now c.in-Some.number c.in-Some.rest.now c.args.self.now.spelled c.args.self.now.valid c.in-Some.ensures).below

pub returns-in-Some-clause-steps : goal.returns-in-Some-clause-steps
returns-in-Some-clause-steps c =
    let next = next-some c.args.self.now.rest.now c.in-Some.number c.in-Some.rest.now c.args.self.now.spelled c.args.self.now.valid c.in-Some.ensures in
    rw c.from_number.ensures next.whole

pub returns-in-Some-clause-goes : goal.returns-in-Some-clause-goes
returns-in-Some-clause-goes c =
    let next = next-some c.args.self.now.rest.now c.in-Some.number c.in-Some.rest.now c.args.self.now.spelled c.args.self.now.valid c.in-Some.ensures in
    let len = ap length next.whole in
    record { on = λ finite. (tt, tt, omega (arith, len)); keeps = tt; rests = λ finite. tt }

pub returns-in_err-number-clause-steps : goal.returns-in_err-number-clause-steps
returns-in_err-number-clause-steps c =
    let none = next-none c.args.self.now.rest.now c.args.self.now.spelled c.args.self.now.valid c.in_err-number.ensures in
    rw c.from_residual.ensures (none, none)

pub invariant_of-self-2 : goal.invariant_of-self-2
invariant_of-self-2 c =
    let next = next-some c.args.self.now.rest.now c.in_ok-number.number c.in_ok-number.rest.now c.args.self.now.spelled c.args.self.now.valid c.in_ok-number.ensures in
    record { spelled = next.spelled; valid = next.valid }

pub from_number-requires-2 : goal.from_number-requires-2
from_number-requires-2 c = (next-some c.args.self.now.rest.now c.in_ok-number.number c.in_ok-number.rest.now c.args.self.now.spelled c.args.self.now.valid c.in_ok-number.ensures).below

pub returns-clause-steps : goal.returns-clause-steps
returns-clause-steps c =
    let next = next-some c.args.self.now.rest.now c.in_ok-number.number c.in_ok-number.rest.now c.args.self.now.spelled c.args.self.now.valid c.in_ok-number.ensures in
    rw c.from_number-2.ensures next.whole

pub returns-clause-goes : goal.returns-clause-goes
returns-clause-goes c =
    let next = next-some c.args.self.now.rest.now c.in_ok-number.number c.in_ok-number.rest.now c.args.self.now.spelled c.args.self.now.valid c.in_ok-number.ensures in
    let len = ap length next.whole in
    record { on = λ finite. (tt, tt, omega (arith, len)); keeps = tt; rests = λ finite. tt }
