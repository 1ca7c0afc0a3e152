use Rattle.std.proofs.Common.{arith, ◌≡◌, ◌∙◌, ◌++◌, ◌-◌, ◌+◌, ◌<◌, sym, subst, length, ap, get_or, take, drop}
use Rattle.span_set.specs.Members.{IsCanonical, ids_of}
use Rattle.span_set.proofs.MemberLemmas.{span-read}
use Rattle.span_set.proofs.Upper.{take-part, upper-span}
use Rattle.span_set.proofs.set.IdSet.take_greatest.Goals as goal

pub upper_part-part-requires-clause-span : goal.upper_part-part-requires-clause-span
upper_part-part-requires-clause-span c =
    span-read c.self.inside.spans.items c.take.i c.index.result.now c.self.invariant (omega (arith, c.self.inside.spans.ok.0, c.len.ensures, c.if-i-len.true)) c.index.ensures

pub overflow_sub-left : goal.overflow_sub-left
overflow_sub-left c =
    let span = span-read c.self.inside.spans.items c.take.i c.index.result.now c.self.invariant (omega (arith, c.self.inside.spans.ok.0, c.len.ensures, c.if-i-len.true)) c.index.ensures in
    let order = span.order in let high = c.upper_part-part.ensures.high in let low = c.upper_part-part.ensures.low in
    let some = c.take-test.true in
    omega (arith, c.number.ensures.number, c.number-in-take.ensures.number)

pub take-preserved : goal.take-preserved
take-preserved c =
    let same = c.self.view_is in let read = c.index.ensures ∙ ap (λ l. get_or l c.take.i c.index.result.now) same in
    let lt : c.take.i < length c.args.self.now = subst (λ l. c.take.i < length l) same (omega (arith, c.self.inside.spans.ok.0, c.len.ensures, c.if-i-len.true)) in
    let canonical : IsCanonical c.args.self.now = subst IsCanonical same c.self.invariant in
    let part = c.upper_part-part.result in
    let high = c.number.ensures.number in let low = c.number-in-take.ensures.number in
    let span = span-read c.args.self.now c.take.i c.index.result.now canonical lt read in
    let order = (upper-span c.index.result.now part c.take.left span c.take-test.true (record { high = c.upper_part-part.ensures.high; low = c.upper_part-part.ensures.low })).order in
    let takes = take-part c.args.self.now c.take.spans.items c.take.i (c.take.i + 1) c.take.left (c.take.left - (c.number.result - c.number-in-take.result + 1)) c.args.n c.index.result.now part canonical lt read c.take-test.true
    (record { high = c.upper_part-part.ensures.high; low = c.upper_part-part.ensures.low }) (omega arith) (omega (arith, high, low, order))
    (record { canonical = c.take.invariant.canonical; whole = c.take.invariant.whole; ids = c.take.invariant.ids }) in
    let items = sym c.in_ok-push.ensures.items in
    record {
      within = omega (arith, lt);
      canonical = subst IsCanonical items takes.canonical;
      whole = λ more. c.in_ok-push.ensures.items ∙ takes.whole more;
      ids = subst (λ l. ids_of l ++ take (c.take.left - (c.number.result - c.number-in-take.result + 1)) (ids_of (drop (c.take.i + 1) c.args.self.now)) ≡ take c.args.n (ids_of c.args.self.now)) items takes.ids;
    }
