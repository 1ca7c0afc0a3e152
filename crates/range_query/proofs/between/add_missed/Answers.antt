use Rattle.std.proofs.Common.{arith, ◌≡◌, ◌<◌, ◌≤◌, inl, inr, ⊎_elim, sym, subst}
use Rattle.segment_codec.specs.Lent.{segment_of}
use Rattle.segment_codec.proofs.Tables.{le_or_lt}
use Rattle.span_set.specs.Members.{IsMember}
use Rattle.range_query.specs.Parts.{IsMetIn}
use Rattle.range_query.proofs.between.add_missed.Goals as goal

pub returns-in_ok-push_between-clause-sound : goal.returns-in_ok-push_between-clause-sound
returns-in_ok-push_between-clause-sound c = λ x m.
    let top = c.in-Some.ensures.to in let e = c.end_of_missed-end.ensures.top in
    let low : c.number.result ≡ c.args.segment.low = omega (arith, c.number.ensures.number, c.low-in-Some.ensures) in
    ⊎_elim
    (λ o. inl o)
    (λ p. let a = p.0 in let b = p.1 in inr (
      (omega arith, omega arith),
      subst (λ l. IsMetIn c.args.missed.now l c.args.lowest (segment_of c.args.segment) x → ⊥) c.spans-in-Some.ensures.same (c.end_of_missed-end.ensures.missed x (omega arith) b),
    ))
    ((c.in_ok-push_between.ensures x).0 m)

pub returns-in_ok-push_between-clause-whole : goal.returns-in_ok-push_between-clause-whole
returns-in_ok-push_between-clause-whole c = λ x b j.
    let low : c.number.result ≡ c.args.segment.low = omega (arith, c.number.ensures.number, c.low-in-Some.ensures) in
    let from = j.0 in
    let top = c.in-Some.ensures.highest x (subst (λ l. IsMember l x) (sym c.spans-3.ensures.same) b) j.1 in
    ⊎_elim
    (λ (le : c.end_of_missed-end.result ≤ x).
    inr (subst (λ l. IsMetIn c.args.missed.now l c.args.lowest (segment_of c.args.segment) x) c.spans-in-Some.ensures.same (c.end_of_missed-end.ensures.met x from le top)))
    (λ (lt : x < c.end_of_missed-end.result). inl ((c.in_ok-push_between.ensures x).1 (inr (omega arith, lt))))
    (le_or_lt c.end_of_missed-end.result x)
