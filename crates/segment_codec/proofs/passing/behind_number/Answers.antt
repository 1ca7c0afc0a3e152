use Rattle.std.proofs.Common.{length, sym, ap, ◌∙◌, arith}
use Rattle.std.proofs.lemmas.List.{nil_from_length}
use Rattle.segment_codec.proofs.PastNumbers.{past, past-last, past-more, past-number}
use Rattle.segment_codec.proofs.passing.behind_number.Goals as goal

pub returns-then-first-lt128-clause-rest : goal.returns-then-first-lt128-clause-rest
returns-then-first-lt128-clause-rest c = λ n rest fits whole.
    sym (past-last c.in-Some.first.now c.in-Some.others.now c.if-first-lt128.true) ∙ ap past (sym c.in-Some.ensures.cases.0) ∙ c.groups.invariant.past
    ∙ ap past whole ∙ past-number n rest fits

pub groups-preserved : goal.groups-preserved
groups-preserved c =
    let more = ap length c.in-Some.ensures.cases.0 in
    let len = c.groups.invariant.len in
    record {
      past = sym (past-more c.in-Some.first.now c.in-Some.others.now c.if-first-lt128.false) ∙ ap past (sym c.in-Some.ensures.cases.0) ∙ c.groups.invariant.past;
      len = omega (arith, more, len);
    }

pub returns-clause-rest : goal.returns-clause-rest
returns-clause-rest c = λ n rest fits whole.
    let nothing = nil_from_length c.groups.rest.now c.in_default.ensures.cases in
    nothing ∙ (ap past (sym nothing) ∙ c.groups.invariant.past ∙ ap past whole ∙ past-number n rest fits)
