use Rattle.std.proofs.Common.{arith, ap, sym, ◌∙◌}
use Rattle.segment_codec.proofs.Numbers.{some_is}
use Rattle.batch_codec.specs.Reading.{payload_at}
use Rattle.batch_codec.specs.Parts.{payload_in}
use Rattle.batch_codec.proofs.Payloads.{payload_takes, payload_again}
use Rattle.batch_codec.proofs.whole.BatchRef.read.Goals as goal

pub returns-in_err-parts-clause-only : goal.returns-in_err-parts-clause-only
returns-in_err-parts-clause-only c = λ p h f. let again = sym c.in_err-parts.ensures.exact ∙ ap payload_at f ∙ payload_again p h in absurd cc

pub returns-clause-found : goal.returns-clause-found
returns-clause-found c =
    let t = payload_takes c.args.payload.now (payload_in c.in_ok-parts.parts) (λ i. omega (arith, c.type_inv.payload i)) c.in_ok-parts.ensures.exact in
    (t.whole, t.parts)

pub returns-clause-only : goal.returns-clause-only
returns-clause-only c = λ p h f. some_is (payload_in c.in_ok-parts.parts) p (sym c.in_ok-parts.ensures.exact ∙ ap payload_at f ∙ payload_again p h)
