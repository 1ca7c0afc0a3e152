use Rattle.std.proofs.Common.{[]}
use Rattle.step_rules.specs.State.{with_pending_rows}
use Rattle.step_rules.specs.Verb.{Discard}
use Rattle.step_rules.specs.Reply.{Discarded}
use Rattle.segdag_c.proofs.Beside.{changes, none-asked}
use Rattle.segdag_c.proofs.sizes.discard_in.Goals as goal

pub returns-clause-does : goal.returns-clause-does
returns-clause-does c = λ mirrors.
    changes mirrors c.args.store.now c.discard.new.self c.args.session Discard (Discarded c.discard.result) c.discard.ensures.alone (λ began st stands. none-asked _ _ mirrors) tt c.discard.ensures.cache
    (λ began st stands. (with_pending_rows st.store c.args.session [], (c.discard.ensures.step began st stands).0, (c.discard.ensures.step began st stands).1))
