use Rattle.std.proofs.Common.{refl}
use Rattle.step_rules.specs.Verb.{Discard}
use Rattle.step_rules.specs.Reply.{Discarded}
use Rattle.segdag_c.specs.Mirrors.{shown_all}
use Rattle.segdag_c.proofs.Coming.{store-does}
use Rattle.segdag_c.proofs.sizes.discard.Goals as goal

pub returns : goal.returns
returns c =
    let mirrors = shown_all c.args.held.now.mirrors.list.items in (
      c.if-session-ge-SESSIONS.false,
      refl,
      refl,
      refl,
      store-does c.args.held.now.store _ c.in-Some.store c.discard_in.new.store mirrors mirrors c.args.session Discard (Discarded c.discard_in.result)
          c.in-Some.is refl (c.discard_in.ensures.does mirrors),
    )
