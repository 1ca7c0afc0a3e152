use Rattle.std.proofs.Common.{refl}
use Rattle.step_rules.specs.Verb.{Status}
use Rattle.segdag_c.specs.Calls.{sizes_reply}
use Rattle.segdag_c.specs.Mirrors.{shown_all}
use Rattle.segdag_c.proofs.Coming.{store-does}
use Rattle.segdag_c.proofs.sizes.sizes.Goals as goal

pub returns-in-Some : goal.returns-in-Some
returns-in-Some c =
    let mirrors = shown_all c.args.held.now.mirrors.list.items in (
      c.if-session-ge-SESSIONS.false,
      refl,
      refl,
      refl,
      store-does c.args.held.now.store c.args.held.now.store c.in-Some.store c.in-Some.store mirrors mirrors c.args.session Status (sizes_reply c.sizes_in.result)
          c.in-Some.is c.in-Some.is (c.sizes_in.ensures mirrors),
    )
