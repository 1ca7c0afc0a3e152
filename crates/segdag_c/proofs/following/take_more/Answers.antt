use Rattle.std.proofs.Common.{Some, sym, ◌∙◌, ap}
use Rattle.segdag_c.proofs.Followed.{more-taken}
use Rattle.segdag_c.proofs.following.take_more.Goals as goal

pub returns : goal.returns
returns c =
    let f = c.follow-next.ensures.follows in
    let taken = c.take_store.ensures in
    more-taken c.args.held.now _ c.in-Some.store c.args.bytes.now c.follow-next.result.1 c.follow-next.result.2 c.in_ok-more.more.payloads f.0
    (sym taken.store ∙ c.in-Some.is) c.in_ok-more.ensures.log.is_log f.1 f.2 (ap Some f.3) f.4 f.5 taken.log taken.mirrors taken.reply taken.names
