use Rattle.std.proofs.Common.{sym, true≢false}
use Rattle.plain_query.proofs.Gathering.{put-behind, distinct-behind}
use Rattle.plain_query.proofs.members.Members.add.Goals as goal

pub invariant_of-self-2 : goal.invariant_of-self-2
invariant_of-self-2 c =
    distinct-behind c.args.self.now c.self.inside.names.items c.push.new.self.items c.args.name.now c.self.view_is c.self.invariant
    (λ s. true≢false (sym (c.if-has.ensures.1 s))) c.in_ok-push.ensures.items

pub returns : goal.returns
returns c = put-behind c.args.self.now c.self.inside.names.items c.push.new.self.items c.args.name.now c.self.view_is c.in_ok-push.ensures.items
