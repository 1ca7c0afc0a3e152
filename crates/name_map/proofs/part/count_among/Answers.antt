use Rattle.std.proofs.Common.{sym}
use Rattle.name_map.proofs.Ids.{among-count}
use Rattle.name_map.proofs.part.count_among.Goals as goal

pub returns : goal.returns
returns c = sym (among-count c.args.number c.count_less.result c.args.ids.now c.count_less.ensures.within c.count_less.ensures.less c.count_less.ensures.rest)
