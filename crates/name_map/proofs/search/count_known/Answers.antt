use Rattle.name_map.proofs.Parts.{count-above, count-for}
use Rattle.name_map.proofs.search.count_known.Goals as goal

pub returns-in-None : goal.returns-in-None
returns-in-None c = λ added follow is. count-above c.args.number added follow (c.in-None.ensures added follow is)

pub returns-in-Some : goal.returns-in-Some
returns-in-Some c = λ added follow is. count-for c.args.number added c.in-Some.part.now c.count_to.result follow (c.in-Some.ensures added follow is) c.count_to.ensures
