use Rattle.flat_segments.proofs.Searching.{found-some, found-in}
use Rattle.flat_segments.proofs.run.Run.place_of.Goals as goal

pub overflow_sub-result : goal.overflow_sub-result
overflow_sub-result c =
    found-some c.args.self.now.bytes.now c.args.self.now.end c.args.id c.args.self.now.entries.now c.count_up_to.result c.args.self.now.read c.requires.above c.requires.below c.count_up_to.ensures.back

pub returns-clause-found : goal.returns-clause-found
returns-clause-found c = λ s get.
    found-in c.args.self.now.bytes.now c.args.self.now.end c.args.id c.args.self.now.entries.now c.count_up_to.result (record { place = 0; len = 0; low = 0 }) s c.args.self.now.read c.count_up_to.ensures.within
    c.requires.above c.requires.below c.count_up_to.ensures.front c.count_up_to.ensures.back get
