use Rattle.name_map.proofs.Ids.{listed-ascend}
use Rattle.name_map.proofs.part.Part.place.Goals as goal

pub index_among-index-requires : goal.index_among-index-requires
index_among-index-requires c = listed-ascend c.self.inside.first c.self.inside.ids c.in-Listed.ids c.deref.result.now c.self.invariant.ascend c.in-Listed.is c.deref.ensures.value
