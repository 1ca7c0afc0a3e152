use Rattle.std.proofs.Common.{◌≡◌, take}
use Rattle.name_map.proofs.map.NameMap.copy.Given as goal

abbrev pub invariant-parts : goal.invariant-parts
invariant-parts l = l.parts.items ≡ take l.part-index l.self.parts
