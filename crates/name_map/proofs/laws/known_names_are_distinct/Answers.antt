use Rattle.std.proofs.Common.{List, subst, sym, ◌∙◌}
use Rattle.id_groups.specs.Lists.{AreDistinct}
use Rattle.id_groups.specs.Name.{Name}
use Rattle.name_map.proofs.Standing.{names-known}
use Rattle.name_map.proofs.More.{payload-names}
use Rattle.name_map.proofs.laws.known_names_are_distinct.Goals as goal

pub returns : goal.returns
returns c = λ map added is. subst (λ (z : List Name). AreDistinct z) (names-known added ∙ sym (payload-names added)) is.index.distinct
