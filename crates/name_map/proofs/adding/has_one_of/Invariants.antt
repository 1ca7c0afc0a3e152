use Rattle.std.proofs.Common.{ℕ, ◌<◌, List, [], get_or}
use Rattle.id_groups.specs.Lists.{IsIn}
use Rattle.batch_codec.specs.Lent.{lent_names}
use Rattle.name_index.specs.Index.{NamedPlace, IsIndexOf, NamesStand, names_in}
use Rattle.name_map.proofs.adding.has_one_of.Given as goal

abbrev pub invariant-names : goal.invariant-names
invariant-names l = (all : List NamedPlace) → IsIndexOf l.index all → NamesStand l.bytes all → (k : ℕ) → k < l.i → IsIn (get_or (lent_names l.names) k []) (names_in all) → ⊥
