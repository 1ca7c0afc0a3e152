use Rattle.std.proofs.Common.{◌≡◌, not, false, filter, get_or}
use Rattle.name_map.specs.Part.{upward}
use Rattle.change_parts.proofs.numbers.unmarked.Given as goal

abbrev pub invariant-rest : goal.invariant-rest
invariant-rest l = l.rest.items ≡ filter (λ j. not (get_or l.marks j false)) (upward 0 l.k)
