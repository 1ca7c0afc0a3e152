use Rattle.std.specs.Prelude.{◌↔◌}
use Rattle.id_groups.specs.Lists.{IsIn}
use Rattle.segment_codec.specs.Lent.{parents_left}
use Rattle.remote_answers.proofs.path.is_among.Given as goal

abbrev pub invariant-parents : goal.invariant-parents
invariant-parents l = IsIn l.id (parents_left l.parent-iterator) ↔ IsIn l.id (parents_left l.fn.parents)
