use Rattle.std.proofs.Common.{◌≡◌, List, take}
use Rattle.std.specs.List.{AllZip}
use Rattle.name_map.specs.Added.{Placed}
use Rattle.payload_tables.specs.Bases.{IsBaseOf}
use Rattle.change_parts.specs.Asked.{others_count}
use Rattle.rebase_pending.specs.Rebasing.{IsMoved}
use Rattle.rebase_pending.proofs.rebasing.moved_parents.Given as goal

abbrev pub invariant-parents : goal.invariant-parents
invariant-parents l = (added before : List Placed) → IsBaseOf l.newest added → IsBaseOf l.base before → l.first ≡ others_count before → AllZip (IsMoved before added l.first l.ids) (take l.parent-index l.parents) l.moved.items
