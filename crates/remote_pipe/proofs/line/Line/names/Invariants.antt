use Rattle.std.proofs.Common.{◌≡◌, ◌<◌, ◌-◌, List, length, take}
use Rattle.std.specs.List.{flat_map}
use Rattle.id_groups.specs.Name.{Name}
use Rattle.remote_pipe.specs.Remote.{AsksBlocks}
use Rattle.remote_pipe.proofs.line.Line.names.Given as goal

abbrev pub invariant-blocks-2 : goal.invariant-blocks-2
invariant-blocks-2 g l = record {
  room : l.done < length l.out;
  len : length l.out ≡ length l.fn.out;
  blocks : (blocks : List (List Name)) × AsksBlocks l.x l.back blocks l.fn.self l.self × (flat_map (λ (names : List Name). names) blocks ≡ take l.done l.out);
}

abbrev pub decreases-blocks-2 : goal.decreases-blocks-2
decreases-blocks-2 g l = length l.out - l.done
