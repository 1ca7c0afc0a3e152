use Rattle.std.proofs.Common.{◌≡◌, ◌++◌, take}
use Rattle.batch_codec.specs.Payload.{Payload}
use Rattle.batch_codec.specs.Building.{IsBuilt}
use Rattle.log_compact.proofs.whole.add_heads.Given as goal

abbrev pub invariant-heads : goal.invariant-heads
invariant-heads l = record {
  built : (p : Payload) → IsBuilt l.fn.build p → IsBuilt l.build (record p { heads = p.heads ++ take l.i l.heads });
  count : l.build.other_count ≡ l.fn.build.other_count;
}
