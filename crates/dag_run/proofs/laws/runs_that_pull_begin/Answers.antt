use Rattle.std.proofs.Common.{◌≡◌, List, length, inl, inr, arith}
use Rattle.id_groups.specs.Name.{Name}
use Rattle.commit_graph.specs.World.{World, rows_of}
use Rattle.line_io.specs.Lines.{lines_of}
use Rattle.batch_codec.specs.Payload.{Payload}
use Rattle.change_rules.specs.Tables.{cloned_count}
use Rattle.remote_rules.specs.Mirror.{Mirror}
use Rattle.remote_rules.specs.Serving.{AllServe}
use Rattle.run_rules.proofs.AtPulls.{begin-at-pulls}
use Rattle.dag_run.specs.Enough.{AreEnough}
use Rattle.dag_run.proofs.laws.runs_that_pull_begin.Goals as goal

-- over an empty store the mirrors serve it
served-there : (payloads : List Payload) (w : World Name) (mirrors : List Mirror) → AreEnough payloads w mirrors → length (rows_of w) ≡ 0 → AllServe (cloned_count payloads) w mirrors
served-there payloads w mirrors (inl serve) none = serve
served-there payloads w mirrors (inr other) none = absurd (let some = other.1 in omega (arith, some, none))

pub returns : goal.returns
returns c = λ limits w payloads room mirrors before fair start enough begin. (
  start,
  enough,
  begin-at-pulls limits before.disk.bytes w payloads room mirrors (lines_of limits.input before.left) fair start.read (served-there payloads w mirrors enough) begin,
)
