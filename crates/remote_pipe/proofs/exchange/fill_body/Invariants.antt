use Rattle.std.proofs.Common.{◌≡◌, ◌≤◌, ◌-◌, ◌++◌, List, ℕ, length}
use Rattle.remote_pipe.specs.Exchange.{Took}
use Rattle.std.specs.Prelude.{is_some}
use Rattle.outside.specs.Told.{WhereTold}
use Rattle.remote_pipe.specs.Line.{served_by}
use Rattle.remote_pipe.proofs.exchange.fill_body.Given as goal

abbrev pub invariant-pieces : goal.invariant-pieces
invariant-pieces g l = record {
  len : length l.piece ≡ length l.fn.piece;
  within : length l.body.items ≤ l.len;
  fills : WhereTold (g.L.Link.peer l.fn.link) (g.L.Link.peer l.link) (λ before now. (came : List ℕ) × Took came before now × (l.body.items ≡ l.fn.body.items ++ came));
  served : is_some (served_by (g.L.Link.peer l.link)) ≡ is_some (served_by (g.L.Link.peer l.fn.link));
  put_faults : g.L.Link.put_faults l.fn.link ≤ g.L.Link.put_faults l.link;
  take_faults : g.L.Link.take_faults l.fn.link ≤ g.L.Link.take_faults l.link;
}

abbrev pub decreases-pieces : goal.decreases-pieces
decreases-pieces g l = l.len - length l.body.items
