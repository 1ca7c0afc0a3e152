use Rattle.std.proofs.Common.{Result, Ok, Err}
use Rattle.std.specs.Prelude.{IfOk}
use Rattle.high_segments.proofs.Noting.{all-noted}
use Rattle.high_segments.proofs.children.may_have_children.Goals as goal

if-ok : {X E : Type 0} {P Q : X → Type 0} (r : Result X E) → ((x : X) → P x → Q x) → IfOk r P → IfOk r Q
if-ok (Ok x) f h = f x h
if-ok (Err e) f h = tt

pub returns-then-grouped-count : goal.returns-then-grouped-count
returns-then-grouped-count c = if-ok c.all_noted.result (λ note is. all-noted c.args.below.now c.len.result note.items is c.len.ensures) c.all_noted.ensures
