use Rattle.std.proofs.Common.{◌∙◌, ◌*◌, ap, arith, length, take, drop, ℕ}
use Rattle.payload_tables.specs.Pending.{PlainPending}
use Rattle.payload_tables.proofs.Naming.{names-many, row-name}
use Rattle.payload_tables.proofs.pending.PendingRows.name.Goals as goal

pub piece-requires : goal.piece-requires
piece-requires c =
    let r = c.requires in let many = names-many c.args.self.now r.0 r.1 in let lt = r.2 in
    let same = ap (length {A = ℕ}) c.deref.ensures.value in let view = ap (λ (p : PlainPending). length p.names) c.self.view_is in omega (arith, many, lt, same, view)

pub returns : goal.returns
returns c = λ rows row h e.
    c.piece.ensures ∙ ap (λ b. take 20 (drop (20 * c.args.i) b)) (c.deref.ensures.value ∙ ap (λ (p : PlainPending). p.names) c.self.view_is) ∙ row-name c.args.self.now rows c.args.i row h e
