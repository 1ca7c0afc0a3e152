use Rattle.std.proofs.Common.{◌∙◌, ap, sym, subst, arith}
use Rattle.name_index.specs.Index.{IsIndexOf, NamesStand}
use Rattle.payload_tables.specs.Pending.{PlainPending, FindsRow}
use Rattle.payload_tables.proofs.Naming.{named-stand, found-row, no-row, row-below}
use Rattle.payload_tables.proofs.pending.PendingRows.find.Goals as goal

pub returns-in_err-place : goal.returns-in_err-place
returns-in_err-place c = λ rows h.
    let none = c.in_err-place.ensures h.index.named (subst (λ (q : PlainPending). IsIndexOf q.index h.index.named) (sym c.self.view_is) h.index.index_of)
    (subst (λ b. NamesStand b h.index.named) (sym (c.deref.ensures.value ∙ ap (λ (q : PlainPending). q.names) c.self.view_is)) (named-stand c.args.self.now rows h)) in
    subst (FindsRow rows c.args.name.bytes.now) (sym c.from_residual.ensures) (no-row c.args.self.now rows h c.args.name.bytes.now none)

pub overflow_cast-result : goal.overflow_cast-result
overflow_cast-result c =
    let r = c.requires in let h = r.1 in
    let at = c.in_ok-place.ensures h.index.named (subst (λ (q : PlainPending). IsIndexOf q.index h.index.named) (sym c.self.view_is) h.index.index_of)
    (subst (λ b. NamesStand b h.index.named) (sym (c.deref.ensures.value ∙ ap (λ (q : PlainPending). q.names) c.self.view_is)) (named-stand c.args.self.now r.0 h)) in
    let row = found-row c.args.self.now r.0 h c.args.name.bytes.now c.in_ok-place.place at in
    let below = row-below r.0 _ row.0 row.1 in let few = h.few in omega (arith, below, few)

pub returns : goal.returns
returns c = λ rows h.
    found-row c.args.self.now rows h c.args.name.bytes.now c.in_ok-place.place
    (c.in_ok-place.ensures h.index.named (subst (λ (q : PlainPending). IsIndexOf q.index h.index.named) (sym c.self.view_is) h.index.index_of)
    (subst (λ b. NamesStand b h.index.named) (sym (c.deref.ensures.value ∙ ap (λ (q : PlainPending). q.names) c.self.view_is)) (named-stand c.args.self.now rows h)))
