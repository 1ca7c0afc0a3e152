use Rattle.std.proofs.Common.{ap, arith, length}
use Rattle.payload_tables.specs.Pending.{PlainPending}
use Rattle.payload_tables.proofs.Naming.{places-many}
use Rattle.payload_tables.proofs.pending.PendingRows.len.Goals as goal

pub overflow_cast-result : goal.overflow_cast-result
overflow_cast-result c =
    let r = c.requires in let many = places-many c.args.self.now r.0 r.1 in let few = r.1.few in
    let len = c.len.ensures in let ok = c.self.inside.places.ok.0 in let same = ap (λ (p : PlainPending). length p.places) c.self.view_is in omega (arith, many, few, len, ok, same)

pub returns-clause-len : goal.returns-clause-len
returns-clause-len c = λ rows h.
    let many = places-many c.args.self.now rows h in
    let len = c.len.ensures in let ok = c.self.inside.places.ok.0 in let same = ap (λ (p : PlainPending). length p.places) c.self.view_is in omega (arith, many, len, ok, same)

pub returns-clause-places : goal.returns-clause-places
returns-clause-places c =
    let len = c.len.ensures in let ok = c.self.inside.places.ok.0 in let same = ap (λ (p : PlainPending). length p.places) c.self.view_is in omega (arith, len, ok, same)
