use Rattle.std.proofs.Common.{arith}
use Rattle.store_queries.proofs.QueryNames.{row-here}
use Rattle.store_queries.proofs.names.name_of_row.Goals as goal

pub returns : goal.returns
returns c =
    let rows = c.requires in
    let n = c.number.ensures.number in
    let f = c.first.ensures in
    let p = c.in_ok-place.ensures in
    let l = c.len.ensures.places in
    let lt = c.if-place-from.false in
    let from = c.from.ensures in
    row-here c.args.pending.now rows.0 rows.1 c.args.id c.in_ok-place.place (let le = p.0 in let e = p.1 in omega (arith, n, f, le, e)) (omega (arith, lt, from, l)) c.name.result.bytes.now (λ row e. c.name.ensures rows.0 row rows.1 e)
