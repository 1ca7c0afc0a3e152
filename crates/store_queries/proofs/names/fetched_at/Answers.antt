use Rattle.std.proofs.Common.{arith}
use Rattle.store_queries.proofs.Lending.{mapped-at, mapped-none}
use Rattle.store_queries.proofs.names.fetched_at.Goals as goal

pub returns-then-place-len-clause-name : goal.returns-then-place-len-clause-name
returns-then-place-len-clause-name c = mapped-at c.args.fetched.now c.args.place (let lt = c.if-place-len.true in let l = c.len.ensures in omega (arith, lt, l)) c.name.result.bytes.now c.name.ensures

pub returns-else-place-len-clause-name : goal.returns-else-place-len-clause-name
returns-else-place-len-clause-name c = mapped-none c.args.fetched.now c.args.place (let le = c.if-place-len.false in let l = c.len.ensures in omega (arith, le, l))
