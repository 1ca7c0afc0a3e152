use Rattle.std.proofs.Common.{◌≤◌, ◌-◌, ℕ, length, take, arith, length-take}
use Rattle.outside.proofs.ToldLemmas.{WhereTold-join}
use Rattle.remote_pipe.proofs.Taking.{fills-fault}
use Rattle.remote_pipe.proofs.exchange.fill_body.Goals as goal

pub returns-in-Err-clause-fills : goal.returns-in-Err-clause-fills
returns-in-Err-clause-fills g c =
    let inv = c.pieces.invariant in
    let n = c.min-count.result in
    let few = c.min-count.ensures in
    let within : length (take n c.pieces.piece) ≤ c.args.len - length c.pieces.body.items = omega (arith, length-take {A = ℕ} n c.pieces.piece, few) in
    WhereTold-join (g.L.Link.peer c.args.link.now) (g.L.Link.peer c.pieces.link) (g.L.Link.peer c.add_piece.new.link) _ _ _
    (λ x y z f a. fills-fault c.args.len (length (take n c.pieces.piece)) c.args.body.now.items c.pieces.body.items c.add_piece.new.body.items c.in-Err.fault x y z within f a) inv.fills c.in-Err.ensures.adds
