use Rattle.std.proofs.Common.{refl, arith}
use Rattle.change_parts.proofs.NamesInTurn.{turn-more}
use Rattle.change_parts.proofs.names.count_in_turn.Goals as goal

pub turn-preserved : goal.turn-preserved
turn-preserved c =
    let g = c.turn-test.ensures refl in
    let lt = g.0 in
    let room = g.2 in
    record {
      turn = turn-more c.args.numbers.now c.args.first c.turn.len lt g.1 c.turn.invariant.turn;
      fits = omega (arith, lt);
      below = λ some. omega (arith, room);
    }
