use Rattle.std.proofs.lemmas.Result.{err_from_is_err_and}
use Rattle.segment_codec.proofs.Fronts.{front-then}
use Rattle.segment_codec.proofs.level.write_numbers.Goals as goal

pub returns-in_err-write_number-clause-err : goal.returns-in_err-write_number-clause-err
returns-in_err-write_number-clause-err c =
    let p = err_from_is_err_and c.from_residual.result c.from_residual.ensures.1 in
    rw p.1 (front-then c.args.out.now.items c.loop-number.out.items c.write_number.new.out.items (_, c.loop-number.invariant) c.in_err-write_number.ensures.err)
