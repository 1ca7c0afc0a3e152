use Rattle.std.proofs.Common.{◌-◌, drop, arith}
use Rattle.remote_answers.proofs.Tops.{drop-here, tops-more}
use Rattle.remote_answers.proofs.reached.ids_of.Goals as goal

pub heads-preserved : goal.heads-preserved
heads-preserved g c = λ rows world are x.
    let t = c.heads-test.true in let a = c.heads.auto.k in
    tops-more rows (drop c.heads.k c.args.heads.now) (drop (c.heads.k - 1) c.args.heads.now) c.index-heads-k.result c.heads.ids c.add_id.new.ids x
    (drop-here c.args.heads.now c.heads.k c.index-heads-k.result (omega (arith, t)) (omega (arith, a)) c.index-heads-k.is)
    (c.in_ok-add_id.ensures rows world are x) (c.heads.invariant rows world are x)
