use Rattle.std.proofs.Common.{◌<◌, ap, subst, length}
use Rattle.std.proofs.lemmas.Bool.{ltb-true}
use Rattle.segment_codec.proofs.Spelled.{short-masters}
use Rattle.segment_codec.proofs.lent.Parents.are_masters.Goals as goal

pub returns : goal.returns
returns c = λ short.
    let p = c.args.self.now in
    short-masters _ p.valid (subst (λ n. n < 9) (ap length p.spelled) (ltb-true (length c.args.self.now.rest.now) 9 short))
