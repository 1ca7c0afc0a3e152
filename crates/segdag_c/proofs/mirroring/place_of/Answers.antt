use Rattle.std.proofs.Common.{refl, arith}
use Rattle.std.proofs.lemmas.Option.{slice_get_read, slice_get_within}
use Rattle.segdag_c.proofs.Numbered.{none-more}
use Rattle.segdag_c.proofs.mirroring.place_of.Goals as goal

pub mirrors-preserved : goal.mirrors-preserved
mirrors-preserved c =
    none-more c.args.list.now c.args.number c.mirrors.k c.number.result c.index-list-k.result c.mirrors.invariant (slice_get_read c.args.list.now _ c.mirrors.k c.index-list-k.result refl c.mirrors-test.true c.index-list-k.is)
    c.number.ensures c.if-number.false

pub returns-clause-none : goal.returns-clause-none
returns-clause-none c = λ none k has. (let inside = slice_get_within c.args.list.now k has.0 has.1 in let past = c.mirrors-test.false in c.mirrors.invariant k (omega (arith, inside, past)) has)
