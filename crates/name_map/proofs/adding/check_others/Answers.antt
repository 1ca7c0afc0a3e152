use Rattle.std.proofs.Common.{List, Err, ap, subst}
use Rattle.id_groups.specs.Name.{Name}
use Rattle.batch_codec.specs.Payload.{known_names}
use Rattle.batch_codec.specs.Lent.{payload_of, knowns_of, lent_names}
use Rattle.name_index.specs.Index.{names_in}
use Rattle.name_map.specs.Adding.{Meet}
use Rattle.name_map.proofs.More.{own-double, own-fit, none-meet}
use Rattle.name_map.proofs.Meeting.{double-same}
use Rattle.name_map.proofs.adding.check_others.Goals as goal

pub returns-in_err-check_own_names-clause-double : goal.returns-in_err-check_own_names-clause-double
returns-in_err-check_own_names-clause-double c = λ all is stand e distinct.
    let fault = double-same c.from_residual.result c.in_err-check_own_names.field-0.0 c.from_residual.ensures.1 e in
    c.in_err-check_own_names.ensures.double (ap Err fault)
    (own-double (names_in all) (payload_of c.args.batch.now) (knowns_of c.known.result) (lent_names c.other_names-others.result) c.known.ensures.known c.other_names-others.ensures.names distinct)

pub returns-then-has_one_of-clause-double : goal.returns-then-has_one_of-clause-double
returns-then-has_one_of-clause-double c = λ all is stand e distinct.
    let p = payload_of c.args.batch.now in
    let meet = c.has_one_of.ensures.meet all is stand c.if-has_one_of.true in
    none-meet (names_in all) (known_names p) p.other_names distinct (subst (λ (z : List Name). Meet (names_in all) z) c.other_names-others.ensures.names meet)

pub returns-clause-ok : goal.returns-clause-ok
returns-clause-ok c = λ all is stand.
    own-fit (names_in all) (payload_of c.args.batch.now) (knowns_of c.known.result) (lent_names c.other_names-others.result) c.known.ensures.known c.other_names-others.ensures.names
    c.in_ok-check_own_names.ensures.ok (c.has_one_of.ensures.apart all is stand c.if-has_one_of.false)
