use Rattle.std.proofs.Common.{List, [], Err, ap, map, subst}
use Rattle.id_groups.specs.Lists.{AreDistinct}
use Rattle.id_groups.specs.Name.{Name}
use Rattle.batch_codec.specs.Payload.{Known}
use Rattle.batch_codec.specs.Lent.{payload_of, knowns_of, lent_names}
use Rattle.name_map.proofs.Lists.{distinct-right}
use Rattle.name_map.proofs.More.{own-names, own-double}
use Rattle.name_map.proofs.Meeting.{double-same}
use Rattle.name_map.proofs.build.check_distinct.Goals as goal

pub returns-in_err-check_own_names-clause-double : goal.returns-in_err-check_own_names-clause-double
returns-in_err-check_own_names-clause-double c = λ e distinct.
    let fault = double-same c.from_residual.result c.in_err-check_own_names.field-0.0 c.from_residual.ensures.1 e in
    c.in_err-check_own_names.ensures.double (ap Err fault)
    (own-double [] (payload_of c.args.batch.now) (knowns_of c.known.result) (lent_names c.other_names-others.result) c.known.ensures.known c.other_names-others.ensures.names distinct)

pub returns-clause-ok : goal.returns-clause-ok
returns-clause-ok c =
    let ks = knowns_of c.known.result in
    let os = lent_names c.other_names-others.result in
    subst (λ (z : List Name). AreDistinct z) c.other_names-others.ensures.names
    (distinct-right (map (λ (k : Known). k.name) ks) os (subst (λ (z : List Name). AreDistinct z) (own-names ks os) c.in_ok-check_own_names.ensures.ok))
