use Rattle.std.proofs.Common.{◌<◌, ℕ, [], None, get_or, ap, subst, arith}
use Rattle.name_map.specs.declared.build.OtherNames.{OtherNames}
use Rattle.name_map.specs.Added.{known_of}
use Rattle.name_map.specs.Map.{IsIdOf}
use Rattle.name_map.proofs.OtherNames.{other-there}
use Rattle.name_map.proofs.Building.{in-at, unknown-more, unknown-all}
use Rattle.name_map.proofs.build.has_known.Goals as goal

pub returns-then-is_known-clause-met : goal.returns-then-is_known-clause-met
returns-then-is_known-clause-met c = λ added a is stand here h e _.
    let names = a.payload.other_names in
    let there = other-there c.args.bytes.now a c.args.others.now c.names.i c.place_of_name-place.result h here e c.names-test.true c.place_of_name-place.ensures in
    let k = c.is_known.ensures.known added (get_or names c.names.i []) is stand there c.if-is_known.true in
    let count = ap (λ (o : OtherNames). o.count) e in
    let lt = c.names-test.true in
    record {
      name = get_or names c.names.i [];
      other = in-at names c.names.i (omega (arith, lt, count));
      id = k.0;
      below = subst (λ (n : ℕ). k.0 < n) (ap (λ (o : OtherNames). o.after) e) k.1;
      is_known = k.2;
    }

pub names-preserved : goal.names-preserved
names-preserved c = λ added a is stand here h e.
    let names = a.payload.other_names in
    let there = other-there c.args.bytes.now a c.args.others.now c.names.i c.place_of_name-place.result h here e c.names-test.true c.place_of_name-place.ensures in
    let none = c.is_known.ensures.unknown added (get_or names c.names.i []) is stand there c.if-is_known.false in
    unknown-more (known_of added) names a.payload.after c.names.i (c.names.invariant added a is stand here h e)
    (subst (λ (n : ℕ). IsIdOf (known_of added) (get_or names c.names.i []) n None) (ap (λ (o : OtherNames). o.after) e) none)

pub returns-clause-unknown : goal.returns-clause-unknown
returns-clause-unknown c = λ added a is stand here h e _.
    unknown-all (known_of added) a c.args.others.now.count c.names.i (ap (λ (o : OtherNames). o.count) e) c.names-test.false (c.names.invariant added a is stand here h e)
