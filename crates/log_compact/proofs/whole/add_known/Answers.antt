use Rattle.std.proofs.Common.{◌∙◌, ◌++◌, subst, sym, ap, append-nil, arith, refl}
use Rattle.batch_codec.specs.Building.{IsBuilt}
use Rattle.name_map.specs.Added.{known_of}
use Rattle.log_compact.specs.Sections.{known_below, IsKnownOf}
use Rattle.log_compact.proofs.Naming.{built-known, known-all, known-none}
use Rattle.log_compact.proofs.whole.add_known.Goals as goal

pub ids-init : goal.ids-init
ids-init c = record {
  built = λ added is stand within p b. subst (λ l. IsBuilt c.args.build.now (record p { known = l })) (sym (ap (λ l. p.known ++ l) (known-none c.args.count (known_of added) within) ∙ append-nil p.known)) b;
  count = refl;
}

pub returns-in_err-add_name-clause-count : goal.returns-in_err-add_name-clause-count
returns-in_err-add_name-clause-count c = c.add_name.ensures.count ∙ c.ids.invariant.count

pub ids-preserved : goal.ids-preserved
ids-preserved c = record {
  built = λ added is stand within p b.
      let found = c.in_ok-add_name.ensures.built added is stand in
      built-known c.add_name.new.build p (known_of added) found.0 c.ids.number c.args.count within (subst (λ id. IsKnownOf (known_of added) id found.0) c.master.ensures found.1)
      (found.2 (record p { known = p.known ++ known_below c.ids.number (known_of added) }) (c.ids.invariant.built added is stand within p b));
  count = c.add_name.ensures.count ∙ c.ids.invariant.count;
}

pub returns-clause-built : goal.returns-clause-built
returns-clause-built c = λ added is stand within p b.
    let t = c.ids-test.false in
    subst (λ l. IsBuilt c.ids.build (record p { known = p.known ++ l })) (known-all c.args.count c.ids.number (known_of added) within (omega (arith, t))) (c.ids.invariant.built added is stand within p b)

pub returns-clause-count : goal.returns-clause-count
returns-clause-count c = c.ids.invariant.count
