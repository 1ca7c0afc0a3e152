use Rattle.std.proofs.Common.{◌∙◌, ◌++◌, take, subst, arith}
use Rattle.std.proofs.lemmas.List.{take_all}
use Rattle.batch_codec.specs.Building.{IsBuilt}
use Rattle.log_compact.proofs.Naming.{built-name}
use Rattle.log_compact.proofs.whole.add_other_names.Goals as goal

pub names-preserved : goal.names-preserved
names-preserved c = record {
  built = λ list e whole n p b.
      let t = c.names-test.true in
      built-name c.other_name.new.self p c.args.names.now list c.names.i c.to_name-name.result e whole (omega (arith, t, n)) (c.to_name-name.ensures ∙ c.piece.ensures)
      (c.in_ok-other_name.ensures.ok (record p { other_names = p.other_names ++ take c.names.i list }) (c.names.invariant.built list e whole n p b));
  count = c.other_name.ensures.count ∙ c.names.invariant.count;
}

pub returns-clause-built : goal.returns-clause-built
returns-clause-built c = λ list e whole n p b.
    let t = c.names-test.false in
    subst (λ l. IsBuilt c.names.build (record p { other_names = p.other_names ++ l })) (take_all c.names.i list (omega (arith, t, n))) (c.names.invariant.built list e whole n p b)
