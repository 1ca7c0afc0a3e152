use Rattle.std.proofs.Common.{◌∙◌, ◌++◌, ◌+◌, subst, take, map}
use Rattle.assign_ids.proofs.NumberLemmas.{below-at}
use Rattle.batch_codec.specs.Building.{IsBuilt}
use Rattle.change_rules.specs.Change.{known_from}
use Rattle.change_parts.specs.Moves.{name_at}
use Rattle.flush_plan.proofs.Emitting.{known-more}
use Rattle.flush_plan.proofs.building.add_known.Goals as goal

pub at-requires : goal.at-requires
at-requires c = below-at (c.args.names.now.count + c.args.names.now.more) c.args.numbers.now c.numbers.i c.numbers-test.true c.requires.names

pub numbers-preserved : goal.numbers-preserved
numbers-preserved c =
    let name = name_at (c.args.names.now.stored.now ++ c.args.names.now.pending.now) in record {
      built = λ p is.
          subst (λ l. IsBuilt c.known.new.self (record p { known = l }))
          (known-more p.known c.args.first name c.args.numbers.now c.numbers.i _ _ c.numbers-test.true c.master.ensures (c.to_name-name.ensures ∙ c.at.ensures))
          (c.in_ok-known.ensures.ok (record p { known = p.known ++ known_from c.args.first (map name (take c.numbers.i c.args.numbers.now)) }) (c.numbers.invariant.built p is));
      count = c.known.ensures.count ∙ c.numbers.invariant.count;
    }
