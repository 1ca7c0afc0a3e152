use Rattle.std.proofs.Common.{◌++◌, ◌+◌, map, sym, ap, subst, ◌∙◌, append_assoc}
use Rattle.assign_ids.specs.Numbers.{AreBelow}
use Rattle.batch_codec.specs.Building.{IsBuilt}
use Rattle.change_parts.specs.Moves.{name_at}
use Rattle.change_parts.proofs.NamesInTurn.{more-names, below-back}
use Rattle.change_parts.proofs.names.add_other_names.Goals as goal

pub numbers-preserved : goal.numbers-preserved
numbers-preserved c =
    let i = c.numbers.invariant in
    let e = c.in_ok-left.ensures.built in
    let left = c.in_ok-left.left.now in
    let n = c.args.names.now.count + c.args.names.now.more in
    let name = name_at (c.args.names.now.stored.now ++ c.args.names.now.pending.now) in
    record {
      done = i.done ++ e.0;
      parts = i.parts ∙ ap (λ z. i.done ++ z) e.1 ∙ sym (append_assoc i.done e.0 left);
      below = below-back n e.0 left (subst (AreBelow n) e.1 i.below);
      built = λ p is.
          subst (λ l. IsBuilt c.add_names_in_turn.new.build (record p { other_names = l })) (more-names p.other_names name i.done e.0)
          (e.3 (record p { other_names = p.other_names ++ map name i.done }) (i.built p is));
      count = c.add_names_in_turn.ensures.count ∙ i.count;
    }
