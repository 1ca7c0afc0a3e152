use Rattle.std.proofs.Common.{map, ap, subst, ◌∙◌, arith, refl, Err}
use Rattle.std.proofs.lemmas.Grind.{common_steps}
use Rattle.std.specs.Prelude.{⊤}
use Rattle.mirror_set.specs.Fresh.{IsPulledFrom, IsItsFresh, GivesFresh, GaveBroken, GaveFew}
use Rattle.mirror_set.proofs.Turns.{answered-by, turned-more, turned-items}
use Rattle.mirror_set.proofs.asking.ask_fresh.Goals as goal

pub returns-in-Ok-clause-asked : goal.returns-in-Ok-clause-asked
returns-in-Ok-clause-asked g c =
    let a = c.in-Ok.ensures.pulled in
    answered-by (IsPulledFrom c.args.from) (IsItsFresh c.args.from c.in-Ok.fresh) _ _ _ _ a.first a.next a.rest c.turns.invariant.turned (grind (arith, common_steps)) a.was a.is a.left a.gives

pub returns-in-Err-BadClone-clause-asked : goal.returns-in-Err-BadClone-clause-asked
returns-in-Err-BadClone-clause-asked g c =
    let a = c.in-Err-BadClone.ensures.pulled in
    answered-by (IsPulledFrom c.args.from) (GaveBroken c.in-Err-BadClone.at) _ _ _ _ a.first a.next a.rest c.turns.invariant.turned (grind (arith, common_steps)) a.was a.is a.left (subst (λ f. GivesFresh c.args.from a.first a.next (Err f)) c.in-Err-BadClone.field-0-is a.gives)

pub returns-in-Err-BadNames-clause-asked : goal.returns-in-Err-BadNames-clause-asked
returns-in-Err-BadNames-clause-asked g c =
    let a = c.in-Err-BadNames.ensures.pulled in
    answered-by (IsPulledFrom c.args.from) (GaveFew c.in-Err-BadNames.asked c.in-Err-BadNames.given) _ _ _ _ a.first a.next a.rest c.turns.invariant.turned (grind (arith, common_steps)) a.was a.is a.left (subst (λ f. GivesFresh c.args.from a.first a.next (Err f)) c.in-Err-BadNames.field-0-is a.gives)

pub returns-in-Err-Memory-clause-asked : goal.returns-in-Err-Memory-clause-asked
returns-in-Err-Memory-clause-asked g c =
    let a = c.in-Err-Memory.ensures.pulled in
    answered-by (IsPulledFrom c.args.from) (λ _. ⊤) _ _ _ _ a.first a.next a.rest c.turns.invariant.turned (grind (arith, common_steps)) a.was a.is a.left tt

pub turns-preserved : goal.turns-preserved
turns-preserved g c =
    let a = c.in-Err-Failed.ensures.pulled in
    record {
      turned = turned-more (IsPulledFrom c.args.from) _ _ _ _ _ a.first a.next a.rest c.turns.invariant.turned (grind (arith, common_steps)) a.was a.is a.left
          (subst (λ f. GivesFresh c.args.from a.first a.next (Err f)) c.in-Err-Failed.field-0-is a.gives) (ap (map g.R.Remote.shown) c.rotate_left.ensures.items ∙ turned-items g.R.Remote.shown _);
      same_len = grind (arith, common_steps);
      same_out = refl;
    }
