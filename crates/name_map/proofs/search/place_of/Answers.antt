use Rattle.std.proofs.Common.{sym, subst}
use Rattle.name_map.specs.Found.{IsPlaceOf}
use Rattle.name_map.proofs.Answers.{none-above, place-for}
use Rattle.name_map.proofs.search.place_of.Goals as goal

pub returns-in_err-part_for : goal.returns-in_err-part_for
returns-in_err-part_for c = λ added follow is.
    subst (IsPlaceOf added c.args.number) (sym c.from_residual.ensures) (none-above c.args.number added follow (c.in_err-part_for.ensures added follow is))

pub returns : goal.returns
returns c = λ added follow is. place-for c.args.number added c.in_ok-part_for.field-0.now follow (c.in_ok-part_for.ensures added follow is) c.place.result c.place.ensures
