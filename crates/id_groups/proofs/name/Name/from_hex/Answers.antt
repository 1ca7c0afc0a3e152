use Rattle.std.proofs.Common.{refl, ap}
use Rattle.id_groups.specs.Name.{name_of, decoded}
use Rattle.hex.proofs.HexLemmas.{IsOk-decode_sized}
use Rattle.id_groups.proofs.name.Name.from_hex.Goals as goal

pub returns-in-Ok-clause-found : goal.returns-in-Ok-clause-found
returns-in-Ok-clause-found c =
    let digits = IsOk-decode_sized c.args.text.now 20 in
    (λ _. digits.0 (rw (← c.in-Ok.ensures) refl), λ _. refl)

pub returns-in-Err-clause-found : goal.returns-in-Err-clause-found
returns-in-Err-clause-found c =
    let digits = IsOk-decode_sized c.args.text.now 20 in
    (λ h. cc h, λ h. rw (← c.in-Err.ensures) at (digits.1 h))

pub returns-in-Ok-clause-name : goal.returns-in-Ok-clause-name
unfolding name_of
returns-in-Ok-clause-name c = ap decoded c.in-Ok.ensures

pub returns-in-Err-clause-name : goal.returns-in-Err-clause-name
unfolding name_of
returns-in-Err-clause-name c = ap decoded c.in-Err.ensures
