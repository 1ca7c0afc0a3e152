use Rattle.std.proofs.Common.{◌≡◌, ◌<◌, ◌^◌, length, ap, subst, arith}
use Rattle.remote_rules.specs.CloneData.{KnownName}
use Rattle.remote_serve.specs.Telling.{IsToldName}
use Rattle.remote_serve.proofs.spelling.known_size.Goals as goal

pub returns-clause-size : goal.returns-clause-size
returns-clause-size c =
    let eight = c.number_size.ensures.size in
    let twenty = c.name_size.ensures.size in
    let name = c.name_size.ensures.name.0 in
    let same = ap (λ (k : KnownName). length k.name) c.known.view_is in
    omega (arith, eight, twenty, name, same)

pub returns-clause-told : goal.returns-clause-told
returns-clause-told c = subst IsToldName c.known.view_is (c.number_size.ensures.told, c.name_size.ensures.name)
