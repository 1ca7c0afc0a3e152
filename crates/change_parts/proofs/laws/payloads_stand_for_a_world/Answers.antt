use Rattle.std.proofs.Common.{[], zero-le}
use Rattle.change_parts.proofs.Invented.{some-world}
use Rattle.change_parts.proofs.laws.payloads_stand_for_a_world.Goals as goal

pub returns : goal.returns
returns c = λ payloads lawful.
    let s = some-world payloads lawful [] (record { parents = tt; distinct = tt; whole = tt; few = zero-le; new = λ x i. absurd i }) in
    (s.of_world, s.named, s.stand)
