use Rattle.std.proofs.Common.{◌≡◌, ◌<◌, ◌∙◌, ℕ, None, sym, subst, arith}
use Rattle.id_groups.specs.Name.{Name}
use Rattle.id_groups.specs.Lists.{IsIn}
use Rattle.batch_codec.specs.Payload.{Known}
use Rattle.name_map.specs.Added.{known_of}
use Rattle.name_map.specs.Map.{IsIdOf}
use Rattle.name_map.proofs.OtherNames.{name-within}
use Rattle.name_map.proofs.Building.{none-of, some-of}
use Rattle.name_map.proofs.build.is_known.Goals as goal

pub returns-in-Some-clause-unknown : goal.returns-in-Some-clause-unknown
returns-in-Some-clause-unknown c = λ added name is stand at no.
    let read : c.in-Some.name.bytes.now ≡ name = c.in-Some.ensures ∙ at.stands in
    subst (λ (n : Name). IsIdOf (known_of added) n c.args.below None) read
    (none-of (known_of added) c.in-Some.name.bytes.now c.args.below c.id.result (c.id.ensures.id added is stand) (sym c.is_some.ensures ∙ no))

pub returns-in-Some-clause-known : goal.returns-in-Some-clause-known
returns-in-Some-clause-known c = λ added name is stand at yes.
    let read : c.in-Some.name.bytes.now ≡ name = c.in-Some.ensures ∙ at.stands in
    subst (λ (n : Name). (id : ℕ) × (id < c.args.below) × IsIn {X = Known} (record { id = id; name = n }) (known_of added)) read
    (some-of (known_of added) c.in-Some.name.bytes.now c.args.below c.id.result (c.id.ensures.id added is stand) (sym c.is_some.ensures ∙ yes))

pub returns-in-None-clause-unknown : goal.returns-in-None-clause-unknown
returns-in-None-clause-unknown c = λ added name is stand at no.
    let within = name-within c.args.bytes.now (record { place = c.args.place; name = name }) at in
    let short = c.in-None.ensures in
    absurd (omega (arith, within, short))
