use Rattle.std.proofs.Common.{◌+◌, ◌-◌, ◌∙◌, length, take, drop, arith}
use Rattle.std.proofs.lemmas.Grind.{common_steps}
use Rattle.outside.specs.Parts.{split_at}
use Rattle.command_lines.proofs.NamesLemmas.{stop-word, stop-last, next-word, last-word, name-long, names-spelled, no-names}
use Rattle.command_lines.proofs.command.parse_names.Goals as goal

pub returns-in_default-from_hex-clause-syntax : goal.returns-in_default-from_hex-clause-syntax
returns-in_default-from_hex-clause-syntax c = λ _ names.
    no-names (split_at 32 c.args.text.now)
    (stop-word c.args.text.now c.words.rest.now c.words.names.items c.words.invariant.names c.in-Some.len _ c.in_default-from_hex.ensures.name (grind (arith, common_steps)) c.in-Some.ensures) names

pub words-preserved : goal.words-preserved
words-preserved c =
    let rest = c.words.rest.now in
    let long = name-long _ c.in-Some-from_hex.name c.in-Some-from_hex.ensures.spelled in
    let behind = take (length rest - (c.in-Some.len + 1)) (drop (c.in-Some.len + 1) rest) in
    let few = c.words.invariant.few in
    let one = c.push_reserved.ensures.len in record {
      names =
          next-word c.args.text.now rest c.words.names.items c.words.invariant.names behind c.push_reserved.new.self.items c.in-Some.len _ c.in-Some-from_hex.name c.in-Some-from_hex.ensures.name
          (grind (arith, common_steps)) (grind (arith, common_steps)) c.push_reserved.ensures.items c.in-Some.ensures;
      few = grind (arith, common_steps, long, few, one);
      room = c.push_reserved.ensures.capacity ∙ c.words.invariant.room;
    }

pub push_reserved-requires : goal.push_reserved-requires
push_reserved-requires c =
    let long = name-long _ c.in-Some-from_hex.name c.in-Some-from_hex.ensures.spelled in
    let few = c.words.invariant.few in
    let room = c.words.invariant.room in
    grind (arith, common_steps, long, few, room)

pub push_reserved-requires-2 : goal.push_reserved-requires-2
push_reserved-requires-2 c =
    let long = name-long _ c.in-Some-from_hex-2.name c.in-Some-from_hex-2.ensures.spelled in
    let few = c.words.invariant.few in
    let room = c.words.invariant.room in
    omega (arith, long, few, room)

pub returns-in_default-from_hex-2-clause-syntax : goal.returns-in_default-from_hex-2-clause-syntax
returns-in_default-from_hex-2-clause-syntax c = λ _ names.
    no-names (split_at 32 c.args.text.now)
    (stop-last c.args.text.now c.words.rest.now c.words.names.items c.words.invariant.names c.in_default-from_hex-2.ensures.name c.in_default.ensures) names

pub returns-clause-ok : goal.returns-clause-ok
returns-clause-ok c =
    names-spelled (split_at 32 c.args.text.now) c.push_reserved-2.new.self.items
    (last-word c.args.text.now c.words.rest.now c.words.names.items c.words.invariant.names c.push_reserved-2.new.self.items c.in-Some-from_hex-2.name c.in-Some-from_hex-2.ensures.name c.push_reserved-2.ensures.items c.in_default.ensures)
