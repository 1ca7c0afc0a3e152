use Rattle.std.proofs.Common.{◌+◌, ℕ, length, ap, ◌∙◌, arith}
use Rattle.id_groups.specs.Name.{Name}
use Rattle.batch_codec.specs.Lent.{payload_of}
use Rattle.name_map.specs.Adding.{placed}
use Rattle.name_map.proofs.OtherNames.{others-room, others-is}
use Rattle.name_map.proofs.build.other_names_of.Goals as goal

pub overflow_add-result : goal.overflow_add-result
overflow_add-result c =
    let start = c.start.ensures ∙ c.other_names-names.ensures.start ∙ c.is_payload.ensures.places.other_names in
    let fit = others-room (payload_of c.args.batch.now) c.is_payload.ensures.payload in
    let room = c.requires in
    omega (arith, start, fit, room)

pub returns : goal.returns
returns c =
    let a = placed c.args.at c.args.batch.now in
    let start = c.start.ensures ∙ c.other_names-names.ensures.start ∙ c.is_payload.ensures.places.other_names in
    others-is a (c.args.at + c.start.result) c.len.result c.after.result (ap (λ (n : ℕ). c.args.at + n) start) (c.len.ensures ∙ ap (length {A = Name}) c.other_names-names.ensures.names) c.after.ensures
