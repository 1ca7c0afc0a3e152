use Rattle.std.proofs.Common.{◌+◌, ◌++◌, ◌∷◌, [], ℕ, length, ap, sym, ◌∙◌, arith}
use Rattle.batch_codec.specs.Payload.{Known}
use Rattle.batch_codec.specs.Lent.{payload_of}
use Rattle.name_map.specs.declared.build.OtherNames.{OtherNames}
use Rattle.name_map.specs.Part.{PlainPart}
use Rattle.name_map.specs.Map.{part_of}
use Rattle.name_map.specs.Adding.{placed}
use Rattle.name_map.specs.Build.{PlainNames, others_of}
use Rattle.name_map.proofs.More.{batch-start, batch-room, batch-counts, part-is}
use Rattle.name_map.proofs.Building.{build-more}
use Rattle.name_map.proofs.build.MapBuild.add_batch.Goals as goal

pub overflow_add-at : goal.overflow_add-at
overflow_add-at c =
    let room = batch-room c.args.at c.args.batch.now c.start.result c.is_payload.ensures.places c.is_payload.ensures.payload c.requires.room (c.start.ensures ∙ c.known-known.ensures.start) in
    omega (arith, room)

pub of_batch-requires-clause-places : goal.of_batch-requires-clause-places
of_batch-requires-clause-places c = batch-room c.args.at c.args.batch.now c.start.result c.is_payload.ensures.places c.is_payload.ensures.payload c.requires.room (c.start.ensures ∙ c.known-known.ensures.start)

pub of_batch-requires-clause-counts : goal.of_batch-requires-clause-counts
of_batch-requires-clause-counts c =
    let p = payload_of c.args.batch.now in
    let most = c.is_payload.ensures.payload.counts.master in
    let counts = batch-counts p c.self.inside.known c.self.inside.masters c.is_payload.ensures.payload c.self.invariant (c.requires.follows ∙ sym (ap (λ (m : PlainNames). m.masters) c.self.view_is)) in
    omega (arith, most, counts)

pub invariant_of-self-2 : goal.invariant_of-self-2
invariant_of-self-2 c =
    let p = payload_of c.args.batch.now in
    let counts = batch-counts p c.self.inside.known c.self.inside.masters c.is_payload.ensures.payload c.self.invariant (c.requires.follows ∙ sym (ap (λ (m : PlainNames). m.masters) c.self.view_is)) in
    let after = c.after-self-inside.ensures in let from = c.from.ensures in let len = c.len.ensures in
    let size = ap (length {A = Known}) c.known-known.ensures.known in
    omega (arith, counts, after, from, len, size)

pub returns-clause-added : goal.returns-clause-added
returns-clause-added c = λ added is.
    let b = c.args.batch.now in
    let p = payload_of b in
    let a = placed c.args.at b in
    let view = c.self.view_is in
    let start = batch-start b c.start.result c.is_payload.ensures.places (c.start.ensures ∙ c.known-known.ensures.start) in
    let rank = ap (λ (m : PlainNames). m.known) view in
    let part = c.in_ok-part.ensures ∙ part-is c.self.inside.known (c.args.at + c.start.result) a (ap (λ (n : ℕ). c.args.at + n) start) ∙ ap (λ (n : ℕ). part_of n a) rank in
    let parts = c.in_ok-push_part.ensures.pushed ∙ ap (λ (m : PlainNames). m.parts ++ c.in_ok-part.part ∷ []) view ∙ ap (λ (q : PlainPart). c.args.self.now.parts ++ q ∷ []) part in
    let others = c.in_ok-push_others.ensures
    ∙ ap (λ (o : OtherNames). c.self.inside.others.items ++ o ∷ []) c.other_names_of.ensures
    ∙ ap (λ (m : PlainNames). m.others ++ others_of a ∷ []) view in
    let size = ap (length {A = Known}) c.known-known.ensures.known in
    let from = c.from.ensures in let len = c.len.ensures in
    let new : PlainNames = record { parts = c.push_part.new.parts.items; others = c.push_others.new.others.items; masters = c.after-self-inside.result; known = c.self.inside.known + c.from.result } in
    build-more c.args.self.now new added a is c.is_payload.ensures.payload c.requires.follows parts others c.after-self-inside.ensures (omega (arith, rank, from, len, size)) c.in_ok-check_distinct.ensures.ok
