use Rattle.std.proofs.Common.{◌+◌, ◌++◌, ◌∷◌, [], ℕ, List, length, ap, sym, ◌∙◌, subst, arith}
use Rattle.id_groups.specs.Lists.{AreDistinct}
use Rattle.id_groups.specs.Name.{Name}
use Rattle.batch_codec.specs.Payload.{Known}
use Rattle.batch_codec.specs.Lent.{payload_of, knowns_of}
use Rattle.name_index.specs.Index.{IsIndexOf}
use Rattle.name_map.specs.Part.{PlainPart}
use Rattle.name_map.specs.Added.{named_of, named_from, start_of}
use Rattle.name_map.specs.Map.{PlainMap, part_of}
use Rattle.name_map.specs.Adding.{placed}
use Rattle.name_map.proofs.Standing.{names-stand}
use Rattle.name_map.proofs.More.{batch-start, batch-room, batch-counts, names-with, map-more, part-is, distinct-index}
use Rattle.name_map.proofs.map.NameMap.add_new.Goals as goal

pub overflow_add-at : goal.overflow_add-at
overflow_add-at c =
    let room = batch-room c.args.at c.args.batch.now c.start.result c.is_payload.ensures.places c.is_payload.ensures.payload c.requires.room (c.start.ensures ∙ c.known-known.ensures.start) in
    omega (arith, room)

pub of_batch-requires-clause-places : goal.of_batch-requires-clause-places
of_batch-requires-clause-places c = batch-room c.args.at c.args.batch.now c.start.result c.is_payload.ensures.places c.is_payload.ensures.payload c.requires.room (c.start.ensures ∙ c.known-known.ensures.start)

pub of_batch-requires-clause-counts : goal.of_batch-requires-clause-counts
of_batch-requires-clause-counts c =
    let p = payload_of c.args.batch.now in
    let most = c.is_payload.ensures.payload.counts.master in
    let counts = batch-counts p c.self.inside.known c.self.inside.masters c.is_payload.ensures.payload c.self.invariant (c.requires.follows ∙ sym (ap (λ (m : PlainMap). m.masters) c.self.view_is)) in
    omega (arith, most, counts)

pub invariant_of-self-2 : goal.invariant_of-self-2
invariant_of-self-2 c =
    let p = payload_of c.args.batch.now in
    let counts = batch-counts p c.self.inside.known c.self.inside.masters c.is_payload.ensures.payload c.self.invariant (c.requires.follows ∙ sym (ap (λ (m : PlainMap). m.masters) c.self.view_is)) in
    let after = c.after-self-inside.ensures in let from = c.from.ensures in let len = c.len.ensures in
    let size = ap (length {A = Known}) c.known-known.ensures.known in
    omega (arith, counts, after, from, len, size)

pub returns-clause-added : goal.returns-clause-added
returns-clause-added c = λ added is stand distinct.
    let b = c.args.batch.now in
    let p = payload_of b in
    let a = placed c.args.at b in
    let view = c.self.view_is in
    let before = subst (λ (m : PlainMap). IsIndexOf m.index (named_of added)) (sym view) is.index in
    let standing = names-stand c.args.bytes.now added is.follow stand in
    let start = batch-start b c.start.result c.is_payload.ensures.places (c.start.ensures ∙ c.known-known.ensures.start) in
    let rank = ap (λ (m : PlainMap). m.known) view in
    let part = c.in_ok-part.ensures ∙ part-is c.self.inside.known (c.args.at + c.start.result) a (ap (λ (n : ℕ). c.args.at + n) start) ∙ ap (λ (n : ℕ). part_of n a) rank in
    let parts =
    c.in_ok-add_new_part.ensures.part ∙ ap (λ (m : PlainMap). m.parts ++ c.in_ok-part.part ∷ []) view ∙ ap (λ (q : PlainPart). c.args.self.now.parts ++ q ∷ []) part in
    let index = c.in_ok-add_new_part.ensures.index (named_of added) before standing
    (distinct-index (named_of added) c.in_ok-part.part.start (knowns_of c.known-known.result) p c.known-known.ensures.known (subst (λ (z : List Name). AreDistinct z) (names-with added p) distinct)) in
    let moved = subst (λ (n : ℕ). IsIndexOf c.add_new_part.new.index (named_of added ++ named_from n (knowns_of c.known-known.result))) (ap (λ (q : PlainPart). q.start) part) index in
    let whole = subst (λ (ks : List Known). IsIndexOf c.add_new_part.new.index (named_of added ++ named_from (start_of a) ks)) c.known-known.ensures.known moved in
    let size = ap (length {A = Known}) c.known-known.ensures.known in
    let from = c.from.ensures in let len = c.len.ensures in
    let new : PlainMap = record { parts = c.add_new_part.new.parts.items; index = c.add_new_part.new.index; masters = c.after-self-inside.result; known = c.self.inside.known + c.from.result } in
    map-more c.args.self.now new added a is c.is_payload.ensures.payload c.requires.follows parts whole c.after-self-inside.ensures (omega (arith, rank, from, len, size))
