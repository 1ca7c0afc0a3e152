use Rattle.std.proofs.Common.{◌∙◌, ◌+◌, ℕ, flat_map, ap, sym, subst, arith, length}
use Rattle.segment_codec.specs.Record.{segment_bytes}
use Rattle.id_groups.specs.Name.{Name}
use Rattle.batch_codec.specs.Lent.{payload_of}
use Rattle.batch_codec.specs.Payload.{others_start, names_start}
use Rattle.payload_tables.specs.declared.others.Parts.{Parts}
use Rattle.flat_segments.specs.Placed.{placed_segments}
use Rattle.flat_segments.specs.Kept.{IsSectionOf}
use Rattle.name_index.specs.Index.{IsIndexOf}
use Rattle.name_map.specs.Added.{names_from}
use Rattle.payload_tables.proofs.Sectioning.{are-others, names-fit}
use Rattle.payload_tables.proofs.others.OthersTable.with_index.Goals as goal

pub overflow_add-at : goal.overflow_add-at
overflow_add-at c =
    let p = payload_of c.args.batch.now in
    let start = c.start.ensures ∙ c.other_segments-segments.ensures.start ∙ c.is_payload.ensures.places.others in
    let fit = names-fit p c.is_payload.ensures.payload in let room = c.requires in omega (arith, start, fit, room)

pub section_of-requires-clause-records : goal.section_of-requires-clause-records
section_of-requires-clause-records c =
    let p = payload_of c.args.batch.now in
    (p.others, are-others p c.bytes.result.now c.is_payload.ensures.payload (c.bytes.ensures ∙ ap (flat_map segment_bytes) c.other_segments-segments.ensures.segments))

pub section_of-requires-clause-place : goal.section_of-requires-clause-place
section_of-requires-clause-place c =
    let p = payload_of c.args.batch.now in
    let start = c.start.ensures ∙ c.other_segments-segments.ensures.start ∙ c.is_payload.ensures.places.others in
    let size = ap (length {A = ℕ}) (c.bytes.ensures ∙ ap (flat_map segment_bytes) c.other_segments-segments.ensures.segments) in
    let fit = names-fit p c.is_payload.ensures.payload in let room = c.requires in omega (arith, start, size, fit, room)

pub overflow_add-start : goal.overflow_add-start
overflow_add-start c =
    let p = payload_of c.args.batch.now in
    let start = c.start-2.ensures ∙ c.other_names-names.ensures.start ∙ c.is_payload.ensures.places.other_names in
    let fit = names-fit p c.is_payload.ensures.payload in let room = c.requires in omega (arith, start, fit, room)

pub returns : goal.returns
returns c = λ indexed.
    let p = payload_of c.args.batch.now in
    let start = c.start.ensures ∙ c.other_segments-segments.ensures.start ∙ c.is_payload.ensures.places.others in
    let start2 = c.start-2.ensures ∙ c.other_names-names.ensures.start ∙ c.is_payload.ensures.places.other_names in
    let names = c.other_names-names.ensures.names in
    record {
      section = subst (λ (q : Parts). IsSectionOf q.section (placed_segments (c.args.at + others_start p) p.others)) (sym c.in_ok-parts.ensures.ok)
          (subst (λ n. IsSectionOf c.in_ok-section.section (placed_segments (c.args.at + n) p.others)) start
          (c.in_ok-section.ensures p.others (are-others p c.bytes.result.now c.is_payload.ensures.payload (c.bytes.ensures ∙ ap (flat_map segment_bytes) c.other_segments-segments.ensures.segments))));
      names = ap (λ n. c.args.at + n) start2;
      count = c.len.ensures ∙ ap (length {A = Name}) names;
      index = subst (λ (q : Parts). IsIndexOf q.index (names_from (c.args.at + names_start p) p.other_names)) (sym c.in_ok-parts.ensures.ok) indexed;
    }
