use Rattle.std.proofs.Common.{◌≡◌, ◌∙◌, ◌+◌, ◌++◌, ◌∷◌, [], length, refl, ap, sym, subst, arith}
use Rattle.flat_segments.specs.Placed.{placed_segments}
use Rattle.flat_segments.specs.Kept.{IsSectionOf, MayPush}
use Rattle.id_groups.specs.Id.{other_id}
use Rattle.payload_tables.specs.Pending.{segments_from, row_names, HoldsRows, MayPushRow}
use Rattle.payload_tables.proofs.Rows.{row-is-segment, count-rows, may-push, record-behind, holds-more, on-ok-five, names-whole}
use Rattle.payload_tables.specs.contracts.pending.PendingRows.{the_view}
use Rattle.payload_tables.proofs.pending.PendingRows.push_row.Goals as goal

pub segment_of_row-requires : goal.segment_of_row-requires
segment_of_row-requires c =
    let old = the_view c.self.inside in let v : c.args.self.now ≡ old = sym c.self.view_is in let row = subst (λ o. MayPushRow o.first (length o.places) c.args.parents.now) v c.requires.row in
    let h = subst (λ o. HoldsRows o c.requires.rows.0) v c.requires.rows.1 in
    let counted : c.len.result ≡ length old.places = (let l = c.len.ensures in let k = c.self.inside.places.ok.0 in omega (arith, l, k)) in
    let at : c.len-place.result ≡ length old.records = (let l = c.len-place.ensures in let k = c.self.inside.records.ok.0 in omega (arith, l, k)) in
    let number = c.other-id.ensures ∙ ap (λ n. other_id (old.first + n)) counted in (
      c.args.parents.now,
      record {
        whole = row-is-segment c.other-id.result old.first (length old.places) c.args.parents.now number h.room row;
        spelled = c.split_at.ensures.back ∙ record-behind old.records _ c.deref.result.now c.len-place.result at (c.deref.ensures.value ∙ c.in_ok-write_segment.ensures.ok);
      },
    )

pub add_parts-added-requires-clause-segment : goal.add_parts-added-requires-clause-segment
add_parts-added-requires-clause-segment c =
    let old = the_view c.self.inside in let v : c.args.self.now ≡ old = sym c.self.view_is in let row = subst (λ o. MayPushRow o.first (length o.places) c.args.parents.now) v c.requires.row in
    let rows = c.requires.rows.0 in
    let h = subst (λ o. HoldsRows o rows) v c.requires.rows.1 in
    let counted : c.len.result ≡ length old.places = (let l = c.len.ensures in let k = c.self.inside.places.ok.0 in omega (arith, l, k)) in
    let at : c.len-place.result ≡ length old.records = (let l = c.len-place.ensures in let k = c.self.inside.records.ok.0 in omega (arith, l, k)) in
    let number = c.other-id.ensures ∙ ap (λ n. other_id (old.first + n)) counted in
    let whole = row-is-segment c.other-id.result old.first (length old.places) c.args.parents.now number h.room row in
    let same = c.segment_of_row.ensures c.args.parents.now (record {
      whole = whole;
      spelled = c.split_at.ensures.back ∙ record-behind old.records _ c.deref.result.now c.len-place.result at (c.deref.ensures.value ∙ c.in_ok-write_segment.ensures.ok);
    }) in
    subst (MayPush old.section) (sym same) (may-push old.section c.other-id.result old.first rows c.args.parents.now h.section (number ∙ ap (λ n. other_id (old.first + n)) (count-rows old rows h)) whole)

pub returns-else-is_err-clause-pushed : goal.returns-else-is_err-clause-pushed
returns-else-is_err-clause-pushed c = λ rows g told.
    let old = the_view c.self.inside in let v : c.args.self.now ≡ old = sym c.self.view_is in let row = subst (λ o. MayPushRow o.first (length o.places) c.args.parents.now) v c.requires.row in
    let h = subst (λ o. HoldsRows o rows) v g in
    let counted : c.len.result ≡ length old.places = (let l = c.len.ensures in let k = c.self.inside.places.ok.0 in omega (arith, l, k)) in
    let at : c.len-place.result ≡ length old.records = (let l = c.len-place.ensures in let k = c.self.inside.records.ok.0 in omega (arith, l, k)) in
    let number = c.other-id.ensures ∙ ap (λ n. other_id (old.first + n)) counted in
    let whole = row-is-segment c.other-id.result old.first (length old.places) c.args.parents.now number h.room row in
    let same = c.segment_of_row.ensures c.args.parents.now (record {
      whole = whole;
      spelled = c.split_at.ensures.back ∙ record-behind old.records _ c.deref.result.now c.len-place.result at (c.deref.ensures.value ∙ c.in_ok-write_segment.ensures.ok);
    }) in
    let done = placed_segments 0 (segments_from (other_id old.first) rows) in
    let count = count-rows old rows h in
    on-ok-five c.add_parts-added.result c.add_parts-added.ensures.section (c.add_parts-added.ensures.found (row_names rows) h.index h.names (names-whole rows h.whole) told) c.add_parts-added.ensures.names c.add_parts-added.ensures.whole c.add_parts-added.ensures.places
    (λ section found names name places. holds-more old _ rows c.args.pushed.now.name.now c.args.parents.now c.other-id.result c.len-place.result h (record {
      first = refl;
      id_is = number ∙ ap (λ n. other_id (old.first + n)) count;
      place_is = at;
      records = c.in_ok-write_segment.ensures.ok;
      section = subst (λ t. IsSectionOf c.add_parts-added.new.section (done ++ record { place = c.len-place.result; segment = t } ∷ [])) same (section done h.section);
      places = places;
      names = names;
      index = found;
      few = (let r = row.room in omega (arith, r, count));
      whole = name;
    }))
