use Rattle.std.proofs.Common.{◌∙◌, ◌+◌, ◌^◌, ◌++◌, [], ℕ, List, length, map, flat_map, get_or, refl, sym, subst, ap, arith}
use Rattle.std.specs.List.{AllByRecursion}
use Rattle.id_groups.specs.Id.{other_id}
use Rattle.segment_codec.specs.Record.{IsSegment, segment_bytes}
use Rattle.segment_codec.specs.Table.{parents_at}
use Rattle.batch_codec.specs.Building.{IsBuilt, empty_payload}
use Rattle.assign_ids.specs.Numbers.{AreBelow}
use Rattle.change_parts.specs.Flat.{Span, flat_segments}
use Rattle.change_parts.specs.Moves.{flat_record, new_id, rest_of, name_at, moved_parents, change_in}
use Rattle.change_parts.specs.Rows.{AreRowsBelow}
use Rattle.change_parts.proofs.Marking.{rest-below, rest-short}
use Rattle.change_parts.proofs.RowLemmas.{table-below}
use Rattle.change_parts.proofs.Whole.{segments-only, sections, sections-are, spans-of}
use Rattle.name_map.specs.Added.{payloads_of}
use Rattle.change_rules.specs.Lawful.{levels_with}
use Rattle.change_parts.proofs.LevelRecords.{brings-behind}
use Rattle.flush_plan.proofs.building.add_change.Goals as goal

pub add_sections-requires-clause-rows : goal.add_sections-requires-clause-rows
add_sections-requires-clause-rows c =
    let n = c.args.names.now.count + c.args.names.now.more in
    let flats = c.requires.payload.0 in
    let lawful = c.requires.payload.1 in
    let graph_is = c.requires.payload.2 in
    let order = c.args.moved.now.order.now in
    subst (λ m. AreRowsBelow m c.args.graph.now) (sym (ap (length {A = ℕ}) c.deref.ensures.value ∙ c.in_ok-ids.ensures.len)) (subst (AreRowsBelow n) (sym graph_is) (table-below flats lawful n))

pub add_sections-requires-clause-rest : goal.add_sections-requires-clause-rest
add_sections-requires-clause-rest c =
    let n = c.args.names.now.count + c.args.names.now.more in
    subst (AreBelow n) (sym c.requires.rest) (rest-below n c.args.moved.now.order.now)

pub add_sections-requires-clause-few : goal.add_sections-requires-clause-few
add_sections-requires-clause-few c =
    let n = c.args.names.now.count + c.args.names.now.more in
    let short = rest-short n c.args.moved.now.order.now in let e = ap (length {A = ℕ}) c.requires.rest in let few = c.requires.numbers in omega (arith, short, e, few)

pub add_sections-requires-clause-master : goal.add_sections-requires-clause-master
add_sections-requires-clause-master c =
    let n = c.args.names.now.count + c.args.names.now.more in
    let flats = c.requires.payload.0 in
    let lawful = c.requires.payload.1 in
    let graph_is = c.requires.payload.2 in
    let order = c.args.moved.now.order.now in
    subst (λ (l : List Span). AllByRecursion (λ (s : Span). IsSegment (flat_record s)) l)
    (sym (spans-of flats lawful c.args.graph.now c.in_ok-ids.ids.items c.deref.result.now c.args.moved.now.before n c.args.moved.now.before order order graph_is c.in_ok-ids.ensures.ids c.requires.order c.deref.ensures.value))
    (segments-only (flat_segments c.args.moved.now.before (moved_parents c.args.moved.now.before n order (λ k. parents_at flats (other_id k)) order)) c.requires.payload.6.whole.cover.flat_master)

pub add_sections-requires-clause-others : goal.add_sections-requires-clause-others
add_sections-requires-clause-others c =
    let n = c.args.names.now.count + c.args.names.now.more in
    let flats = c.requires.payload.0 in
    let lawful = c.requires.payload.1 in
    let graph_is = c.requires.payload.2 in
    let order = c.args.moved.now.order.now in
    subst (λ (l : List Span). AllByRecursion (λ (s : Span). IsSegment (flat_record s)) l)
    (sym (spans-of flats lawful c.args.graph.now c.in_ok-ids.ids.items c.deref.result.now c.args.moved.now.before n (2 ^ 56) order c.args.moved.now.rest.now graph_is c.in_ok-ids.ensures.ids (subst (AreBelow n) (sym c.requires.rest) (rest-below n order)) c.deref.ensures.value
    ∙ ap (λ l. flat_segments (2 ^ 56) (moved_parents c.args.moved.now.before n order (λ k. parents_at flats (other_id k)) l)) c.requires.rest))
    (segments-only (flat_segments (2 ^ 56) (moved_parents c.args.moved.now.before n order (λ k. parents_at flats (other_id k)) (rest_of n order))) c.requires.payload.6.whole.cover.flat_others)

pub add_levels-requires : goal.add_levels-requires
add_levels-requires c =
    let n = c.args.names.now.count + c.args.names.now.more in
    let r = c.requires.payload in
    let order = c.args.moved.now.order.now in
    let bytes = c.args.names.now.stored.now ++ c.args.names.now.pending.now in
    let before = c.args.moved.now.before in
    let built = c.in_ok-add_sections.ensures.built (empty_payload 1 before (before + length order) 0) c.requires.build in
    let masters_are = spans-of r.0 r.1 c.args.graph.now c.in_ok-ids.ids.items c.deref.result.now before n before order order r.2 c.in_ok-ids.ensures.ids c.requires.order c.deref.ensures.value in (
      r.3,
      change_in r.0 bytes before n order,
      brings-behind c.args.tables.now c.args.bytes.now c.add_sections.new.build.master r.3 (change_in r.0 bytes before n order) r.4 r.5 r.6.whole r.6.count
          (built.master ∙ ap (λ (l : List Span). flat_map segment_bytes (map flat_record l)) masters_are),
    )

pub returns-clause-built : goal.returns-clause-built
returns-clause-built c = λ flats added lawful graph_is tables_of stand follows.
    let n = c.args.names.now.count + c.args.names.now.more in
    let order = c.args.moved.now.order.now in
    let rest = c.args.moved.now.rest.now in
    let bytes = c.args.names.now.stored.now ++ c.args.names.now.pending.now in
    let before = c.args.moved.now.before in
    let after = before + length order in
    let change = change_in flats bytes before n order in
    let masters = flat_segments before (map (λ k. map (new_id c.deref.result.now) (get_or c.args.graph.now k [])) order) in
    let others = flat_segments (2 ^ 56) (map (λ k. map (new_id c.deref.result.now) (get_or c.args.graph.now k [])) rest) in
    let masters_are = spans-of flats lawful c.args.graph.now c.in_ok-ids.ids.items c.deref.result.now before n before order order graph_is c.in_ok-ids.ensures.ids c.requires.order c.deref.ensures.value in
    let others_are = spans-of flats lawful c.args.graph.now c.in_ok-ids.ids.items c.deref.result.now before n (2 ^ 56) order rest graph_is c.in_ok-ids.ensures.ids (subst (AreBelow n) (sym c.requires.rest) (rest-below n order)) c.deref.ensures.value
    ∙ ap (λ l. flat_segments (2 ^ 56) (moved_parents before n order (λ k. parents_at flats (other_id k)) l)) c.requires.rest in
    let sectioned : IsBuilt c.add_sections.new.build (sections before after masters [] (map (name_at bytes) order) others (map (name_at bytes) rest)) =
    c.in_ok-add_sections.ensures.built (empty_payload 1 before after 0) c.requires.build in
    let brings = brings-behind c.args.tables.now c.args.bytes.now c.add_sections.new.build.master added change tables_of stand follows.whole follows.count
    (sectioned.master ∙ ap (λ (l : List Span). flat_map segment_bytes (map flat_record l)) masters_are) in
    let built = c.in_ok-add_levels.ensures.built added change (sections before after masters [] (map (name_at bytes) order) others (map (name_at bytes) rest)) brings sectioned in
    subst (IsBuilt c.add_levels.new.build)
    (sections-are flats bytes before n order rest after masters others (levels_with (payloads_of added) change) refl masters_are others_are c.requires.rest (sym (follows.levels refl))) built

pub returns-clause-count : goal.returns-clause-count
returns-clause-count c = c.add_levels.ensures.count ∙ c.in_ok-add_sections.ensures.count
