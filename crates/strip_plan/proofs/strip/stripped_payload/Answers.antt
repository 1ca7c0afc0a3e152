use Rattle.std.proofs.Common.{◌≡◌, ◌+◌, ◌^◌, [], ◌++◌, ◌∙◌, ℕ, List, map, get_or, sym, subst}
use Rattle.std.proofs.lemmas.List.{length-map}
use Rattle.std.proofs.lemmas.Result.{IfOk-weaker}
use Rattle.batch_codec.specs.Payload.{payload_bytes}
use Rattle.batch_codec.specs.Building.{IsBuilt, empty_payload}
use Rattle.change_parts.specs.Flat.{flat_segments}
use Rattle.change_parts.specs.Moves.{new_id, name_at}
use Rattle.strip_plan.specs.Stripping.{AreKeptIds, strip_payload}
use Rattle.change_parts.proofs.Whole.{segments-only}
use Rattle.strip_plan.proofs.strip.stripped_payload.Goals as goal

pub add_lent_section-requires-clause-records : goal.add_lent_section-requires-clause-records
add_lent_section-requires-clause-records c =
    let n = c.args.names.now.count + c.args.names.now.more in
    let are = subst (AreKeptIds n c.args.kept.now) (sym c.deref.ensures.value) c.in_ok-ids.ensures in
    segments-only (flat_segments (2 ^ 56) (map (λ k. map (new_id c.deref.result.now) (get_or c.args.graph.now k [])) c.args.kept.now)) (c.requires.payload c.deref.result.now are).cover.flat_others

pub finish-requires : goal.finish-requires
finish-requires c =
    let n = c.args.names.now.count + c.args.names.now.more in
    let names = c.args.names.now.stored.now ++ c.args.names.now.pending.now in
    let before = c.args.before in
    let are = subst (AreKeptIds n c.args.kept.now) (sym c.deref.ensures.value) c.in_ok-ids.ensures in
    let built : IsBuilt c.add_lent_section.new.build (strip_payload c.deref.result.now c.args.graph.now names before c.args.kept.now) =
    c.in_ok-add_lent_section.ensures.built (empty_payload 1 before before 0) c.in_ok-build.ensures.built in
    let count = c.in_ok-add_lent_section.ensures.count ∙ sym (length-map c.args.kept.now (name_at names)) in
    (strip_payload c.deref.result.now c.args.graph.now names before c.args.kept.now, c.requires.payload c.deref.result.now are, built, count)

pub returns : goal.returns
returns c =
    let n = c.args.names.now.count + c.args.names.now.more in
    let names = c.args.names.now.stored.now ++ c.args.names.now.pending.now in
    let before = c.args.before in
    let are = subst (AreKeptIds n c.args.kept.now) (sym c.deref.ensures.value) c.in_ok-ids.ensures in
    let change = strip_payload c.deref.result.now c.args.graph.now names before c.args.kept.now in
    let built : IsBuilt c.add_lent_section.new.build change = c.in_ok-add_lent_section.ensures.built (empty_payload 1 before before 0) c.in_ok-build.ensures.built in
    let count = c.in_ok-add_lent_section.ensures.count ∙ sym (length-map c.args.kept.now (name_at names)) in
    IfOk-weaker c.finish.result (λ v. v.items ≡ payload_bytes change)
    (λ v. (ids : List ℕ) × AreKeptIds n c.args.kept.now ids × (v.items ≡ payload_bytes (strip_payload ids c.args.graph.now names before c.args.kept.now)))
    (λ v e. (c.deref.result.now, are, e))
    (c.finish.ensures change (c.requires.payload c.deref.result.now are) built count)
