use Rattle.std.proofs.Common.{◌^◌, None, Some, map, sym, subst, ◌∙◌, arith}
use Rattle.id_groups.specs.Lists.{IsIn}
use Rattle.commit_graph.specs.World.{with_pending}
use Rattle.batch_codec.specs.Payload.{Known}
use Rattle.name_map.specs.Added.{payloads_of}
use Rattle.name_map.specs.Map.{IsIdOf}
use Rattle.payload_tables.specs.Pending.{FindsRow}
use Rattle.payload_tables.specs.Bases.{held_row, stored_in}
use Rattle.store_plans.proofs.StoredNames.{stored-are, found-stored, found-pending, has-to-ask, found-nowhere, not-stored, not-pending}
use Rattle.store_plans.proofs.Looked.{looks-there, looks-lazy, some-is-none}
use Rattle.store_plans.proofs.lookup.find.Goals as goal

pub returns-in-Some-clause-looks : goal.returns-in-Some-clause-looks
returns-in-Some-clause-looks g c = λ added w rows h.
    let s = h.sees in
    let f = c.in-Some.ensures (map (held_row (with_pending w rows)) rows) s.pending_rows.held in
    looks-there (payloads_of added) w rows c.args.name.now (Some c.other.result) _ c.args.cache.now
    (found-pending added w s.stand rows s.view.world c.args.name.now c.in-Some.k c.other.result
    (subst (λ n. FindsRow (map (held_row (with_pending w rows)) rows) n (Some c.in-Some.k)) c.lend.ensures f)
    (let a = c.other.ensures in let b = c.first.ensures in let d = c.from.ensures in let e = s.pending_rows.first in omega (arith, a, b, d, e)))
    (λ e. absurd (some-is-none e))

pub returns-in-Some-id-clause-looks : goal.returns-in-Some-id-clause-looks
returns-in-Some-id-clause-looks g c = λ added w rows h.
    let s = h.sees in
    let i = c.in-Some-id.ensures added s.base_of in
    looks-there (payloads_of added) w rows c.args.name.now (Some c.in-Some-id.id) _ c.args.cache.now
    (found-stored added w s.stand rows s.view.world c.args.name.now c.in-Some-id.id (subst (λ n. IsIn {X = Known} (record { id = c.in-Some-id.id; name = n }) (stored_in added)) c.lend-2.ensures i.1))
    (λ e. absurd (some-is-none e))

pub returns-then-not-seen-clause-looks : goal.returns-then-not-seen-clause-looks
returns-then-not-seen-clause-looks g c = λ added w rows h.
    let s = h.sees in
    looks-there (payloads_of added) w rows c.args.name.now None _ c.args.cache.now
    (found-nowhere added w s.stand rows s.view.world c.args.name.now
    (not-stored c.args.seen.now.base added s.base_of c.args.name.now (subst (λ n. IsIdOf (stored_in added) n (2 ^ 57) None) c.lend-2.ensures (c.in_default-id.ensures added s.base_of)))
    (subst (λ n. FindsRow (map (held_row (with_pending w rows)) rows) n None) c.lend.ensures (c.in_default.ensures (map (held_row (with_pending w rows)) rows) s.pending_rows.held))
    (sym h.unnamed ∙ c.if-not-seen.true))
    (λ e. (
      (λ i. not-stored c.args.seen.now.base added s.base_of c.args.name.now (subst (λ n. IsIdOf (stored_in added) n (2 ^ 57) None) c.lend-2.ensures (c.in_default-id.ensures added s.base_of)) (subst (IsIn c.args.name.now) (stored-are added w s.stand) i)),
      not-pending added w s.stand rows s.view.world c.args.name.now (subst (λ n. FindsRow (map (held_row (with_pending w rows)) rows) n None) c.lend.ensures (c.in_default.ensures (map (held_row (with_pending w rows)) rows) s.pending_rows.held)),
    ))

pub returns-clause-looks : goal.returns-clause-looks
returns-clause-looks g c = λ added w rows h.
    let s = h.sees in
    let some = sym h.unnamed ∙ c.if-not-seen.false in
    let out = not-stored c.args.seen.now.base added s.base_of c.args.name.now (subst (λ n. IsIdOf (stored_in added) n (2 ^ 57) None) c.lend-2.ensures (c.in_default-id.ensures added s.base_of)) in
    let row = subst (λ n. FindsRow (map (held_row (with_pending w rows)) rows) n None) c.lend.ensures (c.in_default.ensures (map (held_row (with_pending w rows)) rows) s.pending_rows.held) in
    looks-lazy added w s.stand rows c.args.name.now out
    (has-to-ask added w s.stand rows s.view.world c.args.name.now out row some)
    (not-pending added w s.stand rows s.view.world c.args.name.now row) _ _ c.args.cache.now c.ask_name.new.cache c.ask_name.result
    (c.ask_name.ensures.asked added w rows h some out)
