use Rattle.std.proofs.Common.{◌≡◌, ◌∙◌, ◌<◌, ◌+◌, ◌++◌, refl, ap, sym, subst, length, arith, inl, inr, ℕ, List}
use Rattle.id_groups.specs.Name.{same_name}
use Rattle.commit_graph.specs.World.{with_pending}
use Rattle.name_map.specs.Added.{AllStand}
use Rattle.change_rules.specs.Flush.{flushed}
use Rattle.payload_tables.specs.Kept.{PlainTables, AreTablesOf}
use Rattle.change_rules.specs.declared.Limit.TheVariants.{Log}
use Rattle.change_parts.specs.Moves.{change_in}
use Rattle.change_parts.specs.Plans.{over, length_with}
use Rattle.change_parts.proofs.Refusals.{is-zero, not-zero, above-zero, err-match}
use Rattle.change_parts.proofs.Refusals.{over-none, nothing-written, written, has-bytes}
use Rattle.flush_plan.proofs.Refusing.{refused-others, refused-master, down-to-log}
use Rattle.flush_plan.proofs.Changing.{master-size, others-size, order-below, n-few, same-world, DoesChange, differs, payload-follows, payload-written, stays, changes}
use Rattle.flush_plan.proofs.plan.change_of.Goals as goal
use Rattle.flush_plan.proofs.plan.change_of.Goals.{else-is_empty-via-then-is_empty+else-names-eq0, else-is_empty-via-else-is_empty}

pub returns-in_err-check-clause-worlds : goal.returns-in_err-check-clause-worlds
returns-in_err-check-clause-worlds c = λ w rows heads payload m at by change.
    let o = others-size (c.args.names.now.stored.now ++ c.args.names.now.pending.now) (c.args.names.now.count + c.args.names.now.more) c.args.names.now.more c.args.moved.now.before (length c.args.bytes.now) c.args.graph.now c.args.moved.now.order.now c.args.moved.now.rest.now w rows heads m in
    let s = master-size (c.args.names.now.stored.now ++ c.args.names.now.pending.now) (c.args.names.now.count + c.args.names.now.more) c.args.names.now.more c.args.moved.now.before (length c.args.bytes.now) c.args.graph.now c.args.moved.now.order.now c.args.moved.now.rest.now w rows heads m in
    err-match c.from_residual.result c.in_err-check.field-0.0 _ _ c.from_residual.ensures.1
    (inr (refused-others c.args.limits (length c.args.bytes.now) (flushed same_name (with_pending w rows) heads) payload c.from.result (length c.args.moved.now.rest.now) c.in_err-check.field-0.0 c.from.ensures (omega (arith, o)) c.in_err-check.ensures.err))

pub returns-in_err-check-2-clause-worlds : goal.returns-in_err-check-2-clause-worlds
returns-in_err-check-2-clause-worlds c = λ w rows heads payload m at by change.
    let o = others-size (c.args.names.now.stored.now ++ c.args.names.now.pending.now) (c.args.names.now.count + c.args.names.now.more) c.args.names.now.more c.args.moved.now.before (length c.args.bytes.now) c.args.graph.now c.args.moved.now.order.now c.args.moved.now.rest.now w rows heads m in
    let s = master-size (c.args.names.now.stored.now ++ c.args.names.now.pending.now) (c.args.names.now.count + c.args.names.now.more) c.args.names.now.more c.args.moved.now.before (length c.args.bytes.now) c.args.graph.now c.args.moved.now.order.now c.args.moved.now.rest.now w rows heads m in
    err-match c.from_residual-in_err-check-2.result c.in_err-check-2.field-0.0 _ _ c.from_residual-in_err-check-2.ensures.1
    (inr (refused-master c.args.limits (length c.args.bytes.now) (flushed same_name (with_pending w rows) heads) payload c.from.result (length c.args.moved.now.rest.now) c.from-2.result (c.args.moved.now.before + length c.args.moved.now.order.now) c.in_err-check-2.field-0.0
    c.from.ensures (omega (arith, o)) c.in_ok-check.ensures.ok c.from-2.ensures (omega (arith, s)) c.in_err-check-2.ensures.err))

pub returns-then-names-eq0-clause-worlds : goal.returns-then-names-eq0-clause-worlds
returns-then-names-eq0-clause-worlds c = λ w rows heads payload m at by change.
    let o = others-size (c.args.names.now.stored.now ++ c.args.names.now.pending.now) (c.args.names.now.count + c.args.names.now.more) c.args.names.now.more c.args.moved.now.before (length c.args.bytes.now) c.args.graph.now c.args.moved.now.order.now c.args.moved.now.rest.now w rows heads m in
    let s = master-size (c.args.names.now.stored.now ++ c.args.names.now.pending.now) (c.args.names.now.count + c.args.names.now.more) c.args.names.now.more c.args.moved.now.before (length c.args.bytes.now) c.args.graph.now c.args.moved.now.order.now c.args.moved.now.rest.now w rows heads m in
    let z = is-zero _ c.if-is_empty.ensures in
    let same = same-world (c.args.names.now.stored.now ++ c.args.names.now.pending.now) (c.args.names.now.count + c.args.names.now.more) c.args.names.now.more c.args.moved.now.before (length c.args.bytes.now) c.args.graph.now c.args.moved.now.order.now c.args.moved.now.rest.now w rows heads m z c.if-names-eq0.true in
    let empty = change.none same in (
      down-to-log c.args.limits (length c.args.bytes.now) (flushed same_name (with_pending w rows) heads) payload c.from.result (length c.args.moved.now.rest.now) c.from-2.result (c.args.moved.now.before + length c.args.moved.now.order.now)
          c.from.ensures (omega (arith, o)) c.in_ok-check.ensures.ok c.from-2.ensures (omega (arith, s)) c.in_ok-check-2.ensures.ok
          ∙ nothing-written c.args.limits (length c.args.bytes.now) payload empty,
      record {
        payload_is = c.empty.ensures ∙ sym empty;
        master = omega (arith, s);
        others = omega (arith, o);
        same = (λ t. same, λ e. refl);
      },
    )

pub payload_of-requires-clause-numbers : goal.payload_of-requires-clause-numbers
payload_of-requires-clause-numbers c =
    let w = c.requires.world.0 in let rows = c.requires.world.1 in let heads = c.requires.world.2 in let m = c.requires.world.3 in
    let few = n-few (c.args.names.now.stored.now ++ c.args.names.now.pending.now) (c.args.names.now.count + c.args.names.now.more) c.args.names.now.more c.args.moved.now.before (length c.args.bytes.now) c.args.graph.now c.args.moved.now.order.now c.args.moved.now.rest.now w rows heads m in omega (arith, few)

pub payload_of-requires-clause-room : goal.payload_of-requires-clause-room
payload_of-requires-clause-room c =
    let lm = over-none c.from-2.result (c.args.moved.now.before + length c.args.moved.now.order.now) _ c.in_ok-check-2.ensures.ok in let fm = c.from-2.ensures in
    let l = c.requires.limits.master.1 in omega (arith, lm, fm, l)

pub payload_of-requires-clause-order : goal.payload_of-requires-clause-order
payload_of-requires-clause-order c =
    let w = c.requires.world.0 in let rows = c.requires.world.1 in let heads = c.requires.world.2 in let m = c.requires.world.3 in
    order-below (c.args.names.now.stored.now ++ c.args.names.now.pending.now) (c.args.names.now.count + c.args.names.now.more) c.args.names.now.more c.args.moved.now.before (length c.args.bytes.now) c.args.graph.now c.args.moved.now.order.now c.args.moved.now.rest.now w rows heads m

pub payload_of-requires-clause-rest : goal.payload_of-requires-clause-rest
payload_of-requires-clause-rest c =
    let w = c.requires.world.0 in let rows = c.requires.world.1 in let heads = c.requires.world.2 in let m = c.requires.world.3 in
    m.rest_is

pub payload_of-requires-clause-payload : goal.payload_of-requires-clause-payload
payload_of-requires-clause-payload c =
    let w = c.requires.world.0 in let rows = c.requires.world.1 in let heads = c.requires.world.2 in let m = c.requires.world.3 in let at = c.requires.world.4 in let by = c.requires.world.5 in
    let o = others-size (c.args.names.now.stored.now ++ c.args.names.now.pending.now) (c.args.names.now.count + c.args.names.now.more) c.args.names.now.more c.args.moved.now.before (length c.args.bytes.now) c.args.graph.now c.args.moved.now.order.now c.args.moved.now.rest.now w rows heads m in
    let s = master-size (c.args.names.now.stored.now ++ c.args.names.now.pending.now) (c.args.names.now.count + c.args.names.now.more) c.args.names.now.more c.args.moved.now.before (length c.args.bytes.now) c.args.graph.now c.args.moved.now.order.now c.args.moved.now.rest.now w rows heads m in
    let does : DoesChange (c.args.names.now.stored.now ++ c.args.names.now.pending.now) (c.args.names.now.count + c.args.names.now.more) c.args.names.now.more c.args.moved.now.before (length c.args.bytes.now) c.args.graph.now c.args.moved.now.order.now c.args.moved.now.rest.now w rows heads m = elim c.else-is_empty.branch [
      | else-is_empty-via-then-is_empty+else-names-eq0 v ↦ inr (above-zero _ v.if-names-eq0.false)
      | else-is_empty-via-else-is_empty v ↦ inl (let some = not-zero _ v.if-is_empty.ensures in omega (arith, some))
    ] in
    let lo = over-none c.from.result (length c.args.moved.now.rest.now) _ c.in_ok-check.ensures.ok in let lm = over-none c.from-2.result (c.args.moved.now.before + length c.args.moved.now.order.now) _ c.in_ok-check-2.ensures.ok in
    let fo = c.from.ensures in let fm = c.from-2.ensures in
    let follows = payload-follows (c.args.names.now.stored.now ++ c.args.names.now.pending.now) (c.args.names.now.count + c.args.names.now.more) c.args.names.now.more c.args.moved.now.before (length c.args.bytes.now) c.args.graph.now c.args.moved.now.order.now c.args.moved.now.rest.now w rows heads m c.args.limits c.requires.limits (omega (arith, lo, fo)) (omega (arith, lm, fm)) does in
    (m.flats, m.lawful, m.graph_is, m.facts.may.added, subst (λ (t : PlainTables). AreTablesOf t m.facts.may.added) at m.facts.may.tables_of, subst (λ (l : List ℕ). AllStand l m.facts.may.added) by m.facts.may.stand, follows)

pub returns-in_err-check-3-clause-worlds : goal.returns-in_err-check-3-clause-worlds
returns-in_err-check-3-clause-worlds c = λ w rows heads payload m at by change.
    let o = others-size (c.args.names.now.stored.now ++ c.args.names.now.pending.now) (c.args.names.now.count + c.args.names.now.more) c.args.names.now.more c.args.moved.now.before (length c.args.bytes.now) c.args.graph.now c.args.moved.now.order.now c.args.moved.now.rest.now w rows heads m in
    let s = master-size (c.args.names.now.stored.now ++ c.args.names.now.pending.now) (c.args.names.now.count + c.args.names.now.more) c.args.names.now.more c.args.moved.now.before (length c.args.bytes.now) c.args.graph.now c.args.moved.now.order.now c.args.moved.now.rest.now w rows heads m in
    let does : DoesChange (c.args.names.now.stored.now ++ c.args.names.now.pending.now) (c.args.names.now.count + c.args.names.now.more) c.args.names.now.more c.args.moved.now.before (length c.args.bytes.now) c.args.graph.now c.args.moved.now.order.now c.args.moved.now.rest.now w rows heads m = elim c.else-is_empty.branch [
      | else-is_empty-via-then-is_empty+else-names-eq0 v ↦ inr (above-zero _ v.if-names-eq0.false)
      | else-is_empty-via-else-is_empty v ↦ inl (let some = not-zero _ v.if-is_empty.ensures in omega (arith, some))
    ] in
    let lo = over-none c.from.result (length c.args.moved.now.rest.now) _ c.in_ok-check.ensures.ok in let lm = over-none c.from-2.result (c.args.moved.now.before + length c.args.moved.now.order.now) _ c.in_ok-check-2.ensures.ok in
    let fo = c.from.ensures in let fm = c.from-2.ensures in
    let follows = payload-follows (c.args.names.now.stored.now ++ c.args.names.now.pending.now) (c.args.names.now.count + c.args.names.now.more) c.args.names.now.more c.args.moved.now.before (length c.args.bytes.now) c.args.graph.now c.args.moved.now.order.now c.args.moved.now.rest.now w rows heads m c.args.limits c.requires.limits (omega (arith, lo, fo)) (omega (arith, lm, fm)) does in
    let is = payload-written (c.args.names.now.stored.now ++ c.args.names.now.pending.now) (c.args.names.now.count + c.args.names.now.more) c.args.names.now.more c.args.moved.now.before (length c.args.bytes.now) c.args.graph.now c.args.moved.now.order.now c.args.moved.now.rest.now w rows heads m payload change does
    ∙ sym (c.in_ok-payload.ensures.payload m.flats m.facts.may.added m.lawful m.graph_is (subst (λ (t : PlainTables). AreTablesOf t m.facts.may.added) at m.facts.may.tables_of) (subst (λ (l : List ℕ). AllStand l m.facts.may.added) by m.facts.may.stand) follows) in
    let size = ap (length {A = ℕ}) is in
    let log = written (length c.args.bytes.now) payload (subst (λ l. 0 < length l) (sym (payload-written (c.args.names.now.stored.now ++ c.args.names.now.pending.now) (c.args.names.now.count + c.args.names.now.more) c.args.names.now.more c.args.moved.now.before (length c.args.bytes.now) c.args.graph.now c.args.moved.now.order.now c.args.moved.now.rest.now w rows heads m payload change does)) (has-bytes (change_in m.flats (c.args.names.now.stored.now ++ c.args.names.now.pending.now) c.args.moved.now.before (c.args.names.now.count + c.args.names.now.more) c.args.moved.now.order.now))) in
    let len = c.len.ensures in let ok3 = c.in_ok-payload.payload.ok.0 in
    let down = down-to-log c.args.limits (length c.args.bytes.now) (flushed same_name (with_pending w rows) heads) payload c.from.result (length c.args.moved.now.rest.now) c.from-2.result (c.args.moved.now.before + length c.args.moved.now.order.now)
    c.from.ensures (omega (arith, o)) c.in_ok-check.ensures.ok c.from-2.ensures (omega (arith, s)) c.in_ok-check-2.ensures.ok in
    let sum : length_with (length c.args.bytes.now) payload ≡ (length c.args.bytes.now) + 9 + c.len.result = omega (arith, log, size, len, ok3) in
    err-match c.from_residual-in_err-check-3.result c.in_err-check-3.field-0.0 _ _ c.from_residual-in_err-check-3.ensures.1
    (inr (down ∙ ap (λ x. over c.args.limits.log x Log) sum ∙ c.in_err-check-3.ensures.err))

pub returns-clause-worlds : goal.returns-clause-worlds
returns-clause-worlds c = λ w rows heads payload m at by change.
    let o = others-size (c.args.names.now.stored.now ++ c.args.names.now.pending.now) (c.args.names.now.count + c.args.names.now.more) c.args.names.now.more c.args.moved.now.before (length c.args.bytes.now) c.args.graph.now c.args.moved.now.order.now c.args.moved.now.rest.now w rows heads m in
    let s = master-size (c.args.names.now.stored.now ++ c.args.names.now.pending.now) (c.args.names.now.count + c.args.names.now.more) c.args.names.now.more c.args.moved.now.before (length c.args.bytes.now) c.args.graph.now c.args.moved.now.order.now c.args.moved.now.rest.now w rows heads m in
    let does : DoesChange (c.args.names.now.stored.now ++ c.args.names.now.pending.now) (c.args.names.now.count + c.args.names.now.more) c.args.names.now.more c.args.moved.now.before (length c.args.bytes.now) c.args.graph.now c.args.moved.now.order.now c.args.moved.now.rest.now w rows heads m = elim c.else-is_empty.branch [
      | else-is_empty-via-then-is_empty+else-names-eq0 v ↦ inr (above-zero _ v.if-names-eq0.false)
      | else-is_empty-via-else-is_empty v ↦ inl (let some = not-zero _ v.if-is_empty.ensures in omega (arith, some))
    ] in
    let lo = over-none c.from.result (length c.args.moved.now.rest.now) _ c.in_ok-check.ensures.ok in let lm = over-none c.from-2.result (c.args.moved.now.before + length c.args.moved.now.order.now) _ c.in_ok-check-2.ensures.ok in
    let fo = c.from.ensures in let fm = c.from-2.ensures in
    let follows = payload-follows (c.args.names.now.stored.now ++ c.args.names.now.pending.now) (c.args.names.now.count + c.args.names.now.more) c.args.names.now.more c.args.moved.now.before (length c.args.bytes.now) c.args.graph.now c.args.moved.now.order.now c.args.moved.now.rest.now w rows heads m c.args.limits c.requires.limits (omega (arith, lo, fo)) (omega (arith, lm, fm)) does in
    let is = payload-written (c.args.names.now.stored.now ++ c.args.names.now.pending.now) (c.args.names.now.count + c.args.names.now.more) c.args.names.now.more c.args.moved.now.before (length c.args.bytes.now) c.args.graph.now c.args.moved.now.order.now c.args.moved.now.rest.now w rows heads m payload change does
    ∙ sym (c.in_ok-payload.ensures.payload m.flats m.facts.may.added m.lawful m.graph_is (subst (λ (t : PlainTables). AreTablesOf t m.facts.may.added) at m.facts.may.tables_of) (subst (λ (l : List ℕ). AllStand l m.facts.may.added) by m.facts.may.stand) follows) in
    let size = ap (length {A = ℕ}) is in
    let log = written (length c.args.bytes.now) payload (subst (λ l. 0 < length l) (sym (payload-written (c.args.names.now.stored.now ++ c.args.names.now.pending.now) (c.args.names.now.count + c.args.names.now.more) c.args.names.now.more c.args.moved.now.before (length c.args.bytes.now) c.args.graph.now c.args.moved.now.order.now c.args.moved.now.rest.now w rows heads m payload change does)) (has-bytes (change_in m.flats (c.args.names.now.stored.now ++ c.args.names.now.pending.now) c.args.moved.now.before (c.args.names.now.count + c.args.names.now.more) c.args.moved.now.order.now))) in
    let len = c.len.ensures in let ok3 = c.in_ok-payload.payload.ok.0 in
    let down = down-to-log c.args.limits (length c.args.bytes.now) (flushed same_name (with_pending w rows) heads) payload c.from.result (length c.args.moved.now.rest.now) c.from-2.result (c.args.moved.now.before + length c.args.moved.now.order.now)
    c.from.ensures (omega (arith, o)) c.in_ok-check.ensures.ok c.from-2.ensures (omega (arith, s)) c.in_ok-check-2.ensures.ok in
    let sum : length_with (length c.args.bytes.now) payload ≡ (length c.args.bytes.now) + 9 + c.len.result = omega (arith, log, size, len, ok3) in (
      down ∙ ap (λ x. over c.args.limits.log x Log) sum ∙ c.in_ok-check-3.ensures.ok,
      record {
        payload_is = c.of.ensures ∙ sym is;
        master = omega (arith, s);
        others = omega (arith, o);
        same = (λ t. absurd (cc t), λ e. absurd (differs (c.args.names.now.stored.now ++ c.args.names.now.pending.now) (c.args.names.now.count + c.args.names.now.more) c.args.names.now.more c.args.moved.now.before (length c.args.bytes.now) c.args.graph.now c.args.moved.now.order.now c.args.moved.now.rest.now w rows heads m does e));
      },
    )

pub returns-then-names-eq0-clause-stored : goal.returns-then-names-eq0-clause-stored
returns-then-names-eq0-clause-stored c = λ w rows heads added m at by lawful stand.
    let z = is-zero _ c.if-is_empty.ensures in
    let lo = over-none c.from.result (length c.args.moved.now.rest.now) _ c.in_ok-check.ensures.ok in let lm = over-none c.from-2.result (c.args.moved.now.before + length c.args.moved.now.order.now) _ c.in_ok-check-2.ensures.ok in
    let fo = c.from.ensures in let fm = c.from-2.ensures in
    stays (c.args.names.now.stored.now ++ c.args.names.now.pending.now) (c.args.names.now.count + c.args.names.now.more) c.args.names.now.more c.args.moved.now.before (length c.args.bytes.now) c.args.graph.now c.args.moved.now.order.now c.args.moved.now.rest.now w rows heads m added lawful stand c.args.limits _ z c.if-names-eq0.true c.empty.ensures refl
    refl refl (omega (arith, lm, fm)) (omega (arith, lo, fo))

pub returns-clause-stored : goal.returns-clause-stored
returns-clause-stored c = λ w rows heads added m at by lawful_before stand.
    let o = others-size (c.args.names.now.stored.now ++ c.args.names.now.pending.now) (c.args.names.now.count + c.args.names.now.more) c.args.names.now.more c.args.moved.now.before (length c.args.bytes.now) c.args.graph.now c.args.moved.now.order.now c.args.moved.now.rest.now w rows heads m in
    let s = master-size (c.args.names.now.stored.now ++ c.args.names.now.pending.now) (c.args.names.now.count + c.args.names.now.more) c.args.names.now.more c.args.moved.now.before (length c.args.bytes.now) c.args.graph.now c.args.moved.now.order.now c.args.moved.now.rest.now w rows heads m in
    let does : DoesChange (c.args.names.now.stored.now ++ c.args.names.now.pending.now) (c.args.names.now.count + c.args.names.now.more) c.args.names.now.more c.args.moved.now.before (length c.args.bytes.now) c.args.graph.now c.args.moved.now.order.now c.args.moved.now.rest.now w rows heads m = elim c.else-is_empty.branch [
      | else-is_empty-via-then-is_empty+else-names-eq0 v ↦ inr (above-zero _ v.if-names-eq0.false)
      | else-is_empty-via-else-is_empty v ↦ inl (let some = not-zero _ v.if-is_empty.ensures in omega (arith, some))
    ] in
    let lo = over-none c.from.result (length c.args.moved.now.rest.now) _ c.in_ok-check.ensures.ok in let lm = over-none c.from-2.result (c.args.moved.now.before + length c.args.moved.now.order.now) _ c.in_ok-check-2.ensures.ok in
    let fo = c.from.ensures in let fm = c.from-2.ensures in
    let follows = payload-follows (c.args.names.now.stored.now ++ c.args.names.now.pending.now) (c.args.names.now.count + c.args.names.now.more) c.args.names.now.more c.args.moved.now.before (length c.args.bytes.now) c.args.graph.now c.args.moved.now.order.now c.args.moved.now.rest.now w rows heads m c.args.limits c.requires.limits (omega (arith, lo, fo)) (omega (arith, lm, fm)) does in
    let is = c.in_ok-payload.ensures.payload m.flats m.facts.may.added m.lawful m.graph_is (subst (λ (t : PlainTables). AreTablesOf t m.facts.may.added) at m.facts.may.tables_of) (subst (λ (l : List ℕ). AllStand l m.facts.may.added) by m.facts.may.stand) follows in
    let size = ap (length {A = ℕ}) c.of.ensures in
    let len = c.len.ensures in let ok3 = c.in_ok-payload.payload.ok.0 in
    let ll = over-none c.args.limits.log ((length c.args.bytes.now) + 9 + c.len.result) _ c.in_ok-check-3.ensures.ok in
    changes (c.args.names.now.stored.now ++ c.args.names.now.pending.now) (c.args.names.now.count + c.args.names.now.more) c.args.names.now.more c.args.moved.now.before (length c.args.bytes.now) c.args.graph.now c.args.moved.now.order.now c.args.moved.now.rest.now w rows heads m added lawful_before stand c.args.limits _ c.requires.limits does (c.of.ensures ∙ is) refl
    refl refl (omega (arith, lm, fm)) (omega (arith, lo, fo)) (omega (arith, ll, len, ok3, size))
