use Rattle.std.proofs.Common.{◌∙◌, map, get_or, None, [], refl, sym, subst}
use Rattle.std.specs.List.{AllZip}
use Rattle.commit_graph.specs.World.{names_of}
use Rattle.payload_tables.specs.Pending.{row_names}
use Rattle.change_rules.specs.Tables.{StandFor}
use Rattle.change_parts.specs.Asked.{IsFoundIn}
use Rattle.step_rules.specs.State.{pending_of}
use Rattle.store_plans.specs.Changes.{HaveNames, IsTaken}
use Rattle.store_plans.proofs.FlushParts.{is-newest, isnt-newest}
use Rattle.store_plans.proofs.NewestBase.{session-names}
use Rattle.store_plans.proofs.RebaseTests.{err-rebases, rows-moved, rows-refused, stays-newest}
use Rattle.store_plans.proofs.TakenHeads.{ok-any, taken-found}
use Rattle.store_plans.proofs.planning.rebased.Goals as goal

pub returns-then-session-batch_count-clause-step : goal.returns-then-session-batch_count-clause-step
returns-then-session-batch_count-clause-step g c = λ began s added st limits v x o.
    let newest = c.if-session-batch_count.true ∙ c.batch_count.ensures in
    stays-newest began s added c.args.session.now st o (is-newest c.args.log.now c.args.tables.now added v c.args.session.now x _ refl began s st o newest)
    limits c.args.heads.now _ c.args.sources.cache.now c.args.found.now c.args.session.now.pending c.copied.result refl c.copied.ensures

pub returns-in_err-rows-clause-step : goal.returns-in_err-rows-clause-step
returns-in_err-rows-clause-step g c = λ began s added st limits v x o.
    let old = map g.R.Remote.shown c.args.sources.mirrors.now.items in
    let new = map g.R.Remote.shown c.rows_found.new.mirrors.items in
    let stand = subst (λ l. StandFor l st.stored) (sym o.payloads) o.hold.stand in
    let older = isnt-newest c.args.log.now c.args.tables.now added v c.args.session.now x _ refl began s st o
    (λ e. c.if-session-batch_count.false (e ∙ sym c.batch_count.ensures)) in
    err-rebases limits st s c.args.heads.now old new c.args.sources.cache.now c.rows_found.new.cache c.args.found.now c.args.found.now c.from_residual.result c.in_err-rows.field-0.0 c.from_residual.ensures.1
    (rows-refused began s added c.args.session.now st o older limits c.args.heads.now old new c.args.sources.cache.now c.rows_found.new.cache c.args.found.now c.args.found.now c.in_err-rows.field-0.0
    (c.in_err-rows.ensures.finds added st.stored (names_of (pending_of st s)) v x stand o.hold.world (session-names began s added c.args.session.now st o)))

pub rebased_anew-requires : goal.rebased_anew-requires
rebased_anew-requires g c =
    let r = c.requires.over in
    (r.0, r.1, r.2, λ names n. subst (λ l. AllZip (IsFoundIn r.0) names l) (sym c.deref-2.ensures.value) (c.in_ok-rows.ensures.found r.0 r.1 r.2 names n))

pub returns-clause-left : goal.returns-clause-left
returns-clause-left g c = λ added v x.
    c.rebased_anew.ensures.left added v x (λ names n. subst (λ l. AllZip (IsFoundIn added) names l) (sym c.deref-2.ensures.value) (c.in_ok-rows.ensures.found added v x names n))

pub returns-clause-found : goal.returns-clause-found
returns-clause-found g c = λ added v x z.
    let names = row_names x.pending.rows in
    let n : HaveNames c.args.session.now.pending names = (x.pending.rows, x.pending.held, refl) in
    ok-any c.rebased_anew.result _
    (taken-found added names c.in_ok-rows.rows.items (c.in_ok-rows.ensures.found added v x names n)
    c.args.heads.now c.args.found.now c.take_rows.new.found c.take_rows.ensures.len z
    (λ i lt. subst (λ l. IsTaken names l (get_or c.args.heads.now i []) (get_or c.args.found.now i None) (get_or c.take_rows.new.found i None)) c.deref.ensures.value (c.take_rows.ensures.taken names n i lt)))

pub returns-clause-step : goal.returns-clause-step
returns-clause-step g c = λ began s added st limits v x o.
    let old = map g.R.Remote.shown c.args.sources.mirrors.now.items in
    let new = map g.R.Remote.shown c.rows_found.new.mirrors.items in
    let names = names_of (pending_of st s) in
    let n = session-names began s added c.args.session.now st o in
    let stand = subst (λ l. StandFor l st.stored) (sym o.payloads) o.hold.stand in
    let older = isnt-newest c.args.log.now c.args.tables.now added v c.args.session.now x _ refl began s st o
    (λ e. c.if-session-batch_count.false (e ∙ sym c.batch_count.ensures)) in
    rows-moved began s added c.args.session.now st o older limits c.args.heads.now old new c.args.sources.cache.now c.rows_found.new.cache c.args.found.now c.in_ok-rows.rows.items
    (c.in_ok-rows.ensures.finds added st.stored names v x stand o.hold.world n)
    c.take_rows.new.found c.take_rows.ensures.len
    (λ i lt. subst (λ l. IsTaken names l (get_or c.args.heads.now i []) (get_or c.args.found.now i None) (get_or c.take_rows.new.found i None)) c.deref.ensures.value (c.take_rows.ensures.taken names n i lt))
    c.rebased_anew.result c.rebased_anew.ensures.planned (λ e. c.rebased_anew.ensures.step began s added st v x o (c.deref-2.ensures.value ∙ e))
