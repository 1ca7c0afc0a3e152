use Rattle.std.proofs.Common.{◌^◌, [], map, sym, subst, ◌∙◌}
use Rattle.commit_graph.specs.World.{names_of}
use Rattle.name_map.specs.Map.{IsIdOf}
use Rattle.payload_tables.specs.Bases.{stored_in}
use Rattle.store_plans.proofs.HeadTests.{err-head, head-found, head-pending, head-refused, pending-nowhere, pending-there}
use Rattle.store_plans.proofs.finding.find_head.Goals as goal

pub returns-then-is_some-clause-finds : goal.returns-then-is_some-clause-finds
returns-then-is_some-clause-finds g c = λ added w rows h n.
    let s = h.sees in
    head-pending c.args.newest.now.base c.args.newest.now.pending.now added w s c.args.head.now rows
    (pending-there c.args.session.now.pending (names_of rows) n c.lend.result.bytes.now c.args.head.now c.lend.ensures c.find.result c.find.ensures (sym c.is_some.ensures ∙ c.if-is_some.true))
    c.id.result (subst (λ z. IsIdOf (stored_in added) z (2 ^ 57) c.id.result) c.lend-then-is_some.ensures (c.id.ensures added s.base_of)) _ c.args.cache.now

pub returns-in_err-id-clause-finds : goal.returns-in_err-id-clause-finds
returns-in_err-id-clause-finds g c = λ added w rows h n.
    let s = h.sees in
    let old = map g.R.Remote.shown c.args.mirrors.now.items in
    let new = map g.R.Remote.shown c.find_seen.new.mirrors.items in
    err-head added w rows c.args.head.now old new c.args.cache.now c.find_seen.new.cache c.from_residual.result c.in_err-id.field-0.0 c.from_residual.ensures.1
    (head-refused c.args.newest.now.base c.args.newest.now.pending.now added w s c.args.head.now rows
    (pending-nowhere c.args.session.now.pending (names_of rows) n c.lend.result.bytes.now c.args.head.now c.lend.ensures c.find.result c.find.ensures (sym c.is_some.ensures ∙ c.if-is_some.false))
    old new c.args.cache.now c.find_seen.new.cache c.in_err-id.field-0.0 (c.in_err-id.ensures.finds added w [] h))

pub returns-clause-finds : goal.returns-clause-finds
returns-clause-finds g c = λ added w rows h n.
    let s = h.sees in
    let old = map g.R.Remote.shown c.args.mirrors.now.items in
    let new = map g.R.Remote.shown c.find_seen.new.mirrors.items in
    head-found c.args.newest.now.base c.args.newest.now.pending.now added w s c.args.head.now rows
    (pending-nowhere c.args.session.now.pending (names_of rows) n c.lend.result.bytes.now c.args.head.now c.lend.ensures c.find.result c.find.ensures (sym c.is_some.ensures ∙ c.if-is_some.false))
    old new c.args.cache.now c.find_seen.new.cache c.in_ok-id.id (c.in_ok-id.ensures.finds added w [] h)
