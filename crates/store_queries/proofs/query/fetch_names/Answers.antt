use Rattle.std.proofs.Common.{◌++◌, Ok, Err, length, map, refl, sym, ap, subst, ◌∙◌, append_assoc}
use Rattle.id_groups.specs.Id.{other_id}
use Rattle.id_groups.specs.Name.{same_name}
use Rattle.commit_graph.specs.Ids.{parent_ids}
use Rattle.commit_graph.specs.World.{with_pending}
use Rattle.segment_rules.specs.Flat.{flat_segments_of}
use Rattle.span_set.specs.Members.{ids_of}
use Rattle.high_segments.specs.Views.{flats_in}
use Rattle.name_map.specs.Added.{payloads_of}
use Rattle.name_map.specs.Map.{IsMapOf}
use Rattle.change_rules.specs.Tables.{cloned_count}
use Rattle.payload_tables.specs.Bases.{held_row}
use Rattle.payload_tables.specs.Pending.{segments_from}
use Rattle.flush_plan.proofs.Sizing.{may-view}
use Rattle.store_plans.proofs.Asking.{covered}
use Rattle.store_queries.specs.Querying.{Fetches, lazy_ids}
use Rattle.store_queries.proofs.QueryAnswers.{view-held}
use Rattle.store_queries.proofs.Fetching.{fetches-none, fetches-so, lazy-filtered, none-lazy, served-of}
use Rattle.store_queries.proofs.query.fetch_names.Goals as goal

pub returns-then-not-seen-clause-fetches : goal.returns-then-not-seen-clause-fetches
returns-then-not-seen-clause-fetches g c = λ added w rows h.
    let payloads = payloads_of added in
    let none = sym h.unnamed ∙ c.if-not-seen.true in
    fetches-none payloads w rows (ids_of c.args.set.now) _ _ c.args.cache.now c.args.cache.now none (none-lazy payloads w none (ids_of c.args.set.now)) refl refl (Ok c.none.result) (ap Ok c.none.ensures)

pub view-view-requires : goal.view-view-requires
view-view-requires g c =
    let (added, w, rows, h, ids) = c.requires.view in
    let s = h.sees in
    (added, s.base_of, may-view c.args.seen.now.base added c.args.seen.now.pending.now w rows s.base_of s.stand s.pending_rows)

pub fetch_among-fetched-requires-clause-held : goal.fetch_among-fetched-requires-clause-held
fetch_among-fetched-requires-clause-held g c =
    let (added, w, rows, h, ids) = c.requires.view in
    let s = h.sees in
    let segments = c.view-view.ensures.graph added w rows s.base_of s.stand s.pending_rows in
    λ id m. view-held c.args.seen.now.base c.args.seen.now.pending.now added w rows s (flats_in c.view-view.result) segments id (ids id m)

pub returns-in-Ok-clause-fetches : goal.returns-in-Ok-clause-fetches
returns-in-Ok-clause-fetches g c = λ added w rows h.
    let payloads = payloads_of added in
    let base = c.args.seen.now.base in
    let own = c.args.seen.now.pending.now in
    let tables = c.args.seen.now.tables.now in
    let bytes = c.args.seen.now.bytes.now in
    let s = h.sees in
    let b = h.behind in
    let some = sym h.unnamed ∙ c.if-not-seen.false in
    let flats = flats_in c.view-view.result in
    let segs = c.view-view.ensures.graph added w rows s.base_of s.stand s.pending_rows in
    let parts = c.view-view.ensures.flats added w rows s.base_of s.stand s.pending_rows in
    let first = flat_segments_of 0 (parent_ids same_name w w.master) in
    let second = flat_segments_of (other_id 0) (parent_ids same_name w w.others) in
    let third = segments_from (other_id (length w.others)) (map (held_row (with_pending w rows)) rows) in
    let begins = parts ∙ append_assoc first second third in
    let all = added ++ b.behind in
    let is_map = subst (λ m. IsMapOf m all) (sym c.names.ensures) b.tables_of.names in
    let ids = ids_of c.args.set.now in
    let old = map g.R.Remote.shown c.args.mirrors.now.items in
    let new = map g.R.Remote.shown c.fetch_among-fetched.new.mirrors.items in
    let f = c.in-Ok.ensures.fetches in
    fetches-so payloads w rows ids old new c.args.cache.now c.fetch_among-fetched.new.self flats some f.0 (Ok c.in-Ok.fetched) f.1 f.2
    (f.3 all (length w.master) _ is_map b.stand (covered base own added w rows s tables bytes b flats segs some) (lazy_ids payloads w ids) (lazy-filtered base own added w rows s tables bytes b flats segs some ids))
    (λ serving right. let sv = served-of base own added w rows s tables bytes b flats segs some (second ++ third) begins c.args.cache.now.entries old serving right in
    (f.4 all w.master (cloned_count payloads) is_map b.stand sv, c.in-Ok.ensures.right all w.master (cloned_count payloads) is_map b.stand sv))

pub returns-in-Err-clause-fetches : goal.returns-in-Err-clause-fetches
returns-in-Err-clause-fetches g c = λ added w rows h.
    let payloads = payloads_of added in
    let base = c.args.seen.now.base in
    let own = c.args.seen.now.pending.now in
    let tables = c.args.seen.now.tables.now in
    let bytes = c.args.seen.now.bytes.now in
    let s = h.sees in
    let b = h.behind in
    let some = sym h.unnamed ∙ c.if-not-seen.false in
    let flats = flats_in c.view-view.result in
    let segs = c.view-view.ensures.graph added w rows s.base_of s.stand s.pending_rows in
    let parts = c.view-view.ensures.flats added w rows s.base_of s.stand s.pending_rows in
    let first = flat_segments_of 0 (parent_ids same_name w w.master) in
    let second = flat_segments_of (other_id 0) (parent_ids same_name w w.others) in
    let third = segments_from (other_id (length w.others)) (map (held_row (with_pending w rows)) rows) in
    let begins = parts ∙ append_assoc first second third in
    let all = added ++ b.behind in
    let is_map = subst (λ m. IsMapOf m all) (sym c.names.ensures) b.tables_of.names in
    let ids = ids_of c.args.set.now in
    let old = map g.R.Remote.shown c.args.mirrors.now.items in
    let new = map g.R.Remote.shown c.fetch_among-fetched.new.mirrors.items in
    let f = c.in-Err.ensures.fetches in
    subst (λ r. Fetches payloads w rows ids old new c.args.cache.now c.fetch_among-fetched.new.self (Err r)) (sym c.refusal_of.ensures)
    (fetches-so payloads w rows ids old new c.args.cache.now c.fetch_among-fetched.new.self flats some f.0 (Err c.in-Err.fault) f.1 f.2
    (f.3 all (length w.master) _ is_map b.stand (covered base own added w rows s tables bytes b flats segs some) (lazy_ids payloads w ids) (lazy-filtered base own added w rows s tables bytes b flats segs some ids))
    (λ serving right. let sv = served-of base own added w rows s tables bytes b flats segs some (second ++ third) begins c.args.cache.now.entries old serving right in
    (f.4 all w.master (cloned_count payloads) is_map b.stand sv, c.in-Err.ensures.right all w.master (cloned_count payloads) is_map b.stand sv)))
