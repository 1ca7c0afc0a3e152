use Rattle.std.proofs.Common.{ℕ, ap, subst, ◌∙◌, ◌++◌, length, map}
use Rattle.id_groups.specs.Lists.{IsIn}
use Rattle.id_groups.specs.Id.{other_id}
use Rattle.id_groups.specs.Name.{same_name}
use Rattle.commit_graph.specs.Ids.{id_in}
use Rattle.commit_graph.specs.World.{with_pending}
use Rattle.set_expr.specs.Expr.{commits_in}
use Rattle.set_expr.specs.Whole.{tree_of}
use Rattle.set_query.proofs.Ids.{member-held}
use Rattle.span_set.specs.Members.{IsCanonical}
use Rattle.span_set.proofs.Counts.{ids-descending}
use Rattle.high_segments.specs.Views.{flats_in}
use Rattle.high_segments.proofs.Viewing.{lawful_flats}
use Rattle.name_map.specs.Added.{payloads_of}
use Rattle.payload_tables.specs.Bases.{held_row}
use Rattle.payload_tables.specs.Pending.{segments_from}
use Rattle.flush_plan.proofs.Sizing.{may-view}
use Rattle.store_plans.proofs.Lines.{found-there}
use Rattle.store_queries.proofs.QueryAnswers.{err-evaluates, evaluated, found-held, held-view, unanswered}
use Rattle.store_queries.proofs.Bounding.{few-looks, ends-whole}
use Rattle.store_queries.proofs.query.members.Goals as goal

pub returns-in_err-ids-clause-answer : goal.returns-in_err-ids-clause-answer
returns-in_err-ids-clause-answer g c = λ added w rows h.
    err-evaluates (payloads_of added) w rows (tree_of c.args.expr.now) _ _ c.args.cache.now c.find_names.new.cache c.from_residual.result c.in_err-ids.field-0.0 c.from_residual.ensures.1
    (c.in_err-ids.ensures.finds added w rows h)

pub find_names-requires-clause-view : goal.find_names-requires-clause-view
find_names-requires-clause-view g c =
    let (added, w, rows, h) = c.requires.view in
    let s = h.sees in
    (added, (s.base_of, may-view c.args.seen.now.base added c.args.seen.now.pending.now w rows s.base_of s.stand s.pending_rows))

pub view-requires : goal.view-requires
view-requires g c =
    let (added, w, rows, h) = c.requires.view in
    let s = h.sees in
    (added, s.base_of, may-view c.args.seen.now.base added c.args.seen.now.pending.now w rows s.base_of s.stand s.pending_rows)

pub eval-requires-clause-count : goal.eval-requires-clause-count
eval-requires-clause-count g c =
    let (added, w, rows, h) = c.requires.view in
    ap (length {A = ℕ}) c.deref.ensures.value ∙ (c.in_ok-ids.ensures.finds added w rows h).count

pub eval-requires-clause-held : goal.eval-requires-clause-held
eval-requires-clause-held g c =
    let (added, w, rows, h) = c.requires.view in
    let s = h.sees in
    let ids = c.in_ok-ids.ensures.finds added w rows h in
    let segments = c.view.ensures.graph added w rows s.base_of s.stand s.pending_rows in
    λ y i. found-held c.args.seen.now.base c.args.seen.now.pending.now added w rows s (flats_in c.view.result) segments c.in_ok-ids.ids.items ids.view y (subst (IsIn y) c.deref.ensures.value i)

pub returns-in_default-clause-answer : goal.returns-in_default-clause-answer
returns-in_default-clause-answer g c = λ added w rows h.
    unanswered (payloads_of added) w rows (tree_of c.args.expr.now) _ _ c.args.cache.now c.find_names.new.cache c.in_ok-ids.ids.items
    (c.in_ok-ids.ensures.finds added w rows h)

pub returns-clause-answer : goal.returns-clause-answer
returns-clause-answer g c = λ added w rows h.
    let e = tree_of c.args.expr.now in
    let base = c.args.seen.now.base in
    let own = c.args.seen.now.pending.now in
    let flats = flats_in c.view.result in
    let s = h.sees in
    let ids = c.in_ok-ids.ensures.finds added w rows h in
    let segments = c.view.ensures.graph added w rows s.base_of s.stand s.pending_rows in
    let same = c.set.ensures in
    record {
      tried = ids.tried;
      view = λ id m. held-view base own added w rows s flats segments id
          (member-held flats (lawful_flats c.view.result) c.deref.result.now
          (λ y i. found-held base own added w rows s flats segments c.in_ok-ids.ids.items ids.view y (subst (IsIn y) c.deref.ensures.value i)) e (ap (length {A = ℕ}) c.deref.ensures.value ∙ ids.count) id ((c.in-Ok.ensures.members id).0 m));
      descending = ids-descending c.in-Ok.answer.set (subst IsCanonical same c.spans-spans.ensures.canonical);
      right = λ serving. evaluated base own added w rows s flats segments (lawful_flats c.view.result) e
          (found-there (payloads_of added) w rows (commits_in e) _ _ c.args.cache.now c.find_names.new.cache c.in_ok-ids.ids.items ids serving)
          c.deref.result.now (c.deref.ensures.value ∙ ids.right serving) c.in-Ok.answer.set (subst IsCanonical same c.spans-spans.ensures.canonical) c.in-Ok.ensures.members;
    }

pub returns-clause-few : goal.returns-clause-few
returns-clause-few g c = λ added w rows name h tree.
    let s = h.sees in
    let flats = c.view.ensures.flats added w rows s.base_of s.stand s.pending_rows in
    few-looks w rows s.pending_rows.view c.in-Ok.answer.set (flats_in c.view.result) flats c.in-Ok.answer.steps (c.in-Ok.ensures.few name tree)

pub returns-clause-one : goal.returns-clause-one
returns-clause-one g c = λ added w rows name h tree ends serving.
    let base = c.args.seen.now.base in
    let v = with_pending w rows in
    let s = h.sees in
    let b = s.base_of in
    let ids = c.in_ok-ids.ensures.finds added w rows h in
    let flats = c.view.ensures.flats added w rows b s.stand s.pending_rows in
    c.in-Ok.ensures.one name (id_in same_name v name) tree (c.deref.ensures.value ∙ ids.right serving ∙ ap (λ e. map (id_in same_name v) (commits_in e)) tree)
    (ends-whole base added b w s.stand c.view.result (segments_from (other_id (length w.others)) (map (held_row v) rows)) flats
    (λ level id. c.view.ensures.endings added (added ++ b.behind) b b.tables_of b.stand level id)
    (id_in same_name v name) ends)
