use Rattle.std.proofs.Common.{◌≡◌, ◌∙◌, ◌≤◌, None, List, length, ap, sym, subst, arith}
use Rattle.std.specs.List.{AllByRecursion}
use Rattle.id_groups.specs.Name.{same_name}
use Rattle.name_map.specs.Added.{Placed}
use Rattle.segment_codec.specs.Record.{Segment}
use Rattle.high_segments.specs.Views.{flats_in}
use Rattle.mirror_set.specs.Fresh.{PlainFresh}
use Rattle.change_rules.specs.Rebase.{first_conflict}
use Rattle.change_parts.specs.Plans.{conflict_fault}
use Rattle.pull_plan.specs.Pulling.{mismatch}
use Rattle.pull_plan.specs.Taken.{AreTaken}
use Rattle.change_parts.proofs.Refusals.{err-match}
use Rattle.change_parts.proofs.TableFacts.{tables-count}
use Rattle.rebase_pending.proofs.Stepping.{no-rows-viewed}
use Rattle.pull_plan.proofs.SomeTold.{some-told, own-others, walk-over, walk-fault}
use Rattle.pull_plan.proofs.pulled.taken_of.Goals as goal

pub view-view-requires : goal.view-view-requires
view-view-requires c =
    let r = c.requires.tables in
    let n = c.newest-base.ensures r.0 r.1.tables_of r.1.stand in
    (r.0, n, no-rows-viewed c.newest-base.result r.0 c.args.none.now (c.requires.none.1 ∙ tables-count c.args.tables.now c.args.bytes.now r.0 r.1.tables_of r.1.stand) c.requires.none.0)

pub add_rows-requires-clause-rows : goal.add_rows-requires-clause-rows
add_rows-requires-clause-rows c =
    let r = c.requires.tables in
    let none = c.in_ok-check_fresh.ensures r.0 r.1 in
    let parents = subst (λ (f : PlainFresh). AllByRecursion (λ (s : Segment). length s.parents ≤ 8) f.cloned.segments) c.fresh.view_is c.count_parents.ensures in
    let n = ap (λ (f : PlainFresh). length f.names) c.fresh.view_is in let few = c.len-count.ensures.few in
    let s = some-told c.args.tables.now c.args.bytes.now c.args.fresh.now r.0 r.1 parents (omega (arith, n, few)) none in
    let t = s.2 in
    let same = subst (λ (a : List Placed). mismatch a c.args.fresh.now ≡ None) (sym s.3) none in (
      s.0,
      s.1,
      walk-over c.args.tables.now c.args.bytes.now c.args.fresh.now s.0 s.1 t same c.newest-base.result (flats_in c.view-view.result) c.args.none.now c.requires.none.0 c.requires.none.1
          (c.newest-base.ensures t.added t.may.tables_of t.may.stand) c.view-view.ensures.graph c.cloned-cloned.result (c.cloned-cloned.ensures.payloads t.added t.may.tables_of),
      own-others c.args.tables.now c.args.bytes.now c.args.fresh.now s.0 s.1 t same c.empty-left.result.first (c.empty-left.ensures.first ∙ c.first.ensures ∙ c.requires.none.1),
    )

pub returns-in_err-add_rows-clause-worlds : goal.returns-in_err-add_rows-clause-worlds
returns-in_err-add_rows-clause-worlds c = λ w rows t.
    let none = c.in_ok-check_fresh.ensures t.added t.may in
    err-match c.from_residual-in_err-add_rows.result c.in_err-add_rows.field-0.0 _ _ c.from_residual-in_err-add_rows.ensures.1
    (walk-fault t.added c.args.fresh.now (conflict_fault (first_conflict same_name w rows)) c.in_err-add_rows.field-0.0 none
    (c.in_err-add_rows.ensures w rows
    (walk-over c.args.tables.now c.args.bytes.now c.args.fresh.now w rows t none c.newest-base.result (flats_in c.view-view.result) c.args.none.now c.requires.none.0 c.requires.none.1
    (c.newest-base.ensures t.added t.may.tables_of t.may.stand) c.view-view.ensures.graph c.cloned-cloned.result (c.cloned-cloned.ensures.payloads t.added t.may.tables_of))
    (own-others c.args.tables.now c.args.bytes.now c.args.fresh.now w rows t none c.empty-left.result.first (c.empty-left.ensures.first ∙ c.first.ensures ∙ c.requires.none.1))))

pub returns-clause-worlds : goal.returns-clause-worlds
returns-clause-worlds c = λ w rows t.
    let none = c.in_ok-check_fresh.ensures t.added t.may in (
      none,
      subst (λ n. AreTaken w n rows c.add_rows.new.ids.items c.add_rows.new.left) (c.cloned-cloned.ensures.payloads t.added t.may.tables_of)
          (c.in_ok-add_rows.ensures w rows
          (walk-over c.args.tables.now c.args.bytes.now c.args.fresh.now w rows t none c.newest-base.result (flats_in c.view-view.result) c.args.none.now c.requires.none.0 c.requires.none.1
          (c.newest-base.ensures t.added t.may.tables_of t.may.stand) c.view-view.ensures.graph c.cloned-cloned.result (c.cloned-cloned.ensures.payloads t.added t.may.tables_of))
          (own-others c.args.tables.now c.args.bytes.now c.args.fresh.now w rows t none c.empty-left.result.first (c.empty-left.ensures.first ∙ c.first.ensures ∙ c.requires.none.1))),
    )

pub returns-clause-some : goal.returns-clause-some
returns-clause-some c = λ added m.
    let none = c.in_ok-check_fresh.ensures added m in
    let parents = subst (λ (f : PlainFresh). AllByRecursion (λ (s : Segment). length s.parents ≤ 8) f.cloned.segments) c.fresh.view_is c.count_parents.ensures in
    let n = ap (λ (f : PlainFresh). length f.names) c.fresh.view_is in let few = c.len-count.ensures.few in
    some-told c.args.tables.now c.args.bytes.now c.args.fresh.now added m parents (omega (arith, n, few)) none
