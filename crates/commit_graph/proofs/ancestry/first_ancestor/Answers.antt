use Rattle.std.proofs.Common.{◌≡◌, ℕ, suc, ◌+◌, List, Some, None, arith, sym, ap, subst, ◌∙◌}
use Rattle.std.specs.Prelude.{slice_get, option_map, ⊤}
use Rattle.id_groups.specs.Lists.{IsIn}
use Rattle.id_groups.specs.Name.{Name, same_name}
use Rattle.id_groups.proofs.Names.{same_name-exact, same_name-self}
use Rattle.commit_graph.specs.World.{Row, rows_of, names_of}
use Rattle.commit_graph.specs.Ids.{row_at, id_in}
use Rattle.commit_graph.specs.Graph.{graph_of, first_ancestor}
use Rattle.commit_graph.proofs.Leading.{of-row, some-if, at-some, first-known, first-step, step-none, id-of-row}
use Rattle.commit_graph.proofs.ancestry.first_ancestor.Goals as goal

pub returns-in_err-parent : goal.returns-in_err-parent
returns-in_err-parent c = λ from e.
    let none : slice_get c.row.result.now.parents 0 ≡ None = subst (λ (l : List Name). slice_get l 0 ≡ None) c.parents.ensures (sym c.in_err-parent.ensures.value) in
    let here : first_ancestor (graph_of same_name c.args.world.now) c.loop-step._step from.name ≡ Some c.row.result.now.name =
    of-row (first_ancestor (graph_of same_name c.args.world.now) c.loop-step._step from.name) (row_at c.args.world.now c.loop-step.at)
    c.loop-step.invariant.0 c.row.result.now c.loop-step.invariant.1 c.row.ensures (c.loop-step.invariant.2 from e) in
    c.from_residual.ensures ∙ sym (ap (option_map (id_in same_name c.args.world.now))
    (step-none same_name same_name-exact same_name-self c.args.world.now c.is_world.ensures.world c.loop-step._step c.args.n c.loop-step-test.true
    c.loop-step.at c.row.result.now c.row.ensures none from.name here))

pub unwrap-at-requires : goal.unwrap-at-requires
unwrap-at-requires c =
    let first : slice_get c.row.result.now.parents 0 ≡ Some c.in_ok-parent.parent.now =
    subst (λ (l : List Name). slice_get l 0 ≡ Some c.in_ok-parent.parent.now) c.parents.ensures (sym c.in_ok-parent.ensures.value) in
    some-if c.find.result (IsIn c.in_ok-parent.parent.now (names_of (rows_of c.args.world.now)))
    (λ (id : ℕ). IsIn c.in_ok-parent.parent.now (names_of (rows_of c.args.world.now)) × (id ≡ id_in same_name c.args.world.now c.in_ok-parent.parent.now))
    c.find.ensures.id
    (first-known same_name same_name-exact same_name-self c.args.world.now c.is_world.ensures.world c.loop-step.at c.row.result.now c.row.ensures
    c.in_ok-parent.parent.now first)

pub loop-step-preserved : goal.loop-step-preserved
loop-step-preserved c =
    let first : slice_get c.row.result.now.parents 0 ≡ Some c.in_ok-parent.parent.now =
    subst (λ (l : List Name). slice_get l 0 ≡ Some c.in_ok-parent.parent.now) c.parents.ensures (sym c.in_ok-parent.ensures.value) in
    let next = at-some c.find.result c.unwrap-at.result ⊤
    (λ (id : ℕ). (row : Row Name) × (row_at c.args.world.now id ≡ Some row) × (row.name ≡ c.in_ok-parent.parent.now)) c.find.ensures.row c.unwrap-at.ensures in (
      next.0,
      next.1,
      λ from e.
          let here : first_ancestor (graph_of same_name c.args.world.now) c.loop-step._step from.name ≡ Some c.row.result.now.name =
          of-row (first_ancestor (graph_of same_name c.args.world.now) c.loop-step._step from.name) (row_at c.args.world.now c.loop-step.at)
          c.loop-step.invariant.0 c.row.result.now c.loop-step.invariant.1 c.row.ensures (c.loop-step.invariant.2 from e) in
          let one : suc c.loop-step._step ≡ c.loop-step._step + 1 = omega arith in
          subst (λ (n : ℕ). first_ancestor (graph_of same_name c.args.world.now) n from.name ≡ Some next.0.name) one
          (first-step same_name same_name-exact same_name-self c.args.world.now c.is_world.ensures.world c.loop-step._step c.loop-step.at c.row.result.now c.row.ensures
          from.name here ∙ first ∙ ap (λ (z : Name). Some z) (sym next.2)),
    )

pub returns : goal.returns
returns c = λ from e.
    let all : c.loop-step._step ≡ c.args.n = omega arith in
    let here : first_ancestor (graph_of same_name c.args.world.now) c.args.n from.name ≡ Some c.loop-step.invariant.0.name =
    subst (λ (n : ℕ). first_ancestor (graph_of same_name c.args.world.now) n from.name ≡ Some c.loop-step.invariant.0.name) all (c.loop-step.invariant.2 from e) in
    sym (ap (option_map (id_in same_name c.args.world.now)) here ∙ ap (λ (n : ℕ). Some n)
    (id-of-row same_name same_name-exact same_name-self c.args.world.now c.is_world.ensures.world c.loop-step.at c.loop-step.invariant.0 c.loop-step.invariant.1))
