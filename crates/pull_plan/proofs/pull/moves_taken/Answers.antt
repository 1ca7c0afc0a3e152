use Rattle.std.proofs.Common.{◌∙◌, ◌<◌, ◌+◌, ◌^◌, List, length, map, ap, sym, subst}
use Rattle.std.specs.Prelude.{IfOk}
use Rattle.std.specs.List.{AllByRecursion}
use Rattle.id_groups.specs.Name.{same_name}
use Rattle.commit_graph.specs.World.{names_of}
use Rattle.assign_ids.specs.Numbers.{others_of}
use Rattle.name_map.specs.Added.{Placed}
use Rattle.change_rules.specs.Rebase.{left_of}
use Rattle.change_parts.specs.Moves.{node_of}
use Rattle.change_parts.specs.Plans.{MayBeStored}
use Rattle.pull_plan.proofs.Pulls.{ids-fit, may-move, pull-means, change-of-flush, stored-next}
use Rattle.pull_plan.proofs.pull.moves_taken.Goals as goal

pub numbers_of-requires : goal.numbers_of-requires
numbers_of-requires c =
    let r = c.requires.taken in
    subst (AllByRecursion (λ id. id < 2 ^ 56 + 2 ^ 32)) (sym c.deref.ensures.value) (ids-fit c.args.tables.now c.args.bytes.now c.args.taken.now.ids.items c.args.taken.now.left r.0 r.1 r.2)

pub plan_moves-requires-clause-world : goal.plan_moves-requires-clause-world
plan_moves-requires-clause-world c =
    let r = c.requires.taken in
    let numbers = c.deref-2.ensures.value ∙ c.in_ok-numbers.ensures ∙ ap (λ l. others_of (map node_of l)) c.deref.ensures.value in
    (r.0, left_of same_name r.0 r.1, names_of r.1, (may-move c.args.tables.now c.args.bytes.now c.args.taken.now.ids.items c.args.taken.now.left r.0 r.1 r.2 c.deref-2.result.now numbers).0)

pub returns-clause-worlds : goal.returns-clause-worlds
returns-clause-worlds c = λ w rows payload p change.
    let numbers = c.deref-2.ensures.value ∙ c.in_ok-numbers.ensures ∙ ap (λ l. others_of (map node_of l)) c.deref.ensures.value in
    pull-means c.args.tables.now c.args.bytes.now c.args.taken.now.ids.items c.args.taken.now.left w rows p c.args.limits c.pull_limits-limits.result c.pull_limits-limits.ensures (length c.args.bytes.now) payload c.plan_moves.result
    (c.plan_moves.ensures.worlds w (left_of same_name w rows) (names_of rows) payload
    (may-move c.args.tables.now c.args.bytes.now c.args.taken.now.ids.items c.args.taken.now.left w rows p c.deref-2.result.now numbers).0
    (change-of-flush c.args.tables.now c.args.bytes.now c.args.taken.now.ids.items c.args.taken.now.left w rows p payload change))

pub returns-clause-stored : goal.returns-clause-stored
returns-clause-stored c = λ w rows p.
    let numbers = c.deref-2.ensures.value ∙ c.in_ok-numbers.ensures ∙ ap (λ l. others_of (map node_of l)) c.deref.ensures.value in
    let m = may-move c.args.tables.now c.args.bytes.now c.args.taken.now.ids.items c.args.taken.now.left w rows p c.deref-2.result.now numbers in
    stored-next c.args.limits c.pull_limits-limits.result c.pull_limits-limits.ensures (length c.args.bytes.now) p.added c.plan_moves.result
    (subst (λ (a : List Placed). IfOk c.plan_moves.result (MayBeStored 1 c.pull_limits-limits.result (length c.args.bytes.now) a)) m.1 (c.plan_moves.ensures.stored w (left_of same_name w rows) (names_of rows) m.0))
