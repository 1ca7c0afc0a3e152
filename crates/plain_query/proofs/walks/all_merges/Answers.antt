use Rattle.std.proofs.Common.{◌≤◌, length, arith, refl, sym, true≢false}
use Rattle.id_groups.specs.Name.{same_name}
use Rattle.id_groups.proofs.Names.{same_name-exact, same_name-self}
use Rattle.id_groups.specs.Name.{Name}
use Rattle.commit_graph.specs.World.{Row, rows_of}
use Rattle.plain_query.proofs.Collecting.{chosen-put, chosen-left, chosen-all, merges-all}
use Rattle.plain_query.proofs.walks.all_merges.Goals as goal
use Rattle.plain_query.proofs.walks.all_merges.Goals.{then-is_merge+in_ok-add, else-is_merge}

pub loop-place-preserved : goal.loop-place-preserved
loop-place-preserved c = elim c.if-is_merge.branch [
  | then-is_merge+in_ok-add w ↦
      chosen-put (rows_of c.args.world.now) (λ (row : Row Name). 2 ≤ length row.parents) c.loop-place.place c.row_at_place-row.result.now c.row_at_place-row.ensures
      c.loop-place.members c.loop-place.invariant (w.if-is_merge.ensures.0 refl)
      w.name.result.now w.name.ensures w.add.new.self w.in_ok-add.ensures c.if-is_merge.members w.members-is
  | else-is_merge w ↦
      chosen-left (rows_of c.args.world.now) (λ (row : Row Name). 2 ≤ length row.parents) c.loop-place.place c.row_at_place-row.result.now c.row_at_place-row.ensures
      c.loop-place.members c.loop-place.invariant (λ le. true≢false (sym (w.if-is_merge.ensures.1 le))) c.if-is_merge.members w.members-is
]

pub returns : goal.returns
returns c =
    merges-all same_name same_name-exact same_name-self c.args.world.now c.row_count-place-end.ensures.world c.loop-place.members
    (chosen-all (rows_of c.args.world.now) (λ (row : Row Name). 2 ≤ length row.parents) c.loop-place.place
    (omega (arith, c.loop-place-test.false, c.row_count-place-end.ensures.count)) c.loop-place.members c.loop-place.invariant)
