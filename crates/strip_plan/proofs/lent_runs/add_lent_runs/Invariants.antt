use Rattle.std.proofs.Common.{◌≡◌, ◌≤◌, ◌^◌, ◌++◌, ◌∷◌, [], List, map, take, get_or}
use Rattle.id_groups.specs.declared.id.Group.TheVariants.{Others}
use Rattle.batch_codec.specs.Payload.{Payload}
use Rattle.batch_codec.specs.Building.{IsBuilt}
use Rattle.change_parts.specs.Flat.{Span, flat_segments}
use Rattle.change_parts.specs.Moves.{new_id}
use Rattle.change_parts.specs.Sections.{with_spans}
use Rattle.strip_plan.proofs.lent_runs.add_lent_runs.Given as goal

abbrev pub invariant-numbers : goal.invariant-numbers
invariant-numbers l = record {
  grows : (done : List Span) × (flat_segments (2 ^ 56) (map (λ k. map (new_id l.ids) (get_or l.graph k [])) (take l.i l.numbers)) ≡ done ++ l.run ∷ [])
      × ((p : Payload) → IsBuilt l.fn.build (with_spans Others p []) → IsBuilt l.build (with_spans Others p done));
  count : l.build.other_count ≡ l.fn.build.other_count;
  high : 2 ^ 56 ≤ l.run.high;
}
