use Rattle.std.proofs.Common.{◌≡◌, ◌++◌, ◌∷◌, [], List, map, take, get_or}
use Rattle.batch_codec.specs.Payload.{Payload}
use Rattle.batch_codec.specs.Building.{IsBuilt}
use Rattle.change_parts.specs.Flat.{Span, flat_segments}
use Rattle.change_parts.specs.Moves.{new_id}
use Rattle.change_parts.specs.Sections.{with_spans}
use Rattle.flush_plan.proofs.runs.add_runs.Given as goal

abbrev pub invariant-numbers : goal.invariant-numbers
invariant-numbers l = record {
  grows : (done : List Span) × (flat_segments l.first (map (λ k. map (new_id l.ids) (get_or l.graph k [])) (take l.i l.numbers)) ≡ done ++ l.run ∷ [])
      × ((p : Payload) → IsBuilt l.fn.build (with_spans l.group p []) → IsBuilt l.build (with_spans l.group p done));
  count : l.build.other_count ≡ l.fn.build.other_count;
}
