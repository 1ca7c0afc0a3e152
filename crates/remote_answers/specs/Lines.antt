-- Places on lines of first parents.
use Rattle.std.specs.Prelude.{◌≡◌, List, Some}
use Rattle.commit_graph.specs.Graph.{first_of_list}
use Rattle.segment_codec.specs.Record.{Segment}
use Rattle.segment_codec.specs.Table.{segment_at}
use Rattle.remote_answers.specs.declared.line.Place.{Place}

-- the id's segment begins with this id, and that one has this first parent
pub record IsPlace (flats : List Segment) (place : Place) : Type 0 where
  pub segment : Segment
  pub holds : segment_at flats place.at ≡ Some segment
  pub low : place.low ≡ segment.low
  pub first : place.first ≡ first_of_list segment.parents
