-- The segments of a bundle with edges.
use Rattle.std.specs.Prelude.{List}
use Rattle.segment_codec.specs.Record.{Segment}
use Rattle.flat_segments.specs.Views.{view_flats}
use Rattle.remote_bundle.specs.declared.segments.Segments.{Segments}

abbrev pub segments_in : Segments → List Segment
segments_in s = view_flats s.flat
