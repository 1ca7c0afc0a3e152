-- The segments of a view.
use Rattle.std.specs.Prelude.{ℕ, List, ◌++◌, Option}
use Rattle.segment_codec.specs.Record.{Segment}
use Rattle.segment_codec.specs.Flat.{flat_ending}
use Rattle.flat_segments.specs.declared.run.Run.{Run}
use Rattle.flat_segments.specs.declared.view.FlatView.{FlatView}
use Rattle.flat_segments.specs.Runs.{flats_in}

-- the segments of a run
abbrev pub flats_of : Run → List Segment
flats_of r = flats_in r.bytes.now r.end r.entries.now

-- the segments of the master group, and how many ids they have
abbrev pub master_flats : FlatView → List Segment
master_flats v = flats_of v.master

abbrev pub master_count : FlatView → ℕ
master_count v = v.master.end

abbrev pub other_flats : FlatView → List Segment
other_flats v = flats_of v.others ++ flats_of v.pending

-- all segments, ascending
abbrev pub view_flats : FlatView → List Segment
view_flats v = master_flats v ++ other_flats v

-- the segment that ends at an id; there is none above level 0
abbrev pub view_ending : FlatView → ℕ → ℕ → Option Segment
view_ending v level id = flat_ending (view_flats v) level id
