-- That a view's segments are lawful, for crates above.
use Rattle.std.specs.Prelude.{◌^◌, ◌-◌}
use Rattle.segment_codec.specs.Table.{IsLawful}
use Rattle.segment_codec.proofs.Flats.{lawful-means}
use Rattle.flat_segments.specs.declared.view.FlatView.{FlatView}
use Rattle.flat_segments.specs.Views.{master_flats, other_flats, view_flats}

pub view_lawful : (v : FlatView) → IsLawful (view_flats v)
view_lawful v = lawful-means v.master.end (v.pending.end - 2 ^ 56) (master_flats v) (other_flats v) v.lawful
