-- That the flat segments of a view with levels are lawful, for crates above.
use Rattle.segment_codec.specs.Table.{IsLawful}
use Rattle.flat_segments.proofs.Viewing.{view_lawful}
use Rattle.high_segments.specs.declared.view.View.{View}
use Rattle.high_segments.specs.Views.{flats_in}

pub lawful_flats : (v : View) → IsLawful (flats_in v)
lawful_flats v = view_lawful v.flat
