use Rattle.flat_segments.specs.Views.{view_flats}
use Rattle.high_segments.proofs.Edging.{edged-decided}
use Rattle.remote_bundle.proofs.segments.Segments.new.Goals as goal

pub invariant_of-result : goal.invariant_of-result
invariant_of-result c =
    let e = c.requires in
    record { ordered = e.order; edged = edged-decided c.args.edges.items.now c.args.edges.count (view_flats c.args.flat) e }
