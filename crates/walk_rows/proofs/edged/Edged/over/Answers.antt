use Rattle.std.proofs.Common.{ℕ, List, sym, subst}
use Rattle.std.specs.Prelude.{◌≡◌}
use Rattle.segment_codec.specs.Edges.{AreEdgesOf}
use Rattle.flat_segments.specs.Views.{view_flats}
use Rattle.high_segments.proofs.Edging.{edged-decided}
use Rattle.walk_rows.proofs.edged.Edged.over.Goals as goal

pub invariant_of-result : goal.invariant_of-result
invariant_of-result c =
    let flats = view_flats c.args.flat in
    let e = subst (λ (xs : List ℕ). AreEdgesOf xs c.lend.result.count flats) (sym c.lend.ensures.items) (subst (λ n. AreEdgesOf c.args.index.now.items n flats) (sym c.lend.ensures.count) c.requires.edges) in
    record { ordered = e.order; edged = edged-decided c.lend.result.items.now c.lend.result.count flats e }
