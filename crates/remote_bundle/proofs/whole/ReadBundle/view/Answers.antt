use Rattle.std.proofs.Common.{ap, sym, subst, ◌∙◌}
use Rattle.flat_segments.specs.Maximal.{maximal, cut}
use Rattle.flat_segments.specs.Placed.{placed_segments, segments_of, Stand}
use Rattle.bundle_codec.specs.Bundle.{rows_of}
use Rattle.bundle_codec.specs.Places.{records_start}
use Rattle.remote_answers.specs.Master.{IsMasterIn}
use Rattle.remote_bundle.specs.Held.{IsReadOf}
use Rattle.remote_bundle.proofs.Mastering.{master}
use Rattle.remote_bundle.proofs.Tabling.{records-stand, flats-are}
use Rattle.remote_bundle.proofs.whole.ReadBundle.view.Goals as goal

pub view-requires-clause-records : goal.view-requires-clause-records
view-requires-clause-records c =
    let h = c.self.invariant in (
      placed_segments records_start h.0.segments,
      h.1.table,
      subst (λ bytes. Stand bytes (placed_segments records_start h.0.segments)) (sym (c.deref.ensures.value ∙ h.1.spelled)) (records-stand h.0),
    )

pub returns : goal.returns
returns c = λ d m.
    let h = subst (λ v. IsReadOf v d) (sym c.self.view_is) m in
    let records = placed_segments records_start d.segments in
    let stand = subst (λ bytes. Stand bytes records) (sym (c.deref.ensures.value ∙ h.spelled)) (records-stand d) in
    let flats = c.view.ensures.flats records h.table stand ∙ ap (λ n. cut n (maximal c.self.inside.table.end (segments_of records))) c.count.ensures ∙ flats-are d h.bundle c.self.inside.table h.table in
    (flats, subst (λ l. IsMasterIn l (rows_of d)) (sym flats) (master d h.bundle))
