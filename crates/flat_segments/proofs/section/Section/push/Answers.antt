use Rattle.std.proofs.Common.{◌++◌, List, [], ◌∷◌, ◌∙◌, ◌+◌, subst, sym, ap}
use Rattle.segment_codec.specs.Lent.{segment_of}
use Rattle.flat_segments.specs.Entries.{PlainEntry}
use Rattle.flat_segments.specs.Placed.{PlacedSegment}
use Rattle.flat_segments.specs.Kept.{KeptFlats, IsSectionOf, MayPush}
use Rattle.flat_segments.proofs.Sections.{pushed, made}
use Rattle.flat_segments.proofs.section.Section.push.Goals as goal

pub returns-clause-section : goal.returns-clause-section
returns-clause-section c = λ records is.
    let r : PlacedSegment = record { place = c.args.at; segment = segment_of c.args.segment } in
    let old : KeptFlats = record { entries = c.self.inside.entries.items; end = c.self.inside.end } in
    let added = λ (e : PlainEntry). c.self.inside.entries.items ++ e ∷ [] in
    made old records r _ _ (◌∙◌ {A = List PlainEntry} c.in_ok-push.ensures.items (ap added c.of.ensures)) (ap (λ n. n + 1) (c.number.ensures.number ∙ c.high.ensures))
    (pushed old records r (subst (λ (k : KeptFlats). MayPush k (segment_of c.args.segment)) (sym c.self.view_is) c.requires) (subst (λ (k : KeptFlats). IsSectionOf k records) (sym c.self.view_is) is))
