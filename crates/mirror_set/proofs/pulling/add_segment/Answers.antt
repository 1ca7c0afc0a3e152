use Rattle.std.proofs.Common.{◌+◌, ◌-◌, ◌∙◌, sym, ap, arith}
use Rattle.std.specs.Prelude.{slice_get}
use Rattle.segment_codec.specs.Record.{Segment}
use Rattle.remote_rules.specs.CloneData.{CloneData, names_at}
use Rattle.mirror_set.proofs.Parts.{at-segment, below-from, count-below, never-unnamed, asks-line, count-line, named-line}
use Rattle.mirror_set.proofs.pulling.add_segment.Goals as goal

pub returns-then-segment-from-clause-count : goal.returns-then-segment-from-clause-count
returns-then-segment-from-clause-count g c =
    let high = ap (λ (s : Segment). s.high) c.segment.view_is in
    let less = c.if-segment-from.true in
    c.requires.count ∙ sym (count-below c.args.cloned.now c.requires.unbroken c.args.from c.args.k c.at-segment.result.now (ap (λ (d : CloneData). slice_get d.segments c.args.k) (sym c.cloned.view_is) ∙ c.at-segment.ensures) (omega (arith, high, less)))

pub returns-then-segment-from-clause-names : goal.returns-then-segment-from-clause-names
returns-then-segment-from-clause-names g c =
    let high = ap (λ (s : Segment). s.high) c.segment.view_is in
    let less = c.if-segment-from.true in
    λ h. below-from c.args.cloned.now c.requires.unbroken c.args.from c.args.k c.at-segment.result.now (ap (λ (d : CloneData). slice_get d.segments c.args.k) (sym c.cloned.view_is) ∙ c.at-segment.ensures) (omega (arith, high, less)) (g.R.Remote.shown c.args.remote.now) c.args.names.now h

pub overflow_sub-count : goal.overflow_sub-count
overflow_sub-count g c =
    let high = ap (λ (s : Segment). s.high) c.segment.view_is in
    let low = ap (λ (s : Segment). s.low) c.segment.view_is in
    let order = (at-segment c.args.cloned.now c.requires.unbroken c.args.k c.at-segment.result.now (ap (λ (d : CloneData). slice_get d.segments c.args.k) (sym c.cloned.view_is) ∙ c.at-segment.ensures)).order in
    let le = c.if-segment-from.false in
    let is = c.later-first.ensures in
    omega (arith, high, low, order, le, is)

pub unreachable-requires : goal.unreachable-requires
unreachable-requires g c =
    let high = ap (λ (s : Segment). s.high) c.segment.view_is in
    never-unnamed c.args.cloned.now c.requires.unbroken c.args.k c.at-segment.result.now (ap (λ (d : CloneData). slice_get d.segments c.args.k) (sym c.cloned.view_is) ∙ c.at-segment.ensures) (ap (names_at c.args.cloned.now.names) (sym high) ∙ c.in_default.ensures)

pub returns-clause-asked : goal.returns-clause-asked
returns-clause-asked g c =
    let high = ap (λ (s : Segment). s.high) c.segment.view_is in
    let low = ap (λ (s : Segment). s.low) c.segment.view_is in
    let le = c.if-segment-from.false in
    let is = c.later-first.ensures in
    let s = c.at-segment.result.now in
    asks-line c.args.cloned.now c.requires.unbroken c.args.from c.args.k s (ap (λ (d : CloneData). slice_get d.segments c.args.k) (sym c.cloned.view_is) ∙ c.at-segment.ensures) (omega (arith, high, le)) c.in-Some.name
    (ap (names_at c.args.cloned.now.names) (sym high) ∙ c.in-Some.ensures) (c.segment.inside.high - c.later-first.result + 1) (omega (arith, high, low, is))
    (g.R.Remote.shown c.args.remote.now) (g.R.Remote.shown c.add_names.new.remote) c.args.names.now c.add_names.new.names c.requires.count c.add_names.result c.add_names.ensures

pub returns-clause-count : goal.returns-clause-count
returns-clause-count g c =
    let high = ap (λ (s : Segment). s.high) c.segment.view_is in
    let low = ap (λ (s : Segment). s.low) c.segment.view_is in
    let le = c.if-segment-from.false in
    let is = c.later-first.ensures in
    let s = c.at-segment.result.now in
    count-line c.args.cloned.now c.requires.unbroken c.args.from c.args.k s (ap (λ (d : CloneData). slice_get d.segments c.args.k) (sym c.cloned.view_is) ∙ c.at-segment.ensures) (omega (arith, high, le)) c.in-Some.name
    (ap (names_at c.args.cloned.now.names) (sym high) ∙ c.in-Some.ensures) (c.segment.inside.high - c.later-first.result + 1) (omega (arith, high, low, is))
    (g.R.Remote.shown c.args.remote.now) (g.R.Remote.shown c.add_names.new.remote) c.args.names.now c.add_names.new.names c.requires.count c.add_names.result c.add_names.ensures

pub returns-clause-names : goal.returns-clause-names
returns-clause-names g c =
    let high = ap (λ (s : Segment). s.high) c.segment.view_is in
    let low = ap (λ (s : Segment). s.low) c.segment.view_is in
    let le = c.if-segment-from.false in
    let is = c.later-first.ensures in
    let s = c.at-segment.result.now in
    named-line c.args.cloned.now c.requires.unbroken c.args.from c.args.k s (ap (λ (d : CloneData). slice_get d.segments c.args.k) (sym c.cloned.view_is) ∙ c.at-segment.ensures) (omega (arith, high, le)) c.in-Some.name
    (ap (names_at c.args.cloned.now.names) (sym high) ∙ c.in-Some.ensures) (c.segment.inside.high - c.later-first.result + 1) (omega (arith, high, low, is))
    (g.R.Remote.shown c.args.remote.now) (g.R.Remote.shown c.add_names.new.remote) c.args.names.now c.add_names.new.names c.requires.count c.add_names.result c.add_names.ensures
