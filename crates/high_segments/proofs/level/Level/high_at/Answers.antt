use Rattle.std.proofs.Common.{◌≤◌, ◌+◌, ◌^◌, ◌∙◌, ap, sym, arith, lit≤}
use Rattle.std.specs.Prelude.{drop}
use Rattle.segment_codec.specs.Record.{Segment}
use Rattle.segment_codec.proofs.Numbers.{some_is}
use Rattle.flat_segments.specs.Entries.{PlainEntry}
use Rattle.flat_segments.specs.Runs.{low_of}
use Rattle.segment_levels.specs.Kept.{PlainLevel}
use Rattle.high_segments.proofs.Places.{sound-at}
use Rattle.high_segments.proofs.level.Level.high_at.Goals as goal

abbrev none : PlainEntry
none = record { place = 0; len = 0; low = 0 }

pub overflow_sub-result : goal.overflow_sub-result
overflow_sub-result c =
    let next = c.end_of.ensures ∙ ap (λ es. low_of c.self.inside.end (drop (c.args.k + 1) es)) c.deref.ensures.value ∙ ap (λ (l : PlainLevel). low_of l.end (drop (c.args.k + 1) l.entries)) c.self.view_is in
    let at = sound-at c.args.self.now c.args.k c.end_of.result none c.requires.sound c.requires.within next in
    let order = at.order in omega (arith, order)

pub returns-clause-high : goal.returns-clause-high
returns-clause-high c = λ s get.
    let next = c.end_of.ensures ∙ ap (λ es. low_of c.self.inside.end (drop (c.args.k + 1) es)) c.deref.ensures.value ∙ ap (λ (l : PlainLevel). low_of l.end (drop (c.args.k + 1) l.entries)) c.self.view_is in
    let at = sound-at c.args.self.now c.args.k c.end_of.result none c.requires.sound c.requires.within next in
    ap (λ (z : Segment). z.high) (some_is _ s (sym at.get ∙ get))

pub returns-clause-small : goal.returns-clause-small
returns-clause-small c =
    let next = c.end_of.ensures ∙ ap (λ es. low_of c.self.inside.end (drop (c.args.k + 1) es)) c.deref.ensures.value ∙ ap (λ (l : PlainLevel). low_of l.end (drop (c.args.k + 1) l.entries)) c.self.view_is in
    let at = sound-at c.args.self.now c.args.k c.end_of.result none c.requires.sound c.requires.within next in
    let order = at.order in let within = at.within in let small = c.requires.sound.small in let wide : 2 ^ 56 ≤ 2 ^ 57 = lit≤ tt in
    omega (arith, order, within, small, wide)
