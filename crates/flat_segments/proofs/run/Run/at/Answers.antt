use Rattle.std.proofs.Common.{◌<◌, ◌∙◌, ℕ, sym, subst, refl, ap, arith, Some, get_or}
use Rattle.std.specs.Prelude.{length, drop, take}
use Rattle.std.specs.List.{AllByRecursion}
use Rattle.std.proofs.lemmas.List.{length-drop}
use Rattle.segment_codec.specs.Record.{Segment}
use Rattle.segment_codec.specs.Number.{numbers_in}
use Rattle.flat_segments.specs.Runs.{slice_in}
use Rattle.flat_segments.proofs.Searching.{run-at, made-at}
use Rattle.flat_segments.proofs.run.Run.at.Goals as goal

pub split_at-requires : goal.split_at-requires
split_at-requires c =
    let at = run-at c.args.self.now.bytes.now c.args.self.now.end c.args.self.now.entries.now c.args.k _ c.index-self-k.result c.args.self.now.read c.requires refl in
    let within = at.read.within in let place = c.place.ensures in omega (arith, within, place)

pub split_at-requires-2 : goal.split_at-requires-2
split_at-requires-2 c =
    let at = run-at c.args.self.now.bytes.now c.args.self.now.end c.args.self.now.entries.now c.args.k _ c.index-self-k.result c.args.self.now.read c.requires refl in
    let within = at.read.within in let place = c.place.ensures in let len = c.len.ensures in
    let behind = ap length c.split_at.ensures.back in let left = length-drop c.place.result c.args.self.now.bytes.now in
    omega (arith, within, place, len, behind, left)

pub overflow_sub-high : goal.overflow_sub-high
overflow_sub-high c =
    let at = run-at c.args.self.now.bytes.now c.args.self.now.end c.args.self.now.entries.now c.args.k c.end_of-high.result c.index-self-k.result c.args.self.now.read c.requires c.end_of-high.ensures in
    let order = at.order in omega (arith, order)

pub from_number-requires : goal.from_number-requires
from_number-requires c =
    let made = made-at c.args.self.now.bytes.now c.args.self.now.end c.args.self.now.entries.now c.args.k c.end_of-high.result c.index-self-k.result c.split_at.result.1.now c.split_at-2.result.0.now
    c.args.self.now.read c.requires c.end_of-high.ensures (c.split_at.ensures.back ∙ ap (λ n. drop n c.args.self.now.bytes.now) c.place.ensures) (c.split_at-2.ensures.front ∙ ap (λ n. take n c.split_at.result.1.now) c.len.ensures) in
    let order = made.order in let valid = made.valid in let low = c.low.ensures in omega (arith, order, valid, low)

pub from_number-requires-2 : goal.from_number-requires-2
from_number-requires-2 c =
    let made = made-at c.args.self.now.bytes.now c.args.self.now.end c.args.self.now.entries.now c.args.k c.end_of-high.result c.index-self-k.result c.split_at.result.1.now c.split_at-2.result.0.now
    c.args.self.now.read c.requires c.end_of-high.ensures (c.split_at.ensures.back ∙ ap (λ n. drop n c.args.self.now.bytes.now) c.place.ensures) (c.split_at-2.ensures.front ∙ ap (λ n. take n c.split_at.result.1.now) c.len.ensures) in
    made.valid

pub flat-requires-clause-order : goal.flat-requires-clause-order
flat-requires-clause-order c =
    let made = made-at c.args.self.now.bytes.now c.args.self.now.end c.args.self.now.entries.now c.args.k c.end_of-high.result c.index-self-k.result c.split_at.result.1.now c.split_at-2.result.0.now
    c.args.self.now.read c.requires c.end_of-high.ensures (c.split_at.ensures.back ∙ ap (λ n. drop n c.args.self.now.bytes.now) c.place.ensures) (c.split_at-2.ensures.front ∙ ap (λ n. take n c.split_at.result.1.now) c.len.ensures) in
    let order = made.order in let low = c.low.ensures in let first = c.from_number.ensures in let last = c.from_number-2.ensures in omega (arith, order, low, first, last)

pub flat-requires-clause-parents : goal.flat-requires-clause-parents
flat-requires-clause-parents c =
    let made = made-at c.args.self.now.bytes.now c.args.self.now.end c.args.self.now.entries.now c.args.k c.end_of-high.result c.index-self-k.result c.split_at.result.1.now c.split_at-2.result.0.now
    c.args.self.now.read c.requires c.end_of-high.ensures (c.split_at.ensures.back ∙ ap (λ n. drop n c.args.self.now.bytes.now) c.place.ensures) (c.split_at-2.ensures.front ∙ ap (λ n. take n c.split_at.result.1.now) c.len.ensures) in
    let parents = numbers_in (slice_in c.args.self.now.bytes.now (get_or c.args.self.now.entries.now c.args.k c.index-self-k.result)) in
    (parents, subst (λ (n : ℕ). AllByRecursion (λ p. p < n) parents) (sym (c.from_number.ensures ∙ c.low.ensures)) made.below, made.spelled)

pub returns : goal.returns
returns c =
    let made = made-at c.args.self.now.bytes.now c.args.self.now.end c.args.self.now.entries.now c.args.k c.end_of-high.result c.index-self-k.result c.split_at.result.1.now c.split_at-2.result.0.now
    c.args.self.now.read c.requires c.end_of-high.ensures (c.split_at.ensures.back ∙ ap (λ n. drop n c.args.self.now.bytes.now) c.place.ensures) (c.split_at-2.ensures.front ∙ ap (λ n. take n c.split_at.result.1.now) c.len.ensures) in
    let parents = numbers_in (slice_in c.args.self.now.bytes.now (get_or c.args.self.now.entries.now c.args.k c.index-self-k.result)) in
    let low = c.from_number.ensures ∙ c.low.ensures in
    let below = subst (λ (n : ℕ). AllByRecursion (λ p. p < n) parents) (sym low) made.below in
    let segment = λ (first last : ℕ). (let s : Segment = record { low = first; high = last; level = 0; parents = parents } in s) in
    made.get ∙ ap (λ (s : Segment). Some s) (sym (c.flat.ensures parents below made.spelled ∙ ap (λ n. segment n c.from_number-2.result) low ∙ ap (segment _) c.from_number-2.ensures))
