use Rattle.std.proofs.Common.{◌<◌, ◌∙◌, ℕ, sym, subst, ap, arith}
use Rattle.std.specs.Prelude.{length, drop, take}
use Rattle.std.specs.List.{AllByRecursion}
use Rattle.std.proofs.lemmas.List.{length-drop}
use Rattle.segment_codec.specs.Record.{Segment}
use Rattle.segment_codec.specs.Number.{numbers_in}
use Rattle.flat_segments.specs.Runs.{slice_in}
use Rattle.flat_segments.proofs.Searching.{read-means}
use Rattle.segment_levels.specs.Kept.{entry_of}
use Rattle.high_segments.proofs.kept.lend_group.Goals as goal

pub split_at-requires : goal.split_at-requires
split_at-requires c =
    let within = (read-means c.args.bytes.now (entry_of c.args.group) c.requires.read).within in let place = c.place.ensures in omega (arith, within, place)

pub split_at-requires-2 : goal.split_at-requires-2
split_at-requires-2 c =
    let within = (read-means c.args.bytes.now (entry_of c.args.group) c.requires.read).within in let place = c.place.ensures in let len = c.len.ensures in
    let behind = ap length c.split_at.ensures.back in let left = length-drop c.place.result c.args.bytes.now in omega (arith, within, place, len, behind, left)

pub of_level-requires-clause-parents : goal.of_level-requires-clause-parents
of_level-requires-clause-parents c =
    let read = read-means c.args.bytes.now (entry_of c.args.group) c.requires.read in
    let parents = numbers_in (slice_in c.args.bytes.now (entry_of c.args.group)) in
    let spelled = c.split_at-2.ensures.front ∙ ap (λ n. take n c.split_at.result.1.now) c.len.ensures ∙ ap (take c.args.group.len) (c.split_at.ensures.back ∙ ap (λ n. drop n c.args.bytes.now) c.place.ensures) ∙ read.spelled in
    (parents, subst (λ (n : ℕ). AllByRecursion (λ p. p < n) parents) (sym (c.from_number.ensures ∙ c.low.ensures)) c.requires.below, spelled)

pub returns : goal.returns
returns c =
    let read = read-means c.args.bytes.now (entry_of c.args.group) c.requires.read in
    let parents = numbers_in (slice_in c.args.bytes.now (entry_of c.args.group)) in
    let spelled = c.split_at-2.ensures.front ∙ ap (λ n. take n c.split_at.result.1.now) c.len.ensures ∙ ap (take c.args.group.len) (c.split_at.ensures.back ∙ ap (λ n. drop n c.args.bytes.now) c.place.ensures) ∙ read.spelled in
    let low = c.from_number.ensures ∙ c.low.ensures in
    let below = subst (λ (n : ℕ). AllByRecursion (λ p. p < n) parents) (sym low) c.requires.below in
    let segment = λ (first last : ℕ). (let s : Segment = record { low = first; high = last; level = c.args.level; parents = parents } in s) in
    c.of_level.ensures parents below spelled ∙ ap (λ n. segment n c.from_number-2.result) low ∙ ap (segment c.args.group.low) (c.from_number-2.ensures ∙ c.high.ensures)
