use Rattle.std.proofs.Common.{◌≡◌, ◌-◌, ◌∙◌, sym, ap, arith, length}
use Rattle.segment_levels.specs.Kept.{PlainGroups}
use Rattle.high_segments.proofs.Mixing.{all-front, level-is, front-set, row-of, row-held, row-front, row-few, row-grown, row-longer, below-sound, begins-there, few-there}
use Rattle.high_segments.proofs.grow.grow_level.Goals as goal

pub left_over-requires-clause-held : goal.left_over-requires-clause-held
left_over-requires-clause-held c =
    let r = c.requires.may in row-held r.0 r.1 c.args.below.segments c.args.k c.args.levels.now r.2 c.requires.within

pub returns-in_err-run-clause-front : goal.returns-in_err-run-clause-front
returns-in_err-run-clause-front c = all-front c.args.levels.now

pub grow_row-requires-clause-lone : goal.grow_row-requires-clause-lone
grow_row-requires-clause-lone c = λ e.
    let r = c.requires.may in
    let l = c.requires.lone e in
    let high = l.1 in
    let a = (row-of r.0 r.1 c.args.below.segments c.args.k c.args.levels.now r.2 c.requires.within c.index-levels-k.result c.index-levels-k.is c.in_ok-run.run' (λ top segments from e h. c.in_ok-run.ensures top segments from e h)).level in
    let n = (level-is r.0 r.1 c.args.below.segments c.args.k c.args.levels.now r.2 c.requires.within c.index-levels-k.result c.index-levels-k.is).number in
    (l.0, omega (arith, high, a, n))

pub grow_row-requires-clause-sound : goal.grow_row-requires-clause-sound
grow_row-requires-clause-sound c =
    let r = c.requires.may in below-sound r.0 r.1 c.args.below.segments c.args.k c.args.levels.now r.2 c.requires.within c.index-levels-k.result c.index-levels-k.is

pub grow_row-requires-clause-begin : goal.grow_row-requires-clause-begin
grow_row-requires-clause-begin c =
    let r = c.requires.may in
    (row-of r.0 r.1 c.args.below.segments c.args.k c.args.levels.now r.2 c.requires.within c.index-levels-k.result c.index-levels-k.is c.in_ok-run.run' (λ top segments from e h. c.in_ok-run.ensures top segments from e h)).end
    ∙ begins-there r.0 r.1 c.args.below.segments c.args.k c.args.levels.now r.2 c.requires.within c.index-levels-k.result c.index-levels-k.is

pub grow_row-requires-clause-counted : goal.grow_row-requires-clause-counted
grow_row-requires-clause-counted c =
    let r = c.requires.may in
    let a = (row-of r.0 r.1 c.args.below.segments c.args.k c.args.levels.now r.2 c.requires.within c.index-levels-k.result c.index-levels-k.is c.in_ok-run.run' (λ top segments from e h. c.in_ok-run.ensures top segments from e h)).grouped in
    let b = few-there r.0 r.1 c.args.below.segments c.args.k c.args.levels.now r.2 c.requires.within c.index-levels-k.result c.index-levels-k.is in omega (arith, a, b)

pub grow_row-requires-clause-grouped : goal.grow_row-requires-clause-grouped
grow_row-requires-clause-grouped c =
    let r = c.requires.may in
    ap (λ (z : PlainGroups). z.grouped) (sym c.index-levels-k.is)
    ∙ sym (row-of r.0 r.1 c.args.below.segments c.args.k c.args.levels.now r.2 c.requires.within c.index-levels-k.result c.index-levels-k.is c.in_ok-run.run' (λ top segments from e h. c.in_ok-run.ensures top segments from e h)).grouped

pub grow_row-requires-clause-read : goal.grow_row-requires-clause-read
grow_row-requires-clause-read c =
    let r = c.requires.may in
    (row-of r.0 r.1 c.args.below.segments c.args.k c.args.levels.now r.2 c.requires.within c.index-levels-k.result c.index-levels-k.is c.in_ok-run.run' (λ top segments from e h. c.in_ok-run.ensures top segments from e h)).read

pub returns-in_err-lone-clause-front : goal.returns-in_err-lone-clause-front
returns-in_err-lone-clause-front c = front-set c.args.levels.now c.args.levels.now c.args.k c.index-levels-k.result c.grow_row.new.kept (all-front c.args.levels.now) c.requires.within c.grow_row.ensures.front

pub overflow_sub-len : goal.overflow_sub-len
overflow_sub-len c =
    let r = c.requires.may in
    let row = row-of r.0 r.1 c.args.below.segments c.args.k c.args.levels.now r.2 c.requires.within c.index-levels-k.result c.index-levels-k.is c.in_ok-run.run' (λ top segments from e h. c.in_ok-run.ensures top segments from e h) in
    let le = row-longer r.0 r.1 c.args.below.segments c.args.k c.args.levels.now r.2 c.requires.within c.index-levels-k.result c.index-levels-k.is c.in_ok-run.run' c.grow_row.new.run row c.in_ok-lone.ensures.groups in
    let a = c.len-before.ensures in let b = c.len.ensures in omega (arith, le, a, b)

pub count_more-requires : goal.count_more-requires
count_more-requires c =
    let r = c.requires.may in
    let row = row-of r.0 r.1 c.args.below.segments c.args.k c.args.levels.now r.2 c.requires.within c.index-levels-k.result c.index-levels-k.is c.in_ok-run.run' (λ top segments from e h. c.in_ok-run.ensures top segments from e h) in
    let a = c.len-before.ensures in let b = c.len.ensures in
    let more : c.len.result - c.len-before.result ≡ length c.grow_row.new.run.entries - length c.in_ok-run.run'.entries = omega (arith, a, b) in
    let few = row-few r.0 r.1 c.args.below.segments c.args.k c.args.levels.now r.2 c.requires.within c.index-levels-k.result c.index-levels-k.is c.in_ok-run.run' c.grow_row.new.run row c.in_ok-lone.ensures.groups
    c.grow_row.new.kept (c.len.result - c.len-before.result) c.in_ok-lone.ensures.count more in
    let same = ap (λ (z : PlainGroups). z.count) (Rattle.std.proofs.lemmas.List.get_or-set_same c.args.levels.now c.args.k c.grow_row.new.kept c.index-levels-k-2.result c.requires.within) in
    omega (arith, few, same)

pub returns-clause-level : goal.returns-clause-level
returns-clause-level c = λ old new g.
    let row = row-of old new c.args.below.segments c.args.k c.args.levels.now g c.requires.within c.index-levels-k.result c.index-levels-k.is c.in_ok-run.run' (λ top segments from e h. c.in_ok-run.ensures top segments from e h) in
    let a = c.len-before.ensures in let b = c.len.ensures in
    let more : c.len.result - c.len-before.result ≡ length c.grow_row.new.run.entries - length c.in_ok-run.run'.entries = omega (arith, a, b) in
    row-grown old new c.args.below.segments c.args.k c.args.levels.now g c.requires.within c.index-levels-k.result c.index-levels-k.is c.in_ok-run.run' c.grow_row.new.run row c.in_ok-lone.ensures.groups
    c.grow_row.new.kept c.count_more.new.self c.index-levels-k-2.result (c.len.result - c.len-before.result) (λ front belows k are. c.in_ok-lone.ensures.kept front belows k are) c.in_ok-lone.ensures.count more c.count_more.ensures

pub returns-clause-front : goal.returns-clause-front
returns-clause-front c =
    row-front c.args.levels.now c.args.k c.index-levels-k.result c.grow_row.new.kept c.count_more.new.self c.index-levels-k-2.result (c.len.result - c.len-before.result) c.requires.within c.grow_row.ensures.front c.count_more.ensures
