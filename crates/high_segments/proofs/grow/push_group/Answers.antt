use Rattle.std.proofs.Common.{◌∙◌, ◌+◌, ◌-◌, Result, Ok, Err, sym, arith, ap}
use Rattle.std.specs.Prelude.{OnOk}
use Rattle.segment_codec.specs.Lent.{segment_of}
use Rattle.high_segments.specs.Growing.{with_group}
use Rattle.segment_levels.specs.Kept.{segments_in}
use Rattle.high_segments.proofs.Alone.{add-lone}
use Rattle.high_segments.proofs.Groups.{group-at, add-group}
use Rattle.high_segments.proofs.Noting.{some-at}
use Rattle.high_segments.proofs.Places.{segments-length}
use Rattle.high_segments.proofs.grow.push_group.Goals as goal

on-ok : {X E : Type 0} (r : Result X E) {P Q : Type 0} → (P → Q) → OnOk r P → OnOk r Q
on-ok (Ok x) f h = f h
on-ok (Err e) f h = tt

pub returns-then-have_order-clause-ok : goal.returns-then-have_order-clause-ok
returns-then-have_order-clause-ok c =
    on-ok c.push_lone.result
    (λ is. add-lone c.args.below.now c.args.at c.args.size (segment_of c.at-only.result) c.args.level.now c.push_lone.new.self c.requires.sound c.requires.room c.if-size-eq1.true c.requires.size c.at-only.ensures
    (sym c.if-have_order.ensures) is)
    c.push_lone.ensures.ok

pub find_parents-requires-clause-room : goal.find_parents-requires-clause-room
find_parents-requires-clause-room c =
    let g = group-at c.args.below.now c.args.at c.requires.room in let most = g.most in let is = c.requires.size in let room = c.requires.room in omega (arith, most, is, room)

pub overflow_add-at : goal.overflow_add-at
overflow_add-at c =
    let g = group-at c.args.below.now c.args.at c.requires.room in let most = g.most in let is = c.requires.size in let room = c.requires.room in
    let len = c.len-count.ensures in let small = c.len-count.type_inv in omega (arith, most, is, room, len, small)

pub overflow_sub-at : goal.overflow_sub-at
overflow_sub-at c =
    let g = group-at c.args.below.now c.args.at c.requires.room in let some = g.some in let is = c.requires.size in omega (arith, some, is)

pub high_at-last-requires-clause-within : goal.high_at-last-requires-clause-within
high_at-last-requires-clause-within c =
    let g = group-at c.args.below.now c.args.at c.requires.room in let some = g.some in let most = g.most in let is = c.requires.size in let room = c.requires.room in omega (arith, some, most, is, room)

pub push_group-requires : goal.push_group-requires
push_group-requires c =
    let g = group-at c.args.below.now c.args.at c.requires.room in let most = g.most in let is = c.requires.size in let counted = c.requires.counted in omega (arith, most, is, counted)

pub returns-clause-ok : goal.returns-clause-ok
returns-clause-ok c =
    let g = group-at c.args.below.now c.args.at c.requires.room in let some = g.some in let most = g.most in let is = c.requires.size in let room = c.requires.room in
    let len = segments-length c.args.below.now in
    let t = some-at (segments_in c.args.below.now) (c.args.at + c.args.size - 1) (omega (arith, some, most, is, room, len)) in
    on-ok c.push_group.result
    (λ new-is. (
      c.find_parents.new.found.items,
      add-group c.args.below.now c.args.at c.args.size c.end.result c.high_at-last.result c.find_parents.new.found.items t.0 c.args.level.now c.push_group.new.self c.requires.room
          c.requires.size (c.end.ensures ∙ c.requires.begin) c.in_ok-find_parents.ensures t.1 (c.high_at-last.ensures.high t.0 t.1)
          (new-is ∙ ap (λ ps. with_group c.args.level.now ps (c.high_at-last.result + 1) c.args.size) c.deref.ensures.value),
    ))
    c.push_group.ensures.ok
