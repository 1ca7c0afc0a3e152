use Rattle.std.proofs.Common.{◌≡◌, ◌≤◌, ◌<◌, ◌∙◌, ◌^◌, ℕ, List, sym, subst, ap, arith, lit≤, Some, None}
use Rattle.std.specs.List.{AllByRecursion}
use Rattle.segment_codec.specs.Record.{Segment}
use Rattle.segment_codec.specs.Number.{numbers_in}
use Rattle.segment_codec.specs.Table.{segment_at}
use Rattle.flat_segments.specs.Runs.{slice_in}
use Rattle.segment_levels.specs.Kept.{PlainGroups, groups_in, made_in, entry_of}
use Rattle.segment_levels.specs.Sound.{IsReadable}
use Rattle.high_segments.proofs.Finding.{found-none, found-at}
use Rattle.high_segments.proofs.kept.KeptLevel.find.Goals as goal

pub returns-then-count-eq0 : goal.returns-then-count-eq0
returns-then-count-eq0 c =
    let l : PlainGroups = record { level = c.self.inside.level; groups = c.self.inside.groups.items; bytes = c.self.inside.bytes.items; end = c.self.inside.end; grouped = c.self.inside.grouped; count = c.self.inside.count } in
    let sound : IsReadable l = subst IsReadable (sym c.self.view_is) c.requires in
    subst (λ (p : PlainGroups). segment_at (groups_in p) c.args.id ≡ None) c.self.view_is
    (found-none l sound c.args.id c.count_up_to-count.result c.deref.result.now c.deref.ensures.value c.count_up_to-count.ensures.front c.count_up_to-count.ensures.back c.if-count-eq0.true)

pub returns-then-high-id : goal.returns-then-high-id
returns-then-high-id c =
    let l : PlainGroups = record { level = c.self.inside.level; groups = c.self.inside.groups.items; bytes = c.self.inside.bytes.items; end = c.self.inside.end; grouped = c.self.inside.grouped; count = c.self.inside.count } in
    let sound : IsReadable l = subst IsReadable (sym c.self.view_is) c.requires in
    let at = found-at l sound c.args.id c.count_up_to-count.result c.deref.result.now c.deref.ensures.value c.count_up_to-count.ensures.front c.count_up_to-count.ensures.back c.count_up_to-count.ensures.within c.if-count-eq0.false c.index-group.result.now c.index-group.ensures in
    let lt = c.if-high-id.true in let high = c.high.ensures in
    subst (λ (p : PlainGroups). segment_at (groups_in p) c.args.id ≡ None) c.self.view_is (at.past (omega (arith, lt, high)))

pub lend_group-requires-clause-small : goal.lend_group-requires-clause-small
lend_group-requires-clause-small c =
    let l : PlainGroups = record { level = c.self.inside.level; groups = c.self.inside.groups.items; bytes = c.self.inside.bytes.items; end = c.self.inside.end; grouped = c.self.inside.grouped; count = c.self.inside.count } in
    let sound : IsReadable l = subst IsReadable (sym c.self.view_is) c.requires in
    let at = found-at l sound c.args.id c.count_up_to-count.result c.deref.result.now c.deref.ensures.value c.count_up_to-count.ensures.front c.count_up_to-count.ensures.back c.count_up_to-count.ensures.within c.if-count-eq0.false c.index-group.result.now c.index-group.ensures in
    let within = at.within in let small = sound.small in let wide : 2 ^ 56 ≤ 2 ^ 57 = lit≤ tt in omega (arith, within, small, wide)

pub lend_group-requires-clause-below : goal.lend_group-requires-clause-below
lend_group-requires-clause-below c =
    let l : PlainGroups = record { level = c.self.inside.level; groups = c.self.inside.groups.items; bytes = c.self.inside.bytes.items; end = c.self.inside.end; grouped = c.self.inside.grouped; count = c.self.inside.count } in
    let sound : IsReadable l = subst IsReadable (sym c.self.view_is) c.requires in
    let at = found-at l sound c.args.id c.count_up_to-count.result c.deref.result.now c.deref.ensures.value c.count_up_to-count.ensures.front c.count_up_to-count.ensures.back c.count_up_to-count.ensures.within c.if-count-eq0.false c.index-group.result.now c.index-group.ensures in
    let g = c.index-group.result.now in
    subst (λ (bs : List ℕ). AllByRecursion (λ p. p < g.low) (numbers_in (slice_in bs (entry_of g)))) (sym c.deref-2.ensures.value) (sound.below (made_in l.level l.bytes g) at.is_in)

pub returns : goal.returns
returns c =
    let l : PlainGroups = record { level = c.self.inside.level; groups = c.self.inside.groups.items; bytes = c.self.inside.bytes.items; end = c.self.inside.end; grouped = c.self.inside.grouped; count = c.self.inside.count } in
    let sound : IsReadable l = subst IsReadable (sym c.self.view_is) c.requires in
    let at = found-at l sound c.args.id c.count_up_to-count.result c.deref.result.now c.deref.ensures.value c.count_up_to-count.ensures.front c.count_up_to-count.ensures.back c.count_up_to-count.ensures.within c.if-count-eq0.false c.index-group.result.now c.index-group.ensures in
    let le = c.if-high-id.false in let high = c.high.ensures in
    let g = c.index-group.result.now in
    subst (λ (p : PlainGroups). segment_at (groups_in p) c.args.id ≡ Some (made_in l.level l.bytes g)) c.self.view_is (at.here (omega (arith, le, high)))
    ∙ ap (λ (s : Segment). Some s) (sym (c.lend_group.ensures ∙ ap (λ (bs : List ℕ). made_in l.level bs g) c.deref-2.ensures.value))
