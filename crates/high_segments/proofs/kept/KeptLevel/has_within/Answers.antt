use Rattle.std.proofs.Common.{◌≡◌, ◌-◌, sym, subst, ap, arith, get_or, Some}
use Rattle.std.proofs.lemmas.Bool.{ltb-true}
use Rattle.segment_codec.specs.Table.{segment_at}
use Rattle.segment_levels.specs.Kept.{PlainGroup, PlainGroups, groups_in, made_in}
use Rattle.segment_levels.specs.Sound.{IsReadable}
use Rattle.high_segments.proofs.Nesting.{group-has}
use Rattle.high_segments.proofs.kept.KeptLevel.has_within.Goals as goal

pub returns-then-low-id : goal.returns-then-low-id
returns-then-low-id c = λ t.
    let l : PlainGroups = record { level = c.self.inside.level; groups = c.self.inside.groups.items; bytes = c.self.inside.bytes.items; end = c.self.inside.end; grouped = c.self.inside.grouped; count = c.self.inside.count } in
    let sound : IsReadable l = subst IsReadable (sym c.self.view_is) c.requires in
    let g = c.index-group.result.now in
    let same : g ≡ get_or l.groups (c.args.near - 1) g = c.index-group.ensures in
    let one = c.if-near-eq0.false in let few = c.if-near-len.false in let len = c.len.ensures in
    let low-is = c.low.ensures in let low = c.if-low-id.true in let high-is = c.high.ensures in
    let lt = ltb-true c.args.id c.high.result t in
    let same-low = ap (λ (x : PlainGroup). x.low) same in let same-high = ap (λ (x : PlainGroup). x.high) same in
    let found = group-has l c.args.id (c.args.near - 1) g sound (omega (arith, one, few, len)) (omega (arith, low, low-is, same-low)) (omega (arith, lt, high-is, same-high)) in (
      made_in l.level l.bytes (get_or l.groups (c.args.near - 1) g),
      subst (λ (p : PlainGroups). segment_at (groups_in p) c.args.id ≡ Some (made_in l.level l.bytes (get_or l.groups (c.args.near - 1) g))) c.self.view_is found,
      omega (arith, lt, high-is, same-high),
    )
