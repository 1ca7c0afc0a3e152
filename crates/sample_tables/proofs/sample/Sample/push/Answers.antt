use Rattle.std.proofs.Common.{[], ◌∷◌, ◌++◌, ◌≡◌, ap, sym, subst, arith, length, Err}
use Rattle.sample_tables.specs.Samples.{Written, IsSampleOf, next_segment}
use Rattle.sample_tables.proofs.Pushing.{same-bytes, end-of, next-records, next-extends, next-stands, next-end, never-bad}
use Rattle.sample_tables.proofs.sample.Sample.push.Goals as goal

pub extend-requires-clause-records : goal.extend-requires-clause-records
extend-requires-clause-records c =
    let now = c.args.self.now in let parents = c.args.parents.now in let count = c.args.count in
    let inside : Written = record { bytes = c.self.inside.bytes.items; table = c.self.inside.table } in
    let same = end-of inside now c.self.view_is in
    let at : c.len-at.result ≡ length c.self.inside.bytes.items = let len = c.len-at.ensures in omega (arith, len, c.self.inside.bytes.ok.0) in
    let low = c.count-low.ensures in let first = c.master.ensures in let last = c.master-high.ensures in
    let longer = same-bytes c.master.result c.master-high.result now.table.end count parents inside.bytes c.write_segment.new.out.items (omega (arith, same, low, first)) (omega (arith, same, low, last)) c.in_ok-write_segment.ensures.ok in
    next-extends now.table.end parents count c.requires inside c.self.invariant.0 c.split_at.result.1.now c.self.invariant.1 same
    (next-records now.table.end parents count c.requires inside.bytes c.write_segment.new.out.items c.deref.result.now c.split_at.result.1.now c.len-at.result longer c.deref.ensures.value at c.split_at.ensures.back)

pub invariant_of-self-in-Ok : goal.invariant_of-self-in-Ok
invariant_of-self-in-Ok c =
    let now = c.args.self.now in let parents = c.args.parents.now in let count = c.args.count in
    let inside : Written = record { bytes = c.self.inside.bytes.items; table = c.self.inside.table } in
    let same = end-of inside now c.self.view_is in
    let at : c.len-at.result ≡ length c.self.inside.bytes.items = let len = c.len-at.ensures in omega (arith, len, c.self.inside.bytes.ok.0) in
    let low = c.count-low.ensures in let first = c.master.ensures in let last = c.master-high.ensures in
    let longer = same-bytes c.master.result c.master-high.result now.table.end count parents inside.bytes c.write_segment.new.out.items (omega (arith, same, low, first)) (omega (arith, same, low, last)) c.in_ok-write_segment.ensures.ok in
    let records = next-records now.table.end parents count c.requires inside.bytes c.write_segment.new.out.items c.deref.result.now c.split_at.result.1.now c.len-at.result longer c.deref.ensures.value at c.split_at.ensures.back in (
      c.self.invariant.0 ++ next_segment now.table.end parents count ∷ [],
      next-stands now.table.end parents count c.requires inside c.self.invariant.0 c.write_segment.new.out.items c.len-at.result c.extend.new.self c.self.invariant.1 longer at
          (λ before is. c.in-Ok.ensures.table before (next_segment now.table.end parents count ∷ []) is records),
    )

pub unreachable-requires : goal.unreachable-requires
unreachable-requires c =
    let now = c.args.self.now in let parents = c.args.parents.now in let count = c.args.count in
    let inside : Written = record { bytes = c.self.inside.bytes.items; table = c.self.inside.table } in
    let same = end-of inside now c.self.view_is in
    let at : c.len-at.result ≡ length c.self.inside.bytes.items = let len = c.len-at.ensures in omega (arith, len, c.self.inside.bytes.ok.0) in
    let low = c.count-low.ensures in let first = c.master.ensures in let last = c.master-high.ensures in
    let longer = same-bytes c.master.result c.master-high.result now.table.end count parents inside.bytes c.write_segment.new.out.items (omega (arith, same, low, first)) (omega (arith, same, low, last)) c.in_ok-write_segment.ensures.ok in
    let records = next-records now.table.end parents count c.requires inside.bytes c.write_segment.new.out.items c.deref.result.now c.split_at.result.1.now c.len-at.result longer c.deref.ensures.value at c.split_at.ensures.back in
    never-bad now.table.end parents count c.requires inside.table.end c.in-Err-BadSegment.field-0-0 same
    (c.in-Err-BadSegment.ensures.bad (next_segment now.table.end parents count ∷ []) c.in-Err-BadSegment.field-0-0 records (ap Err c.in-Err-BadSegment.field-0-is))

pub returns-in-Ok-clause-added : goal.returns-in-Ok-clause-added
returns-in-Ok-clause-added c segments is =
    let now = c.args.self.now in let parents = c.args.parents.now in let count = c.args.count in
    let inside : Written = record { bytes = c.self.inside.bytes.items; table = c.self.inside.table } in
    let same = end-of inside now c.self.view_is in
    let at : c.len-at.result ≡ length c.self.inside.bytes.items = let len = c.len-at.ensures in omega (arith, len, c.self.inside.bytes.ok.0) in
    let low = c.count-low.ensures in let first = c.master.ensures in let last = c.master-high.ensures in
    let longer = same-bytes c.master.result c.master-high.result now.table.end count parents inside.bytes c.write_segment.new.out.items (omega (arith, same, low, first)) (omega (arith, same, low, last)) c.in_ok-write_segment.ensures.ok in
    let records = next-records now.table.end parents count c.requires inside.bytes c.write_segment.new.out.items c.deref.result.now c.split_at.result.1.now c.len-at.result longer c.deref.ensures.value at c.split_at.ensures.back in
    next-stands now.table.end parents count c.requires inside segments c.write_segment.new.out.items c.len-at.result c.extend.new.self
    (subst (λ (s : Written). IsSampleOf s segments) (sym c.self.view_is) is) longer at
    (λ before is. c.in-Ok.ensures.table before (next_segment now.table.end parents count ∷ []) is records)

pub returns-in-Ok-clause-count : goal.returns-in-Ok-clause-count
returns-in-Ok-clause-count c =
    let now = c.args.self.now in let parents = c.args.parents.now in let count = c.args.count in
    let inside : Written = record { bytes = c.self.inside.bytes.items; table = c.self.inside.table } in
    let same = end-of inside now c.self.view_is in
    let at : c.len-at.result ≡ length c.self.inside.bytes.items = let len = c.len-at.ensures in omega (arith, len, c.self.inside.bytes.ok.0) in
    let low = c.count-low.ensures in let first = c.master.ensures in let last = c.master-high.ensures in
    let longer = same-bytes c.master.result c.master-high.result now.table.end count parents inside.bytes c.write_segment.new.out.items (omega (arith, same, low, first)) (omega (arith, same, low, last)) c.in_ok-write_segment.ensures.ok in
    let records = next-records now.table.end parents count c.requires inside.bytes c.write_segment.new.out.items c.deref.result.now c.split_at.result.1.now c.len-at.result longer c.deref.ensures.value at c.split_at.ensures.back in
    next-end now.table.end parents count c.requires (record { bytes = c.write_segment.new.out.items; table = c.extend.new.self }) c.self.invariant.0
    (next-stands now.table.end parents count c.requires inside c.self.invariant.0 c.write_segment.new.out.items c.len-at.result c.extend.new.self c.self.invariant.1 longer at
    (λ before is. c.in-Ok.ensures.table before (next_segment now.table.end parents count ∷ []) is records))
