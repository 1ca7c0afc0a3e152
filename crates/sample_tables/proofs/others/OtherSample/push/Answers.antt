use Rattle.std.proofs.Common.{[], ◌∷◌, ◌++◌, ◌≡◌, ◌+◌, ◌-◌, sym, subst, arith, length}
use Rattle.sample_tables.specs.Samples.{next_segment}
use Rattle.sample_tables.specs.Others.{OthersWritten, IsOthersOf, MayPushOther}
use Rattle.sample_tables.proofs.Pushing.{same-bytes}
use Rattle.sample_tables.proofs.Joining.{record-behind, next-other, next-may, next-others}
use Rattle.sample_tables.proofs.others.OtherSample.push.Goals as goal

pub unreachable-requires : goal.unreachable-requires
unreachable-requires c =
    let now = c.args.self.now in let parents = c.args.parents.now in let count = c.args.count in
    let inside : OthersWritten = record { bytes = c.self.inside.bytes.items; section = c.self.inside.section; masters = c.self.inside.masters; start = c.self.inside.start; end = c.self.inside.end } in
    let may : MayPushOther inside.masters inside.end parents count = subst (λ (w : OthersWritten). MayPushOther w.masters w.end parents count) (sym c.self.view_is) c.requires in
    let some = may.some in
    let at : c.len-at.result ≡ length c.self.inside.bytes.items = let len = c.len-at.ensures in omega (arith, len, c.self.inside.bytes.ok.0) in
    let first = c.from_number.ensures in let last = c.from_number-2.ensures in
    let longer = same-bytes c.from_number.result c.from_number-2.result inside.end count parents inside.bytes c.write_segment.new.out.items first last c.in_ok-write_segment.ensures.ok in
    let behind = record-behind (next_segment inside.end parents count) inside.bytes c.write_segment.new.out.items c.deref.result.now c.split_at.result.1.now c.len-at.result longer c.deref.ensures.value at c.split_at.ensures.back in
    let is = c.self.invariant in
    let next = next-other inside is.0 is.1 parents count may in
    c.in_default.ensures.only (next_segment inside.end parents count) [] next behind

pub push-requires : goal.push-requires
push-requires c =
    let now = c.args.self.now in let parents = c.args.parents.now in let count = c.args.count in
    let inside : OthersWritten = record { bytes = c.self.inside.bytes.items; section = c.self.inside.section; masters = c.self.inside.masters; start = c.self.inside.start; end = c.self.inside.end } in
    let may : MayPushOther inside.masters inside.end parents count = subst (λ (w : OthersWritten). MayPushOther w.masters w.end parents count) (sym c.self.view_is) c.requires in
    let some = may.some in
    let at : c.len-at.result ≡ length c.self.inside.bytes.items = let len = c.len-at.ensures in omega (arith, len, c.self.inside.bytes.ok.0) in
    let first = c.from_number.ensures in let last = c.from_number-2.ensures in
    let longer = same-bytes c.from_number.result c.from_number-2.result inside.end count parents inside.bytes c.write_segment.new.out.items first last c.in_ok-write_segment.ensures.ok in
    let behind = record-behind (next_segment inside.end parents count) inside.bytes c.write_segment.new.out.items c.deref.result.now c.split_at.result.1.now c.len-at.result longer c.deref.ensures.value at c.split_at.ensures.back in
    let is = c.self.invariant in
    let next = next-other inside is.0 is.1 parents count may in
    let same = (c.in-Some.ensures.only (next_segment inside.end parents count) [] next behind).0 in
    next-may inside is.0 is.1 parents count may _ same

pub invariant_of-self-in-Ok : goal.invariant_of-self-in-Ok
invariant_of-self-in-Ok c =
    let now = c.args.self.now in let parents = c.args.parents.now in let count = c.args.count in
    let inside : OthersWritten = record { bytes = c.self.inside.bytes.items; section = c.self.inside.section; masters = c.self.inside.masters; start = c.self.inside.start; end = c.self.inside.end } in
    let may : MayPushOther inside.masters inside.end parents count = subst (λ (w : OthersWritten). MayPushOther w.masters w.end parents count) (sym c.self.view_is) c.requires in
    let some = may.some in
    let at : c.len-at.result ≡ length c.self.inside.bytes.items = let len = c.len-at.ensures in omega (arith, len, c.self.inside.bytes.ok.0) in
    let first = c.from_number.ensures in let last = c.from_number-2.ensures in
    let longer = same-bytes c.from_number.result c.from_number-2.result inside.end count parents inside.bytes c.write_segment.new.out.items first last c.in_ok-write_segment.ensures.ok in
    let behind = record-behind (next_segment inside.end parents count) inside.bytes c.write_segment.new.out.items c.deref.result.now c.split_at.result.1.now c.len-at.result longer c.deref.ensures.value at c.split_at.ensures.back in
    let is = c.self.invariant in
    let next = next-other inside is.0 is.1 parents count may in
    let same = (c.in-Some.ensures.only (next_segment inside.end parents count) [] next behind).0 in (
      is.0 ++ next_segment inside.end parents count ∷ [],
      next-others inside is.0 is.1 parents count may _ same c.write_segment.new.out.items c.len-at.result (c.self.inside.end + (c.args.count - 1) + 1) c.push.new.self longer at (omega (arith, some)) c.in-Ok.ensures.section,
    )

pub returns-in-Ok-clause-added : goal.returns-in-Ok-clause-added
returns-in-Ok-clause-added c segments of =
    let now = c.args.self.now in let parents = c.args.parents.now in let count = c.args.count in
    let inside : OthersWritten = record { bytes = c.self.inside.bytes.items; section = c.self.inside.section; masters = c.self.inside.masters; start = c.self.inside.start; end = c.self.inside.end } in
    let may : MayPushOther inside.masters inside.end parents count = subst (λ (w : OthersWritten). MayPushOther w.masters w.end parents count) (sym c.self.view_is) c.requires in
    let some = may.some in
    let at : c.len-at.result ≡ length c.self.inside.bytes.items = let len = c.len-at.ensures in omega (arith, len, c.self.inside.bytes.ok.0) in
    let first = c.from_number.ensures in let last = c.from_number-2.ensures in
    let longer = same-bytes c.from_number.result c.from_number-2.result inside.end count parents inside.bytes c.write_segment.new.out.items first last c.in_ok-write_segment.ensures.ok in
    let behind = record-behind (next_segment inside.end parents count) inside.bytes c.write_segment.new.out.items c.deref.result.now c.split_at.result.1.now c.len-at.result longer c.deref.ensures.value at c.split_at.ensures.back in
    let is = c.self.invariant in
    let next = next-other inside is.0 is.1 parents count may in
    let same = (c.in-Some.ensures.only (next_segment inside.end parents count) [] next behind).0 in
    let given : IsOthersOf inside segments = subst (λ (s : OthersWritten). IsOthersOf s segments) (sym c.self.view_is) of in
    let new : OthersWritten = record { bytes = c.write_segment.new.out.items; section = c.push.new.self; masters = c.self.inside.masters; start = c.self.inside.start; end = c.self.inside.end + (c.args.count - 1) + 1 } in
    subst (λ (w : OthersWritten). IsOthersOf new (segments ++ next_segment w.end parents count ∷ [])) c.self.view_is
    (next-others inside segments given parents count may _ same c.write_segment.new.out.items c.len-at.result (c.self.inside.end + (c.args.count - 1) + 1) c.push.new.self longer at (omega (arith, some)) c.in-Ok.ensures.section)
