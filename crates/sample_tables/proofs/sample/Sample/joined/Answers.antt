use Rattle.std.proofs.Common.{sym, subst}
use Rattle.sample_tables.specs.Others.{OthersWritten, MayJoinSample}
use Rattle.sample_tables.proofs.Joining.{parts-may}
use Rattle.sample_tables.proofs.sample.Sample.joined.Goals as goal

pub join-requires : goal.join-requires
join-requires c =
    let others : OthersWritten = record { bytes = c.others.inside.bytes.items; section = c.others.inside.section; masters = c.others.inside.masters; start = c.others.inside.start; end = c.others.inside.end } in
    let pending : OthersWritten = record { bytes = c.pending.inside.bytes.items; section = c.pending.inside.section; masters = c.pending.inside.masters; start = c.pending.inside.start; end = c.pending.inside.end } in
    let may : MayJoinSample c.args.self.now c.args.below others pending =
    subst (λ (w : OthersWritten). MayJoinSample c.args.self.now c.args.below w pending) (sym c.others.view_is)
    (subst (λ (w : OthersWritten). MayJoinSample c.args.self.now c.args.below c.args.others.now w) (sym c.pending.view_is) c.requires) in
    parts-may c.view.result c.args.self.now c.args.below others pending c.deref.result.now c.deref-2.result.now c.others.invariant.0 c.pending.invariant.0 c.view.ensures.count may c.deref.ensures.value c.deref-2.ensures.value
    c.others.invariant.1 c.pending.invariant.1
