use Rattle.std.proofs.lemmas.Result.{err_from_is_err_and}
use Rattle.mirror_set.proofs.Parts.{so-next, so-failed, asks-stay, failed-on}
use Rattle.mirror_set.proofs.pulling.names_from.Goals as goal

pub returns-in_err-add_segment-clause-stays : goal.returns-in_err-add_segment-clause-stays
returns-in_err-add_segment-clause-stays g c =
    asks-stay c.args.cloned.now _ _ _ c.in_err-add_segment.field-0.0
    (so-failed c.args.cloned.now c.requires c.args.from c.segments.k _ _ _ c.segments.names c.add_segment.new.names c.segments.invariant c.in_err-add_segment.field-0.0 c.in_err-add_segment.ensures.asked)

pub returns-in_err-add_segment-clause-faults : goal.returns-in_err-add_segment-clause-faults
returns-in_err-add_segment-clause-faults g c =
    let p = err_from_is_err_and c.from_residual.result c.from_residual.ensures.1 in
    failed-on c.args.cloned.now _ _ _ c.from_residual.result p.0 c.in_err-add_segment.field-0.0 p.1 p.2
    (so-failed c.args.cloned.now c.requires c.args.from c.segments.k _ _ _ c.segments.names c.add_segment.new.names c.segments.invariant c.in_err-add_segment.field-0.0 c.in_err-add_segment.ensures.asked)

pub segments-preserved : goal.segments-preserved
segments-preserved g c =
    so-next c.args.cloned.now c.requires c.args.from c.segments.k _ _ _ c.segments.names c.add_segment.new.names c.segments.invariant c.in_ok-add_segment.ensures.asked
    c.in_ok-add_segment.ensures.count c.in_ok-add_segment.ensures.names
