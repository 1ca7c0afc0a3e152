use Rattle.flat_segments.proofs.Sections.{joined}
use Rattle.flat_segments.proofs.view.FlatView.join.Goals as goal

pub invariant_of-result : goal.invariant_of-result
invariant_of-result c =
    let may = c.requires in
    let facts = joined c.args.self c.args.others.now c.args.other_bytes.now c.args.pending.now c.args.pending_bytes.now may c.run_of-others.result c.run_of-pending.result
    (c.run_of-others.ensures.flats may.first may.others_stand) (λ end f. c.run_of-others.ensures.begin may.first end may.others_stand f) (λ end f. c.run_of-others.ensures.end may.first end may.others_stand f)
    (c.run_of-pending.ensures.flats may.second may.pending_stand) (λ end f. c.run_of-pending.ensures.begin may.second end may.pending_stand f) (λ end f. c.run_of-pending.ensures.end may.second end may.pending_stand f) in
    record { lawful = facts.lawful; other_ids = facts.other_ids; pending_ids = facts.pending_ids; few = facts.few }
