use Rattle.std.proofs.Common.{◌∙◌}
use Rattle.std.proofs.lemmas.Result.{on_err_weaker}
use Rattle.payload_tables.proofs.Pushing.{section-back}
use Rattle.payload_tables.proofs.pending.add_found.Goals as goal

pub returns-then-is_err-clause-unchanged : goal.returns-then-is_err-clause-unchanged
returns-then-is_err-clause-unchanged c =
    let r = c.requires.section in
    let back = c.cut_back.ensures ∙ section-back c.args.section.now c.push.new.self r.0 _ c.len-len.result c.end-end.result r.1 (c.in_ok-push.ensures.section r.0 r.1) c.len-len.ensures c.end-end.ensures in
    on_err_weaker c.add_name-added.result (λ u. (back, u)) c.add_name-added.ensures.unchanged
