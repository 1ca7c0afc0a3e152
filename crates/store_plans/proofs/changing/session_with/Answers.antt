use Rattle.std.proofs.Common.{◌∙◌, sym, subst}
use Rattle.payload_tables.specs.Kept.{PlainOthers, AreOthersIn, last_added}
use Rattle.payload_tables.proofs.Basing.{table-end}
use Rattle.store_plans.proofs.FlushSessions.{all-session}
use Rattle.store_plans.proofs.changing.session_with.Goals as goal

pub returns-clause-session : goal.returns-clause-session
returns-clause-session c = λ added t n p. (
  all-session added (record { payloads = c.args.payloads; below = c.master_count.result; others = c.in_ok-others.others; pending = c.args.pending }) n (c.master_count.ensures ∙ table-end c.args.tables.now added t)
      (subst (λ (o : PlainOthers). AreOthersIn o (last_added added)) (sym (c.in_ok-others.ensures ∙ c.others.ensures)) t.others) p,
  n,
)
