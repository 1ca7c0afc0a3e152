use Rattle.std.proofs.Common.{subst, sym, arith}
use Rattle.dag_store.specs.Kept.{no_session}
use Rattle.store_plans.specs.Sessions.{IsOnNewest}
use Rattle.store_plans.proofs.Newest.{AllOnNewest, count-more, one-at, session-more}
use Rattle.dag_store.proofs.loading.new_sessions.Goals as goal

pub sessions-preserved : goal.sessions-preserved
sessions-preserved c =
    let i = c.sessions.invariant in
    let items = c.in_ok-push.ensures.items in
    record {
      count = count-more c.sessions.sessions.items c.push.new.self.items c.in_ok-session.session c.sessions._step items i.count;
      each = subst (AllOnNewest c.args.log.now c.args.tables.now) (sym items)
          (session-more c.args.log.now c.args.tables.now c.sessions.sessions.items c.in_ok-session.session c.batch_count.result i.each c.batch_count.ensures c.in_ok-session.ensures);
    }

pub returns-clause-each : goal.returns-clause-each
returns-clause-each c = λ added s tables texts small.
    let count = c.sessions.invariant.count in
    let done = c.sessions-test.false in
    one-at (IsOnNewest added) c.sessions.sessions.items no_session s (c.sessions.invariant.each added tables texts) (omega (arith, count, done, small))
