use Rattle.std.proofs.Common.{◌++◌, ap, sym, subst, ◌∙◌, take, List, append_assoc, ◌∷◌, []}
use Rattle.remote_trait.specs.Runs.{Run}
use Rattle.remote_pipe.specs.Ahead.{AsksBehind}
use Rattle.remote_pipe.proofs.Passing.{behind-more, turn-more, all-stopped}
use Rattle.remote_pipe.proofs.ahead.Asker.expect.Goals as goal

pub returns-then-not-put-clause-puts : goal.returns-then-not-put-clause-puts
returns-then-not-put-clause-puts g c =
    let inv = c.runs.invariant in
    all-stopped c.args.runs.now c.args.self.now.queue.items c.runs.self.queue.items c.put.new.self.queue.items c.args.self.now.line c.runs.self.line c.put.new.self.line c.runs.run-index c.run-item.result
    c.runs-test.true c.run-item.is inv.asks inv.queue c.if-not-put.ensures.puts

pub runs-preserved : goal.runs-preserved
runs-preserved g c =
    let inv = c.runs.invariant in
    let put = c.if-not-put.ensures.puts in
    let i = c.runs.run-index in
    let runs = c.args.runs.now in
    let more = turn-more runs i c.run-item.result c.runs-test.true c.run-item.is in
    record {
      asks = subst (λ (l : List Run). AsksBehind l c.args.self.now.line c.put.new.self.line) (sym more) (behind-more (take i runs) c.run-item.result c.args.self.now.line c.runs.self.line c.put.new.self.line inv.asks put.0);
      queue = put.1 ∙ ap (λ (l : List Run). l ++ c.run-item.result ∷ []) inv.queue ∙ append_assoc c.args.self.now.queue.items (take i runs) (c.run-item.result ∷ [])
          ∙ ap (λ (l : List Run). c.args.self.now.queue.items ++ l) (sym more);
      few = λ le. c.if-not-put.ensures.few (inv.few le);
    }
