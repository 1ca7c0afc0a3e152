use Rattle.std.proofs.Common.{◌≡◌, ◌∷◌, inl, inr, List, refl, sym, subst, length}
use Rattle.remote_trait.specs.Runs.{Run}
use Rattle.remote_pipe.proofs.Passing.{next-is}
use Rattle.remote_pipe.proofs.ahead.Asker.names.Goals as goal

pub take_names-requires : goal.take_names-requires
take_names-requires g c =
    let n = next-is c.args.x.now c.args.back (length c.args.out.now) c.args.self.now.queue.items (c.if-is_next.ensures.yes refl) in
    n.2.0.3

pub returns-then-is_next-clause-asks : goal.returns-then-is_next-clause-asks
returns-then-is_next-clause-asks g c =
    let n = next-is c.args.x.now c.args.back (length c.args.out.now) c.args.self.now.queue.items (c.if-is_next.ensures.yes refl) in
    inl (n.0, subst (λ (l : List Run). c.args.self.now.queue.items ≡ n.0 ∷ l) (sym c.take_names.ensures.queue) n.1, n.2, c.take_names.ensures.takes c.args.x.now c.args.back)

pub returns-clause-asks : goal.returns-clause-asks
returns-clause-asks g c = inr (c.if-is_next.ensures.other refl, c.ask_names.ensures.asks)
