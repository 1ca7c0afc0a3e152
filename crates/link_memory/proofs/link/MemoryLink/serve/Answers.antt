use Rattle.std.proofs.Common.{arith, ap, sym, subst, Result}
use Rattle.std.proofs.lemmas.Result.{err_from_is_err_and}
use Rattle.std.specs.declared.alloc.AllocError.{AllocError}
use Rattle.remote_pipe.specs.Peer.{PutsTo}
use Rattle.link_memory.specs.Over.{server_of}
use Rattle.link_memory.proofs.Over.{none-put, no-frame, put-either}
use Rattle.link_memory.proofs.link.MemoryLink.serve.Goals as goal

pub returns-in_err-extend_from_slice-clause-puts : goal.returns-in_err-extend_from_slice-clause-puts
returns-in_err-extend_from_slice-clause-puts g c =
    let s = c.args.self.now in
    let p = err_from_is_err_and c.from_residual.result c.from_residual.ensures.1 in
    subst (λ (r : Result Unit AllocError). PutsTo c.args.piece.now r (server_of (g.R.Remote.shown s.remote) s.to_come s.asked.items) (server_of (g.R.Remote.shown s.remote) s.to_come c.extend_from_slice.new.self.items)) (sym p.1)
    (none-put c.args.piece.now (g.R.Remote.shown s.remote) s.to_come s.asked.items c.extend_from_slice.new.self.items c.in_err-extend_from_slice.ensures.items)

pub returns-then-piece-lt4-clause-puts : goal.returns-then-piece-lt4-clause-puts
returns-then-piece-lt4-clause-puts g c =
    no-frame c.args.piece.now (g.R.Remote.shown c.args.self.now.remote) c.args.self.now.to_come c.args.self.now.asked.items c.extend_from_slice.new.self.items (omega arith) c.in_ok-extend_from_slice.ensures.items

pub returns-clause-puts : goal.returns-clause-puts
returns-clause-puts g c =
    let s = c.args.self.now in
    put-either c.add_answer.result c.args.piece.now c.split_at.result.1.now (g.R.Remote.shown s.remote) (g.R.Remote.shown c.add_answer.new.remote) s.to_come c.add_answer.new.self s.asked.items c.extend_from_slice.new.self.items
    c.split_at.ensures.back c.add_answer.ensures.added c.add_answer.ensures.same c.add_answer.ensures.quiet (λ e. ap g.R.Remote.shown e) c.in_ok-extend_from_slice.ensures.items
