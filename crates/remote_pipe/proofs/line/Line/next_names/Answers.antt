use Rattle.std.proofs.Common.{◌≡◌, ◌≤◌, ◌+◌, ◌++◌, ℕ, List, length, take, drop, ap, ap₂, sym, subst, arith, length-take}
use Rattle.std.proofs.lemmas.List.{take-append-le}
use Rattle.std.proofs.lemmas.Result.{IfOk-weaker}
use Rattle.id_groups.specs.Name.{Name}
use Rattle.remote_serve.specs.Requests.{Request, ToNames}
use Rattle.remote_serve.specs.Answers.{Answer, Named}
use Rattle.remote_pipe.specs.Line.{Asks}
use Rattle.remote_pipe.specs.Remote.{block_of}
use Rattle.remote_pipe.proofs.Asking.{asks-same}
use Rattle.remote_pipe.proofs.line.Line.next_names.Goals as goal

pub returns-clause-asks : goal.returns-clause-asks
returns-clause-asks g c =
    let new = c.ask_names.new.out in
    let n = c.min-count.result in
    let old = c.args.rest.now in
    let least = c.min-count.ensures in
    let len = c.ask_names.ensures.len in
    let f : ℕ → Answer = λ k. Named (take k new) in
    let h : ℕ → Answer = λ k. Named (take k (new ++ drop n old)) in
    let many : length (take n old) ≡ block_of (length old) = omega (arith, length-take {A = Name} n old, least) in
    let request : (let r : Request = ToNames c.args.x.now c.in-Some.from (length (take n old)) in r) ≡ ToNames c.args.x.now (c.args.back + c.args.done) (block_of (length old)) =
    ap₂ (λ (b : ℕ) (m : ℕ). (let r : Request = ToNames c.args.x.now b m in r)) c.in-Some.ensures.1 many in
    subst (λ (r : Request). Asks {T = ℕ} r h c.args.self.now c.ask_names.new.self c.ask_names.result) request
    (asks-same {T = ℕ} (ToNames c.args.x.now c.in-Some.from (length (take n old))) f h c.args.self.now c.ask_names.new.self c.ask_names.result
    (IfOk-weaker c.ask_names.result (λ k. k ≤ length (take n old)) (λ k. f k ≡ h k) (λ k le. ap (λ (l : List Name). (let a : Answer = Named l in a)) (sym (take-append-le k new (drop n old) (omega (arith, le, len))))) c.ask_names.ensures.count)
    c.ask_names.ensures.asks)
