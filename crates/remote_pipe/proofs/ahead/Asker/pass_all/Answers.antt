use Rattle.std.proofs.Common.{inl, inr, ℕ, List, Ok, Err, refl, sym, ap, subst}
use Rattle.remote_trait.specs.Runs.{Run}
use Rattle.remote_serve.specs.Requests.{ToNames}
use Rattle.remote_pipe.specs.Ahead.{Passes, PassesTo, Done}
use Rattle.remote_pipe.proofs.Passing.{passes-unit}
use Rattle.remote_pipe.proofs.ahead.Asker.pass_all.Goals as goal

pub passes-preserved : goal.passes-preserved
passes-preserved g c = λ later now result h.
    let run = c.in-Some.run' in
    let p = subst (λ (n : ℕ). Passes (ToNames run.from run.back n) c.passes.self.line c.pass.new.self (Ok c.in-Ok.field-0)) (ap (λ (r : Run). r.count) c.run.view_is) (c.in-Ok.ensures run.from run.back) in
    c.passes.invariant later now result (subst (λ (q : List Run). PassesTo Done q c.passes.self.line later now result) (sym c.in-Some.ensures.items)
    (inl (c.pass.new.self, passes-unit (ToNames run.from run.back run.count) c.passes.self.line c.pass.new.self c.in-Ok.field-0 p, h)))

pub returns-in-Err : goal.returns-in-Err
returns-in-Err g c =
    let run = c.in-Some.run' in
    let p = subst (λ (n : ℕ). Passes (ToNames run.from run.back n) c.passes.self.line c.pass.new.self (Err c.in-Err.fault)) (ap (λ (r : Run). r.count) c.run.view_is) (c.in-Err.ensures run.from run.back) in
    c.passes.invariant c.pop_front.new.self.items c.pass.new.self (Err c.in-Err.fault)
    (subst (λ (q : List Run). PassesTo Done q c.passes.self.line c.pop_front.new.self.items c.pass.new.self (Err c.in-Err.fault)) (sym c.in-Some.ensures.items) (inr (c.in-Err.fault, refl, refl, p)))
