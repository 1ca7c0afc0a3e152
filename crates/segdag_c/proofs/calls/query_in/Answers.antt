use Rattle.std.proofs.Common.{Err, refl, sym, subst}
use Rattle.std.specs.Prelude.{MatchOption}
use Rattle.set_expr.specs.Whole.{tree_of}
use Rattle.step_rules.specs.Reply.{Refused}
use Rattle.step_rules.specs.Verb.{Query}
use Rattle.segdag_c.specs.Does.{Does}
use Rattle.segdag_c.specs.Mirrors.{shown_all}
use Rattle.segdag_c.specs.Typed.{refusal_in}
use Rattle.segdag_c.proofs.Beside.{lists, lists-none}
use Rattle.segdag_c.proofs.Coming.{known}
use Rattle.segdag_c.proofs.calls.query_in.Goals as goal

pub returns-in-Ok-clause-does : goal.returns-in-Ok-clause-does
returns-in-Ok-clause-does c =
    let first = shown_all c.args.mirrors.now.list.items in
    let left = shown_all c.query.new.mirrors.list.items in
    let e = tree_of c.args.expr.now in
    known c.join_found.result _ _ _ _
    (λ bytes p. (p.0, p.1, lists first left c.args.store.now c.query.new.self c.args.session e c.in-Ok.found p.0 c.in-Ok.ensures.kept c.in-Ok.ensures.asks p.2 c.in-Ok.ensures.step))
    (λ failure is. subst (λ f. MatchOption (refusal_in f) ⊥ (λ refusal. Does first c.args.store.now c.args.session (Query e) (Refused refusal) c.query.new.self left)) (sym is)
    (lists-none first left c.args.store.now c.query.new.self c.args.session e c.in-Ok.found c.in-Ok.ensures.kept c.in-Ok.ensures.asks c.in-Ok.ensures.step))
    c.join_found.ensures.names c.join_found.ensures.fault

pub returns-in-Err-clause-does : goal.returns-in-Err-clause-does
returns-in-Err-clause-does c = (c.in-Err.ensures.kept, c.in-Err.ensures.step, (Err c.in-Err.refusal, refl, c.in-Err.ensures.asks))
