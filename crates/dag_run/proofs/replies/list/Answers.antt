use Rattle.std.proofs.Common.{ℕ, List, [], None, map}
use Rattle.outside.specs.Counts.{Rose}
use Rattle.outside.proofs.ToldLemmas.{WhereTold-map}
use Rattle.id_groups.specs.Name.{Name}
use Rattle.span_set.specs.Members.{ids_of}
use Rattle.set_expr.specs.Whole.{tree_of}
use Rattle.step_rules.specs.State.{Stored}
use Rattle.step_rules.specs.Verb.{Query}
use Rattle.step_rules.specs.Reply.{Listed, Refused}
use Rattle.dag_store.specs.Stands.{Stands}
use Rattle.dag_store.specs.Steps.{AreIdsOf}
use Rattle.store_queries.specs.Names.{known_name}
use Rattle.dag_run.specs.Lines.{CommandReplies, PutsReply}
use Rattle.dag_run.proofs.Doing.{command-told, listed-replies, refused-changes}
use Rattle.dag_run.proofs.replies.list.Goals as goal

pub returns-in-Ok-clause-told : goal.returns-in-Ok-clause-told
returns-in-Ok-clause-told g c =
    let old = c.args.store in
    let new = c.query.new.self in
    let s = c.args.s in
    let verb = Query (tree_of c.args.expr.now) in
    let r = c.list_names.result in
    let ids = ids_of c.in-Ok.found.answer.set in
    let fetched = map known_name c.in-Ok.found.fetched in
    let failed : Type 0 = Rose (g.O.Sink.faults c.args.output.now) (g.O.Sink.faults c.list_names.new.output) in
    WhereTold-map (g.O.Sink.taken c.args.output.now) (g.O.Sink.taken c.list_names.new.output)
    (λ before now. (began : ℕ) (st : Stored) (names : List Name) → Stands began new st → AreIdsOf st s ids fetched names → PutsReply new (Listed names) r before now)
    (CommandReplies _ _ failed old s verb [] None r)
    (λ before now put began st h enough.
    listed-replies failed began old new _ st s (tree_of c.args.expr.now) ids fetched r before now (λ st names. put began st names) (c.in-Ok.ensures.step began st h enough.0))
    c.list_names.ensures.bytes

pub returns-in-Err-clause-told : goal.returns-in-Err-clause-told
returns-in-Err-clause-told g c =
    let old = c.args.store in
    let s = c.args.s in
    let verb = Query (tree_of c.args.expr.now) in
    command-told _ _ (Rose (g.O.Sink.faults c.args.output.now) (g.O.Sink.faults c.tell_refused.new.output)) old c.query.new.self s verb [] None c.tell_refused.result (Refused c.in-Err.refusal) (g.O.Sink.taken c.args.output.now) (g.O.Sink.taken c.tell_refused.new.output)
    (λ began st h enough. let l = c.in-Err.ensures.step began st h enough.0 in (l.0, l.1, refused-changes old.limits st s verb c.in-Err.refusal l.0 l.1, l.2)) c.tell_refused.ensures.bytes
