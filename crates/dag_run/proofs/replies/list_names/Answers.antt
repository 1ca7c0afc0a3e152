use Rattle.std.proofs.Common.{◌≡◌, ℕ, List, length, map, Ok, Err, refl, ap, subst, ◌∙◌, ◌++◌}
use Rattle.std.proofs.lemmas.Result.{err_from_is_err_and}
use Rattle.outside.specs.Told.{TookFront}
use Rattle.outside.proofs.ToldLemmas.{WhereTold-map}
use Rattle.id_groups.specs.Name.{Name}
use Rattle.span_set.specs.Members.{ids_of}
use Rattle.step_rules.specs.State.{Stored}
use Rattle.step_rules.specs.Reply.{Listed}
use Rattle.set_query.specs.declared.evaluation.Answer.{Answer}
use Rattle.store_queries.specs.Names.{known_name, names_left}
use Rattle.dag_store.specs.Stands.{Stands}
use Rattle.dag_store.specs.Steps.{AreIdsOf}
use Rattle.command_lines.specs.Sending.{listed_text}
use Rattle.dag_run.specs.Lines.{PutsReply}
use Rattle.dag_run.specs.declared.stops.Stop.TheVariants as stops
use Rattle.dag_run.proofs.Doing.{listed-is}
use Rattle.dag_run.proofs.replies.list_names.Goals as goal

pub returns-clause-bytes : goal.returns-clause-bytes
returns-clause-bytes g c =
    let store = c.args.store in
    let ids = ids_of c.args.found.now.answer.set in
    let fetched = map known_name c.args.found.now.fetched in
    let text = listed_text (names_left c.names-names.result) c.count-count.result in
    WhereTold-map (g.O.Sink.taken c.args.output.now) (g.O.Sink.taken c.put_names.new.output) (λ x y. y ≡ x ++ text)
    (λ before now. (began : ℕ) (st : Stored) (names : List Name) → Stands began store st → AreIdsOf st c.args.s ids fetched names → PutsReply store (Listed names) (Ok store) before now)
    (λ before now put began st names h are. (
      refl,
      put ∙ ap (λ t. before ++ t) (listed-is st c.args.s ids fetched names (names_left c.names-names.result) c.count-count.result are (c.names-names.ensures began st names h are)
          (c.count-count.ensures ∙ ap (λ (a : Answer). length (ids_of a.set)) c.answer.ensures)),
    ))
    c.in_ok-put_names.ensures.bytes

pub returns-in_err-put_names-clause-bytes : goal.returns-in_err-put_names-clause-bytes
returns-in_err-put_names-clause-bytes g c =
    let p = err_from_is_err_and c.from_residual.result c.from_residual.ensures.1 in
    let store = c.args.store in
    let ids = ids_of c.args.found.now.answer.set in
    let fetched = map known_name c.args.found.now.fetched in
    let text = listed_text (names_left c.names-names.result) c.count-count.result in
    rw (p.1, p.2) (WhereTold-map (g.O.Sink.taken c.args.output.now) (g.O.Sink.taken c.put_names.new.output) (TookFront text)
    (λ before now. (began : ℕ) (st : Stored) (names : List Name) → Stands began store st → AreIdsOf st c.args.s ids fetched names → PutsReply store (Listed names) (Err stops.Sink) before now)
    (λ before now put began st names h are. subst (λ t. TookFront t before now) (listed-is st c.args.s ids fetched names (names_left c.names-names.result) c.count-count.result are (c.names-names.ensures began st names h are)
    (c.count-count.ensures ∙ ap (λ (a : Answer). length (ids_of a.set)) c.answer.ensures)) put)
    c.in_err-put_names.ensures.bytes)
