use Rattle.std.proofs.Common.{[], refl, sym, ap, ◌∙◌}
use Rattle.set_expr.specs.Whole.{tree_of}
use Rattle.std.proofs.lemmas.List.{length-map}
use Rattle.step_rules.specs.State.{with_pending_rows}
use Rattle.step_rules.specs.Verb.{Add, Reload, Discard, Count, IdOf, Status, Levels}
use Rattle.step_rules.specs.Reply.{Discarded, Sizes, LevelSizes}
use Rattle.command_lines.specs.Meant.{meant}
use Rattle.command_lines.specs.Told.{told}
use Rattle.dag_store.specs.Kept.{PlainStore}
use Rattle.dag_store.specs.Steps.{add_reply, id_reply, reload_reply}
use Rattle.dag_run.specs.Replies.{reply_of_count}
use Rattle.dag_run.proofs.Doing.{leads-does, count-leads, alone-does, room-same, room-on, room-kept, counts-does, drops-does}
use Rattle.dag_run.proofs.execute.reply_of.Goals as goal

pub returns-in-Add-clause-does : goal.returns-in-Add-clause-does
returns-in-Add-clause-does g c =
    let old = c.args.store.now in
    let s = c.args.s in
    leads-does _ _ old c.add.new.self s (Add c.in-Add.name c.names.result.now) (meant c.args.verb.now) (add_reply c.add.result) (told c.reply_of_add.result)
    (ap meant c.in-Add.is ∙ ap (λ ps. Add c.in-Add.name ps) (sym c.names.ensures)) tt c.reply_of_add.ensures c.add.ensures.step

pub returns-in-Add-clause-room : goal.returns-in-Add-clause-room
returns-in-Add-clause-room g c = room-on c.args.store.now c.add.new.self c.args.s c.add.result c.add.ensures.alone c.add.ensures.refused

pub returns-in-Reload-clause-does : goal.returns-in-Reload-clause-does
returns-in-Reload-clause-does g c =
    leads-does _ _ c.args.store.now c.reload.new.self c.args.s Reload (meant c.args.verb.now) (reload_reply c.reload.result) (told c.reply_of_reload.result) (ap meant c.in-Reload.is) tt c.reply_of_reload.ensures c.reload.ensures.step

pub returns-in-Reload-clause-room : goal.returns-in-Reload-clause-room
returns-in-Reload-clause-room g c = room-on c.args.store.now c.reload.new.self c.args.s c.reload.result c.reload.ensures.alone c.reload.ensures.refused

pub returns-in-Discard-clause-does : goal.returns-in-Discard-clause-does
returns-in-Discard-clause-does g c =
    let old = c.args.store.now in
    let s = c.args.s in
    alone-does _ old c.discard.new.self s Discard (meant c.args.verb.now) (Discarded c.discard.result) (ap meant c.in-Discard.is) tt tt c.discard.ensures.cache
    (λ began st h. let f = c.discard.ensures.step began st h in (with_pending_rows st.store s [], f.0, f.1))

pub returns-in-Discard-clause-room : goal.returns-in-Discard-clause-room
returns-in-Discard-clause-room g c = room-same c.args.store.now c.discard.new.self (ap (λ (n : PlainStore). n.log) c.discard.ensures.alone.1)

pub returns-in-Count-clause-does : goal.returns-in-Count-clause-does
returns-in-Count-clause-does g c =
    let old = c.args.store.now in
    let e = tree_of c.in-Count.expr in
    leads-does _ _ old c.count.new.self c.args.s (Count e) (meant c.args.verb.now) (reply_of_count c.count.result) (told c.reply_of_count.result) (ap meant c.in-Count.is) tt c.reply_of_count.ensures
    (λ began st h right. count-leads began old.limits st c.args.s e c.count.result c.count.new.self _ (c.count.ensures.step began st h right))

pub returns-in-Count-clause-room : goal.returns-in-Count-clause-room
returns-in-Count-clause-room g c = room-kept c.args.store.now c.count.new.self c.count.ensures.kept

pub returns-in-Id-clause-does : goal.returns-in-Id-clause-does
returns-in-Id-clause-does g c =
    leads-does _ _ c.args.store.now c.id.new.self c.args.s (IdOf c.in-Id.name) (meant c.args.verb.now) (id_reply c.id.result) (told c.reply_of_id.result) (ap meant c.in-Id.is) tt c.reply_of_id.ensures c.id.ensures.step

pub returns-in-Id-clause-room : goal.returns-in-Id-clause-room
returns-in-Id-clause-room g c = room-kept c.args.store.now c.id.new.self c.id.ensures.kept

pub returns-in-Status-clause-does : goal.returns-in-Status-clause-does
returns-in-Status-clause-does g c =
    let old = c.args.store.now in
    let s = c.args.s in
    alone-does _ old old s Status (meant c.args.verb.now) (Sizes c.status.result.master c.status.result.others c.status.result.pending) (ap meant c.in-Status.is) tt tt refl
    (λ began st h. (st.store, c.status.ensures began st h, h))

pub returns-in-Levels-clause-does : goal.returns-in-Levels-clause-does
returns-in-Levels-clause-does g c =
    let old = c.args.store.now in
    let s = c.args.s in
    alone-does _ old old s Levels (meant c.args.verb.now) (LevelSizes c.levels.result) (ap meant c.in-Levels.is) tt tt refl
    (λ began st h. (st.store, c.levels.ensures began s st h, h))

pub returns-in-Mirrors-clause-does : goal.returns-in-Mirrors-clause-does
returns-in-Mirrors-clause-does g c =
    counts-does _ c.from.result c.args.store.now c.args.s (meant c.args.verb.now) (ap meant c.in-Mirrors.is) (c.from.ensures ∙ c.len.ensures ∙ sym (length-map c.args.mirrors.now.list.items _))

pub returns-in-DropAt-clause-does : goal.returns-in-DropAt-clause-does
returns-in-DropAt-clause-does g c = drops-does _ _ c.in-DropAt.place (told c.drop_mirror.result) c.args.store.now c.args.s (meant c.args.verb.now) (ap meant c.in-DropAt.is) c.drop_mirror.ensures
