use Rattle.std.proofs.Common.{◌≤◌, ◌+◌, ◌*◌, ◌∙◌, ◌++◌, List, [], length, take, drop, sym, ap, subst, arith}
use Rattle.high_segments.specs.Views.{flats_in}
use Rattle.high_segments.proofs.Viewing.{lawful_flats}
use Rattle.name_map.specs.Added.{Placed}
use Rattle.payload_tables.specs.Kept.{PlainOthers}
use Rattle.strip_plan.specs.Stripping.{AreKept, IsStrip}
use Rattle.change_parts.proofs.TableFacts.{others-few}
use Rattle.strip_plan.proofs.StripFacts.{others-room, view-none, pending-none, ids-below, strip-asked, rows-older, is-strip}
use Rattle.strip_plan.proofs.strip.strip_beside.Goals as goal

pub view-view-requires : goal.view-view-requires
view-view-requires c =
    let r = c.requires.tables in
    let first = c.requires.none.1 in
    (r.0, c.newest-base.ensures r.0 r.1.tables_of r.1.stand, view-none c.args.tables.now c.args.bytes.now c.args.ids.now c.args.none.now c.requires.none.0 first c.newest-base.result r.0 r.1.tables_of r.1.stand)

pub names_of-names-requires-clause-stored : goal.names_of-names-requires-clause-stored
names_of-names-requires-clause-stored c =
    let r = c.requires.tables in
    subst (λ (o : PlainOthers). o.names + 20 * o.count ≤ length c.args.bytes.now) (sym c.others.ensures) (others-room c.args.tables.now c.args.bytes.now r.0 r.1.tables_of r.1.stand)

pub kept_of-requires-clause-ids : goal.kept_of-requires-clause-ids
kept_of-requires-clause-ids c =
    let r = c.requires.tables in
    let first = c.requires.none.1 in
    ids-below c.args.tables.now c.args.bytes.now c.args.ids.now c.args.none.now c.requires.none.0 first r.0 r.1 c.names_of-names.result.count c.names_of-names.result.more
    (c.names_of-names.ensures.count ∙ ap (λ (o : PlainOthers). o.count) c.others.ensures) c.names_of-names.ensures.more

pub kept_of-requires-clause-rows : goal.kept_of-requires-clause-rows
kept_of-requires-clause-rows c =
    rows-older (flats_in c.view-view.result) (lawful_flats c.view-view.result) (c.names_of-names.result.count + c.names_of-names.result.more) c.in_ok-graph.graph c.in_ok-graph.ensures

pub stripped_change-requires-clause-small : goal.stripped_change-requires-clause-small
stripped_change-requires-clause-small c =
    let r = c.requires.tables in
    let small = (others-few c.args.tables.now c.args.bytes.now r.0 r.1.tables_of r.1.stand).1 in let e = c.master_count-before.ensures in omega (arith, small, e)

pub stripped_change-requires-clause-strip : goal.stripped_change-requires-clause-strip
stripped_change-requires-clause-strip c =
    let r = c.requires.tables in
    let first = c.requires.none.1 in
    let a = strip-asked c.args.tables.now c.args.bytes.now c.args.ids.now r.0 r.1 in
    let is = is-strip c.args.tables.now c.args.bytes.now c.args.ids.now a.0 a.1 a.2 c.args.none.now (pending-none c.args.tables.now c.args.bytes.now c.args.ids.now c.args.none.now c.requires.none.0 first a.0 a.1 a.2)
    (flats_in c.view-view.result) (lawful_flats c.view-view.result) c.names_of-names.result.stored.now c.names_of-names.result.pending.now c.names_of-names.result.count c.names_of-names.result.more c.master_count-before.result
    (λ some t stand sf p. c.view-view.ensures.graph some a.0 [] (c.newest-base.ensures some t stand) sf p)
    (c.names_of-names.ensures.stored ∙ ap (λ (o : PlainOthers). take (20 * o.count) (drop o.names c.args.bytes.now)) c.others.ensures) c.names_of-names.ensures.pending
    (c.names_of-names.ensures.count ∙ ap (λ (o : PlainOthers). o.count) c.others.ensures) c.names_of-names.ensures.more c.master_count-before.ensures
    c.in_ok-graph.graph c.in_ok-graph.ensures c.deref.result.now
    (subst (AreKept c.in_ok-graph.graph (c.names_of-names.result.count + c.names_of-names.result.more) c.args.ids.now) (sym c.deref.ensures.value) c.in_ok-kept.ensures) in
    (a.2.added, a.0, a.1, is)

pub returns-clause-worlds : goal.returns-clause-worlds
returns-clause-worlds c = λ w given payload s change.
    let first = c.requires.none.1 in
    let is = is-strip c.args.tables.now c.args.bytes.now c.args.ids.now w given s c.args.none.now (pending-none c.args.tables.now c.args.bytes.now c.args.ids.now c.args.none.now c.requires.none.0 first w given s)
    (flats_in c.view-view.result) (lawful_flats c.view-view.result) c.names_of-names.result.stored.now c.names_of-names.result.pending.now c.names_of-names.result.count c.names_of-names.result.more c.master_count-before.result
    (λ some t stand sf p. c.view-view.ensures.graph some w [] (c.newest-base.ensures some t stand) sf p)
    (c.names_of-names.ensures.stored ∙ ap (λ (o : PlainOthers). take (20 * o.count) (drop o.names c.args.bytes.now)) c.others.ensures) c.names_of-names.ensures.pending
    (c.names_of-names.ensures.count ∙ ap (λ (o : PlainOthers). o.count) c.others.ensures) c.names_of-names.ensures.more c.master_count-before.ensures
    c.in_ok-graph.graph c.in_ok-graph.ensures c.deref.result.now
    (subst (AreKept c.in_ok-graph.graph (c.names_of-names.result.count + c.names_of-names.result.more) c.args.ids.now) (sym c.deref.ensures.value) c.in_ok-kept.ensures) in
    c.stripped_change.ensures.worlds s.added w given payload is change

pub returns-clause-stored : goal.returns-clause-stored
returns-clause-stored c = λ added m.
    let first = c.requires.none.1 in
    let a = strip-asked c.args.tables.now c.args.bytes.now c.args.ids.now added m in
    let is = is-strip c.args.tables.now c.args.bytes.now c.args.ids.now a.0 a.1 a.2 c.args.none.now (pending-none c.args.tables.now c.args.bytes.now c.args.ids.now c.args.none.now c.requires.none.0 first a.0 a.1 a.2)
    (flats_in c.view-view.result) (lawful_flats c.view-view.result) c.names_of-names.result.stored.now c.names_of-names.result.pending.now c.names_of-names.result.count c.names_of-names.result.more c.master_count-before.result
    (λ some t stand sf p. c.view-view.ensures.graph some a.0 [] (c.newest-base.ensures some t stand) sf p)
    (c.names_of-names.ensures.stored ∙ ap (λ (o : PlainOthers). take (20 * o.count) (drop o.names c.args.bytes.now)) c.others.ensures) c.names_of-names.ensures.pending
    (c.names_of-names.ensures.count ∙ ap (λ (o : PlainOthers). o.count) c.others.ensures) c.names_of-names.ensures.more c.master_count-before.ensures
    c.in_ok-graph.graph c.in_ok-graph.ensures c.deref.result.now
    (subst (AreKept c.in_ok-graph.graph (c.names_of-names.result.count + c.names_of-names.result.more) c.args.ids.now) (sym c.deref.ensures.value) c.in_ok-kept.ensures) in
    c.stripped_change.ensures.stored added a.0 a.1
    (subst (λ (z : List Placed). IsStrip z (c.names_of-names.result.stored.now ++ c.names_of-names.result.pending.now) c.in_ok-graph.graph (c.names_of-names.result.count + c.names_of-names.result.more) c.master_count-before.result c.deref.result.now a.0 a.1) a.3 is)
