use Rattle.std.proofs.Common.{◌∙◌, ◌≤◌, ◌+◌, ◌*◌, ◌++◌, List, [], refl, ap, sym, subst, map, take, drop, length, get_or, arith}
use Rattle.high_segments.specs.Views.{flats_in}
use Rattle.high_segments.proofs.Viewing.{lawful_flats}
use Rattle.assign_ids.specs.Numbers.{AreBelow, HaveOlderParents, order_of}
use Rattle.assign_ids.specs.declared.graph.Node.{Node}
use Rattle.commit_graph.specs.World.{with_pending}
use Rattle.payload_tables.specs.Bases.{held_row}
use Rattle.payload_tables.specs.Kept.{PlainOthers}
use Rattle.change_parts.specs.Moves.{node_of, rest_of}
use Rattle.change_parts.proofs.Planning.{names-room}
use Rattle.flush_plan.proofs.Sizing.{f-older, f-numbers, f-order, may-view, pending-size}
use Rattle.flush_plan.proofs.Refusing.{code-facts}
use Rattle.change_parts.proofs.RowLemmas.{nodes-are}
use Rattle.flush_plan.proofs.plan.plan_moves.Goals as goal

pub view-view-requires : goal.view-view-requires
view-view-requires c =
    let r = c.requires.world in
    let base = c.newest-base.ensures r.3.added r.3.tables_of r.3.stand in
    (r.3.added, base, may-view c.newest-base.result r.3.added c.args.pending.now r.0 r.1 base r.3.stand_for r.3.pending_rows)

pub names_of-names-requires-clause-stored : goal.names_of-names-requires-clause-stored
names_of-names-requires-clause-stored c =
    let r = c.requires.world in
    subst (λ (o : PlainOthers). o.names + 20 * o.count ≤ length c.args.bytes.now) (sym c.others.ensures) (names-room c.args.tables.now c.args.bytes.now c.args.pending.now c.args.numbers.now r.0 r.1 r.2 r.3)

pub names_of-names-requires-clause-pending : goal.names_of-names-requires-clause-pending
names_of-names-requires-clause-pending c = let r = c.requires.world in pending-size r.0 c.args.pending.now r.1 r.3.pending_rows

pub names_of-names-requires-clause-rows : goal.names_of-names-requires-clause-rows
names_of-names-requires-clause-rows c = let r = c.requires.world in (map (held_row (with_pending r.0 r.1)) r.1, r.3.pending_rows.held)

pub overflow_add-n : goal.overflow_add-n
overflow_add-n c = let r = c.requires.world in let f = (code-facts c.args.bytes.now c.args.pending.now c.args.numbers.now (flats_in c.view-view.result) c.names_of-names.result.stored.now c.names_of-names.result.pending.now c.names_of-names.result.count c.names_of-names.result.more c.args.tables.now.flat.end r.0 r.1 r.2 c.args.tables.now c.args.tables.now refl r.3 (λ added t s sf p. c.view-view.ensures.graph added r.0 r.1 (c.newest-base.ensures added t s) sf p) (c.names_of-names.ensures.stored ∙ ap (λ (o : PlainOthers). take (20 * o.count) (drop o.names c.args.bytes.now)) c.others.ensures) c.names_of-names.ensures.pending (c.names_of-names.ensures.count ∙ ap (λ (o : PlainOthers). o.count) c.others.ensures) c.names_of-names.ensures.more refl) in let i = f.n_is in let few = f.few in omega (arith, i, few)

pub moves_of-requires-clause-older : goal.moves_of-requires-clause-older
moves_of-requires-clause-older c =
    let r = c.requires.world in
    subst (λ (gr : List (List Node)). HaveOlderParents (λ k. get_or gr k [])) (sym (ap (map (map node_of)) c.in_ok-graph.ensures ∙ nodes-are (flats_in c.view-view.result) (c.names_of-names.result.count + c.names_of-names.result.more)))
    (f-older c.args.tables.now c.args.bytes.now c.args.pending.now c.args.numbers.now (flats_in c.view-view.result) (c.names_of-names.result.stored.now ++ c.names_of-names.result.pending.now) (c.names_of-names.result.count + c.names_of-names.result.more) c.args.tables.now.flat.end r.0 r.1 r.2
    (code-facts c.args.bytes.now c.args.pending.now c.args.numbers.now (flats_in c.view-view.result) c.names_of-names.result.stored.now c.names_of-names.result.pending.now c.names_of-names.result.count c.names_of-names.result.more c.args.tables.now.flat.end r.0 r.1 r.2 c.args.tables.now c.args.tables.now refl r.3 (λ added t s sf p. c.view-view.ensures.graph added r.0 r.1 (c.newest-base.ensures added t s) sf p) (c.names_of-names.ensures.stored ∙ ap (λ (o : PlainOthers). take (20 * o.count) (drop o.names c.args.bytes.now)) c.others.ensures) c.names_of-names.ensures.pending (c.names_of-names.ensures.count ∙ ap (λ (o : PlainOthers). o.count) c.others.ensures) c.names_of-names.ensures.more refl))

pub moves_of-requires-clause-numbers : goal.moves_of-requires-clause-numbers
moves_of-requires-clause-numbers c =
    let r = c.requires.world in
    f-numbers c.args.tables.now c.args.bytes.now c.args.pending.now c.args.numbers.now (flats_in c.view-view.result) (c.names_of-names.result.stored.now ++ c.names_of-names.result.pending.now) (c.names_of-names.result.count + c.names_of-names.result.more) c.args.tables.now.flat.end r.0 r.1 r.2
    (code-facts c.args.bytes.now c.args.pending.now c.args.numbers.now (flats_in c.view-view.result) c.names_of-names.result.stored.now c.names_of-names.result.pending.now c.names_of-names.result.count c.names_of-names.result.more c.args.tables.now.flat.end r.0 r.1 r.2 c.args.tables.now c.args.tables.now refl r.3 (λ added t s sf p. c.view-view.ensures.graph added r.0 r.1 (c.newest-base.ensures added t s) sf p) (c.names_of-names.ensures.stored ∙ ap (λ (o : PlainOthers). take (20 * o.count) (drop o.names c.args.bytes.now)) c.others.ensures) c.names_of-names.ensures.pending (c.names_of-names.ensures.count ∙ ap (λ (o : PlainOthers). o.count) c.others.ensures) c.names_of-names.ensures.more refl)

pub moves_of-requires-clause-order : goal.moves_of-requires-clause-order
moves_of-requires-clause-order c =
    let r = c.requires.world in
    subst (λ (gr : List (List Node)). AreBelow (c.names_of-names.result.count + c.names_of-names.result.more) (order_of (λ k. get_or gr k []) (c.names_of-names.result.count + c.names_of-names.result.more) c.args.numbers.now)) (sym (ap (map (map node_of)) c.in_ok-graph.ensures ∙ nodes-are (flats_in c.view-view.result) (c.names_of-names.result.count + c.names_of-names.result.more)))
    (f-order c.args.tables.now c.args.bytes.now c.args.pending.now c.args.numbers.now (flats_in c.view-view.result) (c.names_of-names.result.stored.now ++ c.names_of-names.result.pending.now) (c.names_of-names.result.count + c.names_of-names.result.more) c.args.tables.now.flat.end r.0 r.1 r.2
    (code-facts c.args.bytes.now c.args.pending.now c.args.numbers.now (flats_in c.view-view.result) c.names_of-names.result.stored.now c.names_of-names.result.pending.now c.names_of-names.result.count c.names_of-names.result.more c.args.tables.now.flat.end r.0 r.1 r.2 c.args.tables.now c.args.tables.now refl r.3 (λ added t s sf p. c.view-view.ensures.graph added r.0 r.1 (c.newest-base.ensures added t s) sf p) (c.names_of-names.ensures.stored ∙ ap (λ (o : PlainOthers). take (20 * o.count) (drop o.names c.args.bytes.now)) c.others.ensures) c.names_of-names.ensures.pending (c.names_of-names.ensures.count ∙ ap (λ (o : PlainOthers). o.count) c.others.ensures) c.names_of-names.ensures.more refl))

pub change_of-requires-clause-few : goal.change_of-requires-clause-few
change_of-requires-clause-few c =
    let r = c.requires.world in
    let f = (code-facts c.args.bytes.now c.args.pending.now c.args.numbers.now (flats_in c.view-view.result) c.names_of-names.result.stored.now c.names_of-names.result.pending.now c.names_of-names.result.count c.names_of-names.result.more c.behind-moved.result.before r.0 r.1 r.2 c.args.tables.now c.args.tables.now refl r.3 (λ added t s sf p. c.view-view.ensures.graph added r.0 r.1 (c.newest-base.ensures added t s) sf p) (c.names_of-names.ensures.stored ∙ ap (λ (o : PlainOthers). take (20 * o.count) (drop o.names c.args.bytes.now)) c.others.ensures) c.names_of-names.ensures.pending (c.names_of-names.ensures.count ∙ ap (λ (o : PlainOthers). o.count) c.others.ensures) c.names_of-names.ensures.more (c.behind-moved.ensures.before ∙ c.master_count.ensures)) in
    let b = f.before_is in let s = f.small in omega (arith, b, s)

pub change_of-requires-clause-world : goal.change_of-requires-clause-world
change_of-requires-clause-world c =
    let r = c.requires.world in (
      r.0,
      r.1,
      r.2,
      record {
        tables = c.args.tables.now;
        bytes = c.args.bytes.now;
        pending = c.args.pending.now;
        numbers = c.args.numbers.now;
        flats = flats_in c.view-view.result;
        facts = (code-facts c.args.bytes.now c.args.pending.now c.args.numbers.now (flats_in c.view-view.result) c.names_of-names.result.stored.now c.names_of-names.result.pending.now c.names_of-names.result.count c.names_of-names.result.more c.behind-moved.result.before r.0 r.1 r.2 c.args.tables.now c.args.tables.now refl r.3 (λ added t s sf p. c.view-view.ensures.graph added r.0 r.1 (c.newest-base.ensures added t s) sf p) (c.names_of-names.ensures.stored ∙ ap (λ (o : PlainOthers). take (20 * o.count) (drop o.names c.args.bytes.now)) c.others.ensures) c.names_of-names.ensures.pending (c.names_of-names.ensures.count ∙ ap (λ (o : PlainOthers). o.count) c.others.ensures) c.names_of-names.ensures.more (c.behind-moved.ensures.before ∙ c.master_count.ensures));
        lawful = lawful_flats c.view-view.result;
        graph_is = c.in_ok-graph.ensures;
        order_is = c.behind-moved.ensures.order ∙ c.in_ok-moves.ensures.order ∙ ap (λ (gr : List (List Node)). order_of (λ k. get_or gr k []) (c.names_of-names.result.count + c.names_of-names.result.more) c.args.numbers.now) (ap (map (map node_of)) c.in_ok-graph.ensures ∙ nodes-are (flats_in c.view-view.result) (c.names_of-names.result.count + c.names_of-names.result.more));
        rest_is = c.behind-moved.ensures.rest ∙ c.in_ok-moves.ensures.rest ∙ ap (rest_of (c.names_of-names.result.count + c.names_of-names.result.more)) (sym c.behind-moved.ensures.order);
        pending_is = c.names_of-names.ensures.more;
        log_is = refl;
      },
      refl,
      refl,
    )

pub returns-clause-worlds : goal.returns-clause-worlds
returns-clause-worlds c = λ w rows heads payload m change.
    c.change_of.ensures.worlds w rows heads payload
    (record {
      tables = c.args.tables.now;
      bytes = c.args.bytes.now;
      pending = c.args.pending.now;
      numbers = c.args.numbers.now;
      flats = flats_in c.view-view.result;
      facts = (code-facts c.args.bytes.now c.args.pending.now c.args.numbers.now (flats_in c.view-view.result) c.names_of-names.result.stored.now c.names_of-names.result.pending.now c.names_of-names.result.count c.names_of-names.result.more c.behind-moved.result.before w rows heads c.args.tables.now c.args.tables.now refl m (λ added t s sf p. c.view-view.ensures.graph added w rows (c.newest-base.ensures added t s) sf p) (c.names_of-names.ensures.stored ∙ ap (λ (o : PlainOthers). take (20 * o.count) (drop o.names c.args.bytes.now)) c.others.ensures) c.names_of-names.ensures.pending (c.names_of-names.ensures.count ∙ ap (λ (o : PlainOthers). o.count) c.others.ensures) c.names_of-names.ensures.more (c.behind-moved.ensures.before ∙ c.master_count.ensures));
      lawful = lawful_flats c.view-view.result;
      graph_is = c.in_ok-graph.ensures;
      order_is = c.behind-moved.ensures.order ∙ c.in_ok-moves.ensures.order ∙ ap (λ (gr : List (List Node)). order_of (λ k. get_or gr k []) (c.names_of-names.result.count + c.names_of-names.result.more) c.args.numbers.now) (ap (map (map node_of)) c.in_ok-graph.ensures ∙ nodes-are (flats_in c.view-view.result) (c.names_of-names.result.count + c.names_of-names.result.more));
      rest_is = c.behind-moved.ensures.rest ∙ c.in_ok-moves.ensures.rest ∙ ap (rest_of (c.names_of-names.result.count + c.names_of-names.result.more)) (sym c.behind-moved.ensures.order);
      pending_is = c.names_of-names.ensures.more;
      log_is = refl;
    })
    refl refl change

pub returns-clause-stored : goal.returns-clause-stored
returns-clause-stored c = λ w rows heads m.
    c.change_of.ensures.stored w rows heads m.added
    (record {
      tables = c.args.tables.now;
      bytes = c.args.bytes.now;
      pending = c.args.pending.now;
      numbers = c.args.numbers.now;
      flats = flats_in c.view-view.result;
      facts = (code-facts c.args.bytes.now c.args.pending.now c.args.numbers.now (flats_in c.view-view.result) c.names_of-names.result.stored.now c.names_of-names.result.pending.now c.names_of-names.result.count c.names_of-names.result.more c.behind-moved.result.before w rows heads c.args.tables.now c.args.tables.now refl m (λ added t s sf p. c.view-view.ensures.graph added w rows (c.newest-base.ensures added t s) sf p) (c.names_of-names.ensures.stored ∙ ap (λ (o : PlainOthers). take (20 * o.count) (drop o.names c.args.bytes.now)) c.others.ensures) c.names_of-names.ensures.pending (c.names_of-names.ensures.count ∙ ap (λ (o : PlainOthers). o.count) c.others.ensures) c.names_of-names.ensures.more (c.behind-moved.ensures.before ∙ c.master_count.ensures));
      lawful = lawful_flats c.view-view.result;
      graph_is = c.in_ok-graph.ensures;
      order_is = c.behind-moved.ensures.order ∙ c.in_ok-moves.ensures.order ∙ ap (λ (gr : List (List Node)). order_of (λ k. get_or gr k []) (c.names_of-names.result.count + c.names_of-names.result.more) c.args.numbers.now) (ap (map (map node_of)) c.in_ok-graph.ensures ∙ nodes-are (flats_in c.view-view.result) (c.names_of-names.result.count + c.names_of-names.result.more));
      rest_is = c.behind-moved.ensures.rest ∙ c.in_ok-moves.ensures.rest ∙ ap (rest_of (c.names_of-names.result.count + c.names_of-names.result.more)) (sym c.behind-moved.ensures.order);
      pending_is = c.names_of-names.ensures.more;
      log_is = refl;
    })
    refl refl m.tables_of.lawful m.stand_for
