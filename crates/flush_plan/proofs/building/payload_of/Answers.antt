use Rattle.std.proofs.Common.{◌∙◌, ◌+◌, ◌++◌, ℕ, length, sym, ap}
use Rattle.std.proofs.lemmas.List.{length-map}
use Rattle.change_parts.specs.Moves.{rest_of, name_at, change_in}
use Rattle.flush_plan.proofs.building.payload_of.Goals as goal

pub finish-requires : goal.finish-requires
finish-requires c =
    let r = c.requires.payload in
    let n = c.args.names.now.count + c.args.names.now.more in
    let order = c.args.moved.now.order.now in
    let bytes = c.args.names.now.stored.now ++ c.args.names.now.pending.now in (
      change_in r.0 bytes c.args.moved.now.before n order,
      r.6.whole,
      c.in_ok-add_change.ensures.built r.0 r.3 r.1 r.2 r.4 r.5 r.6,
      c.in_ok-add_change.ensures.count ∙ ap (length {A = ℕ}) c.requires.rest ∙ sym (length-map (rest_of n order) (name_at bytes)),
    )

pub returns-clause-payload : goal.returns-clause-payload
returns-clause-payload c = λ flats added lawful graph_is tables_of stand follows.
    let n = c.args.names.now.count + c.args.names.now.more in
    let order = c.args.moved.now.order.now in
    let bytes = c.args.names.now.stored.now ++ c.args.names.now.pending.now in
    c.finish.ensures (change_in flats bytes c.args.moved.now.before n order) follows.whole (c.in_ok-add_change.ensures.built flats added lawful graph_is tables_of stand follows)
    (c.in_ok-add_change.ensures.count ∙ ap (length {A = ℕ}) c.requires.rest ∙ sym (length-map (rest_of n order) (name_at bytes)))
