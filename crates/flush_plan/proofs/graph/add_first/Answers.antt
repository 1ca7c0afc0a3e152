use Rattle.std.proofs.Common.{rules, ◌≡◌, ◌++◌, ◌∷◌, [], Some, sym, subst}
use Rattle.segment_codec.specs.Table.{parents_in}
use Rattle.segment_codec.specs.Lent.{parents_left, segment_of}
use Rattle.flush_plan.specs.Places.{AreRows}
use Rattle.change_parts.specs.Rows.{AreSmall}
use Rattle.flush_plan.proofs.graph.add_first.Goals as goal

pub returns-in_ok-add_row : goal.returns-in_ok-add_row
returns-in_ok-add_row c = λ list are small.
    let e : parents_left c.parents.result ≡ parents_in (Some (segment_of c.args.segment)) c.args.id = search rules in
    subst (λ l. AreRows c.add_row.new.rows.places.items c.add_row.new.rows.ids.items (list ++ l ∷ [])) e (c.in_ok-add_row.ensures list are (subst AreSmall (sym e) small))

pub returns-in_ok-add_follower : goal.returns-in_ok-add_follower
returns-in_ok-add_follower c = λ list are small.
    let e : c.from_number.result ∷ [] ≡ parents_in (Some (segment_of c.args.segment)) c.args.id = search rules in
    subst (λ l. AreRows c.add_follower.new.rows.places.items c.add_follower.new.rows.ids.items (list ++ l ∷ [])) e (c.in_ok-add_follower.ensures list are (subst AreSmall (sym e) small))
