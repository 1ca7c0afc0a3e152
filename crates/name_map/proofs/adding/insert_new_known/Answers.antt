use Rattle.std.proofs.Common.{◌≡◌, ℕ, List, ap, sym, ◌∙◌, subst}
use Rattle.batch_codec.specs.Lent.{knowns_of}
use Rattle.name_index.specs.Index.{StandFrom, places_in}
use Rattle.name_map.specs.Added.{every, named_from}
use Rattle.name_map.proofs.Places.{named-places, known-from}
use Rattle.name_map.proofs.adding.insert_new_known.Goals as goal

pub returns-clause-added : goal.returns-clause-added
returns-clause-added c = λ all is stand distinct.
    let s = c.args.known.now in
    let new = named_from c.args.start (knowns_of s) in
    let from = subst (λ (b : List ℕ). StandFrom c.args.start b new) (sym c.bytes.ensures.bytes) (known-from s.count c.args.start s.bytes.now s.size) in
    let places : places_in new ≡ c.in_ok-places.places.items = named-places c.args.start (knowns_of s) ∙ ap (every _ 28) (sym c.len.ensures) ∙ sym c.in_ok-places.ensures in
    c.in_ok-insert_new.ensures.added all new is stand from places distinct
