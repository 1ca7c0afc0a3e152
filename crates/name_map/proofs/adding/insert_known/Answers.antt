use Rattle.std.proofs.Common.{◌≡◌, ℕ, List, ap, sym, ◌∙◌, subst, Err}
use Rattle.batch_codec.specs.Lent.{knowns_of}
use Rattle.name_index.specs.Index.{StandFrom, places_in}
use Rattle.name_map.specs.Added.{every, named_from}
use Rattle.name_map.proofs.Places.{named-places, known-from}
use Rattle.name_map.proofs.Meeting.{double-of}
use Rattle.name_map.proofs.adding.insert_known.Goals as goal

pub returns-in_err-insert-clause-double : goal.returns-in_err-insert-clause-double
returns-in_err-insert-clause-double c = λ all is stand e distinct.
    let s = c.args.known.now in
    let new = named_from c.args.start (knowns_of s) in
    let from = subst (λ (b : List ℕ). StandFrom c.args.start b new) (sym c.bytes.ensures.bytes) (known-from s.count c.args.start s.bytes.now s.size) in
    let places : places_in new ≡ c.in_ok-places.places.items = named-places c.args.start (knowns_of s) ∙ ap (every _ 28) (sym c.len.ensures) ∙ sym c.in_ok-places.ensures in
    let fault = double-of c.from_residual-in_err-insert.result c.in_err-insert.field-0.0 c.from_residual-in_err-insert.ensures.1 e in
    c.in_err-insert.ensures.double all new is stand from places (ap Err fault) distinct

pub returns-clause-added : goal.returns-clause-added
returns-clause-added c = λ all is stand.
    let s = c.args.known.now in
    let new = named_from c.args.start (knowns_of s) in
    let from = subst (λ (b : List ℕ). StandFrom c.args.start b new) (sym c.bytes.ensures.bytes) (known-from s.count c.args.start s.bytes.now s.size) in
    let places : places_in new ≡ c.in_ok-places.places.items = named-places c.args.start (knowns_of s) ∙ ap (every _ 28) (sym c.len.ensures) ∙ sym c.in_ok-places.ensures in
    c.in_ok-insert.ensures.added all new is stand from places
