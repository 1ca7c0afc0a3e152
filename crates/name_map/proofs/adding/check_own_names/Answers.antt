use Rattle.std.proofs.Common.{◌≡◌, ℕ, List, [], Err, ap, sym, ◌∙◌, subst}
use Rattle.std.proofs.lemmas.List.{map-append}
use Rattle.id_groups.specs.Lists.{AreDistinct}
use Rattle.id_groups.specs.Name.{Name}
use Rattle.batch_codec.specs.Lent.{knowns_of, lent_names}
use Rattle.name_index.specs.Index.{NamedPlace, NamesStand, StandFrom, names_in, places_in}
use Rattle.name_map.specs.Added.{every, named_from, names_from}
use Rattle.name_map.proofs.Lists.{distinct-left}
use Rattle.name_map.proofs.Places.{names-places, known-from, others-from, stand-zero}
use Rattle.name_map.proofs.Meeting.{double-of, double-same}
use Rattle.name_map.proofs.adding.check_own_names.Goals as goal

pub returns-in_err-insert_known-clause-double : goal.returns-in_err-insert_known-clause-double
returns-in_err-insert_known-clause-double c = λ e distinct.
    let known = named_from 0 (knowns_of c.args.known.now) in
    let others = names_from 0 (lent_names c.args.others.now) in
    let fault = double-same c.from_residual.result c.in_err-insert_known.field-0.0 c.from_residual.ensures.1 e in
    let split = subst (λ (z : List Name). AreDistinct z) (map-append (λ (n : NamedPlace). n.name) known others) distinct in
    c.in_err-insert_known.ensures.double [] c.empty-index.ensures tt (ap Err fault) (distinct-left (names_in known) (names_in others) split)

pub returns-in_err-insert-clause-double : goal.returns-in_err-insert-clause-double
returns-in_err-insert-clause-double c = λ e distinct.
    let s = c.args.known.now in
    let o = c.args.others.now in
    let known = named_from 0 (knowns_of s) in
    let others = names_from 0 (lent_names o) in
    let is = c.in_ok-insert_known.ensures.added [] c.empty-index.ensures tt in
    let stand = subst (λ (b : List ℕ). NamesStand b known) (sym c.bytes.ensures.bytes) (stand-zero s.bytes.now known (known-from s.count 0 s.bytes.now s.size)) in
    let from = subst (λ (b : List ℕ). StandFrom 0 b others) (sym c.bytes-2.ensures.bytes) (others-from o.count 0 o.bytes.now o.size) in
    let places : places_in others ≡ c.in_ok-places.places.items = names-places 0 (lent_names o) ∙ ap (every 0 20) (sym c.len.ensures) ∙ sym c.in_ok-places.ensures in
    let fault = double-of c.from_residual-in_err-insert.result c.in_err-insert.field-0.0 c.from_residual-in_err-insert.ensures.1 e in
    c.in_err-insert.ensures.double known others is stand from places (ap Err fault) distinct

pub returns-clause-ok : goal.returns-clause-ok
returns-clause-ok c =
    let s = c.args.known.now in
    let o = c.args.others.now in
    let known = named_from 0 (knowns_of s) in
    let others = names_from 0 (lent_names o) in
    let is = c.in_ok-insert_known.ensures.added [] c.empty-index.ensures tt in
    let stand = subst (λ (b : List ℕ). NamesStand b known) (sym c.bytes.ensures.bytes) (stand-zero s.bytes.now known (known-from s.count 0 s.bytes.now s.size)) in
    let from = subst (λ (b : List ℕ). StandFrom 0 b others) (sym c.bytes-2.ensures.bytes) (others-from o.count 0 o.bytes.now o.size) in
    let places : places_in others ≡ c.in_ok-places.places.items = names-places 0 (lent_names o) ∙ ap (every 0 20) (sym c.len.ensures) ∙ sym c.in_ok-places.ensures in
    (c.in_ok-insert.ensures.added known others is stand from places).distinct
