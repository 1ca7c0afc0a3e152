use Rattle.std.proofs.Common.{◌∙◌, ◌+◌, ap, sym, subst, arith, length}
use Rattle.id_groups.specs.Lists.{AreDistinct}
use Rattle.id_groups.specs.Name.{Name}
use Rattle.batch_codec.specs.Lent.{payload_of}
use Rattle.name_index.specs.Index.{IsIndexOf}
use Rattle.name_map.specs.Added.{names_from}
use Rattle.payload_tables.proofs.Sectioning.{names-fit}
use Rattle.payload_tables.proofs.others.OthersTable.next.Goals as goal

pub overflow_add-at : goal.overflow_add-at
overflow_add-at c =
    let p = payload_of c.args.batch.now in
    let start = c.start.ensures ∙ c.other_names-names.ensures.start ∙ c.is_payload.ensures.places.other_names in
    let fit = names-fit p c.is_payload.ensures.payload in let room = c.requires.room in omega (arith, start, fit, room)

pub index_behind-requires-clause-room : goal.index_behind-requires-clause-room
index_behind-requires-clause-room c =
    let p = payload_of c.args.batch.now in
    let start = c.start.ensures ∙ c.other_names-names.ensures.start ∙ c.is_payload.ensures.places.other_names in
    let len = ap (length {A = Name}) c.other_names-names.ensures.names in
    let fit = names-fit p c.is_payload.ensures.payload in let room = c.requires.room in omega (arith, start, len, fit, room)

pub returns : goal.returns
returns c = λ distinct.
    let start = c.start.ensures ∙ c.other_names-names.ensures.start ∙ c.is_payload.ensures.places.other_names in
    let names = c.other_names-names.ensures.names in
    c.in_ok-others.ensures
    (subst (λ n. IsIndexOf c.in_ok-index.index (names_from (c.args.at + n) (payload_of c.args.batch.now).other_names)) start
    (subst (λ l. IsIndexOf c.in_ok-index.index (names_from (c.args.at + c.start.result) l)) names (c.in_ok-index.ensures (subst AreDistinct (sym names) distinct))))
