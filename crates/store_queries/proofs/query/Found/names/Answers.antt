use Rattle.std.proofs.Common.{◌∙◌, map, ap}
use Rattle.span_set.specs.Members.{ids_of}
use Rattle.span_set.specs.Down.{ids_left}
use Rattle.remote_rules.specs.CloneData.{KnownName}
use Rattle.store_queries.specs.Names.{named_front}
use Rattle.store_queries.proofs.Lending.{known-names, names-lent}
use Rattle.store_queries.proofs.query.Found.names.Goals as goal

pub over-requires-clause-base : goal.over-requires-clause-base
over-requires-clause-base c = let (added, may) = c.requires in (added, may.0)

pub over-requires-clause-pending : goal.over-requires-clause-pending
over-requires-clause-pending c = let (added, may) = c.requires in (may.1.rows, may.1.held)

pub returns : goal.returns
returns c = λ added w rows names h are.
    let base = c.args.seen.now.base in
    let pending = c.args.seen.now.pending.now in
    let fetched = c.args.self.now.fetched in
    let lent = known-names fetched ∙ ap (map (λ (z : KnownName). z.name)) are.lazy in
    c.over.ensures
    ∙ ap (λ l. named_front base pending l (ids_left c.ids_down.result)) lent
    ∙ ap (named_front base pending _) (c.ids_down.ensures ∙ ap ids_of c.set.ensures ∙ are.ids_are)
    ∙ names-lent base pending added w rows h.sees names are.seen
