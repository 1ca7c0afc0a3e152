use Rattle.std.proofs.Common.{◌∙◌, subst}
use Rattle.name_map.specs.Map.{NamesAs}
use Rattle.payload_tables.specs.Bases.{stored_in}
use Rattle.store_queries.proofs.QueryNames.{some-name, none-name}
use Rattle.store_queries.proofs.names.name_of_id.Goals as goal

pub returns-in-Some : goal.returns-in-Some
returns-in-Some c =
    let b = c.requires.base in
    some-name c.args.base.now c.args.pending.now b.0 b.1 c.args.id c.in-Some.name (subst (NamesAs (stored_in b.0) c.args.id) c.in-Some.is (c.name.ensures b.0 b.1))

pub returns : goal.returns
returns c =
    let b = c.requires.base in
    let e = c.in_default.is in
    c.name_of_row.ensures ∙ none-name c.args.base.now c.args.pending.now b.0 b.1 c.args.id (subst (NamesAs (stored_in b.0) c.args.id) e (c.name.ensures b.0 b.1))
