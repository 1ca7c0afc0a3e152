use Rattle.std.proofs.Common.{◌∙◌, ◌≤◌, Err, ap, sym, subst}
use Rattle.batch_codec.specs.Lent.{payload_of}
use Rattle.name_map.specs.Added.{payloads_of}
use Rattle.name_map.specs.Adding.{placed}
use Rattle.payload_tables.specs.Kept.{PlainTables, PlainOthers, AreMastersOf, AreNamed, AreOthersOf, by_kind}
use Rattle.payload_tables.proofs.Following.{tables-more, none-placed}
use Rattle.payload_tables.proofs.Placing.{place-of}
use Rattle.payload_tables.proofs.Building.{fault-same}
use Rattle.payload_tables.proofs.OldNames.{tables-named}
use Rattle.payload_tables.proofs.tables.Tables.add_batch.Goals as goal

pub behind-requires-clause-named : goal.behind-requires-clause-named
behind-requires-clause-named c =
    let r = c.requires.tables in
    subst (λ (z : PlainTables). AreNamed c.args.bytes.now z.others) (sym c.self.view_is) (tables-named c.args.bytes.now c.args.self.now r.0 r.1 r.2)

pub returns-in_err-check_place-clause-unlawful : goal.returns-in_err-check_place-clause-unlawful
returns-in_err-check_place-clause-unlawful c = λ added t stand e may.
    let fault = fault-same c.from_residual.result c.in_err-check_place.field-0.0 c.from_residual.ensures.1 e in
    let p = payload_of c.args.batch.now in
    let version = ap (λ (z : PlainTables). z.version) c.self.view_is ∙ t.version in
    let place = place-of (payloads_of added) p may in
    c.in_err-check_place.ensures.unlawful (ap Err fault) (record {
      count = may.count ∙ sym t.names.masters ∙ sym (ap (λ (z : PlainTables). z.names.masters) c.self.view_is) ∙ sym c.master_count-masters.ensures;
      version = subst (λ n. n ≤ p.version) (sym version) place.version;
      first = λ never. (c.is_empty-is_none.ensures added t).1 (none-placed added p place never);
      heads = place.heads;
    })

pub returns-in_err-extend_masters-clause-unlawful : goal.returns-in_err-extend_masters-clause-unlawful
returns-in_err-extend_masters-clause-unlawful c = λ added t stand e may.
    let fault = fault-same c.from_residual-in_err-extend_masters.result c.in_err-extend_masters.field-0.0 c.from_residual-in_err-extend_masters.ensures.1 e in
    let masters : AreMastersOf c.self.inside.flat c.self.inside.levels c.self.inside.names added =
    subst (λ (z : PlainTables). AreMastersOf z.flat z.levels z.names added) (sym c.self.view_is) (record { lawful = t.lawful; flat = t.flat; levels_of = t.levels; names = t.names }) in
    c.in_err-extend_masters.ensures.unlawful added masters stand (ap Err fault) may.distinct may.levels

pub returns-clause-added : goal.returns-clause-added
returns-clause-added c = λ added t stand.
    let p = payload_of c.args.batch.now in
    let masters : AreMastersOf c.self.inside.flat c.self.inside.levels c.self.inside.names added =
    subst (λ (z : PlainTables). AreMastersOf z.flat z.levels z.names added) (sym c.self.view_is) (record { lawful = t.lawful; flat = t.flat; levels_of = t.levels; names = t.names }) in
    let names = c.in_ok-extend_masters.ensures.names added masters stand in
    let version = ap (λ (z : PlainTables). z.version) c.self.view_is ∙ t.version in
    let placed_is = c.in_ok-check_place.ensures.place in
    tables-more c.args.self.now _ added (placed c.args.at c.args.batch.now) t c.is_payload.ensures.payload
    (placed_is.count ∙ c.master_count-masters.ensures ∙ ap (λ (z : PlainTables). z.names.masters) c.self.view_is)
    (record {
      first = λ never. ap payloads_of ((c.is_empty-is_none.ensures added t).0 (placed_is.first never));
      heads = placed_is.heads;
      version = subst (λ n. n ≤ p.version) version placed_is.version;
      levels = c.in_ok-extend_masters.ensures.sections added masters stand;
    })
    (c.in_ok-extend_masters.ensures.table added masters stand) (c.in_ok-extend_masters.ensures.levels added masters stand) names.0 names.1
    (λ d. subst (λ (o : PlainOthers). AreOthersOf o (placed c.args.at c.args.batch.now)) (sym c.keep.ensures.others) (c.in_ok-brought.ensures.others d))
    (c.keep.ensures.heads ∙ ap (λ l. by_kind p.kind l c.self.inside.heads.items) c.in_ok-brought.ensures.heads ∙ ap (λ (z : PlainTables). by_kind p.kind p.heads z.heads) c.self.view_is)
    (c.keep.ensures.cloned ∙ ap (λ (z : PlainTables). by_kind p.kind p.cloned z.cloned) c.self.view_is)
    c.version-self-inside.ensures
    (ap (λ (z : PlainTables). z.edges) c.self.view_is)
