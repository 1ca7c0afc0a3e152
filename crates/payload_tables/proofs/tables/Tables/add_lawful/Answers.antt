use Rattle.std.proofs.Common.{◌∙◌, ap, sym, subst}
use Rattle.batch_codec.specs.Lent.{payload_of}
use Rattle.name_map.specs.Adding.{placed}
use Rattle.payload_tables.specs.Kept.{PlainTables, PlainOthers, AreMastersOf, AreNamed, AreOthersOf, by_kind}
use Rattle.name_map.specs.Added.{payloads_of}
use Rattle.payload_tables.proofs.Following.{tables-more}
use Rattle.payload_tables.proofs.Placing.{place-of}
use Rattle.payload_tables.proofs.OldNames.{tables-named}
use Rattle.payload_tables.proofs.tables.Tables.add_lawful.Goals as goal

pub behind-requires-clause-named : goal.behind-requires-clause-named
behind-requires-clause-named c =
    let r = c.requires.lawful in
    subst (λ (z : PlainTables). AreNamed c.args.bytes.now z.others) (sym c.self.view_is) (tables-named c.args.bytes.now c.args.self.now r.0 r.1 r.2)

pub extend_lawful-requires-clause-follows : goal.extend_lawful-requires-clause-follows
extend_lawful-requires-clause-follows c =
    let r = c.requires.lawful in
    r.3.count ∙ sym r.1.names.masters ∙ sym (ap (λ (z : PlainTables). z.names.masters) c.self.view_is)

pub returns-clause-added : goal.returns-clause-added
returns-clause-added c = λ added t stand f.
    let p = payload_of c.args.batch.now in
    let masters : AreMastersOf c.self.inside.flat c.self.inside.levels c.self.inside.names added =
    subst (λ (z : PlainTables). AreMastersOf z.flat z.levels z.names added) (sym c.self.view_is) (record { lawful = t.lawful; flat = t.flat; levels_of = t.levels; names = t.names }) in
    tables-more c.args.self.now _ added (placed c.args.at c.args.batch.now) t c.is_payload.ensures.payload
    (f.count ∙ sym t.names.masters) (place-of (payloads_of added) p f)
    (c.in_ok-extend_lawful.ensures.table added masters stand) (c.in_ok-extend_lawful.ensures.levels added masters stand) (c.in_ok-extend_lawful.ensures.names added masters stand f.distinct) f.distinct
    (λ d. subst (λ (o : PlainOthers). AreOthersOf o (placed c.args.at c.args.batch.now)) (sym c.keep.ensures.others) (c.in_ok-brought.ensures.others d))
    (c.keep.ensures.heads ∙ ap (λ l. by_kind p.kind l c.self.inside.heads.items) c.in_ok-brought.ensures.heads ∙ ap (λ (z : PlainTables). by_kind p.kind p.heads z.heads) c.self.view_is)
    (c.keep.ensures.cloned ∙ ap (λ (z : PlainTables). by_kind p.kind p.cloned z.cloned) c.self.view_is)
    c.version-self-inside.ensures
    (ap (λ (z : PlainTables). z.edges) c.self.view_is)
