use Rattle.std.proofs.Common.{Err, [], ap, sym, subst}
use Rattle.name_map.specs.Added.{payloads_of}
use Rattle.name_map.specs.Build.{AreNamesOf}
use Rattle.payload_tables.specs.Kept.{AreTablesOf}
use Rattle.payload_tables.specs.Build.{PlainBuild}
use Rattle.payload_tables.proofs.Building.{names-fit, tables-of, map-double}
use Rattle.payload_tables.proofs.build.TablesBuild.finish.Goals as goal

pub returns-in_err-names-clause-unlawful : goal.returns-in_err-names-clause-unlawful
returns-in_err-names-clause-unlawful c = λ added b stand e lawful.
    let names = subst (λ (z : PlainBuild). AreNamesOf z.names added) (sym c.self.view_is) b.parts.names_of in
    let fault = map-double c.from_residual.result c.in_err-names.field-0.0 c.from_residual.ensures.1 e in
    c.in_err-names.ensures.double added names stand (ap Err fault) (names-fit [] (payloads_of added) lawful)

pub returns-clause-tables : goal.returns-clause-tables
returns-clause-tables c = λ added b stand.
    let names = subst (λ (z : PlainBuild). AreNamesOf z.names added) (sym c.self.view_is) b.parts.names_of in
    let map = c.in_ok-names.ensures.map added names stand in
    subst (λ (z : PlainBuild). AreTablesOf (record { flat = z.flat; levels = z.levels; names = c.in_ok-names.names; others = z.others; heads = z.heads; cloned = z.cloned; version = z.version; edges = c.empty.result }) added) (sym c.self.view_is)
    (tables-of c.args.self c.in_ok-names.names c.empty.result added b map.0 map.1 c.empty.ensures)
