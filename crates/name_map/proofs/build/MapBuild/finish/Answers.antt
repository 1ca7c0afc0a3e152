use Rattle.std.proofs.Common.{◌∙◌, Err, ap, sym, subst}
use Rattle.name_map.specs.Added.{named_of}
use Rattle.name_map.specs.Map.{IsMapOf}
use Rattle.name_map.specs.Build.{PlainNames, entry_places}
use Rattle.name_map.proofs.Standing.{names-stand}
use Rattle.name_map.proofs.Meeting.{double-of}
use Rattle.name_map.proofs.Building.{places-are, all-fit, none-met, known-distinct, map-of}
use Rattle.name_map.proofs.build.MapBuild.finish.Goals as goal

pub returns-in_err-index-clause-double : goal.returns-in_err-index-clause-double
returns-in_err-index-clause-double c = λ added b stand e fit.
    let places = c.deref-2.ensures.value ∙ c.in_ok-places.ensures ∙ ap entry_places (c.deref.ensures.value ∙ ap (λ (z : PlainNames). z.parts) c.self.view_is ∙ b.parts) ∙ places-are 0 added in
    let fault = double-of c.from_residual-in_err-index.result c.in_err-index.field-0.0 c.from_residual-in_err-index.ensures.1 e in
    c.in_err-index.ensures.double (named_of added) (names-stand c.args.bytes.now added b.follow stand) (sym places) (ap Err fault) (known-distinct added fit)

pub returns-then-has_double-clause-double : goal.returns-then-has_double-clause-double
returns-then-has_double-clause-double c = λ added b stand _ fit.
    let places = c.deref-2.ensures.value ∙ c.in_ok-places.ensures ∙ ap entry_places (c.deref.ensures.value ∙ ap (λ (z : PlainNames). z.parts) c.self.view_is ∙ b.parts) ∙ places-are 0 added in
    let index = c.in_ok-index.ensures.made (named_of added) (names-stand c.args.bytes.now added b.follow stand) (sym places) in
    let map = subst (λ (z : PlainNames). IsMapOf (record { parts = z.parts; index = c.in_ok-index.index; masters = z.masters; known = z.known }) added) (sym c.self.view_is)
    (map-of c.args.self c.in_ok-index.index added b index) in
    let met = c.has_double.ensures.double added map stand (c.deref-3.ensures.value ∙ ap (λ (z : PlainNames). z.others) c.self.view_is ∙ b.others) c.if-has_double.true in
    none-met added b.follow fit met.0 met.1 met.2

pub returns-clause-map : goal.returns-clause-map
returns-clause-map c = λ added b stand.
    let places = c.deref-2.ensures.value ∙ c.in_ok-places.ensures ∙ ap entry_places (c.deref.ensures.value ∙ ap (λ (z : PlainNames). z.parts) c.self.view_is ∙ b.parts) ∙ places-are 0 added in
    let index = c.in_ok-index.ensures.made (named_of added) (names-stand c.args.bytes.now added b.follow stand) (sym places) in
    let map = subst (λ (z : PlainNames). IsMapOf (record { parts = z.parts; index = c.in_ok-index.index; masters = z.masters; known = z.known }) added) (sym c.self.view_is)
    (map-of c.args.self c.in_ok-index.index added b index) in
    let unknown = c.has_double.ensures.fit added map stand (c.deref-3.ensures.value ∙ ap (λ (z : PlainNames). z.others) c.self.view_is ∙ b.others) c.if-has_double.false in
    (map, all-fit added b.follow index.distinct unknown b.distinct)
