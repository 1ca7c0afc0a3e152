use Rattle.std.proofs.Common.{◌∙◌, ◌≤◌, Err, ap, sym, subst}
use Rattle.batch_codec.specs.Lent.{payload_of}
use Rattle.name_map.specs.Added.{payloads_of}
use Rattle.name_map.specs.Adding.{placed}
use Rattle.payload_tables.specs.Kept.{PlainOthers, AreOthersOf, by_kind}
use Rattle.payload_tables.specs.Build.{PlainBuild, ArePartsOf}
use Rattle.payload_tables.proofs.Building.{build-more, fault-same, own-names}
use Rattle.payload_tables.proofs.Following.{none-placed}
use Rattle.payload_tables.proofs.Placing.{place-of}
use Rattle.name_map.specs.Build.{AreNamesOf}
use Rattle.payload_tables.proofs.build.TablesBuild.add_batch.Goals as goal

pub returns-in_err-add_masters-clause-unlawful : goal.returns-in_err-add_masters-clause-unlawful
returns-in_err-add_masters-clause-unlawful c = λ added b stand e may.
    let fault = fault-same c.from_residual-in_err-add_masters.result c.in_err-add_masters.field-0.0 c.from_residual-in_err-add_masters.ensures.1 e in
    let parts = subst (λ (z : PlainBuild). ArePartsOf z.flat z.levels z.names added) (sym c.self.view_is) b.parts in
    c.in_err-add_masters.ensures.unlawful added parts stand (ap Err fault) (own-names (payloads_of added) (payload_of c.args.batch.now) may) may.levels

pub returns-in_err-check_place-clause-unlawful : goal.returns-in_err-check_place-clause-unlawful
returns-in_err-check_place-clause-unlawful c = λ added b stand e may.
    let fault = fault-same c.from_residual.result c.in_err-check_place.field-0.0 c.from_residual.ensures.1 e in
    let p = payload_of c.args.batch.now in
    let names = subst (λ (z : PlainBuild). AreNamesOf z.names added) (sym c.self.view_is) b.parts.names_of in
    let version = ap (λ (z : PlainBuild). z.version) c.self.view_is ∙ b.version in
    let place = place-of (payloads_of added) p may in
    c.in_err-check_place.ensures.unlawful (ap Err fault) (record {
      count = may.count ∙ sym names.masters ∙ sym c.master_count-masters.ensures;
      version = subst (λ n. n ≤ p.version) (sym version) place.version;
      first = λ never. (c.is_empty-is_none.ensures added names).1 (none-placed added p place never);
      heads = place.heads;
    })

pub returns-clause-added : goal.returns-clause-added
returns-clause-added c = λ added b stand.
    let p = payload_of c.args.batch.now in
    let parts = subst (λ (z : PlainBuild). ArePartsOf z.flat z.levels z.names added) (sym c.self.view_is) b.parts in
    let version = ap (λ (z : PlainBuild). z.version) c.self.view_is ∙ b.version in
    let placed_is = c.in_ok-check_place.ensures.place in
    build-more c.args.self.now _ added (placed c.args.at c.args.batch.now) b c.is_payload.ensures.payload
    (record {
      first = λ never. ap payloads_of ((c.is_empty-is_none.ensures added parts.names_of).0 (placed_is.first never));
      heads = placed_is.heads;
      version = subst (λ n. n ≤ p.version) version placed_is.version;
      levels = c.in_ok-add_masters.ensures.sections added parts stand;
    })
    (record {
      flat = c.in_ok-add_masters.ensures.table added parts stand;
      levels_of = c.in_ok-add_masters.ensures.levels added parts stand;
      names_of = c.in_ok-add_masters.ensures.names added parts;
    })
    (λ d. subst (λ (o : PlainOthers). AreOthersOf o (placed c.args.at c.args.batch.now)) (sym c.keep.ensures.others) (c.in_ok-brought.ensures.others d))
    (c.keep.ensures.heads ∙ ap (λ l. by_kind p.kind l c.self.inside.heads.items) c.in_ok-brought.ensures.heads ∙ ap (λ (z : PlainBuild). by_kind p.kind p.heads z.heads) c.self.view_is)
    (c.keep.ensures.cloned ∙ ap (λ (z : PlainBuild). by_kind p.kind p.cloned z.cloned) c.self.view_is)
    c.version-self-inside.ensures
