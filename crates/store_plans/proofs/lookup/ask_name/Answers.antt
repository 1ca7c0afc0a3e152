use Rattle.std.proofs.Common.{◌++◌, length, map, sym, subst}
use Rattle.high_segments.specs.Views.{flats_in}
use Rattle.name_map.specs.Added.{payloads_of, known_of}
use Rattle.name_map.specs.Map.{IsMapOf}
use Rattle.change_rules.specs.Tables.{cloned_count}
use Rattle.lazy_names.specs.Standing.{AreHeads}
use Rattle.store_plans.specs.Looking.{Asked}
use Rattle.store_plans.proofs.Asking.{asked-of, covered, heads-are, must-be-asked, right-of, serve-as, stands-for, way-within, wrong-path}
use Rattle.store_plans.proofs.lookup.ask_name.Goals as goal

pub returns-clause-asked : goal.returns-clause-asked
returns-clause-asked g c = λ added w rows h some out.
    let s = h.sees in
    let b = h.behind in
    let base = c.args.seen.now.base in
    let pending = c.args.seen.now.pending.now in
    let tables = c.args.seen.now.tables.now in
    let bytes = c.args.seen.now.bytes.now in
    let flats = flats_in c.view.result in
    let segs = c.view.ensures.graph added w rows s.base_of s.stand s.pending_rows in
    let all = added ++ b.behind in
    let old = map g.R.Remote.shown c.args.mirrors.now.items in
    let new = map g.R.Remote.shown c.find_among-found.new.mirrors.items in
    let is_map = subst (λ m. IsMapOf m all) (sym c.names.ensures) b.tables_of.names in
    let covers = covered base pending added w rows s tables bytes b flats segs some in
    let heads = c.heads.ensures.payloads all b.tables_of in
    let finds = c.find_among-found.ensures.finds all (length w.master) _ is_map b.stand covers in
    let asks = must-be-asked base pending added w rows s tables bytes b flats segs some c.heads.result.now c.args.name.now old new c.find_among-found.result out finds in
    subst (Asked (payloads_of added) w c.args.name.now old new c.args.cache.now c.find_among-found.new.self) (sym c.or_refused.ensures)
    (asked-of (payloads_of added) w c.args.name.now flats (known_of all) c.heads.result.now
    (way-within base pending added w rows s tables bytes b flats segs some) (wrong-path base pending added w rows s tables bytes b flats segs some c.args.name.now out)
    old new c.args.cache.now c.find_among-found.new.self c.find_among-found.result asks c.find_among-found.ensures.cache
    (λ serving. right-of base pending added w rows s tables bytes b flats segs some c.args.name.now c.find_among-found.result
    (c.find_among-found.ensures.right all w.master (cloned_count (payloads_of added)) is_map b.stand (stands-for base pending added w rows s tables bytes b flats segs some)
    (subst (AreHeads flats (known_of all) (length w.master) (cloned_count (payloads_of added))) (sym heads) (heads-are base pending added w rows s tables bytes b flats segs some))
    (serve-as base pending added w rows s tables bytes b flats segs some old serving))))
