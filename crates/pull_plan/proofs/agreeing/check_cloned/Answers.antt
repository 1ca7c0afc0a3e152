use Rattle.std.proofs.Common.{None, Some, [], length, ap, refl}
use Rattle.change_parts.specs.Plans.{clone_fault}
use Rattle.segment_codec.specs.Record.{Segment}
use Rattle.high_segments.specs.Views.{flats_in}
use Rattle.name_map.specs.Added.{payloads_of}
use Rattle.change_rules.specs.Tables.{known_in}
use Rattle.pull_plan.specs.Pulling.{unlike_name}
use Rattle.pull_plan.proofs.BaseBeside.{view-may, first-told}
use Rattle.pull_plan.proofs.agreeing.check_cloned.Goals as goal

pub view-view-requires : goal.view-view-requires
view-view-requires c =
    let r = c.requires.tables in
    (r.0, c.newest-base.ensures r.0 r.1 r.2, view-may c.args.tables.now c.args.bytes.now c.args.none.now c.requires.none.0 c.requires.none.1 r.0 r.1 r.2 c.newest-base.result)

pub returns-in-Some : goal.returns-in-Some
returns-in-Some c = λ added t stand.
    let told = c.args.told.now in
    ap clone_fault (first-told c.args.tables.now c.args.bytes.now c.args.none.now c.requires.none.0 c.requires.none.1 added t stand
    (flats_in c.view-view.result) (λ w s p. c.view-view.ensures.flats added w [] (c.newest-base.ensures added t stand) s p)
    c.cloned-cloned.result (c.cloned-cloned.ensures.payloads added t) told (Some c.in-Some.at) (unlike_name told.names (known_in (payloads_of added)) c.cloned-cloned.result (length {A = Segment} told.segments)) c.in-Some.ensures refl)

pub returns-in-Some-first_unlike_name : goal.returns-in-Some-first_unlike_name
returns-in-Some-first_unlike_name c = λ added t stand.
    let told = c.args.told.now in
    ap clone_fault (first-told c.args.tables.now c.args.bytes.now c.args.none.now c.requires.none.0 c.requires.none.1 added t stand
    (flats_in c.view-view.result) (λ w s p. c.view-view.ensures.flats added w [] (c.newest-base.ensures added t stand) s p)
    c.cloned-cloned.result (c.cloned-cloned.ensures.payloads added t) told None (Some c.in-Some-first_unlike_name.at) c.in_default.ensures (c.in-Some-first_unlike_name.ensures added t stand))

pub returns : goal.returns
returns c = λ added t stand.
    let told = c.args.told.now in
    first-told c.args.tables.now c.args.bytes.now c.args.none.now c.requires.none.0 c.requires.none.1 added t stand
    (flats_in c.view-view.result) (λ w s p. c.view-view.ensures.flats added w [] (c.newest-base.ensures added t stand) s p)
    c.cloned-cloned.result (c.cloned-cloned.ensures.payloads added t) told None None c.in_default.ensures (c.in_default-first_unlike_name.ensures added t stand)
