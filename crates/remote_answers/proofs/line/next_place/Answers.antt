use Rattle.std.proofs.Common.{◌≡◌, Some, None, ap, sym, subst, ◌∙◌, arith}
use Rattle.std.specs.Prelude.{MatchOption}
use Rattle.commit_graph.specs.Graph.{first_of_list}
use Rattle.segment_codec.specs.Table.{parents_at}
use Rattle.remote_answers.specs.Lines.{IsPlace}
use Rattle.remote_answers.proofs.Placing.{within-segment, from-lowest, parent-held}
use Rattle.remote_answers.proofs.line.next_place.Goals as goal

pub returns-then-place : goal.returns-then-place
returns-then-place g c = within-segment (g.T.SegmentTable.flats c.args.table.now) (g.met.T.SegmentTable.lawful c.args.table.now) c.args.place c.requires c.if-place.true

pub returns-in_err-parent : goal.returns-in_err-parent
returns-in_err-parent g c =
    let flats = g.T.SegmentTable.flats c.args.table.now in
    let low = c.if-place.false in
    subst (λ o. MatchOption o (first_of_list (parents_at flats c.args.place.at) ≡ None) (λ next. (first_of_list (parents_at flats c.args.place.at) ≡ Some next.at) × IsPlace flats next)) (sym c.from_residual.ensures)
    (from-lowest flats (g.met.T.SegmentTable.lawful c.args.table.now) c.args.place c.requires (omega (arith, low)) ∙ c.in_err-parent.was)

pub place_of-requires : goal.place_of-requires
place_of-requires g c =
    let flats = g.T.SegmentTable.flats c.args.table.now in
    let lawful = g.met.T.SegmentTable.lawful c.args.table.now in
    let low = c.if-place.false in
    parent-held flats lawful c.args.place c.requires c.in_ok-parent.parent (from-lowest flats lawful c.args.place c.requires (omega (arith, low)) ∙ c.in_ok-parent.was)

pub returns : goal.returns
returns g c =
    let flats = g.T.SegmentTable.flats c.args.table.now in
    let lawful = g.met.T.SegmentTable.lawful c.args.table.now in
    let low = c.if-place.false in
    (from-lowest flats lawful c.args.place c.requires (omega (arith, low)) ∙ c.in_ok-parent.was ∙ ap (λ z. Some z) (sym c.place_of.ensures.at), c.place_of.ensures.place)
