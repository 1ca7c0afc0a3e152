use Rattle.std.proofs.Common.{◌≤◌, ◌∙◌, ◌++◌, [], ap, sym, subst, subst₂}
use Rattle.batch_codec.specs.Building.{IsBuilt}
use Rattle.high_segments.specs.Views.{flats_in}
use Rattle.payload_tables.specs.Kept.{PlainOthers}
use Rattle.change_parts.proofs.LevelRecords.{ok-then}
use Rattle.log_compact.proofs.Standing.{few-others, none-viewed, none-pending, masters-whole, others-whole}
use Rattle.log_compact.proofs.whole.add_segments.Goals as goal

pub empty-none-requires : goal.empty-none-requires
empty-none-requires c =
    subst (λ n. n ≤ 65536) (sym (c.from.ensures ∙ c.count-others.ensures ∙ ap (λ (o : PlainOthers). o.count) c.others.ensures))
    (few-others c.args.tables.now c.args.bytes.now c.requires.0 c.requires.1 c.requires.2)

pub view-view-requires : goal.view-view-requires
view-view-requires c =
    let added = c.requires.0 in let w = c.requires.1 in let s = c.requires.2 in
    let first = c.empty-none.ensures.first ∙ c.from.ensures ∙ c.count-others.ensures ∙ ap (λ (o : PlainOthers). o.count) c.others.ensures in (
      added,
      c.newest.ensures added s.tables_of s.stand,
      none-viewed c.args.tables.now c.args.bytes.now added w s c.newest.result c.empty-none.result first c.empty-none.ensures.rows,
    )

pub returns-clause-built : goal.returns-clause-built
returns-clause-built c = ok-then c.add_flats.result
    (λ put. λ added w s p b.
    let t = c.args.tables.now in let bytes = c.args.bytes.now in
    let first = c.empty-none.ensures.first ∙ c.from.ensures ∙ c.count-others.ensures ∙ ap (λ (o : PlainOthers). o.count) c.others.ensures in
    let flats = c.view-view.ensures.flats added w [] (c.newest.ensures added s.tables_of s.stand) s.hold.stand (none-pending t bytes added w s c.empty-none.result first c.empty-none.ensures.rows) in
    subst₂ (λ m o. IsBuilt c.add_flats.new.build (record p { master = p.master ++ m; others = p.others ++ o }))
    (masters-whole t bytes added w s (flats_in c.view-view.result) flats) (others-whole t bytes added w s (flats_in c.view-view.result) flats) (put p b)) c.add_flats.ensures.built
