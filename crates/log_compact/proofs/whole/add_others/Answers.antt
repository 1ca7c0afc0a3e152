use Rattle.std.proofs.Common.{◌∙◌}
use Rattle.name_map.specs.Added.{payloads_of}
use Rattle.compact_rules.specs.Whole.{whole_change}
use Rattle.log_compact.proofs.Standing.{names-room, names-are, names-long, count-is, may-first}
use Rattle.log_compact.proofs.whole.add_others.Goals as goal

pub names-requires : goal.names-requires
names-requires c = names-room c.args.tables.now c.args.bytes.now c.requires.0 c.requires.1 c.requires.2 c.others-others.result.now c.others-others.ensures

pub add_other_names-requires : goal.add_other_names-requires
add_other_names-requires c =
    names-long c.args.tables.now c.args.bytes.now c.requires.0 c.requires.1 c.requires.2 c.others-others.result.now c.names.result.now c.count-count.result c.others-others.ensures c.names.ensures c.count-count.ensures

pub returns-clause-built : goal.returns-clause-built
returns-clause-built c = λ added w s p b.
    let t = c.args.tables.now in let bytes = c.args.bytes.now in
    c.in_ok-other_count.ensures.built _ (c.in_ok-add_other_names.ensures.built (whole_change (payloads_of added) w).other_names
    (names-are t bytes added w s c.others-others.result.now c.names.result.now c.others-others.ensures c.names.ensures)
    (may-first t bytes added w s).whole.other_names (count-is t bytes added w s c.others-others.result.now c.count-count.result c.others-others.ensures c.count-count.ensures) p b)

pub returns-clause-count : goal.returns-clause-count
returns-clause-count c = λ added w s.
    c.in_ok-other_count.ensures.count ∙ count-is c.args.tables.now c.args.bytes.now added w s c.others-others.result.now c.count-count.result c.others-others.ensures c.count-count.ensures
