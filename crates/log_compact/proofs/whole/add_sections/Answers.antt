use Rattle.std.proofs.Common.{refl}
use Rattle.name_map.specs.Added.{payloads_of}
use Rattle.compact_rules.specs.Whole.{whole_change}
use Rattle.log_compact.proofs.Standing.{may-first, built-whole}
use Rattle.log_compact.proofs.whole.add_sections.Goals as goal

pub add_levels-requires : goal.add_levels-requires
add_levels-requires c =
    let added = c.requires.0 in let w = c.requires.1 in let s = c.requires.2 in
    let built = c.in_ok-add_segments.ensures.built added w s _ c.requires.3 in
    (whole_change (payloads_of added) w, (may-first c.args.tables.now c.args.bytes.now added w s).whole, refl, built.master)

pub returns-clause-built : goal.returns-clause-built
returns-clause-built c = λ added w s front.
    let whole = (may-first c.args.tables.now c.args.bytes.now added w s).whole in
    let sorted = c.in_ok-add_segments.ensures.built added w s _ front in
    let raised = c.in_ok-add_levels.ensures.built (whole_change (payloads_of added) w) _ whole refl sorted.master sorted in
    let named = c.in_ok-add_master_names.ensures.built added w s _ raised in
    built-whole c.args.tables.now c.args.bytes.now added w s c.add_others.new.build _ _ refl s.tables_of.cloned (c.in_ok-add_others.ensures.built added w s _ named)
