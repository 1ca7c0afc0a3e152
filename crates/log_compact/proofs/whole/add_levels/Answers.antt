use Rattle.std.proofs.Common.{◌≤◌, ◌++◌, ◌∙◌, [], ap, sym, subst₂, flat_map, length, ℕ}
use Rattle.segment_codec.specs.Record.{segment_bytes}
use Rattle.change_rules.specs.Lawful.{levels_with}
use Rattle.change_parts.proofs.LevelRecords.{few-records, ok-then, brings-first}
use Rattle.log_compact.proofs.whole.add_levels.Goals as goal

pub write_levels-requires : goal.write_levels-requires
write_levels-requires c =
    let r = c.requires in
    ([], r.0, brings-first c.empty-tables.result _ _ r.0 c.empty-tables.ensures r.1 r.2 (c.master_records.ensures ∙ r.3))

pub level_records-requires : goal.level_records-requires
level_records-requires c =
    let r = c.requires in let levels = levels_with [] r.0 in
    let brings = brings-first c.empty-tables.result _ _ r.0 c.empty-tables.ensures r.1 r.2 (c.master_records.ensures ∙ r.3) in
    let records = c.deref.ensures.value ∙ c.in_ok-count.ensures.written [] r.0 brings ∙ ap (λ l. l ++ flat_map segment_bytes levels) c.new-records.ensures.items in
    subst₂ (λ n m. n ≤ m) (sym (c.in_ok-count.ensures.count [] r.0 brings)) (sym (ap (length {A = ℕ}) records)) (few-records levels)

pub returns-clause-built : goal.returns-clause-built
returns-clause-built c =
    ok-then c.level_records.result
    (λ put. λ p q whole first records built.
    let brings = brings-first c.empty-tables.result _ _ p c.empty-tables.ensures whole first (c.master_records.ensures ∙ records) in
    put q (levels_with [] p) built
    (c.deref.ensures.value ∙ c.in_ok-count.ensures.written [] p brings ∙ ap (λ l. l ++ flat_map segment_bytes (levels_with [] p)) c.new-records.ensures.items)
    (c.in_ok-count.ensures.count [] p brings))
    c.level_records.ensures.ok
