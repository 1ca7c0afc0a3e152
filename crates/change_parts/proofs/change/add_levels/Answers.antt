use Rattle.std.proofs.Common.{◌≤◌, ◌++◌, ◌∙◌, ap, sym, subst, subst₂, flat_map, length, List, ℕ}
use Rattle.segment_codec.specs.Record.{segment_bytes}
use Rattle.name_map.specs.Added.{payloads_of}
use Rattle.change_rules.specs.Lawful.{levels_with}
use Rattle.payload_tables.specs.Places.{BringsMasters}
use Rattle.change_parts.proofs.LevelRecords.{few-records, ok-then}
use Rattle.change_parts.proofs.change.add_levels.Goals as goal

pub write_levels-requires : goal.write_levels-requires
write_levels-requires c =
    let r = c.requires in
    let Brings : List ℕ → Type 0 = λ rs. BringsMasters c.args.tables.now.flat c.args.tables.now.levels c.args.bytes.now rs r.0 r.1 in
    (r.0, r.1, subst Brings (sym c.master_records.ensures) r.2)

pub level_records-requires : goal.level_records-requires
level_records-requires c =
    let r = c.requires in let levels = levels_with (payloads_of r.0) r.1 in
    let Brings : List ℕ → Type 0 = λ rs. BringsMasters c.args.tables.now.flat c.args.tables.now.levels c.args.bytes.now rs r.0 r.1 in
    let brings = subst Brings (sym c.master_records.ensures) r.2 in
    let records = c.deref.ensures.value ∙ c.in_ok-count.ensures.written r.0 r.1 brings ∙ ap (λ l. l ++ flat_map segment_bytes levels) c.new-records.ensures.items in
    subst₂ (λ n m. n ≤ m) (sym (c.in_ok-count.ensures.count r.0 r.1 brings)) (sym (ap (length {A = ℕ}) records)) (few-records levels)

pub returns-clause-built : goal.returns-clause-built
returns-clause-built c =
    ok-then c.level_records.result
    (λ put. λ added p q h built.
    let Brings : List ℕ → Type 0 = λ rs. BringsMasters c.args.tables.now.flat c.args.tables.now.levels c.args.bytes.now rs added p in
    let brings = subst Brings (sym c.master_records.ensures) h in
    put q (levels_with (payloads_of added) p) built
    (c.deref.ensures.value ∙ c.in_ok-count.ensures.written added p brings ∙ ap (λ l. l ++ flat_map segment_bytes (levels_with (payloads_of added) p)) c.new-records.ensures.items)
    (c.in_ok-count.ensures.count added p brings))
    c.level_records.ensures.ok
