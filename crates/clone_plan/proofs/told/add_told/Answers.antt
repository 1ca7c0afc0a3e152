use Rattle.std.proofs.Common.{ℕ, List, [], refl, sym, subst, subst₂}
use Rattle.segment_codec.specs.Record.{Segment}
use Rattle.batch_codec.specs.Building.{IsBuilt, empty_payload}
use Rattle.remote_rules.specs.CloneData.{CloneData}
use Rattle.change_rules.specs.Change.{AreFormed, told_change}
use Rattle.change_rules.specs.Lawful.{MayFollow}
use Rattle.clone_plan.specs.Cloning.{told_count}
use Rattle.clone_plan.proofs.Telling.{read-lawful, read-count, read-high, read-ids, read-follows}
use Rattle.change_parts.proofs.LevelRecords.{brings-first}
use Rattle.clone_plan.proofs.told.add_told.Goals as goal

pub add_segments-requires-clause-turn : goal.add_segments-requires-clause-turn
add_segments-requires-clause-turn c =
    let told : CloneData = record { segments = c.cloned.inside.segments; names = c.cloned.inside.names; heads = c.cloned.inside.heads } in
    (read-lawful told c.args.cloned.now c.cloned.view_is c.requires.lawful (told_count c.args.cloned.now) refl).segments

pub add_segments-requires-clause-few : goal.add_segments-requires-clause-few
add_segments-requires-clause-few c =
    let told : CloneData = record { segments = c.cloned.inside.segments; names = c.cloned.inside.names; heads = c.cloned.inside.heads } in
    read-high told c.args.cloned.now c.cloned.view_is c.requires.lawful (told_count c.args.cloned.now) refl c.requires.few

pub add_names-requires : goal.add_names-requires
add_names-requires c =
    let told : CloneData = record { segments = c.cloned.inside.segments; names = c.cloned.inside.names; heads = c.cloned.inside.heads } in
    read-ids told c.args.cloned.now c.cloned.view_is c.requires.lawful (told_count c.args.cloned.now) refl c.requires.few

pub add_levels-requires : goal.add_levels-requires
add_levels-requires c =
    let told : CloneData = record { segments = c.cloned.inside.segments; names = c.cloned.inside.names; heads = c.cloned.inside.heads } in
    let formed : AreFormed told = record { segments = c.in_ok-add_segments.ensures.formed; names = c.in_ok-add_names.ensures.formed; heads = c.in_ok-add_heads.ensures.formed } in
    let may = read-follows told c.args.cloned.now c.cloned.view_is c.requires.lawful (told_count c.args.cloned.now) refl c.requires.some c.requires.few c.requires.heads formed in
    let built = c.in_ok-add_heads.ensures.built _ (c.in_ok-add_names.ensures.built _ (c.in_ok-add_segments.ensures.built (empty_payload 2 0 (told_count c.args.cloned.now) (told_count c.args.cloned.now)) c.requires.build)) in
    ([], told_change told, brings-first c.args.tables.now c.args.bytes.now c.add_heads.new.build.master (told_change told) c.requires.tables may.whole refl built.master)

pub returns-clause-built : goal.returns-clause-built
returns-clause-built c =
    let told : CloneData = record { segments = c.cloned.inside.segments; names = c.cloned.inside.names; heads = c.cloned.inside.heads } in
    let formed : AreFormed told = record { segments = c.in_ok-add_segments.ensures.formed; names = c.in_ok-add_names.ensures.formed; heads = c.in_ok-add_heads.ensures.formed } in
    let may = read-follows told c.args.cloned.now c.cloned.view_is c.requires.lawful (told_count c.args.cloned.now) refl c.requires.some c.requires.few c.requires.heads formed in
    let n = read-count told c.args.cloned.now c.cloned.view_is c.requires.lawful (told_count c.args.cloned.now) refl in
    let headed = c.in_ok-add_heads.ensures.built _ (c.in_ok-add_names.ensures.built _ (c.in_ok-add_segments.ensures.built (empty_payload 2 0 (told_count c.args.cloned.now) (told_count c.args.cloned.now)) c.requires.build)) in
    let brings = brings-first c.args.tables.now c.args.bytes.now c.add_heads.new.build.master (told_change told) c.requires.tables may.whole refl headed.master in
    let built = c.in_ok-add_levels.ensures.built [] (told_change told) _ brings headed in
    subst (λ (t : CloneData). IsBuilt c.add_levels.new.build (told_change t)) c.cloned.view_is
    (subst₂ (λ (m : ℕ) (levels : List Segment). IsBuilt c.add_levels.new.build (record (told_change told) { after = m; cloned = m; levels = levels })) n (sym (may.levels refl)) built)

pub returns-clause-follows : goal.returns-clause-follows
returns-clause-follows c =
    let told : CloneData = record { segments = c.cloned.inside.segments; names = c.cloned.inside.names; heads = c.cloned.inside.heads } in
    let formed : AreFormed told = record { segments = c.in_ok-add_segments.ensures.formed; names = c.in_ok-add_names.ensures.formed; heads = c.in_ok-add_heads.ensures.formed } in
    subst (λ (t : CloneData). MayFollow [] (told_change t)) c.cloned.view_is
    (read-follows told c.args.cloned.now c.cloned.view_is c.requires.lawful (told_count c.args.cloned.now) refl c.requires.some c.requires.few c.requires.heads formed)
