use Rattle.std.proofs.Common.{◌≡◌, ◌∙◌, ap, sym, flat_map, ⊎_elim}
use Rattle.segment_codec.specs.Record.{segment_bytes}
use Rattle.segment_rules.specs.NewLevels.{new_levels}
use Rattle.batch_codec.specs.Lent.{payload_of}
use Rattle.payload_tables.proofs.LevelLists.{same-records, listed-records, come-records}
use Rattle.payload_tables.proofs.masters.has_levels.Goals as goal

pub returns : goal.returns
returns c = λ old new s.
    let p = payload_of c.args.batch.now in let h = c.is_payload.ensures.payload in
    let listed : c.bytes.result.now ≡ flat_map segment_bytes p.levels = c.bytes.ensures ∙ ap (flat_map segment_bytes) c.level_segments-listed.ensures.segments in
    let since = c.are_since.ensures old new s in
    let second : p.version ≡ 2 =
    ⊎_elim (λ (one : p.version ≡ 1). absurd (c.if-version-eq-FIRST_VERSION.false (c.version.ensures ∙ one))) (λ two. two) h.format.version in (
      λ t v. same-records p.levels (new_levels old new) (listed-records p h) (come-records _ _ old new s) (sym listed ∙ since.0 t),
      λ e. since.1 (listed ∙ ap (flat_map segment_bytes) (e second)),
    )
