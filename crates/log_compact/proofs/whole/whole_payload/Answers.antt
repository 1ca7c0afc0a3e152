use Rattle.std.proofs.Common.{subst₂}
use Rattle.batch_codec.specs.Building.{IsBuilt, empty_payload}
use Rattle.name_map.specs.Added.{payloads_of}
use Rattle.compact_rules.specs.Whole.{whole_change}
use Rattle.log_compact.proofs.Standing.{may-first}
use Rattle.log_compact.proofs.whole.whole_payload.Goals as goal

pub add_sections-requires : goal.add_sections-requires
add_sections-requires c = (
  c.requires.0,
  c.requires.1,
  c.requires.2,
  subst₂ (λ n m. IsBuilt c.in_ok-build.build (empty_payload 3 0 n m)) c.master_count-masters.ensures c.cloned-cloned.ensures.cloned c.in_ok-build.ensures.built,
)

pub finish-requires : goal.finish-requires
finish-requires c =
    let added = c.requires.0 in let w = c.requires.1 in let s = c.requires.2 in
    let front = subst₂ (λ n m. IsBuilt c.in_ok-build.build (empty_payload 3 0 n m)) c.master_count-masters.ensures c.cloned-cloned.ensures.cloned c.in_ok-build.ensures.built in (
      whole_change (payloads_of added) w,
      (may-first c.args.tables.now c.args.bytes.now added w s).whole,
      c.in_ok-add_sections.ensures.built added w s front,
      c.in_ok-add_sections.ensures.count added w s,
    )

pub returns : goal.returns
returns c = λ added w s.
    let front = subst₂ (λ n m. IsBuilt c.in_ok-build.build (empty_payload 3 0 n m)) c.master_count-masters.ensures c.cloned-cloned.ensures.cloned c.in_ok-build.ensures.built in
    c.finish.ensures (whole_change (payloads_of added) w) (may-first c.args.tables.now c.args.bytes.now added w s).whole
    (c.in_ok-add_sections.ensures.built added w s front) (c.in_ok-add_sections.ensures.count added w s)
