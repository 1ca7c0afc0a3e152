use Rattle.std.proofs.Common.{◌++◌, ◌≤◌, ◌^◌, sym, subst, subst₂}
use Rattle.batch_codec.specs.Building.{IsBuilt}
use Rattle.name_map.specs.Added.{known_of}
use Rattle.name_map.specs.Map.{IsMapOf}
use Rattle.log_compact.specs.Sections.{AscendWithin}
use Rattle.log_compact.proofs.Standing.{known-ascend, known-whole, few-masters}
use Rattle.log_compact.proofs.whole.add_master_names.Goals as goal

pub add_known-requires : goal.add_known-requires
add_known-requires c = subst (λ n. n ≤ 2 ^ 56) (sym c.master_count-count.ensures) (few-masters c.args.tables.now c.args.bytes.now c.requires.0 c.requires.1 c.requires.2)

pub returns-clause-built : goal.returns-clause-built
returns-clause-built c = λ added w s p b.
    let t = c.args.tables.now in
    let named = c.in_ok-add_known.ensures.built added (subst (λ m. IsMapOf m added) (sym c.names.ensures) s.tables_of.names) s.stand
    (subst (λ n. AscendWithin 0 n (known_of added)) (sym c.master_count-count.ensures) (known-ascend t c.args.bytes.now added w s)) p b in
    subst₂ (λ ks hs. IsBuilt c.add_heads.new.build (record p { known = p.known ++ ks; heads = p.heads ++ hs }))
    (known-whole t c.args.bytes.now added w s) (c.heads.ensures.payloads added s.tables_of)
    (c.in_ok-add_heads.ensures.built (record p { known = p.known ++ known_of added }) named)
