use Rattle.std.proofs.Common.{◌≡◌, ◌∙◌, ◌*◌, ℕ, List, length, ap, subst, sym, arith}
use Rattle.id_groups.specs.Lists.{AreDistinct}
use Rattle.batch_codec.proofs.Entries.{names-length}
use Rattle.name_index.specs.declared.entry.Entry.{Entry}
use Rattle.name_index.specs.Index.{IsIndexOf, StandFrom, named_in, names_in}
use Rattle.name_map.specs.Added.{names_from}
use Rattle.payload_tables.specs.Kept.{PlainOthers}
use Rattle.payload_tables.proofs.OldNames.{index-read, stored-stand}
use Rattle.payload_tables.proofs.others.index_behind.Goals as goal

pub moved-requires : goal.moved-requires
moved-requires c =
    let s = c.args.names.now in
    let bytes = ap (length {A = ℕ}) c.bytes.ensures.bytes in
    let size = s.size in
    let many = names-length s.count s.bytes.now in
    let room = c.requires.room in omega (arith, bytes, size, many, room)

pub returns : goal.returns
returns c = λ distinct.
    let s = c.args.names.now in
    let r = c.requires.named in
    let start = ap (λ (o : PlainOthers). o.names) c.old.view_is in
    let stored = c.names-stored.ensures ∙ r.stand in
    let held = subst (λ (runs : List (List Entry)). IsIndexOf runs (names_from c.args.old.now.names r.names)) (sym c.index.ensures) r.index in
    let stand = subst (λ (b : List ℕ). StandFrom c.args.old.now.names b (names_from c.args.old.now.names r.names)) (sym stored) (stored-stand c.args.old.now.names r.names r.each) in
    index-read s.count c.args.at s.bytes.now c.in_ok-index.index s.size
    (subst (λ (b : List ℕ). (m : ℕ) → length b ≡ 20 * m → AreDistinct (names_in (named_in m c.args.at b)) → IsIndexOf c.in_ok-index.index (named_in m c.args.at b)) c.bytes.ensures.bytes
    (λ m size once. c.in_ok-index.ensures (names_from c.args.old.now.names r.names) m held (subst (λ n. StandFrom n c.names-stored.result.now (names_from c.args.old.now.names r.names)) (sym start) stand) size once))
    distinct
