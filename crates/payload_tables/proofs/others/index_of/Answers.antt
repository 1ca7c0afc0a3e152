use Rattle.std.proofs.Common.{◌≡◌, ◌*◌, ℕ, List, length, ap, subst, arith}
use Rattle.id_groups.specs.Lists.{AreDistinct}
use Rattle.batch_codec.proofs.Entries.{names-length}
use Rattle.name_index.specs.Index.{IsIndexOf, named_in, names_in}
use Rattle.payload_tables.proofs.OldNames.{index-read}
use Rattle.payload_tables.proofs.others.index_of.Goals as goal

pub of_names-requires : goal.of_names-requires
of_names-requires c =
    let s = c.args.names.now in
    let bytes = ap (length {A = ℕ}) c.bytes.ensures.bytes in
    let size = s.size in
    let many = names-length s.count s.bytes.now in
    let room = c.requires in omega (arith, bytes, size, many, room)

pub returns : goal.returns
returns c = λ distinct.
    let s = c.args.names.now in
    index-read s.count c.args.at s.bytes.now c.in_ok-index.index s.size
    (subst (λ (b : List ℕ). (m : ℕ) → length b ≡ 20 * m → AreDistinct (names_in (named_in m c.args.at b)) → IsIndexOf c.in_ok-index.index (named_in m c.args.at b)) c.bytes.ensures.bytes c.in_ok-index.ensures)
    distinct
