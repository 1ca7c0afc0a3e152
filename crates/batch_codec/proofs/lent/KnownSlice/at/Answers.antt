use Rattle.std.proofs.Common.{◌<◌, ◌+◌, ◌*◌, ◌^◌, ℕ, Some, take, drop, length, refl, sym, ap, ◌∙◌, arith}
use Rattle.std.proofs.lemmas.List.{drop-drop, length-take, length-drop}
use Rattle.batch_codec.specs.Payload.{Known}
use Rattle.batch_codec.specs.Lent.{lent_ids}
use Rattle.batch_codec.proofs.Entries.{knowns-length, ids-length, known-at, id-at}
use Rattle.batch_codec.proofs.Ascending.{below}
use Rattle.batch_codec.proofs.lent.KnownSlice.at.Goals as goal

pub number_at-requires : goal.number_at-requires
number_at-requires c = let lt = c.requires in omega (arith, lt, knowns-length c.args.self.now.count c.args.self.now.bytes.now)

pub from_number-requires : goal.from_number-requires
from_number-requires c =
    let lt = c.requires in
    let small = below 0 (2 ^ 57) (lent_ids c.args.self.now) c.args.i c.args.self.now.ascending (omega (arith, lt, knowns-length c.args.self.now.count c.args.self.now.bytes.now, ids-length c.args.self.now.count c.args.self.now.bytes.now)) in
    let e = c.number_at.ensures in
    omega (arith, small, e)

pub piece-requires : goal.piece-requires
piece-requires c =
    let lt = c.requires in
    let size = c.args.self.now.size in
    omega (arith, lt, size, knowns-length c.args.self.now.count c.args.self.now.bytes.now)

pub over-requires : goal.over-requires
over-requires c =
    let lt = c.requires in
    let size = c.args.self.now.size in
    let b = c.args.self.now.bytes.now in
    omega (arith, lt, size, knowns-length c.args.self.now.count b, ap (length {A = ℕ}) c.piece.ensures, length-take {A = ℕ} 20 (drop (28 * c.args.i + 8) b), length-drop {A = ℕ} (28 * c.args.i + 8) b)

pub returns : goal.returns
returns c =
    let n = c.args.self.now.count in
    let b = c.args.self.now.bytes.now in
    let lt : c.args.i < n = let short = c.requires in omega (arith, short, knowns-length n b) in
    let id = c.from_number.ensures ∙ c.number_at.ensures ∙ id-at n c.args.i b lt in
    let name = c.over.ensures ∙ c.piece.ensures ∙ ap (take 20) (sym (drop-drop 8 (28 * c.args.i) b)) in
    known-at n c.args.i b lt ∙ ap (λ (k : Known). Some k) (rw (id, name) refl)
