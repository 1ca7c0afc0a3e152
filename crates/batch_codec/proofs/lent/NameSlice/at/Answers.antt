use Rattle.std.proofs.Common.{◌<◌, ◌*◌, List, ℕ, Some, drop, length, sym, ap, ◌∙◌, arith}
use Rattle.std.proofs.lemmas.List.{length-take, length-drop}
use Rattle.batch_codec.proofs.Entries.{names-length, name-at}
use Rattle.batch_codec.proofs.lent.NameSlice.at.Goals as goal

pub piece-requires : goal.piece-requires
piece-requires c =
    let lt = c.requires in
    let size = c.args.self.now.size in
    omega (arith, lt, size, names-length c.args.self.now.count c.args.self.now.bytes.now)

pub over-requires : goal.over-requires
over-requires c =
    let lt = c.requires in
    let size = c.args.self.now.size in
    let b = c.args.self.now.bytes.now in
    omega (arith, lt, size, names-length c.args.self.now.count b, ap (length {A = ℕ}) c.piece.ensures, length-take {A = ℕ} 20 (drop (20 * c.args.i) b), length-drop {A = ℕ} (20 * c.args.i) b)

pub returns : goal.returns
returns c =
    let n = c.args.self.now.count in
    let b = c.args.self.now.bytes.now in
    let lt : c.args.i < n = let short = c.requires in omega (arith, short, names-length n b) in
    name-at n c.args.i b lt ∙ ap (λ (z : List ℕ). Some z) (sym (c.over.ensures ∙ c.piece.ensures))
