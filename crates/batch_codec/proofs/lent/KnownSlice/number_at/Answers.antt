use Rattle.std.proofs.Common.{List, ℕ, take, sym, ap, ◌∙◌}
use Rattle.std.specs.Int.{w64, from_be_bytes}
use Rattle.batch_codec.proofs.Entries.{id-at}
use Rattle.batch_codec.proofs.lent.KnownSlice.number_at.Goals as goal

pub returns : goal.returns
returns c =
    c.front_u64.ensures ∙ ap (λ (z : List ℕ). from_be_bytes w64 (take 8 z)) c.split_at.ensures.back
    ∙ sym (id-at c.args.self.now.count c.args.i c.args.self.now.bytes.now c.requires)
