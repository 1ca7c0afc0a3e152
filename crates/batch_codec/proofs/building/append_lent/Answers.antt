use Rattle.std.proofs.Common.{ℕ, length, ap, arith}
use Rattle.std.proofs.lemmas.List.{length-append}
use Rattle.segment_codec.specs.Lent.{parents_left}
use Rattle.segment_codec.specs.Record.{Segment, segment_bytes}
use Rattle.batch_codec.proofs.Built.{segment-some}
use Rattle.batch_codec.proofs.building.append_lent.Goals as goal

pub returns-clause-counted : goal.returns-clause-counted
returns-clause-counted c =
    let s : Segment = record { low = c.args.low; high = c.args.high; level = 0; parents = parents_left c.args.parents } in
    let counted = c.requires.counted in
    omega (arith, counted, ap (length {A = ℕ}) c.in_ok-write_lent.ensures.ok, length-append c.args.out.now.items (segment_bytes s), segment-some s)
