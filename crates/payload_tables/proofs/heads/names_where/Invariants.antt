use Rattle.std.proofs.Common.{◌≡◌, ◌&&◌, not, false, map, filter, take, slice_index_or}
use Rattle.batch_codec.specs.Payload.{names_bytes}
use Rattle.batch_codec.specs.Lent.{knowns_of}
use Rattle.payload_tables.proofs.heads.names_where.Given as goal

abbrev pub invariant-known : goal.invariant-known
invariant-known l = l.names.items
    ≡ names_bytes (map (λ k. k.name) (filter (λ k. slice_index_or l.highs k.id false && not (slice_index_or l.parents k.id false)) (take l.i (knowns_of l.known))))
