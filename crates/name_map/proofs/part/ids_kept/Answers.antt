use Rattle.std.proofs.Common.{◌≡◌, ◌-◌, length, ap, ◌∙◌, arith}
use Rattle.std.proofs.lemmas.List.{length-map}
use Rattle.batch_codec.specs.Payload.{Known, known_ids}
use Rattle.batch_codec.specs.Lent.{payload_of}
use Rattle.name_map.specs.Part.{upward}
use Rattle.name_map.proofs.More.{ids-ascend, all-upward}
use Rattle.name_map.proofs.part.ids_kept.Goals as goal

pub returns-then-from-after : goal.returns-then-from-after
returns-then-from-after c =
    let p = payload_of c.args.batch.now in
    let size = ap (length {A = Known}) c.known-known.ensures.known in
    let count = c.len-then-from-after.ensures in
    let same : c.len-then-from-after.result ≡ length (known_ids p) = omega (arith, size, count, length-map p.known (λ (k : Known). k.id)) in
    let full : length (known_ids p) ≡ p.after - p.before =
    let test = c.if-from-after.true in let from = c.from.ensures in let len = c.len.ensures in let after = c.after.ensures in let before = c.before-2.ensures in
    omega (arith, size, test, from, len, after, before, length-map p.known (λ (k : Known). k.id)) in
    ap (upward p.before) same ∙ all-upward p.before p.after (known_ids p) (ids-ascend p c.requires) full
