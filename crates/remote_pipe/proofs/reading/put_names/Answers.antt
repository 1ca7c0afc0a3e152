use Rattle.std.proofs.Common.{◌<◌, ℕ, length, ap, ◌∙◌, arith, length-drop}
use Rattle.remote_serve.proofs.Names.{set-long, read-next}
use Rattle.remote_pipe.proofs.reading.put_names.Goals as goal

pub names-preserved : goal.names-preserved
names-preserved c =
    let inv = c.names.invariant in
    let lt = c.names-test.true in
    let size = inv.size in let left = inv.left in
    let n = length c.args.out.now in
    let long = set-long c.names.out c.names.k c.to_name.result in
    let below : c.names.k < n = omega (arith, lt, size) in
    let back = ap (length {A = ℕ}) c.split_at.ensures.back ∙ length-drop {A = ℕ} 20 c.names.rest.now in
    record {
      size = omega (arith, long, size);
      left = omega (arith, back, left, below);
      read = read-next n c.names.k c.names.out c.names.rest.now c.split_at.result.1.now c.to_name.result below size (c.to_name.ensures ∙ c.over.ensures ∙ c.split_at.ensures.front) c.split_at.ensures.back ∙ inv.read;
    }
