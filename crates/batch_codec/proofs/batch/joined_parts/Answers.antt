use Rattle.std.proofs.Common.{ℕ, length, ap, arith}
use Rattle.batch_codec.proofs.Entries.{knowns-length, names-length}
use Rattle.batch_codec.proofs.batch.joined_parts.Goals as goal

pub returns-clause-places : goal.returns-clause-places
returns-clause-places c =
    let r = c.requires in
    let s = r.segments in
    let l = r.levels in
    let k = r.known in
    let h = r.heads in
    let o = r.others in
    let n = r.names in
    let s1 = ap (length {A = ℕ}) c.args.masters.segments.spelled in
    let l1 = ap (length {A = ℕ}) c.args.masters.levels.spelled in
    let k1 = knowns-length c.args.masters.known.count c.args.masters.known.bytes.now in
    let h1 = names-length c.args.heads.count c.args.heads.bytes.now in
    let o1 = ap (length {A = ℕ}) c.args.others.spelled in
    record {
      master = s;
      levels = omega (arith, s, l, s1);
      known = omega (arith, s, l, l1, k, s1);
      heads = omega (arith, s, l, l1, k, s1, k1, h);
      others = omega (arith, s, l, l1, k, s1, k1, h, h1, o);
      other_names = omega (arith, s, l, l1, k, s1, k1, h, h1, o, o1, n);
    }
