use Rattle.std.proofs.Common.{◌≡◌, ◌≤◌, ◌-◌, ◌+◌, ◌++◌, length, take, drop, ℕ, List, arith, append_assoc, refl, length-drop, length-take}
use Rattle.std.proofs.Math.Seq.{take-append-add}
use Rattle.std.proofs.lemmas.List.{take_all, take-append-drop, length-take-le}
use Rattle.outside.proofs.ToldLemmas.{WhereTold-join, WhereTold-appends}
use Rattle.line_io.proofs.std_io.StdSinkSink.put.Goals as goal

-- a longer front was taken
longer : (x y z piece : List ℕ) (at n : ℕ) → at ≤ length piece → y ≡ x ++ take at piece
    → z ≡ y ++ take n (take (length piece - at) (drop at piece)) → z ≡ x ++ take (at + n) piece
longer x y z piece at n within e f =
    let rest = drop at piece in
    let all : take (length piece - at) rest ≡ rest = take_all (length piece - at) rest (omega (arith, length-drop at piece)) in
    let join = take-append-add (take at piece) rest n in
    let front : take (at + n) piece ≡ take at piece ++ take n rest = rw (length-take-le at piece within, take-append-drop at piece) at join in
    rw (front, ← append_assoc, ← e, f, all) refl

pub writes-preserved : goal.writes-preserved
writes-preserved g c = record {
  within = omega (arith, c.in-Ok.ensures.bound, length-take {A = ℕ}, length-drop {A = ℕ});
  told = WhereTold-join (g.W.Write.contents c.args.self.now.inner) (g.W.Write.contents c.writes.self.inner) (g.W.Write.contents c.write_uninterrupted.new.inner) _ _ _
      (λ x y z e f. longer x y z c.args.piece.now c.writes.at c.in-Ok.count c.writes.invariant.within e f) c.writes.invariant.told (WhereTold-appends _ _ _ c.in-Ok.ensures.bytes);
  same = c.writes.invariant.same;
}
