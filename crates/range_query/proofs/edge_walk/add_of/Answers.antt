use Rattle.std.proofs.Common.{inl, inr, ⊎_elim}
use Rattle.range_query.proofs.EdgeLemmas.{next-child}
use Rattle.range_query.proofs.edge_walk.add_of.Goals as goal

pub returns-clause-sound : goal.returns-clause-sound
returns-clause-sound g c = λ x m.
    ⊎_elim
    (λ n. ⊎_elim (λ o. inl o) (λ h. inr (next-child (g.T.SegmentTable.flats c.args.table.now) (g.met.T.SegmentTable.lawful c.args.table.now) c.args.set.now c.args.id x c.requires.member h))
    ((c.in_ok-add_next_in.ensures.members x).0 n))
    (λ k. inr k) (c.in_ok-add_begun.ensures.sound x m)

pub returns-clause-kept : goal.returns-clause-kept
returns-clause-kept g c = λ x m. c.in_ok-add_begun.ensures.kept x ((c.in_ok-add_next_in.ensures.members x).1 (inl m))

pub returns-clause-added : goal.returns-clause-added
returns-clause-added g c = record {
  next = λ x n. c.in_ok-add_begun.ensures.kept x ((c.in_ok-add_next_in.ensures.members x).1 (inr n));
  begun = c.in_ok-add_begun.ensures.begun;
}
