use Rattle.std.proofs.Common.{inl, inr}
use Rattle.flat_segments.specs.Views.{master_flats, other_flats}
use Rattle.flat_segments.proofs.Looking.{at-front, found-others, found-pending, found-none, master-begin}
use Rattle.flat_segments.proofs.view.FlatView.find.Goals as goal

pub find-requires-clause-above : goal.find-requires-clause-above
find-requires-clause-above c = master-begin c.args.self.now c.args.id

pub returns-then-id-self-clause-found : goal.returns-then-id-self-clause-found
returns-then-id-self-clause-found c = at-front (master_flats c.args.self.now) (other_flats c.args.self.now) c.args.id _ c.find.ensures.found

pub returns-then-id-lt-FIRST_OTHER-clause-found : goal.returns-then-id-lt-FIRST_OTHER-clause-found
returns-then-id-lt-FIRST_OTHER-clause-found c = found-none c.args.self.now c.args.id c.if-id-self.false (inl c.if-id-lt-FIRST_OTHER.true)

pub returns-then-id-self-2-clause-found : goal.returns-then-id-self-2-clause-found
returns-then-id-self-2-clause-found c = found-others c.args.self.now c.args.id _ c.if-id-self.false c.find-then-id-self-2.ensures.found

pub returns-then-id-self-3-clause-found : goal.returns-then-id-self-3-clause-found
returns-then-id-self-3-clause-found c = found-pending c.args.self.now c.args.id _ c.if-id-self.false c.if-id-self-2.false c.find-then-id-self-3.ensures.found

pub returns-clause-found : goal.returns-clause-found
returns-clause-found c = found-none c.args.self.now c.args.id c.if-id-self.false (inr c.if-id-self-3.false)
