use Rattle.std.proofs.Common.{◌≡◌, Some, inr, sym, subst, ◌∙◌, true≢false, arith}
use Rattle.segment_codec.specs.Lent.{segment_of}
use Rattle.segment_codec.specs.Table.{segment_at}
use Rattle.segment_codec.proofs.Tables.{segment-in}
use Rattle.ancestor_query.proofs.Best.{found-at}
use Rattle.span_set.specs.Members.{IsMember}
use Rattle.remote_answers.specs.Paths.{IsLast}
use Rattle.remote_answers.proofs.Walking.{held-of}
use Rattle.remote_answers.proofs.Climbing.{flat-some, high-below, leads-last, leads-child, child-above, child-reached, merge-parent, reached-within, some-child}
use Rattle.remote_answers.proofs.path.climb.Goals as goal

pub master-requires : goal.master-requires
master-requires g c =
    let flats = g.T.SegmentTable.flats c.args.table.now in
    let lawful = g.met.T.SegmentTable.lawful c.args.table.now in
    let rows = c.requires.reached.0 in
    let heads = c.requires.reached.1 in
    let m = c.requires.reached.2 in
    let r = c.requires.reached.3 in
    let tops = c.args.tops.now in
    let ids = c.args.ids.now in
    let lt = reached-within flats lawful rows m heads tops ids r c.climb.way.from c.climb.invariant.reached in
    let few = m.few in
    omega (arith, lt, few)

pub unwrap-segment-requires : goal.unwrap-segment-requires
unwrap-segment-requires g c =
    let flats = g.T.SegmentTable.flats c.args.table.now in
    let lawful = g.met.T.SegmentTable.lawful c.args.table.now in
    let rows = c.requires.reached.0 in
    let heads = c.requires.reached.1 in
    let m = c.requires.reached.2 in
    let r = c.requires.reached.3 in
    let tops = c.args.tops.now in
    let ids = c.args.ids.now in
    let lt = reached-within flats lawful rows m heads tops ids r c.climb.way.from c.climb.invariant.reached in
    let few = m.few in
    flat-some flats c.master.result c.climb.way.from c.flat.result c.master.ensures (held-of flats rows m c.climb.way.from lt) c.flat.ensures.found

pub last_reached-last-requires-clause-within : goal.last_reached-last-requires-clause-within
last_reached-last-requires-clause-within g c =
    let flats = g.T.SegmentTable.flats c.args.table.now in
    let lawful = g.met.T.SegmentTable.lawful c.args.table.now in
    let rows = c.requires.reached.0 in
    let heads = c.requires.reached.1 in
    let m = c.requires.reached.2 in
    let r = c.requires.reached.3 in
    let tops = c.args.tops.now in
    let ids = c.args.ids.now in
    let lt = reached-within flats lawful rows m heads tops ids r c.climb.way.from c.climb.invariant.reached in
    let few = m.few in
    let s = segment_of c.unwrap-segment.result in
    let found = subst (λ n. segment_at flats n ≡ Some s) c.master.ensures (found-at flats c.master.result c.flat.result c.unwrap-segment.result c.unwrap-segment.ensures c.flat.ensures.found) in
    let is : c.number-high.result ≡ s.high = c.number-high.ensures.number ∙ c.high.ensures in
    let hi = (segment-in flats c.climb.way.from s found).1.1 in
    omega (arith, hi, is)

pub last_reached-last-requires-clause-master : goal.last_reached-last-requires-clause-master
last_reached-last-requires-clause-master g c =
    let flats = g.T.SegmentTable.flats c.args.table.now in
    let lawful = g.met.T.SegmentTable.lawful c.args.table.now in
    let rows = c.requires.reached.0 in
    let heads = c.requires.reached.1 in
    let m = c.requires.reached.2 in
    let r = c.requires.reached.3 in
    let tops = c.args.tops.now in
    let ids = c.args.ids.now in
    let lt = reached-within flats lawful rows m heads tops ids r c.climb.way.from c.climb.invariant.reached in
    let few = m.few in
    let s = segment_of c.unwrap-segment.result in
    let found = subst (λ n. segment_at flats n ≡ Some s) c.master.ensures (found-at flats c.master.result c.flat.result c.unwrap-segment.result c.unwrap-segment.ensures c.flat.ensures.found) in
    let is : c.number-high.result ≡ s.high = c.number-high.ensures.number ∙ c.high.ensures in
    let hi = high-below flats rows m c.climb.way.from s lt found in
    omega (arith, hi, is, few)

pub master-requires-in-climb : goal.master-requires-in-climb
master-requires-in-climb g c =
    let flats = g.T.SegmentTable.flats c.args.table.now in
    let lawful = g.met.T.SegmentTable.lawful c.args.table.now in
    let rows = c.requires.reached.0 in
    let heads = c.requires.reached.1 in
    let m = c.requires.reached.2 in
    let r = c.requires.reached.3 in
    let tops = c.args.tops.now in
    let ids = c.args.ids.now in
    let lt = reached-within flats lawful rows m heads tops ids r c.climb.way.from c.climb.invariant.reached in
    let few = m.few in
    let under = reached-within flats lawful rows m heads tops ids r c.last_reached-last.result.from c.last_reached-last.ensures.last.reached in
    omega (arith, under, few)

pub returns-then-contains-clause-leads : goal.returns-then-contains-clause-leads
returns-then-contains-clause-leads g c =
    let flats = g.T.SegmentTable.flats c.args.table.now in
    let lawful = g.met.T.SegmentTable.lawful c.args.table.now in
    let rows = c.requires.reached.0 in
    let heads = c.requires.reached.1 in
    let m = c.requires.reached.2 in
    let r = c.requires.reached.3 in
    let tops = c.args.tops.now in
    let ids = c.args.ids.now in
    let lt = reached-within flats lawful rows m heads tops ids r c.climb.way.from c.climb.invariant.reached in
    let few = m.few in
    let s = segment_of c.unwrap-segment.result in
    let found = subst (λ n. segment_at flats n ≡ Some s) c.master.ensures (found-at flats c.master.result c.flat.result c.unwrap-segment.result c.unwrap-segment.ensures c.flat.ensures.found) in
    let is : c.number-high.result ≡ s.high = c.number-high.ensures.number ∙ c.high.ensures in
    let last = subst (λ h. IsLast ids h c.climb.way c.last_reached-last.result) is c.last_reached-last.ensures.last in
    let leads = leads-last flats lawful c.args.id c.climb.way c.last_reached-last.result s ids found last c.climb.invariant.leads in
    leads

pub child_above-child-requires : goal.child_above-child-requires
child_above-child-requires g c =
    let flats = g.T.SegmentTable.flats c.args.table.now in
    let lawful = g.met.T.SegmentTable.lawful c.args.table.now in
    let rows = c.requires.reached.0 in
    let heads = c.requires.reached.1 in
    let m = c.requires.reached.2 in
    let r = c.requires.reached.3 in
    let tops = c.args.tops.now in
    let ids = c.args.ids.now in
    let lt = reached-within flats lawful rows m heads tops ids r c.climb.way.from c.climb.invariant.reached in
    let few = m.few in
    let s = segment_of c.unwrap-segment.result in
    let found = subst (λ n. segment_at flats n ≡ Some s) c.master.ensures (found-at flats c.master.result c.flat.result c.unwrap-segment.result c.unwrap-segment.ensures c.flat.ensures.found) in
    let is : c.number-high.result ≡ s.high = c.number-high.ensures.number ∙ c.high.ensures in
    let last = subst (λ h. IsLast ids h c.climb.way c.last_reached-last.result) is c.last_reached-last.ensures.last in
    let leads = leads-last flats lawful c.args.id c.climb.way c.last_reached-last.result s ids found last c.climb.invariant.leads in
    let t = some-child flats lawful rows m heads tops ids r c.climb.way c.last_reached-last.result s found last
    (λ i. true≢false (sym (c.contains.ensures.1 (subst (IsMember tops) (sym c.master-in-climb.ensures) i)) ∙ c.if-contains.false)) in
    let behind = t.3 in
    record { child = (rows, t.0, m, t.1, t.2, omega (arith, behind, is)) }

pub returns-then-child-clause-leads : goal.returns-then-child-clause-leads
returns-then-child-clause-leads g c =
    let flats = g.T.SegmentTable.flats c.args.table.now in
    let lawful = g.met.T.SegmentTable.lawful c.args.table.now in
    let rows = c.requires.reached.0 in
    let heads = c.requires.reached.1 in
    let m = c.requires.reached.2 in
    let r = c.requires.reached.3 in
    let tops = c.args.tops.now in
    let ids = c.args.ids.now in
    let lt = reached-within flats lawful rows m heads tops ids r c.climb.way.from c.climb.invariant.reached in
    let few = m.few in
    let s = segment_of c.unwrap-segment.result in
    let found = subst (λ n. segment_at flats n ≡ Some s) c.master.ensures (found-at flats c.master.result c.flat.result c.unwrap-segment.result c.unwrap-segment.ensures c.flat.ensures.found) in
    let is : c.number-high.result ≡ s.high = c.number-high.ensures.number ∙ c.high.ensures in
    let last = subst (λ h. IsLast ids h c.climb.way c.last_reached-last.result) is c.last_reached-last.ensures.last in
    let leads = leads-last flats lawful c.args.id c.climb.way c.last_reached-last.result s ids found last c.climb.invariant.leads in
    leads

pub returns-then-child-clause-named : goal.returns-then-child-clause-named
returns-then-child-clause-named g c =
    let flats = g.T.SegmentTable.flats c.args.table.now in
    let lawful = g.met.T.SegmentTable.lawful c.args.table.now in
    let rows = c.requires.reached.0 in
    let heads = c.requires.reached.1 in
    let m = c.requires.reached.2 in
    let r = c.requires.reached.3 in
    let tops = c.args.tops.now in
    let ids = c.args.ids.now in
    let lt = reached-within flats lawful rows m heads tops ids r c.climb.way.from c.climb.invariant.reached in
    let few = m.few in
    let k = c.child_above-child.ensures in
    let over = child-above flats lawful ids c.last_reached-last.result.from c.child_above-child.result k in
    inr (merge-parent flats lawful ids c.last_reached-last.result.from c.child_above-child.result k c.if-child.true)

pub climb-smaller : goal.climb-smaller
climb-smaller g c =
    let flats = g.T.SegmentTable.flats c.args.table.now in
    let lawful = g.met.T.SegmentTable.lawful c.args.table.now in
    let rows = c.requires.reached.0 in
    let heads = c.requires.reached.1 in
    let m = c.requires.reached.2 in
    let r = c.requires.reached.3 in
    let tops = c.args.tops.now in
    let ids = c.args.ids.now in
    let lt = reached-within flats lawful rows m heads tops ids r c.climb.way.from c.climb.invariant.reached in
    let few = m.few in
    let k = c.child_above-child.ensures in
    let over = child-above flats lawful ids c.last_reached-last.result.from c.child_above-child.result k in
    let above = c.last_reached-last.ensures.last.above in
    let under = reached-within flats lawful rows m heads tops ids r c.child_above-child.result.id (child-reached flats lawful ids c.last_reached-last.result.from c.child_above-child.result k) in
    omega (arith, over, above, under, few)

pub climb-preserved : goal.climb-preserved
climb-preserved g c =
    let flats = g.T.SegmentTable.flats c.args.table.now in
    let lawful = g.met.T.SegmentTable.lawful c.args.table.now in
    let rows = c.requires.reached.0 in
    let heads = c.requires.reached.1 in
    let m = c.requires.reached.2 in
    let r = c.requires.reached.3 in
    let tops = c.args.tops.now in
    let ids = c.args.ids.now in
    let lt = reached-within flats lawful rows m heads tops ids r c.climb.way.from c.climb.invariant.reached in
    let few = m.few in
    let s = segment_of c.unwrap-segment.result in
    let found = subst (λ n. segment_at flats n ≡ Some s) c.master.ensures (found-at flats c.master.result c.flat.result c.unwrap-segment.result c.unwrap-segment.ensures c.flat.ensures.found) in
    let is : c.number-high.result ≡ s.high = c.number-high.ensures.number ∙ c.high.ensures in
    let last = subst (λ h. IsLast ids h c.climb.way c.last_reached-last.result) is c.last_reached-last.ensures.last in
    let leads = leads-last flats lawful c.args.id c.climb.way c.last_reached-last.result s ids found last c.climb.invariant.leads in
    let k = c.child_above-child.ensures in
    let over = child-above flats lawful ids c.last_reached-last.result.from c.child_above-child.result k in
    let back = c.last_reached-last.ensures.back in
    record {
      reached = child-reached flats lawful ids c.last_reached-last.result.from c.child_above-child.result k;
      leads = leads-child flats lawful c.args.id c.last_reached-last.result ids c.child_above-child.result k c.if-child.false leads;
      back = omega (arith, back, over);
    }
