use Rattle.std.proofs.Common.{ap, arith}
use Rattle.flat_segments.specs.Entries.{PlainEntry}
use Rattle.flat_segments.proofs.Searching.{front-to, back-from, above, not-above}
use Rattle.flat_segments.proofs.search.count_before.Goals as goal

pub search-preserved-then-begins_above : goal.search-preserved-then-begins_above
search-preserved-then-begins_above c =
    let low = c.probe-at.ensures.low in let high = c.probe-at.ensures.high in let within = c.search.invariant.within in
    record {
      order = low;
      within = omega (arith, high, within);
      front = c.search.invariant.front;
      back = back-from c.requires.rise.0 c.args.id c.args.entries.now c.probe-at.result c.index-entries-at.result c.requires.rise.1 (omega (arith, high, within)) (let more = above c.begins_above.ensures c.if-begins_above.true in let same = ap (λ (e : PlainEntry). e.low) c.index-entries-at.is in omega (arith, more, same));
    }

pub search-preserved : goal.search-preserved
search-preserved c =
    let high = c.probe-at.ensures.high in let within = c.search.invariant.within in
    record {
      order = omega (arith, high);
      within = within;
      front = front-to c.requires.rise.0 c.args.id c.args.entries.now c.probe-at.result c.index-entries-at.result c.requires.rise.1 (omega (arith, high, within)) (let low = not-above c.begins_above.ensures c.if-begins_above.false in let same = ap (λ (e : PlainEntry). e.low) c.index-entries-at.is in omega (arith, low, same));
      back = c.search.invariant.back;
    }
