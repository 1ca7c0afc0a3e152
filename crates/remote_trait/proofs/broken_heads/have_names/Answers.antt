use Rattle.remote_trait.proofs.Items.{all-next, all-bad, all-end}
use Rattle.remote_trait.proofs.broken_heads.have_names.Invariants.{has-own}
use Rattle.remote_trait.proofs.broken_heads.have_names.Goals as goal

pub segments-preserved : goal.segments-preserved
segments-preserved c =
    all-next (has-own c.args.named.now) c.args.segments.now c.segments.k c.index-segments-k.result c.segments.invariant c.segments-test.true c.index-segments-k.is c.if-not-has_own_names.ensures

pub returns-then-not-has_own_names : goal.returns-then-not-has_own_names
returns-then-not-has_own_names c =
    all-bad (has-own c.args.named.now) c.args.segments.now c.segments.k c.index-segments-k.result c.segments.invariant c.segments-test.true c.index-segments-k.is c.if-not-has_own_names.ensures

pub returns : goal.returns
returns c = all-end (has-own c.args.named.now) c.args.segments.now c.segments.k c.segments.invariant c.segments-test.false
