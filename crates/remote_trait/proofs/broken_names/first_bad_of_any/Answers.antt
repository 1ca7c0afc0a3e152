use Rattle.std.proofs.Common.{◌∙◌, ◌+◌, [], List, take, ap, subst, sym, arith, ◌≡◌}
use Rattle.remote_rules.specs.CloneData.{first_false, names_fit, KnownName}
use Rattle.remote_trait.specs.Broken.{HasSeen}
use Rattle.remote_trait.proofs.Items.{before, name-next, name-bad, names-end}
use Rattle.remote_trait.proofs.broken_names.first_bad_of_any.Goals as goal

pub names-init : goal.names-init
names-init c = (c.new-seen.ensures, let same : c.args.first ≡ c.args.first + 0 = omega arith in ap (λ n. first_false n (names_fit c.args.end [] c.args.names.now)) same)

pub names-preserved : goal.names-preserved
names-preserved c =
    let seen = c.in_ok-fits.ensures.seen (take c.names.k c.args.names.now) c.names.invariant.0 in
    let fits = c.in_ok-fits.ensures.fits (take c.names.k c.args.names.now) c.names.invariant.0 in (
      subst (λ (l : List KnownName). HasSeen l c.add.new.self.names c.add.new.self.next) (sym (before c.args.names.now c.names.k c.index-names-k.result c.names-test.true c.index-names-k.is)) (seen c.if-not-fits.false),
      name-next c.args.names.now c.args.end c.args.first c.names.k c.index-names-k.result c.names.invariant.1 c.names-test.true c.index-names-k.is (sym c.if-not-fits.false ∙ fits),
    )

pub returns-then-not-fits : goal.returns-then-not-fits
returns-then-not-fits c =
    let fits = c.in_ok-fits.ensures.fits (take c.names.k c.args.names.now) c.names.invariant.0 in
    name-bad c.args.names.now c.args.end c.args.first c.names.k c.index-names-k.result c.names.invariant.1 c.names-test.true c.index-names-k.is (sym c.if-not-fits.true ∙ fits)

pub returns : goal.returns
returns c = names-end c.args.names.now c.args.end c.args.first c.names.k c.names.invariant.1 c.names-test.false
