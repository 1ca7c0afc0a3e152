use Rattle.std.proofs.Common.{◌≡◌, ◌+◌, ap, subst, arith, true, false}
use Rattle.std.specs.Prelude.{MatchOption}
use Rattle.id_groups.specs.Lists.{is_in}
use Rattle.id_groups.specs.Name.{same_name}
use Rattle.remote_rules.specs.CloneData.{first_false, heads_fit, names_at}
use Rattle.remote_trait.proofs.Items.{head-next, head-bad, heads-end}
use Rattle.remote_trait.proofs.broken_heads.first_bad_head.Goals as goal

pub heads-init : goal.heads-init
heads-init c = let same : c.args.first ≡ c.args.first + 0 = omega arith in ap (λ n. first_false n (heads_fit c.args.names.now c.args.ids.now c.args.heads.now)) same

pub heads-preserved : goal.heads-preserved
heads-preserved c =
    head-next c.args.names.now c.args.ids.now c.args.heads.now c.args.first c.heads.k c.index-heads-k.result c.heads.invariant c.heads-test.true c.index-heads-k.is
    (subst (λ o. MatchOption o (true ≡ false) (λ id. true ≡ is_in same_name c.index-heads-k.result (names_at c.args.names.now id))) c.id_at.ensures c.if-not-is_head.ensures)

pub returns-then-not-is_head : goal.returns-then-not-is_head
returns-then-not-is_head c =
    head-bad c.args.names.now c.args.ids.now c.args.heads.now c.args.first c.heads.k c.index-heads-k.result c.heads.invariant c.heads-test.true c.index-heads-k.is
    (subst (λ o. MatchOption o (false ≡ false) (λ id. false ≡ is_in same_name c.index-heads-k.result (names_at c.args.names.now id))) c.id_at.ensures c.if-not-is_head.ensures)

pub returns : goal.returns
returns c = heads-end c.args.names.now c.args.ids.now c.args.heads.now c.args.first c.heads.k c.heads.invariant c.heads-test.false
