use Rattle.std.proofs.Common.{◌≡◌, ◌||◌, ℕ, ap, subst, nat_eq}
use Rattle.remote_rules.specs.CloneData.{KnownName}
use Rattle.remote_trait.specs.Marked.{has}
use Rattle.remote_trait.proofs.Apart.{named-more}
use Rattle.remote_trait.proofs.marked.named_ids.Goals as goal

pub names-preserved : goal.names-preserved
names-preserved c =
    named-more c.args.names.now c.names.k c.index-names-k.result c.names-test.true c.index-names-k.is (has c.names.ids) (has c.insert.new.self) c.names.invariant
    (subst (λ (n : ℕ). (q : ℕ) → has c.insert.new.self q ≡ (has c.names.ids q || nat_eq q n)) (ap (λ (k : KnownName). k.id) c.known.view_is) c.in_ok-insert.ensures)
