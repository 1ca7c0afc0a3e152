use Rattle.std.proofs.Common.{◌≡◌, ◌∙◌, ◌+◌, ◌≤◌, ◌++◌, ◌∷◌, List, ℕ, [], inl, inr, sym, ap, subst, arith, take, nat_lt, nat_le}
use Rattle.std.specs.List.{list_all}
use Rattle.remote_rules.specs.CloneData.{KnownName}
use Rattle.remote_trait.proofs.Items.{before, ids-more, name-next, name-bad}
use Rattle.remote_trait.proofs.Apart.{id-fits, id-bad}
use Rattle.remote_trait.proofs.broken_names.first_bad_id.Goals as goal
use Rattle.remote_trait.proofs.broken_names.first_bad_id.Goals.{then-end-id-via-then-end-id, then-end-id-via-else-end-id+then-id-next}

pub returns-then-end-id : goal.returns-then-end-id
returns-then-end-id c =
    let id = c.from-id.ensures in let view = ap (λ (k : KnownName). k.id) c.known.view_is in
    name-bad c.args.names.now c.args.end c.args.first c.names.k c.index-names-k.result c.names.invariant.1 c.names-test.true c.index-names-k.is
    (id-bad c.args.names.now c.requires.distinct c.names.k c.index-names-k.result c.names-test.true c.index-names-k.is c.names.next c.args.end c.names.invariant.0
    (elim c.then-end-id.branch [
      | then-end-id-via-then-end-id w ↦ inl (let le = w.if-end-id.true in omega (arith, le, id, view))
      | then-end-id-via-else-end-id+then-id-next w ↦ inr (let lt = w.if-id-next.true in omega (arith, lt, id, view))
    ]))

pub names-preserved : goal.names-preserved
names-preserved c =
    let id = c.from-id.ensures in let view = ap (λ (k : KnownName). k.id) c.known.view_is in
    let same : c.index-names-k.result.id ≡ c.from-id.result = sym (id ∙ view) in
    let end = c.if-end-id.false in let next = c.if-id-next.false in
    let le : c.names.next ≤ c.index-names-k.result.id = omega (arith, next, id, view) in (
      subst (λ (l : List KnownName). (q : ℕ) → list_all (λ (b : KnownName). nat_lt b.id q) l ≡ nat_le (c.from-id.result + 1) q) (sym (before c.args.names.now c.names.k c.index-names-k.result c.names-test.true c.index-names-k.is))
          (subst (λ (n : ℕ). (q : ℕ) → list_all (λ (b : KnownName). nat_lt b.id q) (take c.names.k c.args.names.now ++ c.index-names-k.result ∷ []) ≡ nat_le (n + 1) q) same
          (ids-more (take c.names.k c.args.names.now) c.names.next c.names.invariant.0 c.index-names-k.result le)),
      name-next c.args.names.now c.args.end c.args.first c.names.k c.index-names-k.result c.names.invariant.1 c.names-test.true c.index-names-k.is
          (id-fits c.args.names.now c.requires.distinct c.names.k c.index-names-k.result c.names-test.true c.index-names-k.is c.names.next c.args.end c.names.invariant.0 (omega (arith, end, id, view)) le),
    )
