-- Unions of names, and of what names reach, as sets of the ids that stand in them.
use Rattle.std.proofs.Common.{◌≡◌, ℕ, zero, suc, ◌∙◌, inl, inr, List, [], ◌∷◌, take, drop, length, sym, subst, arith, ⊎_elim, ◌<◌, ◌⊎◌}
use Rattle.std.specs.Prelude.{◌↔◌, get_or}
use Rattle.std.proofs.lemmas.List.{take-append-drop}
use Rattle.id_groups.specs.Lists.{IsIn}
use Rattle.id_groups.specs.declared.span.IdSpan.{IdSpan}
use Rattle.id_groups.specs.Span.{IsInSpan}
use Rattle.span_set.specs.Members.{IsMember}
use Rattle.commit_graph.specs.Graph.{Graph}
use Rattle.commit_graph.specs.Sets as sets
use Rattle.commit_graph.proofs.Histories.{in-append}
use Rattle.set_expr.specs.declared.words.Call.{Call}
use Rattle.set_expr.specs.declared.words.PairCall.{PairCall}
use Rattle.set_expr.specs.Expr.{Expr, One, Named, Of, OfTwo, Up, Top, commits_in}
use Rattle.set_expr.specs.Ids.{first_id, with_ids}
use Rattle.set_expr.specs.Meaning as means
use Rattle.set_query.specs.Unions.{IsOfNames, IsOfAncestors}
use Rattle.set_query.proofs.Ids.{take-count, drop-count, take-in, drop-in}

-- the ids in front of a cut and those behind it are all
cut-both : (k : ℕ) (ids : List ℕ) (x : ℕ) → IsIn x ids → IsIn x (take k ids) ⊎ IsIn x (drop k ids)
cut-both k ids x i = in-append x (take k ids) (drop k ids) (subst (IsIn x) (sym (take-append-drop k ids)) i)

-- sets of the ids before a cut and behind it, joined
join-ids : (A B : ℕ → Type 0) (k : ℕ) (ids : List ℕ) (x : ℕ) → A x ↔ IsIn x (take k ids) → B x ↔ IsIn x (drop k ids) → sets.union A B x ↔ IsIn x ids
join-ids A B k ids x f h = (
  λ u. ⊎_elim (λ a. take-in x k ids (f.0 a)) (λ b. drop-in x k ids (h.0 b)) u,
  λ i. ⊎_elim (λ j. inl (f.1 j)) (λ j. inr (h.1 j)) (cut-both k ids x i),
)

-- the members of a union of names are their ids
pub names-are : {N : Type 0} (g : Graph ℕ) (e : Expr N) (ids : List ℕ) → IsOfNames e → length ids ≡ length (commits_in e) → (x : ℕ) → means.IsMember g (with_ids e ids) x ↔ IsIn x ids
names-are g (One y) ids h n x = one ids n
  where
    one : (ids : List ℕ) → length ids ≡ 1 → (x ≡ first_id ids) ↔ IsIn x ids
    one [] e = absurd (omega (arith, e))
    one (i ∷ []) e = (λ s. inl s, λ s. ⊎_elim (λ a. a) (λ b. absurd b) s)
    one (i ∷ j ∷ rest) e = absurd (omega (arith, e))
names-are g (Named word) ids h n x = absurd h
names-are g (Of call s) ids h n x = absurd h
names-are g (OfTwo call a b) ids h n x =
    let front = take (length (commits_in a)) ids in
    let back = drop (length (commits_in a)) ids in
    let A : ℕ → Type 0 = means.IsMember g (with_ids a front) in
    let B : ℕ → Type 0 = means.IsMember g (with_ids b back) in
    subst (λ (c : PairCall). means.made_of_two g c A B x ↔ IsIn x ids) (sym h.0)
    (join-ids A B (length (commits_in a)) ids x (names-are g a front h.1 (take-count a b ids n) x) (names-are g b back h.2 (drop-count a b ids n) x))
names-are g (Up y k) ids h n x = absurd h
names-are g (Top s k) ids h n x = absurd h

-- what the ids before a cut reach and what those behind it do, joined
join-reached : (g : Graph ℕ) (A B : ℕ → Type 0) (k : ℕ) (ids : List ℕ) (x : ℕ) → A x ↔ sets.ancestors g (λ y. IsIn y (take k ids)) x → B x ↔ sets.ancestors g (λ y. IsIn y (drop k ids)) x
    → sets.union A B x ↔ sets.ancestors g (λ y. IsIn y ids) x
join-reached g A B k ids x f h = (
  λ u. ⊎_elim (λ a. let r = f.0 a in (r.0, take-in r.0 k ids r.1, r.2)) (λ b. let r = h.0 b in (r.0, drop-in r.0 k ids r.1, r.2)) u,
  λ r. ⊎_elim (λ j. inl (f.1 (r.0, j, r.2))) (λ j. inr (h.1 (r.0, j, r.2))) (cut-both k ids r.0 r.1),
)

-- the members of a union of what names reach are what their ids reach
pub reached-are : {N : Type 0} (g : Graph ℕ) (e : Expr N) (ids : List ℕ) → IsOfAncestors e → length ids ≡ length (commits_in e) → (x : ℕ)
    → means.IsMember g (with_ids e ids) x ↔ sets.ancestors g (λ y. IsIn y ids) x
reached-are g (One y) ids h n x = absurd h
reached-are g (Named word) ids h n x = absurd h
reached-are g (Of call s) ids h n x =
    let S : ℕ → Type 0 = means.IsMember g (with_ids s ids) in
    let same = names-are g s ids h.1 n in
    subst (λ (c : Call). means.made_of g c S x ↔ sets.ancestors g (λ y. IsIn y ids) x) (sym h.0)
    ((λ r. (r.0, (same r.0).0 r.1, r.2)), (λ r. (r.0, (same r.0).1 r.1, r.2)))
reached-are g (OfTwo call a b) ids h n x =
    let front = take (length (commits_in a)) ids in
    let back = drop (length (commits_in a)) ids in
    let A : ℕ → Type 0 = means.IsMember g (with_ids a front) in
    let B : ℕ → Type 0 = means.IsMember g (with_ids b back) in
    subst (λ (c : PairCall). means.made_of_two g c A B x ↔ sets.ancestors g (λ y. IsIn y ids) x) (sym h.0)
    (join-reached g A B (length (commits_in a)) ids x (reached-are g a front h.1 (take-count a b ids n) x) (reached-are g b back h.2 (drop-count a b ids n) x))
reached-are g (Up y k) ids h n x = absurd h
reached-are g (Top s k) ids h n x = absurd h

-- one more of some ids
next-in : (ids : List ℕ) (i id x : ℕ) → i < length ids → id ≡ get_or ids i id → IsIn x (take (suc i) ids) ↔ (IsIn x (take i ids) ⊎ (x ≡ id))
next-in [] i id x lt e = absurd (omega (arith, lt))
next-in (y ∷ ids) zero id x lt e = (λ h. ⊎_elim (λ s. inr (s ∙ sym e)) (λ b. absurd b) h, λ h. ⊎_elim (λ b. absurd b) (λ s. inl (s ∙ e)) h)
next-in (y ∷ ids) (suc i) id x lt e =
    let rest = next-in ids i id x (omega (arith, lt)) e in (
      λ h. ⊎_elim (λ s. inl (inl s)) (λ j. ⊎_elim (λ k. inl (inr k)) (λ k. inr k) (rest.0 j)) h,
      λ h. ⊎_elim (λ a. ⊎_elim (λ s. inl s) (λ k. inr (rest.1 (inl k))) a) (λ k. inr (rest.1 (inr k))) h,
    )

in-single : (s : IdSpan) (id x : ℕ) → s.low ≡ id → s.high ≡ id → IsInSpan x s ↔ (x ≡ id)
in-single s id x low high = (λ h. let a = h.0 in let b = h.1 in omega arith, λ e. (omega arith, omega arith))

-- a set of some ids with one more put into it
pub one-more : (old new : List IdSpan) (ids : List ℕ) (i k id x : ℕ) (s : IdSpan) → i < length ids → k ≡ suc i → id ≡ get_or ids i id → s.low ≡ id → s.high ≡ id
    → IsMember old x ↔ IsIn x (take i ids) → IsMember new x ↔ (IsMember old x ⊎ IsInSpan x s) → IsMember new x ↔ IsIn x (take k ids)
one-more old new ids i k id x s lt next e low high before after =
    let step = subst (λ (n : ℕ). IsIn x (take n ids) ↔ (IsIn x (take i ids) ⊎ (x ≡ id))) (sym next) (next-in ids i id x lt e) in
    let one = in-single s id x low high in (
      λ m. step.1 (⊎_elim (λ a. inl (before.0 a)) (λ b. inr (one.0 b)) (after.0 m)),
      λ h. after.1 (⊎_elim (λ a. inl (before.1 a)) (λ b. inr (one.1 b)) (step.0 h)),
    )
