-- The ids of heads.
use Rattle.std.proofs.Common.{◌≡◌, ℕ, ◌+◌, ◌-◌, ◌<◌, ◌≤◌, ◌⊎◌, inl, inr, List, ◌∷◌, length, drop, get_or, Result, Ok, Err, refl, sym, ap, ap₂, subst, ◌∙◌, arith, ⊎_elim}
use Rattle.std.specs.Prelude.{◌↔◌}
use Rattle.std.specs.Result.{OnOk}
use Rattle.std.proofs.lemmas.List.{drop_more}
use Rattle.id_groups.specs.Lists.{IsIn}
use Rattle.id_groups.specs.Name.{Name}
use Rattle.id_groups.specs.declared.span.IdSpan.{IdSpan}
use Rattle.commit_graph.specs.World.{Row}
use Rattle.span_set.specs.Members.{IsMember}
use Rattle.remote_trait.specs.Honest.{IsNamed}
use Rattle.remote_answers.specs.Paths.{IsHeadId}

pub on-ok : {X E P Q : Type 0} (r : Result X E) → (P → Q) → OnOk r P → OnOk r Q
on-ok (Ok x) f h = f h
on-ok (Err e) f h = tt

pub drop-here : (xs : List Name) (k : ℕ) (name : Name) → 0 < k → k ≤ length xs → name ≡ get_or xs (k - 1) name → drop (k - 1) xs ≡ name ∷ drop k xs
drop-here xs k name pos le is =
    drop_more xs (k - 1) name (omega (arith, pos, le))
    ∙ ap₂ (λ (z : Name) l. z ∷ l) (sym is) (ap (λ n. drop n xs) (let e : k - 1 + 1 ≡ k = omega (arith, pos) in e))

-- the ids of one head more
pub tops-more : (rows : List (Row Name)) (some all : List Name) (name : Name) (old new : List IdSpan) (x : ℕ) → all ≡ name ∷ some → (IsMember new x ↔ (IsMember old x ⊎ IsNamed rows x name)) → (IsMember old x ↔ IsHeadId rows some x)
    → IsMember new x ↔ IsHeadId rows all x
tops-more rows some all name old new x e add inv = (
  λ i. ⊎_elim (λ j. let t = inv.0 j in (t.0, subst (IsIn t.0) (sym e) (inr t.1), t.2)) (λ n. (name, subst (IsIn name) (sym e) (inl refl), n)) (add.0 i),
  λ t. add.1 (⊎_elim (λ same. inr (subst (λ z. IsNamed rows x z) same t.2)) (λ i. inl (inv.1 (t.0, i, t.2))) (subst (IsIn t.0) e t.1)),
)
