use Rattle.std.proofs.Common.{◌≡◌, inl, inr, sym, subst, ◌∙◌, arith, ⊎_elim}
use Rattle.remote_trait.specs.Honest.{IsNamed}
use Rattle.remote_trait.proofs.Rows.{id-of-named}
use Rattle.remote_answers.proofs.Walking.{named-in}
use Rattle.remote_answers.proofs.Tops.{on-ok}
use Rattle.remote_answers.proofs.reached.add_id.Goals as goal

pub returns-in_default : goal.returns-in_default
returns-in_default g c = λ rows world are x. (λ i. inl i, λ s. ⊎_elim (λ i. i) (λ n. absurd (c.in_default.ensures rows are (named-in rows x c.args.name.now n))) s)

pub returns : goal.returns
returns g c = on-ok c.insert_span.result (λ all rows world are x.
    let at = c.in-Some.ensures rows are in
    let low = c.single.ensures.low in let high = c.single.ensures.high in (
      λ i. ⊎_elim (λ j. inl j) (λ j. let a = j.0 in let b = j.1 in inr (subst (λ n. IsNamed rows n c.args.name.now) (omega (arith, a, b, low, high)) at)) ((all x).0 i),
      λ s. (all x).1 (⊎_elim (λ i. inl i) (λ n. let same : x ≡ c.in-Some.id = sym (id-of-named rows world x c.args.name.now n) ∙ id-of-named rows world c.in-Some.id c.args.name.now at in inr (omega (arith, same, low), omega (arith, same, high))) s),
    ))
    c.insert_span.ensures.members
