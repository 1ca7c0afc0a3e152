use Rattle.std.proofs.Common.{◌≡◌, ◌≤◌, ◌<◌, ◌-◌, ℕ, zero, suc, List, [], ◌∷◌, take, drop, refl, ap, ◌∙◌, arith}
use Rattle.segdag.proofs.remotes.between.Goals as goal

none-behind : {X : Type 0} (from last : ℕ) (items : List X) → last < from → [] ≡ drop from (take last items)
none-behind zero last items lt = absurd (omega (arith, lt))
none-behind (suc from) zero items lt = refl
none-behind (suc from) (suc last) [] lt = refl
none-behind (suc from) (suc last) (x ∷ items) lt = none-behind from last items (omega (arith, lt))

take-empty : {X : Type 0} (n : ℕ) (items : List X) → items ≡ [] → take n items ≡ []
take-empty zero items e = refl
take-empty (suc n) [] e = refl
take-empty (suc n) (x ∷ items) e = cc

cut-between : {X : Type 0} (from last : ℕ) (items : List X) → from ≤ last → take (last - from) (drop from items) ≡ drop from (take last items)
cut-between zero last items le = ap (λ n. take n items) (let e : last - 0 ≡ last = omega arith in e)
cut-between (suc from) zero items le = absurd (omega (arith, le))
cut-between (suc from) (suc last) [] le = take-empty (suc last - suc from) [] refl
cut-between (suc from) (suc last) (x ∷ items) le = ap (λ n. take n (drop from items)) (let e : suc last - suc from ≡ last - from = omega arith in e) ∙ cut-between from last items (omega (arith, le))

pub returns-then-last-from-clause-words : goal.returns-then-last-from-clause-words
returns-then-last-from-clause-words c = none-behind c.args.from c.saturating_sub-last.result c.args.words.now c.if-last-from.true ∙ ap (λ n. drop c.args.from (take n c.args.words.now)) c.saturating_sub-last.ensures

pub returns-clause-words : goal.returns-clause-words
returns-clause-words c = let le = c.if-last-from.false in cut-between c.args.from c.saturating_sub-last.result c.args.words.now (omega (arith, le)) ∙ ap (λ n. drop c.args.from (take n c.args.words.now)) c.saturating_sub-last.ensures
