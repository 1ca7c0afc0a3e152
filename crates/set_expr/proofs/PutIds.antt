-- The ids that stand for the names of an expression, put in their places.
use Rattle.std.proofs.Common.{◌≡◌, ℕ, ◌++◌, length, refl, sym, ap, ◌∙◌}
use Rattle.std.specs.Prelude.{map, take, drop}
use Rattle.std.proofs.Math.Seq.{take-append_seam, drop-append_seam}
use Rattle.std.proofs.lemmas.List.{map-append, length-map}
use Rattle.set_expr.specs.Expr.{Expr, One, Named, Of, OfTwo, Up, Top, commits_in, renamed}
use Rattle.set_expr.specs.Ids.{with_ids}

pub with-renamed : {N : Type 0} (f : N → ℕ) (e : Expr N) → with_ids e (map f (commits_in e)) ≡ renamed f e
with-renamed f (One x) = refl
with-renamed f (Named word) = refl
with-renamed f (Of call s) = ap (λ t. Of call t) (with-renamed f s)
with-renamed f (OfTwo call a b) =
    let split = map-append f (commits_in a) (commits_in b) in
    let many = length-map (commits_in a) f in
    ap (λ ids. OfTwo call (with_ids a (take (length (commits_in a)) ids)) (with_ids b (drop (length (commits_in a)) ids))) split
    ∙ ap (λ n. OfTwo call (with_ids a (take n (map f (commits_in a) ++ map f (commits_in b)))) (with_ids b (drop n (map f (commits_in a) ++ map f (commits_in b))))) (sym many)
    ∙ ap (λ ids. OfTwo call (with_ids a ids) (with_ids b (drop (length (map f (commits_in a))) (map f (commits_in a) ++ map f (commits_in b))))) (take-append_seam (map f (commits_in a)) (map f (commits_in b)))
    ∙ ap (λ ids. OfTwo call (with_ids a (map f (commits_in a))) (with_ids b ids)) (drop-append_seam (map f (commits_in a)) (map f (commits_in b)))
    ∙ ap (λ t. OfTwo call t (with_ids b (map f (commits_in b)))) (with-renamed f a)
    ∙ ap (λ t. OfTwo call (renamed f a) t) (with-renamed f b)
with-renamed f (Up x n) = refl
with-renamed f (Top s n) = ap (λ t. Top t n) (with-renamed f s)
