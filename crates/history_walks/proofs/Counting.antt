-- What is counted of sets that are the same, and lists that go side by side.
use Rattle.std.proofs.Common.{◌↔◌, ℕ, List, [], ◌∷◌, ◌++◌}
use Rattle.std.specs.List.{AllZip}
use Rattle.commit_graph.specs.Graph.{Graph}
use Rattle.commit_graph.specs.Sets as sets
use Rattle.history_walks.specs.Sides.{IsCountOf}

module _ (g : Graph ℕ) (A B C D : ℕ → Type 0) (a : (x : ℕ) → A x ↔ C x) (b : (x : ℕ) → B x ↔ D x) where
  only-to : (z : ℕ) → sets.only g A B z → sets.only g C D z
  only-to z h = ((h.0.0, (a h.0.0).0 h.0.1, h.0.2), λ k. h.1 (k.0, (b k.0).1 k.1, k.2))

  only-of : (z : ℕ) → sets.only g C D z → sets.only g A B z
  only-of z h = ((h.0.0, (a h.0.0).1 h.0.1, h.0.2), λ k. h.1 (k.0, (b k.0).0 k.1, k.2))

  pub count-same : (n : ℕ) → IsCountOf (sets.only g A B) n → IsCountOf (sets.only g C D) n
  count-same n h = record {
    spans = h.spans;
    canonical = h.canonical;
    members = λ z. (λ m. only-to z ((h.members z).0 m), λ k. (h.members z).1 (only-of z k));
    count = h.count;
  }

pub zip-more : {X Y : Type 0} (R : X → Y → Type 0) (xs : List X) (ys : List Y) (x : X) (y : Y) → AllZip R xs ys → R x y → AllZip R (xs ++ x ∷ []) (ys ++ y ∷ [])
zip-more R [] [] x y h r = (r, tt)
zip-more R [] (b ∷ ys) x y h r = absurd h
zip-more R (a ∷ xs) [] x y h r = absurd h
zip-more R (a ∷ xs) (b ∷ ys) x y h r = (h.0, zip-more R xs ys x y h.1 r)
