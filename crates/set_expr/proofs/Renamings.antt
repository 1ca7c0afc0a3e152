-- An expression means the same under other names.
use Rattle.std.proofs.Common.{◌≡◌, ◌≤◌, ℕ, zero, suc, inl, inr, List, [], ◌∷◌, length, map, take, Option, Some, None, option_map, option_and_then, refl, sym, ap, subst, ◌∙◌, ⊎_elim}
use Rattle.id_groups.specs.Lists.{IsIn, AreAllIn, IsFiltered}
use Rattle.commit_graph.specs.Graph.{Graph, IsWalk, Reaches, first_ancestor, first_of_list}
use Rattle.commit_graph.specs.Renaming.{IsRenaming, IsClosed}
use Rattle.commit_graph.specs.Sets as sets
use Rattle.commit_graph.specs.Sets.{Commits}
use Rattle.set_expr.specs.declared.words.Word.{Word}
use Rattle.set_expr.specs.declared.words.Word.TheVariants as words
use Rattle.set_expr.specs.declared.words.Call.{Call}
use Rattle.set_expr.specs.declared.words.Call.TheVariants as calls
use Rattle.set_expr.specs.declared.words.PairCall.{PairCall}
use Rattle.set_expr.specs.declared.words.PairCall.TheVariants as pairs
use Rattle.set_expr.specs.Expr.{Expr, One, Named, Of, OfTwo, Up, Top, commits_in, renamed}
use Rattle.set_expr.specs.Line.{by_first, line}
use Rattle.set_expr.specs.Meaning.{IsMember, IsAnswer, named, made_of, made_of_two}
use Rattle.set_expr.proofs.Deciding.{filtered-in, take-in, all-in-front, all-in-rest, first-in, some-same, none-some}

in-map : {M N : Type 0} (f : M → N) (x : M) (xs : List M) → IsIn x xs → IsIn (f x) (map f xs)
in-map f x [] i = i
in-map f x (y ∷ xs) (inl e) = inl (ap f e)
in-map f x (y ∷ xs) (inr i) = inr (in-map f x xs i)

map-in : {M N : Type 0} (f : M → N) (y : N) (xs : List M) → IsIn y (map f xs) → (x : M) × IsIn x xs × (f x ≡ y)
map-in f y [] i = absurd i
map-in f y (x ∷ xs) (inl e) = (x, inl refl, sym e)
map-in f y (x ∷ xs) (inr i) = let r = map-in f y xs i in (r.0, inr r.1, r.2)

map-length : {M N : Type 0} (f : M → N) (xs : List M) → length (map f xs) ≡ length xs
map-length f [] = refl
map-length f (x ∷ xs) = ap suc (map-length f xs)

map-take : {M N : Type 0} (f : M → N) (n : ℕ) (xs : List M) → take n (map f xs) ≡ map f (take n xs)
map-take f zero xs = refl
map-take f (suc n) [] = refl
map-take f (suc n) (x ∷ xs) = ap (λ l. f x ∷ l) (map-take f n xs)

-- the sets agree: f leads from one onto the other, and the first stands in the graph
pub record Agrees {M N : Type 0} (f : M → N) (g : Graph M) (S : Commits M) (T : Commits N) : Type 0 where
  pub to : (x : M) → S x → T (f x)
  pub from : (y : N) → T y → (x : M) × S x × (f x ≡ y)
  pub within : (x : M) → S x → IsIn x g.down

module _ {M N : Type 0} (f : M → N) (g : Graph M) (h : Graph N) (r : IsRenaming f g h) (cg : IsClosed g) (ch : IsClosed h) where
  back : (S : Commits M) (T : Commits N) → Agrees f g S T → (x : M) → IsIn x g.down → T (f x) → S x
  back S T a x i t = let b = a.from (f x) t in subst S (r.apart b.0 x (a.within b.0 b.1) i b.2) b.1

  walk-to : (x : M) (walk : List M) (y : M) → IsIn x g.down → IsWalk g x walk y → IsWalk h (f x) (map f walk) (f y)
  walk-to x [] y i w = ap f w
  walk-to x (p ∷ more) y i w =
      (subst (IsIn (f p)) (sym (r.parents x i)) (in-map f p (g.parents x) w.0), walk-to p more y (cg.parents x p w.0) w.1)

  reach-to : (x y : M) → IsIn x g.down → Reaches g x y → Reaches h (f x) (f y)
  reach-to x y i w = (map f w.0, walk-to x w.0 y i w.1)

  reach-from : (x : M) (walk : List N) (y : N) → IsIn x g.down → IsWalk h (f x) walk y → (z : M) × Reaches g x z × (f z ≡ y)
  reach-from x [] y i w = (x, ([], refl), w)
  reach-from x (q ∷ more) y i w =
      let p = map-in f q (g.parents x) (subst (IsIn q) (r.parents x i) w.0) in
      let rest = reach-from p.0 more y (cg.parents x p.0 p.1) (subst (λ z. IsWalk h z more y) (sym p.2) w.1) in
      (rest.0, (p.0 ∷ rest.1.0, (p.1, rest.1.1)), rest.2)

  walk-in : (x : M) (walk : List M) (y : M) → IsIn x g.down → IsWalk g x walk y → IsIn y g.down
  walk-in x [] y i w = subst (λ z. IsIn z g.down) w i
  walk-in x (p ∷ more) y i w = walk-in p more y (cg.parents x p w.0) w.1

  reach-in : (x y : M) → IsIn x g.down → Reaches g x y → IsIn y g.down
  reach-in x y i w = walk-in x w.0 y i w.1

  start-in : (x : M) (walk : List M) (y : M) → IsIn y g.down → IsWalk g x walk y → IsIn x g.down
  start-in x [] y i w = subst (λ z. IsIn z g.down) (sym w) i
  start-in x (p ∷ more) y i w = cg.children x p w.0

  start-of : (y : N) (walk : List N) (z : N) → IsIn z h.down → IsWalk h y walk z → IsIn y h.down
  start-of y [] z i w = subst (λ k. IsIn k h.down) (sym w) i
  start-of y (p ∷ more) z i w = ch.children y p w.0

  -- a commit of h is the new name of one of g
  origin : (y : N) → IsIn y h.down → (x : M) × IsIn x g.down × (f x ≡ y)
  origin y i = map-in f y g.down (subst (IsIn y) r.down i)

  place-in-h : (x : M) → IsIn x g.down → IsIn (f x) h.down
  place-in-h x i = subst (IsIn (f x)) (sym r.down) (in-map f x g.down i)

  module _ (S : Commits M) (T : Commits N) (a : Agrees f g S T) where
    parents-agree : Agrees f g (sets.parents g S) (sets.parents h T)
    parents-agree = record {
      to = λ x s. (f s.0, a.to s.0 s.1, subst (IsIn (f x)) (sym (r.parents s.0 (a.within s.0 s.1))) (in-map f x (g.parents s.0) s.2));
      from = λ y t. let c = a.from t.0 t.1 in
          let p = map-in f y (g.parents c.0) (subst (IsIn y) (ap h.parents (sym c.2) ∙ r.parents c.0 (a.within c.0 c.1)) t.2) in
          (p.0, (c.0, c.1, p.1), p.2);
      within = λ x s. cg.parents s.0 x s.2;
    }

    children-agree : Agrees f g (sets.children g S) (sets.children h T)
    children-agree = record {
      to = λ x s. (f s.0, a.to s.0 s.1, subst (IsIn (f s.0)) (sym (r.parents x (cg.children x s.0 s.2))) (in-map f s.0 (g.parents x) s.2));
      from = λ y t. let o = origin y (ch.children y t.0 t.2) in
          let p = map-in f t.0 (g.parents o.0) (subst (IsIn t.0) (ap h.parents (sym o.2) ∙ r.parents o.0 o.1) t.2) in
          (o.0, (p.0, back S T a p.0 (cg.parents o.0 p.0 p.1) (subst T (sym p.2) t.1), p.1), o.2);
      within = λ x s. cg.children x s.0 s.2;
    }

    ancestors-agree : Agrees f g (sets.ancestors g S) (sets.ancestors h T)
    ancestors-agree = record {
      to = λ x s. (f s.0, a.to s.0 s.1, reach-to s.0 x (a.within s.0 s.1) s.2);
      from = λ y t. let m = a.from t.0 t.1 in
          let z = reach-from m.0 t.2.0 y (a.within m.0 m.1) (subst (λ k. IsWalk h k t.2.0 y) (sym m.2) t.2.1) in
          (z.0, (m.0, m.1, z.1), z.2);
      within = λ x s. reach-in s.0 x (a.within s.0 s.1) s.2;
    }

    descendants-agree : Agrees f g (sets.descendants g S) (sets.descendants h T)
    descendants-agree = record {
      to = λ x s. (f s.0, a.to s.0 s.1, reach-to x s.0 (start-in x s.2.0 s.0 (a.within s.0 s.1) s.2.1) s.2);
      from = λ y t. let m = a.from t.0 t.1 in
          let o = origin y (start-of y t.2.0 t.0 (subst (λ k. IsIn k h.down) m.2 (place-in-h m.0 (a.within m.0 m.1))) t.2.1) in
          let z = reach-from o.0 t.2.0 t.0 o.1 (subst (λ k. IsWalk h k t.2.0 t.0) (sym o.2) t.2.1) in
          (o.0, (z.0, back S T a z.0 (reach-in o.0 z.0 o.1 z.1) (subst T (sym z.2) t.1), z.1), o.2);
      within = λ x s. start-in x s.2.0 s.0 (a.within s.0 s.1) s.2.1;
    }

    reached : (k x : M) → IsIn k g.down → IsIn x g.down → Reaches h (f k) (f x) → Reaches g k x
    reached k x i j w = let z = reach-from k w.0 (f x) i w.1 in subst (Reaches g k) (r.apart z.0 x (reach-in k z.0 i z.1) j z.2) z.1

    common-agree : Agrees f g (sets.common g S) (sets.common h T)
    common-agree = record {
      to = λ x s. ((f s.0.0, a.to s.0.0 s.0.1), λ m t. let k = a.from m t in subst (λ z. Reaches h z (f x)) k.2 (reach-to k.0 x (a.within k.0 k.1) (s.1 k.0 k.1)));
      from = λ y t. let m = a.from t.0.0 t.0.1 in
          let w = t.1 (f m.0) (a.to m.0 m.1) in
          let z = reach-from m.0 w.0 y (a.within m.0 m.1) w.1 in
          (z.0, ((m.0, m.1), λ k s. reached k z.0 (a.within k s) (reach-in m.0 z.0 (a.within m.0 m.1) z.1) (subst (Reaches h (f k)) (sym z.2) (t.1 (f k) (a.to k s)))), z.2);
      within = λ x s. reach-in s.0.0 x (a.within s.0.0 s.0.1) (s.1 s.0.0 s.0.1);
    }

    tips-agree : Agrees f g (sets.tips g S) (sets.tips h T)
    tips-agree = record {
      to = λ x s. (
        a.to x s.0,
        λ m t w. let k = a.from m t in
            sym k.2 ∙ ap f (s.1 k.0 k.1 (reached k.0 x (a.within k.0 k.1) (a.within x s.0) (subst (λ z. Reaches h z (f x)) (sym k.2) w))),
      );
      from = λ y t. let k = a.from y t.0 in (
        k.0,
        (
          k.1,
          λ m s w. r.apart m k.0 (a.within m s) (a.within k.0 k.1)
              (t.1 (f m) (a.to m s) (subst (Reaches h (f m)) k.2 (reach-to m k.0 (a.within m s) w)) ∙ sym k.2),
        ),
        k.2,
      );
      within = λ x s. a.within x s.0;
    }

    merges-agree : Agrees f g (sets.merges g S) (sets.merges h T)
    merges-agree = record {
      to = λ x s. (a.to x s.0, subst (λ n. 2 ≤ n) (sym (ap length (r.parents x (a.within x s.0)) ∙ map-length f (g.parents x))) s.1);
      from = λ y t. let k = a.from y t.0 in
          (k.0, (k.1, subst (λ n. 2 ≤ n) (ap length (ap h.parents (sym k.2) ∙ r.parents k.0 (a.within k.0 k.1)) ∙ map-length f (g.parents k.0)) t.1), k.2);
      within = λ x s. a.within x s.0;
    }

    filtered-to : (xs ys : List M) → ((x : M) → IsIn x xs → IsIn x g.down) → IsFiltered S xs ys → IsFiltered T (map f xs) (map f ys)
    filtered-to [] ys i e = ap (map f) e
    filtered-to (x ∷ xs) ys i (inl e) = inl (a.to x e.0, map f e.1, ap (map f) e.2, filtered-to xs e.1 (λ z j. i z (inr j)) e.3)
    filtered-to (x ∷ xs) ys i (inr e) = inr (λ t. e.0 (back S T a x (i x (inl refl)) t), filtered-to xs ys (λ z j. i z (inr j)) e.1)

    filtered-from : (xs : List M) (ys : List N) → ((x : M) → IsIn x xs → IsIn x g.down) → IsFiltered T (map f xs) ys → (zs : List M) × IsFiltered S xs zs × (map f zs ≡ ys)
    filtered-from [] ys i e = ([], refl, sym e)
    filtered-from (x ∷ xs) ys i (inl e) = let q = filtered-from xs e.1 (λ z j. i z (inr j)) e.3 in
        (x ∷ q.0, inl (back S T a x (i x (inl refl)) e.0, q.0, refl, q.1), ap (λ l. f x ∷ l) q.2 ∙ sym e.2)
    filtered-from (x ∷ xs) ys i (inr e) = let q = filtered-from xs ys (λ z j. i z (inr j)) e.1 in
        (q.0, inr (λ s. e.0 (a.to x s), q.1), q.2)

    pub top-agree : (n : ℕ) → Agrees f g (sets.top g S n) (sets.top h T n)
    top-agree n = record {
      to = λ x s. (map f s.0, subst (λ l. IsFiltered T l (map f s.0)) (sym r.down) (filtered-to g.down s.0 (λ z j. j) s.1), subst (IsIn (f x)) (sym (map-take f n s.0)) (in-map f x (take n s.0) s.2));
      from = λ y t. let q = filtered-from g.down t.0 (λ z j. j) (subst (λ l. IsFiltered T l t.0) r.down t.1) in
          let k = map-in f y (take n q.0) (subst (IsIn y) (ap (take n) (sym q.2) ∙ map-take f n q.0) t.2) in
          (k.0, (q.0, q.1, k.1), k.2);
      within = λ x s. filtered-in S x g.down s.0 s.1 (take-in x n s.0 s.2);
    }

  module _ (S A : Commits M) (T B : Commits N) (a : Agrees f g S T) (b : Agrees f g A B) where
    minus-agree : Agrees f g (sets.minus S A) (sets.minus T B)
    minus-agree = record {
      to = λ x s. (a.to x s.0, λ t. s.1 (back A B b x (a.within x s.0) t));
      from = λ y t. let k = a.from y t.0 in (k.0, (k.1, λ s. t.1 (subst B k.2 (b.to k.0 s))), k.2);
      within = λ x s. a.within x s.0;
    }

    inter-agree : Agrees f g (sets.inter S A) (sets.inter T B)
    inter-agree = record {
      to = λ x s. (a.to x s.0, b.to x s.1);
      from = λ y t. let k = a.from y t.0 in (k.0, (k.1, back A B b k.0 (a.within k.0 k.1) (subst B (sym k.2) t.1)), k.2);
      within = λ x s. a.within x s.0;
    }

    union-agree : Agrees f g (sets.union S A) (sets.union T B)
    union-agree = record {
      to = λ x s. ⊎_elim (λ k. inl (a.to x k)) (λ k. inr (b.to x k)) s;
      from = λ y t. ⊎_elim (λ k. let q = a.from y k in (q.0, inl q.1, q.2)) (λ k. let q = b.from y k in (q.0, inr q.1, q.2)) t;
      within = λ x s. ⊎_elim (λ k. a.within x k) (λ k. b.within x k) s;
    }

  heads-agree : (S : Commits M) (T : Commits N) → Agrees f g S T → Agrees f g (sets.heads g S) (sets.heads h T)
  heads-agree S T a = minus-agree S (sets.parents g S) T (sets.parents h T) a (parents-agree S T a)

-- a line is what is reached by first parents, so it agrees as ancestors do
module _ {M N : Type 0} (f : M → N) (g : Graph M) (h : Graph N) (r : IsRenaming f g h) (cg : IsClosed g) (ch : IsClosed h) where
  by-first : IsRenaming f (by_first g) (by_first h)
  by-first = record {
    down = r.down;
    parents = λ x i. ap (take 1) (r.parents x i) ∙ map-take f 1 (g.parents x);
    master = r.master;
    apart = r.apart;
  }

  line-agree : (S : Commits M) (T : Commits N) → Agrees f g S T → Agrees f g (line g S) (line h T)
  line-agree S T a =
      let c = ancestors-agree f (by_first g) (by_first h) by-first
      (record { parents = λ x p i. cg.parents x p (take-in p 1 (g.parents x) i); children = λ x p i. cg.children x p (take-in p 1 (g.parents x) i) })
      (record { parents = λ x p i. ch.parents x p (take-in p 1 (h.parents x) i); children = λ x p i. ch.children x p (take-in p 1 (h.parents x) i) })
      S T (record { to = a.to; from = a.from; within = a.within }) in
      record { to = c.to; from = c.from; within = c.within }

module _ {M N : Type 0} (f : M → N) (g : Graph M) (h : Graph N) (r : IsRenaming f g h) (cg : IsClosed g) (ch : IsClosed h) where
  pub call-agree : (call : Call) (S : Commits M) (T : Commits N) → Agrees f g S T → Agrees f g (made_of g call S) (made_of h call T)
  call-agree calls.Parents S T a = parents-agree f g h r cg ch S T a
  call-agree calls.Children S T a = children-agree f g h r cg ch S T a
  call-agree calls.Ancestors S T a = ancestors-agree f g h r cg ch S T a
  call-agree calls.Descendants S T a = descendants-agree f g h r cg ch S T a
  call-agree calls.Heads S T a = heads-agree f g h r cg ch S T a
  call-agree calls.Roots S T a = minus-agree f g h r cg ch S (sets.children g S) T (sets.children h T) a (children-agree f g h r cg ch S T a)
  call-agree calls.Tips S T a = tips-agree f g h r cg ch S T a
  call-agree calls.Merges S T a = merges-agree f g h r cg ch S T a
  call-agree calls.Common S T a = common-agree f g h r cg ch S T a
  call-agree calls.Line S T a = line-agree f g h r cg ch S T a
  call-agree calls.Gca S T a = heads-agree f g h r cg ch (sets.common g S) (sets.common h T) (common-agree f g h r cg ch S T a)

  pub pair-agree : (call : PairCall) (S A : Commits M) (T B : Commits N) → Agrees f g S T → Agrees f g A B → Agrees f g (made_of_two g call S A) (made_of_two h call T B)
  pair-agree pairs.Range S A T B a b = inter-agree f g h r cg ch (sets.descendants g S) (sets.ancestors g A) (sets.descendants h T) (sets.ancestors h B) (descendants-agree f g h r cg ch S T a) (ancestors-agree f g h r cg ch A B b)
  pair-agree pairs.Only S A T B a b = minus-agree f g h r cg ch (sets.ancestors g S) (sets.ancestors g A) (sets.ancestors h T) (sets.ancestors h B) (ancestors-agree f g h r cg ch S T a) (ancestors-agree f g h r cg ch A B b)
  pair-agree pairs.Union S A T B a b = union-agree f g h r cg ch S A T B a b
  pair-agree pairs.Inter S A T B a b = inter-agree f g h r cg ch S A T B a b
  pair-agree pairs.Minus S A T B a b = minus-agree f g h r cg ch S A T B a b

  named-agree : (word : Word) → Agrees f g (named g word) (named h word)
  named-agree words.All = record { to = place-in-h f g h r cg ch; from = λ y i. origin f g h r cg ch y i; within = λ x i. i }
  named-agree words.Master = record {
    to = λ x s. (place-in-h f g h r cg ch x s.0, r.master x s.0 ∙ s.1);
    from = λ y t. let o = origin f g h r cg ch y t.0 in (o.0, (o.1, sym (r.master o.0 o.1) ∙ ap h.is_master o.2 ∙ t.1), o.2);
    within = λ x s. s.0;
  }
  named-agree words.Others = record {
    to = λ x s. (place-in-h f g h r cg ch x s.0, r.master x s.0 ∙ s.1);
    from = λ y t. let o = origin f g h r cg ch y t.0 in (o.0, (o.1, sym (r.master o.0 o.1) ∙ ap h.is_master o.2 ∙ t.1), o.2);
    within = λ x s. s.0;
  }

  first-map : (xs : List M) → first_of_list (map f xs) ≡ option_map f (first_of_list xs)
  first-map [] = refl
  first-map (x ∷ xs) = refl

  up-in : (n : ℕ) (y : M) → IsIn y g.down → (x : M) → first_ancestor g n y ≡ Some x → IsIn x g.down
  up-in zero y i x e = subst (λ z. IsIn z g.down) (some-same y x e) i
  up-in (suc n) y i x e = go (first_ancestor g n y) e
    where
      go : (o : Option M) → option_and_then (λ z. first_of_list (g.parents z)) o ≡ Some x → IsIn x g.down
      go None e = absurd (none-some x e)
      go (Some z) e = cg.parents z x (first-in x (g.parents z) e)

  up-map : (n : ℕ) (y : M) → IsIn y g.down → first_ancestor h n (f y) ≡ option_map f (first_ancestor g n y)
  up-map zero y i = refl
  up-map (suc n) y i = ap (option_and_then (λ z. first_of_list (h.parents z))) (up-map n y i) ∙ go (first_ancestor g n y) (up-in n y i)
    where
      go : (o : Option M) → ((x : M) → o ≡ Some x → IsIn x g.down)
          → option_and_then (λ z. first_of_list (h.parents z)) (option_map f o) ≡ option_map f (option_and_then (λ z. first_of_list (g.parents z)) o)
      go None k = refl
      go (Some z) k = ap first_of_list (r.parents z (k z refl)) ∙ first-map (g.parents z)

  option-from : (o : Option M) (y : N) → option_map f o ≡ Some y → (x : M) × (o ≡ Some x) × (f x ≡ y)
  option-from None y e = absurd (none-some y e)
  option-from (Some x) y e = (x, refl, some-same (f x) y e)

  up-agree : (y : M) (n : ℕ) → IsIn y g.down → Agrees f g (λ x. first_ancestor g n y ≡ Some x) (λ x. first_ancestor h n (f y) ≡ Some x)
  up-agree y n i = record {
    to = λ x e. up-map n y i ∙ ap (option_map f) e;
    from = λ z e. option-from (first_ancestor g n y) z (sym (up-map n y i) ∙ e);
    within = λ x e. up-in n y i x e;
  }

  -- an expression has the same members under other names
  pub members-agree : (e : Expr M) → AreAllIn (commits_in e) g.down → Agrees f g (IsMember g e) (IsMember h (renamed f e))
  members-agree (One y) k = record {
    to = λ x e. ap f e;
    from = λ z e. (y, refl, sym e);
    within = λ x e. subst (λ z. IsIn z g.down) (sym e) k.0;
  }
  members-agree (Named word) k = named-agree word
  members-agree (Of call s) k = call-agree call (IsMember g s) (IsMember h (renamed f s)) (members-agree s k)
  members-agree (OfTwo call s t) k =
      pair-agree call (IsMember g s) (IsMember g t) (IsMember h (renamed f s)) (IsMember h (renamed f t))
      (members-agree s (all-in-front (commits_in s) (commits_in t) g.down k)) (members-agree t (all-in-rest (commits_in s) (commits_in t) g.down k))
  members-agree (Up y n) k = up-agree y n k.0
  members-agree (Top s n) k = top-agree f g h r cg ch (IsMember g s) (IsMember h (renamed f s)) (members-agree s k) n

  -- and the same answer
  pub answer-agree : (e : Expr M) (xs : List M) → AreAllIn (commits_in e) g.down → IsAnswer g e xs → IsAnswer h (renamed f e) (map f xs)
  answer-agree e xs k a =
      subst (λ l. IsFiltered (IsMember h (renamed f e)) l (map f xs)) (sym r.down)
      (filtered-to f g h r cg ch (IsMember g e) (IsMember h (renamed f e)) (members-agree e k) g.down xs (λ x i. i) a)
