-- The tests of `Computed` decide membership, in a graph in which walks are bounded.
use Rattle.std.proofs.Common.{◌≡◌, ℕ, zero, suc, ◌≤◌, Bool, true, false, not, ◌&&◌, ◌||◌, inl, inr, List, [], ◌∷◌, ◌++◌, length, Option, Some, None, refl, sym, ap, subst, ⊎_elim, true≢false, nat_le, take, filter, le-leb, leb→le, T, unwrap_or, is_some, option_and_then}
use Rattle.std.specs.List.{list_any, list_all}
use Rattle.id_groups.specs.Lists.{IsIn, is_in, AreAllIn, IsFiltered}
use Rattle.id_groups.proofs.Listing.{or_true, or_right, or_left, implied, implies, and_true, both_true, not_true, true_not, any-in, in-any, all-in, in-all-true, filter-filters, filtered_once, found, there}
use Rattle.commit_graph.specs.Graph.{Graph, IsWalk, Reaches, first_ancestor, first_of_list}
use Rattle.commit_graph.specs.Search.{reaches_in}
use Rattle.commit_graph.specs.Sets as sets
use Rattle.commit_graph.specs.Sets.{Commits}
use Rattle.commit_graph.proofs.Walks.{reaches-found}
use Rattle.set_expr.specs.declared.words.Word.{Word}
use Rattle.set_expr.specs.declared.words.Word.TheVariants as words
use Rattle.set_expr.specs.declared.words.Call.{Call}
use Rattle.set_expr.specs.declared.words.Call.TheVariants as calls
use Rattle.set_expr.specs.declared.words.PairCall.{PairCall}
use Rattle.set_expr.specs.declared.words.PairCall.TheVariants as pairs
use Rattle.set_expr.specs.Expr.{Expr, One, Named, Of, OfTwo, Up, Top, commits_in}
use Rattle.set_expr.specs.Line.{by_first, line}
use Rattle.set_expr.specs.Meaning.{IsMember, IsAnswer, named, made_of, made_of_two}
use Rattle.set_expr.specs.Computed as test
use Rattle.set_expr.specs.Computed.{is_member, answer_of}

-- what is asked of a graph: its test of equality, its walks, and that a parent stands in it
pub record IsBounded {N : Type 0} (same : N → N → Bool) (g : Graph N) (bound : ℕ) : Type 0 where
  pub exact : (x y : N) → same x y ≡ true → x ≡ y
  pub self : (x : N) → same x x ≡ true
  pub walks : (x y : N) → Reaches g x y → reaches_in same g bound x y ≡ true
  pub firsts : (x y : N) → Reaches (by_first g) x y → reaches_in same (by_first g) bound x y ≡ true
  pub parents : (x p : N) → IsIn p (g.parents x) → IsIn p g.down
  pub children : (x p : N) → IsIn p (g.parents x) → IsIn x g.down

-- a test decides a set, whose members stand in the graph
pub record IsDecided {N : Type 0} (g : Graph N) (S : Commits N) (s : N → Bool) : Type 0 where
  pub sound : (x : N) → s x ≡ true → S x
  pub whole : (x : N) → S x → s x ≡ true
  pub within : (x : N) → S x → IsIn x g.down

false-of : (b : Bool) → not b ≡ true → b ≡ false
false-of true h = absurd (true≢false (sym h))
false-of false h = refl

le-of : (m n : ℕ) → nat_le m n ≡ true → m ≤ n
le-of m n e = leb→le m n (subst T (sym e) tt)

of-le : (m n : ℕ) → m ≤ n → nat_le m n ≡ true
of-le = le-leb

pub some-same : {X : Type 0} (x y : X) → Some x ≡ Some y → x ≡ y
some-same x y e = ap (λ o. unwrap_or o x) e

pub none-some : {X : Type 0} (x : X) → ◌≡◌ {A = Option X} None (Some x) → ⊥
none-some x e = true≢false (sym (ap is_some e))

pub first-in : {X : Type 0} (x : X) (xs : List X) → first_of_list xs ≡ Some x → IsIn x xs
first-in x [] e = absurd (none-some x e)
first-in x (y ∷ xs) e = inl (sym (some-same y x e))

pub take-in : {X : Type 0} (x : X) (n : ℕ) (xs : List X) → IsIn x (take n xs) → IsIn x xs
take-in x zero xs i = absurd i
take-in x (suc n) [] i = absurd i
take-in x (suc n) (y ∷ xs) (inl e) = inl e
take-in x (suc n) (y ∷ xs) (inr i) = inr (take-in x n xs i)

pub filtered-in : {X : Type 0} (P : X → Type 0) (x : X) (xs ys : List X) → IsFiltered P xs ys → IsIn x ys → IsIn x xs
filtered-in P x [] ys h i = subst (IsIn x) h i
filtered-in P x (y ∷ xs) ys (inl h) i = ⊎_elim (λ e. inl e) (λ j. inr (filtered-in P x xs h.1 h.3 j)) (subst (IsIn x) h.2 i)
filtered-in P x (y ∷ xs) ys (inr h) i = inr (filtered-in P x xs ys h.1 i)

pub all-in-front : {X : Type 0} (xs ys zs : List X) → AreAllIn (xs ++ ys) zs → AreAllIn xs zs
all-in-front [] ys zs h = tt
all-in-front (x ∷ xs) ys zs h = (h.0, all-in-front xs ys zs h.1)

pub all-in-rest : {X : Type 0} (xs ys zs : List X) → AreAllIn (xs ++ ys) zs → AreAllIn ys zs
all-in-rest [] ys zs h = h
all-in-rest (x ∷ xs) ys zs h = all-in-rest xs ys zs h.1

module _ {N : Type 0} (same : N → N → Bool) (g : Graph N) (bound : ℕ) (b : IsBounded same g bound) where
  walk-within : (x : N) (walk : List N) (y : N) → IsIn x g.down → IsWalk g x walk y → IsIn y g.down
  walk-within x [] y i h = subst (λ z. IsIn z g.down) h i
  walk-within x (p ∷ more) y i h = walk-within p more y (b.parents x p h.0) h.1

  first-within : (x : N) (walk : List N) (y : N) → IsIn x g.down → IsWalk (by_first g) x walk y → IsIn y g.down
  first-within x [] y i h = subst (λ z. IsIn z g.down) h i
  first-within x (p ∷ more) y i h = first-within p more y (b.parents x p (take-in p 1 (g.parents x) h.0)) h.1

  walk-from-within : (x : N) (walk : List N) (y : N) → IsIn y g.down → IsWalk g x walk y → IsIn x g.down
  walk-from-within x [] y i h = subst (λ z. IsIn z g.down) (sym h) i
  walk-from-within x (p ∷ more) y i h = b.children x p h.0

  found-in : (x : N) (xs : List N) → is_in same x xs ≡ true → IsIn x xs
  found-in = found same b.exact b.self

  there-in : (x : N) (xs : List N) → IsIn x xs → is_in same x xs ≡ true
  there-in = there same b.exact b.self

  found-reach : (x y : N) → reaches_in same g bound x y ≡ true → Reaches g x y
  found-reach x y = reaches-found same b.exact b.self g bound x y

  module _ (S : Commits N) (s : N → Bool) (d : IsDecided g S s) where
    parents-decided : IsDecided g (sets.parents g S) (test.parents_test same g bound s)
    parents-decided = record {
      sound = λ x h. let r = any-in (λ c. s c && is_in same x (g.parents c)) g.down h in
          let e = and_true (s r.0) (is_in same x (g.parents r.0)) r.2 in (r.0, d.sound r.0 e.0, found-in x (g.parents r.0) e.1);
      whole = λ x h. in-any (λ c. s c && is_in same x (g.parents c)) g.down h.0 (d.within h.0 h.1)
          (both_true (s h.0) (is_in same x (g.parents h.0)) (d.whole h.0 h.1) (there-in x (g.parents h.0) h.2));
      within = λ x h. b.parents h.0 x h.2;
    }

    children-decided : IsDecided g (sets.children g S) (test.children_test same g bound s)
    children-decided = record {
      sound = λ x h. let r = any-in s (g.parents x) h in (r.0, d.sound r.0 r.2, r.1);
      whole = λ x h. in-any s (g.parents x) h.0 h.2 (d.whole h.0 h.1);
      within = λ x h. b.children x h.0 h.2;
    }

    ancestors-decided : IsDecided g (sets.ancestors g S) (test.ancestors_test same g bound s)
    ancestors-decided = record {
      sound = λ x h. let r = any-in (λ m. s m && reaches_in same g bound m x) g.down h in
          let e = and_true (s r.0) (reaches_in same g bound r.0 x) r.2 in (r.0, d.sound r.0 e.0, found-reach r.0 x e.1);
      whole = λ x h. in-any (λ m. s m && reaches_in same g bound m x) g.down h.0 (d.within h.0 h.1)
          (both_true (s h.0) (reaches_in same g bound h.0 x) (d.whole h.0 h.1) (b.walks h.0 x h.2));
      within = λ x h. walk-within h.0 h.2.0 x (d.within h.0 h.1) h.2.1;
    }

    descendants-decided : IsDecided g (sets.descendants g S) (test.descendants_test same g bound s)
    descendants-decided = record {
      sound = λ x h. let r = any-in (λ m. s m && reaches_in same g bound x m) g.down h in
          let e = and_true (s r.0) (reaches_in same g bound x r.0) r.2 in (r.0, d.sound r.0 e.0, found-reach x r.0 e.1);
      whole = λ x h. in-any (λ m. s m && reaches_in same g bound x m) g.down h.0 (d.within h.0 h.1)
          (both_true (s h.0) (reaches_in same g bound x h.0) (d.whole h.0 h.1) (b.walks x h.0 h.2));
      within = λ x h. walk-from-within x h.2.0 h.0 (d.within h.0 h.1) h.2.1;
    }

    merges-decided : IsDecided g (sets.merges g S) (λ x. s x && nat_le 2 (length (g.parents x)))
    merges-decided = record {
      sound = λ x h. let e = and_true (s x) (nat_le 2 (length (g.parents x))) h in (d.sound x e.0, le-of 2 (length (g.parents x)) e.1);
      whole = λ x h. both_true (s x) (nat_le 2 (length (g.parents x))) (d.whole x h.0) (of-le 2 (length (g.parents x)) h.1);
      within = λ x h. d.within x h.0;
    }

    common-decided : IsDecided g (sets.common g S) (test.common_test same g bound s)
    common-decided = record {
      sound = λ x h. let e = and_true (list_any s g.down) (list_all (λ m. not (s m) || reaches_in same g bound m x) g.down) h in
          let r = any-in s g.down e.0 in
          ((r.0, d.sound r.0 r.2), λ m i. found-reach m x (implied (s m) (reaches_in same g bound m x) (all-in (λ k. not (s k) || reaches_in same g bound k x) g.down e.1 m (d.within m i)) (d.whole m i)));
      whole = λ x h. both_true (list_any s g.down) (list_all (λ m. not (s m) || reaches_in same g bound m x) g.down)
          (in-any s g.down h.0.0 (d.within h.0.0 h.0.1) (d.whole h.0.0 h.0.1))
          (in-all-true (λ m. not (s m) || reaches_in same g bound m x) g.down (λ m i. implies (s m) (reaches_in same g bound m x) (λ e. b.walks m x (h.1 m (d.sound m e)))));
      within = λ x h. let r = h.1 h.0.0 h.0.1 in walk-within h.0.0 r.0 x (d.within h.0.0 h.0.1) r.1;
    }

    tips-decided : IsDecided g (sets.tips g S) (λ x. s x && list_all (λ m. not (s m && reaches_in same g bound m x) || same m x) g.down)
    tips-decided = record {
      sound = λ x h. let e = and_true (s x) (list_all (λ m. not (s m && reaches_in same g bound m x) || same m x) g.down) h in (
        d.sound x e.0,
        λ m i r. b.exact m x (implied (s m && reaches_in same g bound m x) (same m x)
            (all-in (λ k. not (s k && reaches_in same g bound k x) || same k x) g.down e.1 m (d.within m i))
            (both_true (s m) (reaches_in same g bound m x) (d.whole m i) (b.walks m x r))),
      );
      whole = λ x h. both_true (s x) (list_all (λ m. not (s m && reaches_in same g bound m x) || same m x) g.down) (d.whole x h.0)
          (in-all-true (λ m. not (s m && reaches_in same g bound m x) || same m x) g.down
          (λ m i. implies (s m && reaches_in same g bound m x) (same m x) (λ e. let f = and_true (s m) (reaches_in same g bound m x) e in
          subst (λ z. same m z ≡ true) (h.1 m (d.sound m f.0) (found-reach m x f.1)) (b.self m))));
      within = λ x h. d.within x h.0;
    }

    line-decided : IsDecided g (line g S) (test.line_test same g bound s)
    line-decided = record {
      sound = λ x h. let r = any-in (λ m. s m && reaches_in same (by_first g) bound m x) g.down h in
          let e = and_true (s r.0) (reaches_in same (by_first g) bound r.0 x) r.2 in (r.0, d.sound r.0 e.0, reaches-found same b.exact b.self (by_first g) bound r.0 x e.1);
      whole = λ x h. in-any (λ m. s m && reaches_in same (by_first g) bound m x) g.down h.0 (d.within h.0 h.1)
          (both_true (s h.0) (reaches_in same (by_first g) bound h.0 x) (d.whole h.0 h.1) (b.firsts h.0 x h.2));
      within = λ x h. first-within h.0 h.2.0 x (d.within h.0 h.1) h.2.1;
    }

  minus-decided : (S T : Commits N) (s t : N → Bool) → IsDecided g S s → IsDecided g T t → IsDecided g (sets.minus S T) (λ x. s x && not (t x))
  minus-decided S T s t d e = record {
    sound = λ x h. let f = and_true (s x) (not (t x)) h in (d.sound x f.0, λ k. not_true (t x) f.1 (e.whole x k));
    whole = λ x h. both_true (s x) (not (t x)) (d.whole x h.0) (true_not (t x) (λ k. h.1 (e.sound x k)));
    within = λ x h. d.within x h.0;
  }

  inter-decided : (S T : Commits N) (s t : N → Bool) → IsDecided g S s → IsDecided g T t → IsDecided g (sets.inter S T) (λ x. s x && t x)
  inter-decided S T s t d e = record {
    sound = λ x h. let f = and_true (s x) (t x) h in (d.sound x f.0, e.sound x f.1);
    whole = λ x h. both_true (s x) (t x) (d.whole x h.0) (e.whole x h.1);
    within = λ x h. d.within x h.0;
  }

  union-decided : (S T : Commits N) (s t : N → Bool) → IsDecided g S s → IsDecided g T t → IsDecided g (sets.union S T) (λ x. s x || t x)
  union-decided S T s t d e = record {
    sound = λ x h. ⊎_elim (λ k. inl (d.sound x k)) (λ k. inr (e.sound x k)) (or_true (s x) (t x) h);
    whole = λ x h. ⊎_elim (λ k. or_left (s x) (t x) (d.whole x k)) (λ k. or_right (s x) (t x) (e.whole x k)) h;
    within = λ x h. ⊎_elim (λ k. d.within x k) (λ k. e.within x k) h;
  }

  heads-decided : (S : Commits N) (s : N → Bool) → IsDecided g S s → IsDecided g (sets.heads g S) (test.heads_test same g bound s)
  heads-decided S s d = minus-decided S (sets.parents g S) s (test.parents_test same g bound s) d (parents-decided S s d)

  call-decided : (call : Call) (S : Commits N) (s : N → Bool) → IsDecided g S s → IsDecided g (made_of g call S) (test.call_test same g bound call s)
  call-decided calls.Parents S s d = parents-decided S s d
  call-decided calls.Children S s d = children-decided S s d
  call-decided calls.Ancestors S s d = ancestors-decided S s d
  call-decided calls.Descendants S s d = descendants-decided S s d
  call-decided calls.Heads S s d = heads-decided S s d
  call-decided calls.Roots S s d = minus-decided S (sets.children g S) s (test.children_test same g bound s) d (children-decided S s d)
  call-decided calls.Tips S s d = tips-decided S s d
  call-decided calls.Merges S s d = merges-decided S s d
  call-decided calls.Common S s d = common-decided S s d
  call-decided calls.Gca S s d = heads-decided (sets.common g S) (test.common_test same g bound s) (common-decided S s d)
  call-decided calls.Line S s d = line-decided S s d

  pair-decided : (call : PairCall) (S T : Commits N) (s t : N → Bool) → IsDecided g S s → IsDecided g T t → IsDecided g (made_of_two g call S T) (test.pair_test same g bound call s t)
  pair-decided pairs.Range S T s t d e = inter-decided (sets.descendants g S) (sets.ancestors g T) (test.descendants_test same g bound s) (test.ancestors_test same g bound t) (descendants-decided S s d) (ancestors-decided T t e)
  pair-decided pairs.Only S T s t d e = minus-decided (sets.ancestors g S) (sets.ancestors g T) (test.ancestors_test same g bound s) (test.ancestors_test same g bound t) (ancestors-decided S s d) (ancestors-decided T t e)
  pair-decided pairs.Union S T s t d e = union-decided S T s t d e
  pair-decided pairs.Inter S T s t d e = inter-decided S T s t d e
  pair-decided pairs.Minus S T s t d e = minus-decided S T s t d e

  top-decided : (S : Commits N) (s : N → Bool) (n : ℕ) → IsDecided g S s → IsDecided g (sets.top g S n) (λ x. is_in same x (take n (filter s g.down)))
  top-decided S s n d = record {
    sound = λ x h. (filter s g.down, filter-filters s S g.down (λ y i. d.sound y) (λ y i. d.whole y), found-in x (take n (filter s g.down)) h);
    whole = λ x h. there-in x (take n (filter s g.down))
        (subst (λ l. IsIn x (take n l)) (filtered_once S g.down h.0 (filter s g.down) h.1 (filter-filters s S g.down (λ y i. d.sound y) (λ y i. d.whole y))) h.2);
    within = λ x h. filtered-in S x g.down h.0 h.1 (take-in x n h.0 h.2);
  }

  up-within : (n : ℕ) (y : N) → IsIn y g.down → (x : N) → first_ancestor g n y ≡ Some x → IsIn x g.down
  up-within zero y i x e = subst (λ z. IsIn z g.down) (some-same y x e) i
  up-within (suc n) y i x e = go (first_ancestor g n y) e
    where
      go : (o : Option N) → option_and_then (λ z. first_of_list (g.parents z)) o ≡ Some x → IsIn x g.down
      go None e = absurd (none-some x e)
      go (Some z) e = b.parents z x (first-in x (g.parents z) e)

  some-sound : (o : Option N) (x : N) → test.is_some_of same g bound o x ≡ true → o ≡ Some x
  some-sound None x h = absurd (true≢false (sym h))
  some-sound (Some y) x h = ap Some (b.exact y x h)

  some-whole : (o : Option N) (x : N) → o ≡ Some x → test.is_some_of same g bound o x ≡ true
  some-whole None x h = absurd (none-some x h)
  some-whole (Some y) x h = subst (λ z. same y z ≡ true) (some-same y x h) (b.self y)

  named-decided : (word : Word) → IsDecided g (named g word) (test.named_test same g bound word)
  named-decided words.All = record {
    sound = λ x h. found-in x g.down h;
    whole = λ x h. there-in x g.down h;
    within = λ x h. h;
  }
  named-decided words.Master = record {
    sound = λ x h. let e = and_true (is_in same x g.down) (g.is_master x) h in (found-in x g.down e.0, e.1);
    whole = λ x h. both_true (is_in same x g.down) (g.is_master x) (there-in x g.down h.0) h.1;
    within = λ x h. h.0;
  }
  named-decided words.Others = record {
    sound = λ x h. let e = and_true (is_in same x g.down) (not (g.is_master x)) h in (found-in x g.down e.0, false-of (g.is_master x) e.1);
    whole = λ x h. both_true (is_in same x g.down) (not (g.is_master x)) (there-in x g.down h.0) (ap not h.1);
    within = λ x h. h.0;
  }

  members-decided : (e : Expr N) → AreAllIn (commits_in e) g.down → IsDecided g (IsMember g e) (is_member same g bound e)
  members-decided (One y) h = record {
    sound = λ x k. b.exact x y k;
    whole = λ x k. subst (λ z. same x z ≡ true) k (b.self x);
    within = λ x k. subst (λ z. IsIn z g.down) (sym k) h.0;
  }
  members-decided (Named word) h = named-decided word
  members-decided (Of call s) h = call-decided call (IsMember g s) (is_member same g bound s) (members-decided s h)
  members-decided (OfTwo call s t) h =
      pair-decided call (IsMember g s) (IsMember g t) (is_member same g bound s) (is_member same g bound t)
      (members-decided s (all-in-front (commits_in s) (commits_in t) g.down h)) (members-decided t (all-in-rest (commits_in s) (commits_in t) g.down h))
  members-decided (Up y n) h = record {
    sound = λ x k. some-sound (first_ancestor g n y) x k;
    whole = λ x k. some-whole (first_ancestor g n y) x k;
    within = λ x k. up-within n y h.0 x k;
  }
  members-decided (Top s n) h = top-decided (IsMember g s) (is_member same g bound s) n (members-decided s h)

  -- what is computed is the answer
  pub answer-computed : (e : Expr N) → AreAllIn (commits_in e) g.down → IsAnswer g e (answer_of same g bound e)
  answer-computed e h = let d = members-decided e h in
      filter-filters (is_member same g bound e) (IsMember g e) g.down (λ x i. d.sound x) (λ x i. d.whole x)
