-- Forms of expressions over sets with the same members, and what they come to over a world.
use Rattle.std.proofs.Common.{◌≡◌, ℕ, zero, suc, ◌+◌, ◌<◌, Bool, true, false, ◌⊎◌, inl, inr, List, [], ◌∷◌, ◌++◌, Option, Some, None, Ok, Err, length, take, reverse, refl, sym, ap, subst, ◌∙◌, arith, ⊎_elim, true≢false, if◌then◌else◌, ◌-◌}
use Rattle.std.specs.Prelude.{slice_get, ◌↔◌, IfOk, option_and_then}
use Rattle.std.specs.declared.result.Result.{Result}
use Rattle.std.proofs.lemmas.Bool.{false_from_ne_true}
use Rattle.id_groups.specs.Lists.{IsIn, IsFiltered, is_in}
use Rattle.id_groups.proofs.Listing.{filtered_once, found, there}
use Rattle.commit_graph.specs.World.{Row, World, IsWorld, rows_of, names_of, row_named}
use Rattle.commit_graph.specs.Graph.{Graph, graph_of, parents_of, IsWalk, first_ancestor, first_of_list}
use Rattle.commit_graph.specs.Sets as sets
use Rattle.commit_graph.specs.Sets.{Commits}
use Rattle.commit_graph.proofs.Down.{in-right, in-reverse}
use Rattle.commit_graph.proofs.Walks.{no-cycle, world-falls, reaches-parent}
use Rattle.commit_graph.proofs.Histories.{place_in}
use Rattle.commit_graph.proofs.Leading.{none-after}
use Rattle.set_expr.specs.declared.words.Word.TheVariants as words
use Rattle.set_expr.specs.declared.words.Call.{Call}
use Rattle.set_expr.specs.declared.words.Call.TheVariants as calls
use Rattle.set_expr.specs.declared.words.PairCall.{PairCall}
use Rattle.set_expr.specs.declared.words.PairCall.TheVariants as pairs
use Rattle.set_expr.specs.Meaning.{named, made_of, made_of_two}
use Rattle.plain_query.specs.Members.{AreMembers, among}

-- a fact on a result that is there
pub on-ok : {T E : Type 0} (r : Result T E) (P Q : T → Type 0) → ((x : T) → P x → Q x) → IfOk r P → IfOk r Q
on-ok (Ok x) P Q step h = step x h
on-ok (Err e) P Q step h = tt

-- the front of a list
pub front-at : {X : Type 0} (xs ys : List X) (i : ℕ) (x : X) → i < length xs → slice_get (xs ++ ys) i ≡ Some x → slice_get xs i ≡ Some x
front-at [] ys i x lt e = absurd (omega (arith, lt))
front-at (z ∷ xs) ys zero x lt e = e
front-at (z ∷ xs) ys (suc i) x lt e = front-at xs ys i x (omega (arith, lt)) e

module _ {N : Type 0} where
  -- two sets with the same members
  abbrev pub AreSame : Commits N → Commits N → Type 0
  AreSame S T = (x : N) → S x ↔ T x

  turned : (S T : Commits N) → AreSame S T → AreSame T S
  turned S T f x = ((f x).1, (f x).0)

  common-to : (g : Graph N) (S T : Commits N) → AreSame S T → (x : N) → sets.common g S x → sets.common g T x
  common-to g S T f x h = ((h.0.0, (f h.0.0).0 h.0.1), λ m t. h.1 m ((f m).1 t))

  heads-to : (g : Graph N) (S T : Commits N) → AreSame S T → (x : N) → sets.heads g S x → sets.heads g T x
  heads-to g S T f x h = ((f x).0 h.0, λ p. h.1 (p.0, (f p.0).1 p.1, p.2))

  call-to : (g : Graph N) (call : Call) (S T : Commits N) → AreSame S T → (x : N) → made_of g call S x → made_of g call T x
  call-to g calls.Parents S T f x h = (h.0, (f h.0).0 h.1, h.2)
  call-to g calls.Children S T f x h = (h.0, (f h.0).0 h.1, h.2)
  call-to g calls.Ancestors S T f x h = (h.0, (f h.0).0 h.1, h.2)
  call-to g calls.Descendants S T f x h = (h.0, (f h.0).0 h.1, h.2)
  call-to g calls.Heads S T f x h = heads-to g S T f x h
  call-to g calls.Roots S T f x h = ((f x).0 h.0, λ p. h.1 (p.0, (f p.0).1 p.1, p.2))
  call-to g calls.Tips S T f x h = ((f x).0 h.0, λ m t r. h.1 m ((f m).1 t) r)
  call-to g calls.Merges S T f x h = ((f x).0 h.0, h.1)
  call-to g calls.Common S T f x h = common-to g S T f x h
  call-to g calls.Gca S T f x h =
      heads-to g (sets.common g S) (sets.common g T) (λ y. (common-to g S T f y, common-to g T S (turned S T f) y)) x h
  call-to g calls.Line S T f x h = (h.0, (f h.0).0 h.1, h.2)

  pub same-call : (g : Graph N) (call : Call) (S T : Commits N) → AreSame S T → AreSame (made_of g call S) (made_of g call T)
  same-call g call S T f x = (call-to g call S T f x, call-to g call T S (turned S T f) x)

  pair-to : (g : Graph N) (call : PairCall) (S A T B : Commits N) → AreSame S T → AreSame A B → (x : N) → made_of_two g call S A x → made_of_two g call T B x
  pair-to g pairs.Range S A T B f k x h = ((h.0.0, (f h.0.0).0 h.0.1, h.0.2), (h.1.0, (k h.1.0).0 h.1.1, h.1.2))
  pair-to g pairs.Only S A T B f k x h = ((h.0.0, (f h.0.0).0 h.0.1, h.0.2), λ p. h.1 (p.0, (k p.0).1 p.1, p.2))
  pair-to g pairs.Union S A T B f k x h = ⊎_elim (λ i. inl ((f x).0 i)) (λ i. inr ((k x).0 i)) h
  pair-to g pairs.Inter S A T B f k x h = ((f x).0 h.0, (k x).0 h.1)
  pair-to g pairs.Minus S A T B f k x h = ((f x).0 h.0, λ p. h.1 ((k x).1 p))

  pub same-pair : (g : Graph N) (call : PairCall) (S A T B : Commits N) → AreSame S T → AreSame A B → AreSame (made_of_two g call S A) (made_of_two g call T B)
  same-pair g call S A T B f k x = (pair-to g call S A T B f k x, pair-to g call T B S A (turned S T f) (turned A B k) x)

  -- a filtering by one set is one by the other
  pub filtered-same : (S T : Commits N) → AreSame S T → (xs ys : List N) → IsFiltered S xs ys → IsFiltered T xs ys
  filtered-same S T f [] ys h = h
  filtered-same S T f (x ∷ xs) ys (inl h) = inl ((f x).0 h.0, h.1, h.2, filtered-same S T f xs h.1 h.3)
  filtered-same S T f (x ∷ xs) ys (inr h) = inr ((λ t. h.0 ((f x).1 t)), filtered-same S T f xs ys h.1)

  pub same-top : (g : Graph N) (n : ℕ) (S T : Commits N) → AreSame S T → AreSame (sets.top g S n) (sets.top g T n)
  same-top g n S T f x = (
    λ h. (h.0, filtered-same S T f g.down h.0 h.1, h.2),
    λ h. (h.0, filtered-same T S (turned S T f) g.down h.0 h.1, h.2),
  )

  -- two such facts one behind the other
  pub members-to : (S T : Commits N) (names : List N) → AreMembers S names → AreSame S T → AreMembers T names
  members-to S T names a f x = ((λ i. (f x).0 ((a x).0 i)), λ t. (a x).1 ((f x).1 t))

  -- the sets that two sets make
  pub minus-members : (S T : Commits N) (one other new : List N) → AreMembers S one → AreMembers T other → ((x : N) → IsIn x new ↔ (IsIn x one × (IsIn x other → ⊥)))
      → AreMembers (sets.minus S T) new
  minus-members S T one other new a b iff x = (
    λ i. let h = (iff x).0 i in ((a x).0 h.0, λ t. h.1 ((b x).1 t)),
    λ h. (iff x).1 ((a x).1 h.0, λ i. h.1 ((b x).0 i)),
  )

  pub inter-members : (S T : Commits N) (one other new : List N) → AreMembers S one → AreMembers T other → ((x : N) → IsIn x new ↔ (IsIn x one × IsIn x other))
      → AreMembers (sets.inter S T) new
  inter-members S T one other new a b iff x = (
    λ i. let h = (iff x).0 i in ((a x).0 h.0, (b x).0 h.1),
    λ h. (iff x).1 ((a x).1 h.0, (b x).1 h.1),
  )

  pub own-members : (names : List N) → AreMembers (among names) names
  own-members names x = ((λ i. i), (λ i. i))

  -- the first of the names that were filtered
  pub top-members : (g : Graph N) (S : Commits N) (n : ℕ) (names firsts none found : List N) → IsFiltered S g.down names → firsts ≡ take n names → none ≡ []
      → ((x : N) → IsIn x found ↔ (IsIn x none ⊎ IsIn x firsts)) → AreMembers (sets.top g S n) found
  top-members g S n names firsts none found h is empty iff x = (
    λ i. ⊎_elim (λ j. absurd (subst (IsIn x) empty j)) (λ j. (names, h, subst (IsIn x) is j)) ((iff x).0 i),
    λ t. (iff x).1 (inr (subst (IsIn x) (sym is) (subst (λ (l : List N). IsIn x (take n l)) (filtered_once S g.down t.0 names t.1 h) t.2))),
  )

  -- a name that no row has
  pub no-row : (same : N → N → Bool) → ((x y : N) → same x y ≡ true → x ≡ y) → (rows : List (Row N)) (x : N) → (IsIn x (names_of rows) → ⊥) → parents_of (row_named same rows x) ≡ []
  no-row same exact [] x off = refl
  no-row same exact (r ∷ rows) x off = by_test (same r.name x) refl (no-row same exact rows x (λ i. off (inr i)))
    where
      by_test : (b : Bool) → same r.name x ≡ b → parents_of (row_named same rows x) ≡ [] → parents_of (if b then Some r else row_named same rows x) ≡ []
      by_test true e rest = absurd (off (inl (sym (exact r.name x e))))
      by_test false e rest = rest

  -- where steps have led so far, and where one more does
  pub step-on : (g : Graph N) (i : ℕ) (x at next : N) → first_ancestor g i x ≡ Some at → Some next ≡ first_of_list (g.parents at) → first_ancestor g (i + 1) x ≡ Some next
  step-on g i x at next e f =
      let one : suc i ≡ i + 1 = omega arith in
      subst (λ (n : ℕ). first_ancestor g n x ≡ Some next) one (ap (option_and_then (λ (y : N). first_of_list (g.parents y))) e ∙ sym f)

  pub step-none : (g : Graph N) (i n : ℕ) (x at : N) → i < n → first_ancestor g i x ≡ Some at → ◌≡◌ {A = Option N} None (first_of_list (g.parents at)) → first_ancestor g n x ≡ None
  step-none g i n x at lt e f =
      let whole : (n - suc i) + suc i ≡ n = omega (arith, lt) in
      subst (λ (m : ℕ). first_ancestor g m x ≡ None) whole
      (none-after g x (n - suc i) (suc i) (ap (option_and_then (λ (y : N). first_of_list (g.parents y))) e ∙ sym f))

  some-one : (x y : N) → Some x ≡ Some y → x ≡ y
  some-one x y h = cc

  -- the one commit that steps lead to
  pub up-members : (g : Graph N) (n : ℕ) (x at : N) (found : List N) → first_ancestor g n x ≡ Some at → AreMembers (λ (y : N). y ≡ at) found → AreMembers (λ (y : N). first_ancestor g n x ≡ Some y) found
  up-members g n x at found e a y = (
    λ i. e ∙ ap (λ (z : N). Some z) (sym ((a y).0 i)),
    λ f. (a y).1 (some-one y at (sym f ∙ e)),
  )

  none-some : (o : Option N) (y : N) → o ≡ None → o ≡ Some y → ⊥
  none-some o y e f = cc

  -- no commit, where they lead nowhere
  pub up-nowhere : (g : Graph N) (n : ℕ) (x : N) (found : List N) → first_ancestor g n x ≡ None → found ≡ [] → AreMembers (λ (y : N). first_ancestor g n x ≡ Some y) found
  up-nowhere g n x found e empty y = (
    λ i. absurd (subst (IsIn y) empty i),
    λ f. absurd (none-some (first_ancestor g n x) y e f),
  )

module _ {N : Type 0} (same : N → N → Bool) (exact : (x y : N) → same x y ≡ true → x ≡ y) (self : (x : N) → same x x ≡ true) (w : World N) where
  -- the names of master's rows are the commits of the master group
  pub masters-meant : (names : List N) → AreMembers (among (names_of w.master)) names → AreMembers (named (graph_of same w) words.Master) names
  masters-meant names a x = (
    λ i. let j = (a x).0 i in (
      in-right x (reverse (names_of w.others)) (reverse (names_of w.master)) (in-reverse x (names_of w.master) j),
      there same exact self x (names_of w.master) j,
    ),
    λ h. (a x).1 (found same exact self x (names_of w.master) h.1),
  )

  -- the commits that aren't of the master group are of the other
  pub others-meant : (all masters rest : List N) → AreMembers (named (graph_of same w) words.All) all → AreMembers (named (graph_of same w) words.Master) masters
      → ((x : N) → IsIn x rest ↔ (IsIn x all × (IsIn x masters → ⊥))) → AreMembers (named (graph_of same w) words.Others) rest
  others-meant all masters rest a m iff x = (
    λ i. let h = (iff x).0 i in let d = (a x).0 h.0 in (d, false_from_ne_true (is_in same x (names_of w.master)) (λ t. h.1 ((m x).1 (d, t)))),
    λ h. (iff x).1 ((a x).1 h.0, λ i. true≢false (sym ((m x).0 i).1 ∙ h.1)),
  )

  -- what no parent of members reaches, no other member reaches
  pub tips-meant : IsWorld w → (set parents reached rest : List N) → AreMembers (sets.parents (graph_of same w) (among set)) parents
      → AreMembers (sets.ancestors (graph_of same w) (among parents)) reached
      → ((x : N) → IsIn x rest ↔ (IsIn x set × (IsIn x reached → ⊥))) → AreMembers (sets.tips (graph_of same w) (among set)) rest
  tips-meant h set parents reached rest p r iff x = (
    λ i. let t = (iff x).0 i in (t.0, λ m s walk. along m s walk.0 walk.1 t.1),
    λ t. (iff x).1 (
      t.0,
      λ i. let q = (r x).0 i in let c = (p q.0).0 q.1 in
          let same_one : c.0 ≡ x = t.1 c.0 c.1 (reaches-parent (graph_of same w) c.0 q.0 x c.2 q.2) in
          no-cycle (graph_of same w) (place_in same self (rows_of w)) (world-falls same self w h) x q.0
          (subst (λ (z : N). IsIn q.0 ((graph_of same w).parents z)) same_one c.2) q.2,
    ),
  )
    where
      along : (m : N) → IsIn m set → (walk : List N) → IsWalk (graph_of same w) m walk x → (IsIn x reached → ⊥) → m ≡ x
      along m s [] walked off = walked
      along m s (q ∷ more) walked off = absurd (off ((r x).1 (q, (p q).1 (m, s, walked.0), (more, walked.1))))
