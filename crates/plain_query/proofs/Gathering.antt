-- Sets of commits that are gathered row by row.
use Rattle.std.proofs.Common.{◌≡◌, ℕ, zero, suc, ◌+◌, ◌<◌, ◌≤◌, Bool, true, false, ◌⊎◌, inl, inr, List, [], ◌∷◌, ◌++◌, Some, length, take, get_or, refl, sym, ap, subst, ◌∙◌, arith, ⊎_elim, if◌then◌else◌, below_more, zero-le}
use Rattle.std.specs.Prelude.{slice_get, ◌↔◌}
use Rattle.std.proofs.lemmas.Option.{slice_get_within}
use Rattle.std.proofs.lemmas.List.{take_more, take_all}
use Rattle.id_groups.specs.Lists.{IsIn, AreDistinct}
use Rattle.commit_graph.specs.World.{Row, World, IsWorld, rows_of, names_of, row_named}
use Rattle.commit_graph.specs.Graph.{Graph, graph_of, parents_of, IsWalk}
use Rattle.commit_graph.specs.Sets.{parents, ancestors}
use Rattle.commit_graph.proofs.Histories.{in-all, in-append}
use Rattle.commit_graph.proofs.Down.{in-left, in-right}
use Rattle.commit_graph.proofs.Walks.{reaches-self, reaches-trans}
use Rattle.commit_graph.proofs.Places.{same-row, name-at, at-name}
use Rattle.commit_graph.proofs.Leading.{known-before, parents-at}
use Rattle.set_expr.proofs.Deciding.{take-in}
use Rattle.plain_query.specs.Members.{AreMembers, among}

-- what is not below a number is that number, or above it
from-here : (i k : ℕ) → i ≤ k → (k ≡ i) ⊎ (i + 1 ≤ k)
from-here zero zero le = inl refl
from-here zero (suc k) le = inr (omega arith)
from-here (suc i) zero le = absurd (omega (arith, le))
from-here (suc i) (suc k) le = ⊎_elim (λ e. inl (ap suc e)) (λ lt. inr (omega (arith, lt))) (from-here i k (omega (arith, le)))

-- some of the parents of each commit, by which a walk goes on
pub record Picks (N : Type 0) : Type 0 where
  pub pick : List N → List N
  pub own : (p : N) (parents : List N) → IsIn p (pick parents) → IsIn p parents

-- the graph in which each commit has these alone
abbrev pub picked : {N : Type 0} → Picks N → Graph N → Graph N
picked by g = record { down = g.down; parents = λ x. by.pick (g.parents x); is_master = g.is_master }

-- all of them, and the first
abbrev pub each : {N : Type 0} → Picks N
each = record { pick = λ parents. parents; own = λ p parents i. i }

abbrev pub first : {N : Type 0} → Picks N
first = record { pick = λ parents. take 1 parents; own = λ p parents i. take-in p 1 parents i }

module _ {N : Type 0} where
  -- the second list has what the first has, and the third
  abbrev pub Adds : List N → List N → List N → Type 0
  Adds old more new = (x : N) → IsIn x new ↔ (IsIn x old ⊎ IsIn x more)

  -- one more name behind the list
  pub put-behind : (old held new : List N) (name : N) → held ≡ old → new ≡ held ++ name ∷ [] → (x : N) → IsIn x new ↔ (IsIn x old ⊎ (x ≡ name))
  put-behind old held new name same is =
      subst (λ (l : List N). (x : N) → IsIn x l ↔ (IsIn x old ⊎ (x ≡ name))) (sym (is ∙ ap (λ (l : List N). l ++ name ∷ []) same)) (λ x. (
        λ j. ⊎_elim (λ k. inl k) (λ k. ⊎_elim (λ e. inr e) (λ f. absurd f) k) (in-append x old (name ∷ []) j),
        λ s. ⊎_elim (λ k. in-left x old (name ∷ []) k) (λ e. in-right x old (name ∷ []) (inl e)) s,
      ))

  -- a new name behind names that are distinct
  pub distinct-behind : (xs held new : List N) (name : N) → held ≡ xs → AreDistinct held → (IsIn name xs → ⊥) → new ≡ held ++ name ∷ [] → AreDistinct new
  distinct-behind xs held new name same h off is = subst AreDistinct (sym is) (behind held h (subst (λ (l : List N). IsIn name l → ⊥) (sym same) off))
    where
      behind : (ys : List N) → AreDistinct ys → (IsIn name ys → ⊥) → AreDistinct (ys ++ name ∷ [])
      behind [] h off = ((λ j. j), tt)
      behind (y ∷ ys) h off = (
        λ j. ⊎_elim (λ k. h.0 k) (λ k. ⊎_elim (λ e. off (inl (sym e))) (λ f. f) k) (in-append y ys (name ∷ []) j),
        behind ys h.1 (λ k. off (inr k)),
      )

  -- one name put to none
  pub only-one : (none new : List N) (name : N) → none ≡ [] → ((x : N) → IsIn x new ↔ (IsIn x none ⊎ (x ≡ name))) → (x : N) → IsIn x new ↔ (x ≡ name)
  only-one none new name empty iff x = (
    λ j. ⊎_elim (λ k. absurd (subst (IsIn x) empty k)) (λ e. e) ((iff x).0 j),
    λ e. (iff x).1 (inr e),
  )

  -- names that are put in one behind another: none so far, one more, all
  pub adds-none : (old : List N) → Adds old [] old
  adds-none old x = (λ j. inl j, λ s. ⊎_elim (λ a. a) (λ f. absurd f) s)

  pub adds-more : (old found new names : List N) (i : ℕ) (y : N) → i < length names → y ≡ get_or names i y → Adds old (take i names) found
      → ((x : N) → IsIn x new ↔ (IsIn x found ⊎ (x ≡ y))) → Adds old (take (i + 1) names) new
  adds-more old found new names i y lt is f g x =
      let next : take i names ++ y ∷ [] ≡ take (i + 1) names = ap (λ (z : N). take i names ++ z ∷ []) is ∙ sym (take_more names i y lt) in
      subst (λ (l : List N). IsIn x new ↔ (IsIn x old ⊎ IsIn x l)) next (
        λ j. ⊎_elim (λ k. ⊎_elim (λ a. inl a) (λ b. inr (in-left x (take i names) (y ∷ []) b)) ((f x).0 k))
            (λ e. inr (in-right x (take i names) (y ∷ []) (inl e))) ((g x).0 j),
        λ s. ⊎_elim (λ a. (g x).1 (inl ((f x).1 (inl a))))
            (λ b. ⊎_elim (λ k. (g x).1 (inl ((f x).1 (inr k)))) (λ k. ⊎_elim (λ e. (g x).1 (inr e)) (λ n. absurd n) k) (in-append x (take i names) (y ∷ []) b)) s,
      )

  pub adds-all : (old new names : List N) (i : ℕ) → length names ≤ i → Adds old (take i names) new → Adds old names new
  adds-all old new names i le = subst (λ (l : List N). Adds old l new) (take_all i names le)

  -- a name among the first rows is one among more of them
  pub names-below : (x : N) (rows : List (Row N)) (i k : ℕ) → i ≤ k → IsIn x (names_of (take i rows)) → IsIn x (names_of (take k rows))
  names-below x rows zero k le h = absurd h
  names-below x [] (suc i) k le h = absurd h
  names-below x (r ∷ rows) (suc i) zero le h = absurd (omega (arith, le))
  names-below x (r ∷ rows) (suc i) (suc k) le (inl e) = inl e
  names-below x (r ∷ rows) (suc i) (suc k) le (inr h) = inr (names-below x rows i k (omega (arith, le)) h)

  -- the names of the first rows, gathered
  pub record AreNamesOf (rows : List (Row N)) (i : ℕ) (found : List N) : Type 0 where
    pub sound : (x : N) → IsIn x found → IsIn x (names_of rows)
    pub whole : (k : ℕ) (row : Row N) → k < i → slice_get rows k ≡ Some row → IsIn row.name found

  -- no row so far, one more, all
  pub names-none : (rows : List (Row N)) (found : List N) → found ≡ [] → AreNamesOf rows 0 found
  names-none rows found e = record {
    sound = λ x j. absurd (subst (IsIn x) e j);
    whole = λ k row lt at. absurd (omega (arith, lt));
  }

  pub names-more : (rows : List (Row N)) (i : ℕ) (r : Row N) → slice_get rows i ≡ Some r → (found : List N) → AreNamesOf rows i found
      → (name : N) → name ≡ r.name → (new : List N) → ((x : N) → IsIn x new ↔ (IsIn x found ⊎ (x ≡ name))) → AreNamesOf rows (i + 1) new
  names-more rows i r e found a name is new iff = record {
    sound = λ x j. ⊎_elim (λ k. a.sound x k) (λ f. subst (λ (z : N). IsIn z (names_of rows)) (sym (f ∙ is)) (name-at rows i r e)) ((iff x).0 j);
    whole = λ k row lt at.
        below_more (λ (n : ℕ). (q : Row N) → slice_get rows n ≡ Some q → IsIn q.name new) i
        (λ n less q there. (iff q.name).1 (inl (a.whole n q less there)))
        (λ q there. (iff q.name).1 (inr (ap (λ (z : Row N). z.name) (same-row q r (sym there ∙ e)) ∙ sym is))) k lt row at;
  }

  pub names-all : (rows : List (Row N)) (i : ℕ) → length rows ≤ i → (found : List N) → AreNamesOf rows i found → AreMembers (among (names_of rows)) found
  names-all rows i le found a = λ x. (
    a.sound x,
    λ j. let t = at-name rows x j in
        let lt = slice_get_within rows t.0 t.1 t.2 in
        subst (λ (z : N). IsIn z found) t.3 (a.whole t.0 t.1 (omega (arith, lt, le)) t.2),
  )

  -- the parents of those of the first rows that are in the set, gathered
  pub record AreParents (g : Graph N) (rows : List (Row N)) (set : List N) (i : ℕ) (found : List N) : Type 0 where
    pub sound : (x : N) → IsIn x found → parents g (among set) x
    pub whole : (k : ℕ) (row : Row N) → k < i → slice_get rows k ≡ Some row → IsIn row.name set → (p : N) → IsIn p row.parents → IsIn p found

  -- what the set reaches by these, gathered: the rows from a place on have led on to their parents
  pub record AreReached (by : Picks N) (g : Graph N) (rows : List (Row N)) (set : List N) (i : ℕ) (found : List N) : Type 0 where
    pub sound : (x : N) → IsIn x found → ancestors (picked by g) (among set) x
    pub base : (x : N) → IsIn x set → IsIn x found
    pub whole : (k : ℕ) (row : Row N) → i ≤ k → slice_get rows k ≡ Some row → IsIn row.name found → (p : N) → IsIn p (by.pick row.parents) → IsIn p found

  -- no row gone over yet
  pub reached-none : (by : Picks N) (g : Graph N) (rows : List (Row N)) (set : List N) (i : ℕ) → length rows ≤ i → (found : List N) → ((x : N) → IsIn x found ↔ IsIn x set) → AreReached by g rows set i found
  reached-none by g rows set i le found e = record {
    sound = λ x j. (x, (e x).0 j, reaches-self (picked by g) x);
    base = λ x s. (e x).1 s;
    whole = λ k row from at s p j. let lt = slice_get_within rows k row at in absurd (omega (arith, lt, le, from));
  }

module _ {N : Type 0} (same : N → N → Bool) (exact : (x y : N) → same x y ≡ true → x ≡ y) (self : (x : N) → same x x ≡ true) where
  -- a commit with a parent has a row that has it
  pub row-with : (rows : List (Row N)) (c p : N) → IsIn p (parents_of (row_named same rows c)) → (k : ℕ) × (row : Row N) × (slice_get rows k ≡ Some row) × (row.name ≡ c) × IsIn p row.parents × (parents_of (row_named same rows c) ≡ row.parents)
  row-with [] c p i = absurd i
  row-with (r ∷ rows) c p i = by_test r rows c p (same r.name c) refl i (row-with rows c p)
    where
      by_test : (r : Row N) (rows : List (Row N)) (c p : N) (b : Bool) → same r.name c ≡ b → IsIn p (parents_of (if b then Some r else row_named same rows c))
          → (IsIn p (parents_of (row_named same rows c)) → (k : ℕ) × (row : Row N) × (slice_get rows k ≡ Some row) × (row.name ≡ c) × IsIn p row.parents × (parents_of (row_named same rows c) ≡ row.parents))
          → (k : ℕ) × (row : Row N) × (slice_get (r ∷ rows) k ≡ Some row) × (row.name ≡ c) × IsIn p row.parents
          × (parents_of (if b then Some r else row_named same rows c) ≡ row.parents)
      by_test r rows c p true t i rec = (0, r, refl, exact r.name c t, i, refl)
      by_test r rows c p false t i rec = let q = rec i in (suc q.0, q.1, q.2, q.3, q.4, q.5)

  module _ (w : World N) (h : IsWorld w) where
    -- a row of the set puts its parents in
    parents-more : (i : ℕ) (r : Row N) → slice_get (rows_of w) i ≡ Some r → (set found : List N) → AreParents (graph_of same w) (rows_of w) set i found
        → IsIn r.name set → (new : List N) → Adds found r.parents new → AreParents (graph_of same w) (rows_of w) set (i + 1) new
    parents-more i r e set found a s new iff = record {
      sound = λ x j. ⊎_elim (λ k. a.sound x k) (λ k. (r.name, s, subst (IsIn x) (sym (parents-at same exact self w h i r e)) k)) ((iff x).0 j);
      whole = λ k row lt at.
          below_more (λ (n : ℕ). (q : Row N) → slice_get (rows_of w) n ≡ Some q → IsIn q.name set → (p : N) → IsIn p q.parents → IsIn p new) i
          (λ n less q there in_set p j. (iff p).1 (inl (a.whole n q less there in_set p j)))
          (λ q there in_set p j. (iff p).1 (inr (subst (λ (z : Row N). IsIn p z.parents) (same-row q r (sym there ∙ e)) j))) k lt row at;
    }

    -- another row puts nothing in
    parents-same : (i : ℕ) (r : Row N) → slice_get (rows_of w) i ≡ Some r → (set found : List N) → AreParents (graph_of same w) (rows_of w) set i found
        → (IsIn r.name set → ⊥) → AreParents (graph_of same w) (rows_of w) set (i + 1) found
    parents-same i r e set found a off = record {
      sound = a.sound;
      whole = λ k row lt at.
          below_more (λ (n : ℕ). (q : Row N) → slice_get (rows_of w) n ≡ Some q → IsIn q.name set → (p : N) → IsIn p q.parents → IsIn p found) i
          (λ n less q there in_set p j. a.whole n q less there in_set p j)
          (λ q there in_set p j. absurd (off (subst (λ (z : Row N). IsIn z.name set) (same-row q r (sym there ∙ e)) in_set))) k lt row at;
    }

    -- one more row, as the program comes to it
    pub parents-put : (i : ℕ) (r : Row N) → slice_get (rows_of w) i ≡ Some r → (set found : List N) → AreParents (graph_of same w) (rows_of w) set i found
        → (name : N) → name ≡ r.name → IsIn name set → (put : List N) → put ≡ r.parents → (new : List N) → Adds found put new → (last : List N) → last ≡ new
        → AreParents (graph_of same w) (rows_of w) set (i + 1) last
    parents-put i r e set found a name is_name s put is_put new iff last is_last =
        subst (AreParents (graph_of same w) (rows_of w) set (i + 1)) (sym is_last)
        (parents-more i r e set found a (subst (λ (z : N). IsIn z set) is_name s) new (subst (λ (l : List N). Adds found l new) is_put iff))

    pub parents-left : (i : ℕ) (r : Row N) → slice_get (rows_of w) i ≡ Some r → (set found : List N) → AreParents (graph_of same w) (rows_of w) set i found
        → (name : N) → name ≡ r.name → (IsIn name set → ⊥) → (last : List N) → last ≡ found → AreParents (graph_of same w) (rows_of w) set (i + 1) last
    parents-left i r e set found a name is_name off last is_last =
        subst (AreParents (graph_of same w) (rows_of w) set (i + 1)) (sym is_last)
        (parents-same i r e set found a (λ s. off (subst (λ (z : N). IsIn z set) (sym is_name) s)))

    -- at the end these are all parents
    pub parents-all : (i : ℕ) → length (rows_of w) ≤ i → (set found : List N) → AreParents (graph_of same w) (rows_of w) set i found → AreMembers (parents (graph_of same w) (among set)) found
    parents-all i le set found a = λ x. (
      a.sound x,
      λ t. let q = row-with (rows_of w) t.0 x t.2 in
          let lt = slice_get_within (rows_of w) q.0 q.1 q.2 in
          a.whole q.0 q.1 (omega (arith, lt, le)) q.2 (subst (λ (z : N). IsIn z set) (sym q.3) t.1) x q.4,
    )

    -- a row leads on to its parents, which stand before it, and so are no rows that were gone over
    reached-more : (by : Picks N) → (i : ℕ) (r : Row N) → slice_get (rows_of w) i ≡ Some r → (set found : List N) → AreReached by (graph_of same w) (rows_of w) set (i + 1) found
        → IsIn r.name found → (new : List N) → Adds found (by.pick r.parents) new → AreReached by (graph_of same w) (rows_of w) set i new
    reached-more by i r e set found a s new iff = record {
      sound = λ x j. ⊎_elim (λ k. a.sound x k)
          (λ k. let t = a.sound r.name s in
          (t.0, t.1, reaches-trans (picked by (graph_of same w)) t.0 r.name x t.2 (x ∷ [], (subst (λ (l : List N). IsIn x (by.pick l)) (sym (parents-at same exact self w h i r e)) k, refl)))) ((iff x).0 j);
      base = λ x in_set. (iff x).1 (inl (a.base x in_set));
      whole = λ k row from at in_new p j. ⊎_elim
          (λ in_found. ⊎_elim
          (λ here. (iff p).1 (inr (subst (λ (z : Row N). IsIn p (by.pick z.parents)) (same-row row r (sym at ∙ ap (slice_get (rows_of w)) here ∙ e)) j)))
          (λ later. (iff p).1 (inl (a.whole k row later at in_found p j))) (from-here i k from))
          (λ in_row. absurd ((known-before w h k row at).fresh
          (names-below row.name (rows_of w) i k from (in-all row.name r.parents (names_of (take i (rows_of w))) (by.own row.name r.parents in_row) (known-before w h i r e).known))))
          ((iff row.name).0 in_new);
    }

    -- a row that isn't reached leads nowhere
    reached-same : (by : Picks N) → (i : ℕ) (r : Row N) → slice_get (rows_of w) i ≡ Some r → (set found : List N) → AreReached by (graph_of same w) (rows_of w) set (i + 1) found
        → (IsIn r.name found → ⊥) → AreReached by (graph_of same w) (rows_of w) set i found
    reached-same by i r e set found a off = record {
      sound = a.sound;
      base = a.base;
      whole = λ k row from at in_found p j. ⊎_elim
          (λ here. absurd (off (subst (λ (z : Row N). IsIn z.name found) (same-row row r (sym at ∙ ap (slice_get (rows_of w)) here ∙ e)) in_found)))
          (λ later. a.whole k row later at in_found p j) (from-here i k from);
    }

    -- one row less, as the program comes to it
    pub reached-put : (by : Picks N) → (n i : ℕ) → n ≡ i + 1 → (r : Row N) → slice_get (rows_of w) i ≡ Some r → (set found : List N) → AreReached by (graph_of same w) (rows_of w) set n found
        → (name : N) → name ≡ r.name → IsIn name found → (put : List N) → put ≡ by.pick r.parents → (new : List N) → Adds found put new → AreReached by (graph_of same w) (rows_of w) set i new
    reached-put by n i next r e set found a name is_name s put is_put new iff =
        reached-more by i r e set found (subst (λ (m : ℕ). AreReached by (graph_of same w) (rows_of w) set m found) next a)
        (subst (λ (z : N). IsIn z found) is_name s) new (subst (λ (l : List N). Adds found l new) is_put iff)

    pub reached-left : (by : Picks N) → (n i : ℕ) → n ≡ i + 1 → (r : Row N) → slice_get (rows_of w) i ≡ Some r → (set found : List N) → AreReached by (graph_of same w) (rows_of w) set n found
        → (name : N) → name ≡ r.name → (IsIn name found → ⊥) → AreReached by (graph_of same w) (rows_of w) set i found
    reached-left by n i next r e set found a name is_name off =
        reached-same by i r e set found (subst (λ (m : ℕ). AreReached by (graph_of same w) (rows_of w) set m found) next a)
        (λ s. off (subst (λ (z : N). IsIn z found) (sym is_name) s))

    -- at the first row each walk from the set has been followed
    along : (by : Picks N) → (set found : List N) → AreReached by (graph_of same w) (rows_of w) set 0 found → (m : N) (walk : List N) (x : N) → IsIn m found → IsWalk (picked by (graph_of same w)) m walk x → IsIn x found
    along by set found a m [] x i walked = subst (λ (z : N). IsIn z found) walked i
    along by set found a m (p ∷ more) x i walked =
        let q = row-with (rows_of w) m p (by.own p (parents_of (row_named same (rows_of w) m)) walked.0) in
        along by set found a p more x (a.whole q.0 q.1 zero-le q.2 (subst (λ (z : N). IsIn z found) (sym q.3) i) p (subst (λ (l : List N). IsIn p (by.pick l)) q.5 walked.0)) walked.1

    pub reached-all : (by : Picks N) → (i : ℕ) → i ≡ 0 → (set found : List N) → AreReached by (graph_of same w) (rows_of w) set i found → AreMembers (ancestors (picked by (graph_of same w)) (among set)) found
    reached-all by i start set found a =
        let all : AreReached by (graph_of same w) (rows_of w) set 0 found = subst (λ (n : ℕ). AreReached by (graph_of same w) (rows_of w) set n found) start a in
        λ x. (a.sound x, λ t. along by set found all t.0 t.2.0 x (a.base t.0 t.1) t.2.1)
