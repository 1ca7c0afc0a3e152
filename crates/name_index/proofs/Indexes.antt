-- Indexes: runs that are looked through, replaced and merged.
use Rattle.std.proofs.Common.{◌≡◌, ◌∙◌, refl, sym, ap, subst, ℕ, ◌-◌, List, [], ◌∷◌, ◌++◌, map, take, drop, ◌⊎◌, inl, inr, ⊎_elim, arith, Option, Some, None, true, false, true≢false, is_some}
use Rattle.std.specs.List.{AllByRecursion}
use Rattle.std.specs.List.Sorted.{IsPermutation}
use Rattle.std.proofs.lemmas.List.Sorted.{IsPermutation-sym, IsPermutation-map}
use Rattle.id_groups.specs.Lists.{IsIn}
use Rattle.id_groups.specs.Name.{Name}
use Rattle.name_index.specs.declared.entry.Entry.{Entry}
use Rattle.name_index.specs.Index.{Finds}
use Rattle.name_index.specs.Runs.{entry_of, IsRun, AreRuns, joined, HaveCommon, name_in}
use Rattle.name_index.proofs.Keys.{each-of, all-of}
use Rattle.name_index.proofs.Moves.{all-moved, in-moved}
use Rattle.name_index.specs.Named.{NamedPlace, NamesStand, StandFrom, NameStandsAt, StandsFrom, names_in}

module _ {X : Type 0} where
  pub in-left : (x : X) (xs ys : List X) → IsIn x xs → IsIn x (xs ++ ys)
  in-left x [] ys i = absurd i
  in-left x (z ∷ xs) ys (inl e) = inl e
  in-left x (z ∷ xs) ys (inr i) = inr (in-left x xs ys i)

  pub in-right : (x : X) (xs ys : List X) → IsIn x ys → IsIn x (xs ++ ys)
  in-right x [] ys i = i
  in-right x (z ∷ xs) ys i = inr (in-right x xs ys i)

  pub in-either : (x : X) (xs ys : List X) → IsIn x (xs ++ ys) → IsIn x xs ⊎ IsIn x ys
  in-either x [] ys i = inr i
  in-either x (z ∷ xs) ys (inl e) = inl (inl e)
  in-either x (z ∷ xs) ys (inr i) = ⊎_elim (λ l. inl (inr l)) (λ r. inr r) (in-either x xs ys i)

  pub all-left : (P : X → Type 0) (xs ys : List X) → AllByRecursion P (xs ++ ys) → AllByRecursion P xs
  all-left P xs ys h = all-of P xs (λ x i. each-of P (xs ++ ys) h x (in-left x xs ys i))

  pub all-right : (P : X → Type 0) (xs ys : List X) → AllByRecursion P (xs ++ ys) → AllByRecursion P ys
  all-right P xs ys h = all-of P ys (λ x i. each-of P (xs ++ ys) h x (in-right x xs ys i))

  pub all-both : (P : X → Type 0) (xs ys : List X) → AllByRecursion P xs → AllByRecursion P ys → AllByRecursion P (xs ++ ys)
  all-both P xs ys h g = all-of P (xs ++ ys) (λ x i. ⊎_elim (each-of P xs h x) (each-of P ys g x) (in-either x xs ys i))

pub name-of : (n : NamedPlace) (named : List NamedPlace) → IsIn n named → IsIn n.name (names_in named)
name-of n [] i = absurd i
name-of n (m ∷ ms) (inl e) = inl (ap (λ z. z.name) e)
name-of n (m ∷ ms) (inr i) = inr (name-of n ms i)

pub name-right : (name : Name) (xs ys : List NamedPlace) → IsIn name (names_in ys) → IsIn name (names_in (xs ++ ys))
name-right name [] ys i = i
name-right name (z ∷ xs) ys i = inr (name-right name xs ys i)

pub name-either : (name : Name) (xs ys : List NamedPlace) → IsIn name (names_in (xs ++ ys)) → IsIn name (names_in xs) ⊎ IsIn name (names_in ys)
name-either name [] ys i = inr i
name-either name (z ∷ xs) ys (inl e) = inl (inl e)
name-either name (z ∷ xs) ys (inr i) = ⊎_elim (λ l. inl (inr l)) (λ r. inr r) (name-either name xs ys i)

pub names-moved : (xs ys : List NamedPlace) → IsPermutation xs ys → (name : Name) → IsIn name (names_in xs) → IsIn name (names_in ys)
names-moved xs ys moved name i = in-moved (names_in ys) (names_in xs) (IsPermutation-sym _ _ (IsPermutation-map (λ n. n.name) xs ys moved)) name i

pub finds-moved : (all held : List NamedPlace) (name : Name) (result : Option ℕ) → IsPermutation all held → Finds held name result → Finds all name result
finds-moved all held name None moved h = λ i. h (names-moved all held moved name i)
finds-moved all held name (Some place) moved h = in-moved all held moved _ h

module _ (bytes : List ℕ) where
  from-zero : (n : NamedPlace) → NameStandsAt bytes n → StandsFrom 0 bytes n
  from-zero n h = let same : n.place ≡ n.place - 0 = omega arith in record {
    behind = omega arith;
    whole = h.whole;
    stands = subst (λ p. take 20 (drop p bytes) ≡ n.name) same h.stands;
  }

  -- what stands in the bytes stands from the place 0
  pub stand-from : (all : List NamedPlace) → NamesStand bytes all → StandFrom 0 bytes all
  stand-from all h = all-of (StandsFrom 0 bytes) all (λ n i. from-zero n (each-of (NameStandsAt bytes) all h n i))

  split-joined : (held : List (List NamedPlace)) → StandFrom 0 bytes (joined held) → AllByRecursion (StandFrom 0 bytes) held
  split-joined [] h = tt
  split-joined (run ∷ runs) h = (all-left (StandsFrom 0 bytes) run (joined runs) h, split-joined runs (all-right (StandsFrom 0 bytes) run (joined runs) h))

  -- all runs of an index stand where its names do
  pub runs-stand : (all : List NamedPlace) (held : List (List NamedPlace)) → IsPermutation all (joined held) → NamesStand bytes all → AllByRecursion (StandFrom 0 bytes) held
  runs-stand all held moved h = split-joined held (all-moved (StandsFrom 0 bytes) all (joined held) moved (stand-from all h))

module _ (at : ℕ) (bytes : List ℕ) (run : List Entry) (others : List (List Entry)) (name : Name) where
  pub first-has : (held : List (List NamedPlace)) (place : ℕ) → AreRuns (run ∷ others) held → AllByRecursion (StandFrom at bytes) held
      → ((h : List NamedPlace) → IsRun run h → StandFrom at bytes h → Finds h name (Some place)) → Finds (joined held) name (Some place)
  first-has [] place r s f = absurd r
  first-has (h ∷ hs) place r s f = in-left _ h (joined hs) (f h r.0 s.0)

  pub others-have : (held : List (List NamedPlace)) (result : Option ℕ) → AreRuns (run ∷ others) held → AllByRecursion (StandFrom at bytes) held
      → ((h : List NamedPlace) → IsRun run h → StandFrom at bytes h → Finds h name None) → ((hs : List (List NamedPlace)) → AreRuns others hs → AllByRecursion (StandFrom at bytes) hs → Finds (joined hs) name result)
      → Finds (joined held) name result
  others-have [] result r s f g = absurd r
  others-have (h ∷ hs) None r s f g = λ i. ⊎_elim (f h r.0 s.0) (g hs r.1 s.1) (name-either name h (joined hs) i)
  others-have (h ∷ hs) (Some place) r s f g = in-right _ h (joined hs) (g hs r.1 s.1)

-- images of named places

pub nil-is : (xs : List NamedPlace) → [] ≡ map entry_of xs → xs ≡ []
nil-is [] e = refl
nil-is (x ∷ xs) e = absurd (no-cons e)
  where
    no-cons : {y : Entry} {ys : List Entry} → [] ≡ y ∷ ys → ⊥
    no-cons e = subst is-nil e tt
      where
        is-nil : List Entry → Type 0
        is-nil [] = Unit {0}
        is-nil (y ∷ ys) = ⊥

-- the first of what an image begins with
pub record Begins (x : Entry) (rest : List Entry) (named : List NamedPlace) : Type 0 where
  pub first : NamedPlace
  pub others : List NamedPlace
  pub is : named ≡ first ∷ others
  pub first_is : x ≡ entry_of first
  pub others_are : rest ≡ map entry_of others

pub begins : (x : Entry) (rest : List Entry) (named : List NamedPlace) → x ∷ rest ≡ map entry_of named → Begins x rest named
begins x rest [] e = absurd (no-cons e)
  where
    is-cons : List Entry → Type 0
    is-cons [] = ⊥
    is-cons (y ∷ ys) = Unit {0}

    no-cons : {y : Entry} {ys : List Entry} → y ∷ ys ≡ [] → ⊥
    no-cons e = subst is-cons e tt
begins x rest (n ∷ ns) e = record { first = n; others = ns; is = refl; first_is = ap (head x) e; others_are = ap tail e }
  where
    head : Entry → List Entry → Entry
    head d [] = d
    head d (y ∷ ys) = y

    tail : List Entry → List Entry
    tail [] = []
    tail (y ∷ ys) = ys

-- the names that are not yet looked for

pub record Looked (at : ℕ) (bytes : List ℕ) (rest : List Entry) (others : List Name) (named : List NamedPlace) : Type 0 where
  pub left : List NamedPlace
  pub rest_of : rest ≡ map entry_of left
  pub stand : StandFrom at bytes left
  pub fewer : HaveCommon (names_in named) others → HaveCommon (names_in left) others
  pub more : HaveCommon (names_in left) others → HaveCommon (names_in named) others

pub found-in : (held : List NamedPlace) (name : Name) (result : Option ℕ) → Finds held name result → is_some result ≡ true → IsIn name (names_in held)
found-in held name None h t = absurd (true≢false (sym t))
found-in held name (Some place) h t = name-of _ held h

pub not-in : (held : List NamedPlace) (name : Name) (result : Option ℕ) → Finds held name result → is_some result ≡ false → IsIn name (names_in held) → ⊥
not-in held name None h t i = h i
not-in held name (Some place) h t i = true≢false t

module _ (at : ℕ) (bytes : List ℕ) (rest others : List Entry) (entry : Entry) (held named : List NamedPlace) (result : Option ℕ) where
  pub looked-found : rest ≡ entry ∷ others → Finds held (name_in bytes at entry.place) result → is_some result ≡ true → Looked at bytes rest (names_in held) named → HaveCommon (names_in named) (names_in held)
  looked-found e f t l =
      let b = begins entry others l.left (sym e ∙ l.rest_of) in
      let stand = subst (StandFrom at bytes) b.is l.stand in
      let name : name_in bytes at entry.place ≡ b.first.name = ap (λ z. name_in bytes at z.place) b.first_is ∙ stand.0.stands in
      l.more (subst (λ x. HaveCommon (names_in x) (names_in held)) (sym b.is) (inl (subst (λ x. IsIn x (names_in held)) name (found-in held _ result f t))))

  pub looked-on : rest ≡ entry ∷ others → Finds held (name_in bytes at entry.place) result → is_some result ≡ false → Looked at bytes rest (names_in held) named → Looked at bytes others (names_in held) named
  looked-on e f t l =
      let b = begins entry others l.left (sym e ∙ l.rest_of) in
      let stand = subst (StandFrom at bytes) b.is l.stand in
      let name : name_in bytes at entry.place ≡ b.first.name = ap (λ z. name_in bytes at z.place) b.first_is ∙ stand.0.stands in
      record {
        left = b.others;
        rest_of = b.others_are;
        stand = stand.1;
        fewer = λ h. ⊎_elim (λ i. absurd (not-in held _ result f t (subst (λ x. IsIn x (names_in held)) (sym name) i))) (λ i. i) (subst (λ x. HaveCommon (names_in x) (names_in held)) b.is (l.fewer h));
        more = λ h. l.more (subst (λ x. HaveCommon (names_in x) (names_in held)) (sym b.is) (inr h));
      }

pub looked-end : (at : ℕ) (bytes : List ℕ) (rest : List Entry) (others : List Name) (named : List NamedPlace) → rest ≡ [] → Looked at bytes rest others named → HaveCommon (names_in named) others → ⊥
looked-end at bytes rest others named e l h = subst (λ x. HaveCommon (names_in x) others) (nil-is l.left (sym e ∙ l.rest_of)) (l.fewer h)
