-- Placing keeps an order one: each commit once, behind its parents.
use Rattle.std.proofs.Common.{◌≡◌, Bool, true, false, ◌⊎◌, inl, inr, List, [], ◌∷◌, ◌++◌, reverse, refl, sym, ap, subst, ◌∙◌, if◌then◌else◌, ⊎_elim, true≢false, append_assoc, append-nil}
use Rattle.std.proofs.lemmas.List.{reverse-append}
use Rattle.id_groups.specs.Lists.{IsIn, is_in, AreAllIn}
use Rattle.id_groups.proofs.Listing.{found, missing}
use Rattle.commit_graph.specs.World.{Row, IsHistory, names_of}
use Rattle.commit_graph.proofs.Histories.{in-append}
use Rattle.commit_graph.proofs.Down.{in-left, in-right}
use Rattle.assign_ids.specs.Placing.{place, place_all}

-- a row that may come behind rows with these names: its name is new, and its parents are among them
pub record MayCome {N : Type 0} (before : List N) (row : Row N) : Type 0 where
  pub fresh : IsIn row.name before → ⊥
  pub known : AreAllIn row.parents before

-- rows newest first, each of which may come behind the older ones
abbrev pub IsDown : {N : Type 0} → List (Row N) → Type 0
IsDown [] = Unit {0}
IsDown (r ∷ older) = MayCome (names_of older) r × IsDown older

pub all-through : {N : Type 0} (xs ys zs : List N) → ((x : N) → IsIn x ys → IsIn x zs) → AreAllIn xs ys → AreAllIn xs zs
all-through [] ys zs f h = tt
all-through (x ∷ xs) ys zs f h = (f x h.0, all-through xs ys zs f h.1)

-- a history read backwards
pub history-down : {N : Type 0} (before : List N) (rows acc : List (Row N)) → ((x : N) → IsIn x before → IsIn x (names_of acc)) → ((x : N) → IsIn x (names_of acc) → IsIn x before)
    → IsDown acc → IsHistory before rows → IsDown (reverse rows ++ acc)
history-down before [] acc f g d h = d
history-down before (r ∷ rows) acc f g d h =
    subst IsDown (sym (append_assoc (reverse rows) (r ∷ []) acc) ∙ ap (λ l. l ++ acc) (sym (reverse-append (r ∷ []) rows)))
    (history-down (before ++ r.name ∷ []) rows (r ∷ acc)
    (λ x i. ⊎_elim (λ j. inr (f x j)) (λ j. ⊎_elim (λ e. inl e) (λ e. absurd e) j) (in-append x before (r.name ∷ []) i))
    (λ x i. ⊎_elim (λ e. in-right x before (r.name ∷ []) (inl e)) (λ j. in-left x before (r.name ∷ []) (g x j)) i)
    (record { fresh = λ i. h.0.fresh (g r.name i); known = all-through r.parents before (names_of acc) f h.0.known }, d)
    h.1)

-- An order, by what the parents of each commit are: each commit is new, and its parents stand before it.
abbrev pub IsOrder : {N : Type 0} → (N → List N) → List N → List N → Type 0
IsOrder par before [] = Unit {0}
IsOrder par before (x ∷ xs) = (IsIn x before → ⊥) × AreAllIn (par x) before × IsOrder par (before ++ x ∷ []) xs

order-snoc : {N : Type 0} (par : N → List N) (before xs : List N) (x : N) → IsOrder par before xs → (IsIn x (before ++ xs) → ⊥) → AreAllIn (par x) (before ++ xs) → IsOrder par before (xs ++ x ∷ [])
order-snoc par before [] x h fresh all = (subst (λ l. IsIn x l → ⊥) (append-nil before) fresh, subst (AreAllIn (par x)) (append-nil before) all, tt)
order-snoc par before (y ∷ xs) x h fresh all =
    let e : before ++ (y ∷ xs) ≡ (before ++ y ∷ []) ++ xs = sym (append_assoc before (y ∷ []) xs) in
    (h.0, h.1, order-snoc par (before ++ y ∷ []) xs x h.2 (subst (λ l. IsIn x l → ⊥) e fresh) (subst (AreAllIn (par x)) e all))

-- the parents of these rows
abbrev pub AreParents : {N : Type 0} → (N → List N) → List (Row N) → Type 0
AreParents par [] = Unit {0}
AreParents par (r ∷ rows) = (par r.name ≡ r.parents) × AreParents par rows

-- what placing makes of an order
pub record IsPlaced {N : Type 0} (par : N → List N) (older : List (Row N)) (order result : List N) : Type 0 where
  pub good : IsOrder par [] result
  pub more : List N
  pub grown : result ≡ order ++ more
  pub from : (y : N) → IsIn y result → IsIn y order ⊎ IsIn y (names_of older)

module _ {N : Type 0} (same : N → N → Bool) (exact : (x y : N) → same x y ≡ true → x ≡ y) (self : (x : N) → same x x ≡ true) (par : N → List N) where
  stays : (older : List (Row N)) (order : List N) → IsOrder par [] order → IsPlaced par older order order
  stays older order h = record { good = h; more = []; grown = sym (append-nil order); from = λ y i. inl i }

  kept : (older : List (Row N)) (order result : List N) → IsPlaced par older order result → (y : N) → IsIn y order → IsIn y result
  kept older order result p y i = subst (IsIn y) (sym p.grown) (in-left y order p.more i)

  onward : (older : List (Row N)) (a b c : List N) → IsPlaced par older a b → IsPlaced par older b c → IsPlaced par older a c
  onward older a b c p q = record {
    good = q.good;
    more = p.more ++ q.more;
    grown = q.grown ∙ ap (λ l. l ++ q.more) p.grown ∙ append_assoc a p.more q.more;
    from = λ y i. ⊎_elim (λ j. p.from y j) (λ j. inr j) (q.from y i);
  }

  -- what placing over one list of rows does
  abbrev Places : List (Row N) → Type 0
  Places older = (order : List N) (x : N) → IsOrder par [] order → IsIn x order ⊎ IsIn x (names_of older) → IsPlaced par older order (place same older order x) × IsIn x (place same older order x)

  pub all-places : (older : List (Row N)) → Places older → (order xs : List N) → IsOrder par [] order → AreAllIn xs (names_of older)
      → IsPlaced par older order (place_all same older order xs) × AreAllIn xs (place_all same older order xs)
  all-places older p order [] h all = (stays older order h, tt)
  all-places older p order (x ∷ xs) h all =
      let one = p order x h (inr all.0) in
      let rest = all-places older p (place same older order x) xs one.0.good all.1 in (
        onward older order (place same older order x) (place_all same older (place same older order x) xs) one.0 rest.0,
        (kept older (place same older order x) (place_all same older (place same older order x) xs) rest.0 x one.1, rest.1),
      )

  widened : (r : Row N) (older : List (Row N)) (order result : List N) → IsPlaced par older order result → IsPlaced par (r ∷ older) order result
  widened r older order result p = record { good = p.good; more = p.more; grown = p.grown; from = λ y i. ⊎_elim (λ j. inl j) (λ j. inr (inr j)) (p.from y i) }

  behind : (r : Row N) (older : List (Row N)) (order result : List N) → MayCome (names_of older) r → par r.name ≡ r.parents → (IsIn r.name order → ⊥)
      → IsPlaced par older order result → AreAllIn r.parents result → IsPlaced par (r ∷ older) order (result ++ r.name ∷ [])
  behind r older order result next e new p all = record {
    good = order-snoc par [] result r.name p.good (λ i. ⊎_elim new next.fresh (p.from r.name i)) (subst (λ l. AreAllIn l result) (sym e) all);
    more = p.more ++ r.name ∷ [];
    grown = ap (λ l. l ++ r.name ∷ []) p.grown ∙ append_assoc order p.more (r.name ∷ []);
    from = λ y i. ⊎_elim (λ j. ⊎_elim (λ k. inl k) (λ k. inr (inr k)) (p.from y j)) (λ j. ⊎_elim (λ k. inr (inl k)) (λ k. absurd k) j) (in-append y result (r.name ∷ []) i);
  }

  pub places : (rows : List (Row N)) → IsDown rows → AreParents par rows → Places rows
  places [] d e order x h i = (stays [] order h, ⊎_elim (λ j. j) (λ j. absurd j) i)
  places (r ∷ older) d e order x h i =
      chosen r older d e order x h i (is_in same x order) refl (same r.name x) refl (places older d.1 e.1)
    where
      chosen : (r : Row N) (older : List (Row N)) → IsDown (r ∷ older) → AreParents par (r ∷ older) → (order : List N) (x : N) → IsOrder par [] order → IsIn x order ⊎ IsIn x (names_of (r ∷ older))
          → (in_order : Bool) → is_in same x order ≡ in_order → (here : Bool) → same r.name x ≡ here → Places older
          → IsPlaced par (r ∷ older) order (if in_order then order else (if here then place_all same older order r.parents ++ x ∷ [] else place same older order x))
          × IsIn x (if in_order then order else (if here then place_all same older order r.parents ++ x ∷ [] else place same older order x))
      chosen r older d e order x h i true f here g rec = (stays (r ∷ older) order h, found same exact self x order f)
      chosen r older d e order x h i false f true g rec =
          let all = all-places older rec order r.parents h d.0.known in
          let name : r.name ≡ x = exact r.name x g in (
            subst (λ z. IsPlaced par (r ∷ older) order (place_all same older order r.parents ++ z ∷ [])) name
                (behind r older order (place_all same older order r.parents) d.0 e.0 (λ j. missing same exact self x order f (subst (λ z. IsIn z order) name j)) all.0 all.1),
            in-right x (place_all same older order r.parents) (x ∷ []) (inl refl),
          )
      chosen r older d e order x h i false f false g rec =
          let p = rec order x h (⊎_elim (λ j. inl j) (λ j. ⊎_elim (λ k. absurd (true≢false (sym (self x) ∙ ap (λ z. same z x) k ∙ g))) (λ k. inr k) j) i) in
          (widened r older order (place same older order x) p.0, p.1)

  -- a commit that is in the order stays where it is
  pub place-there : (rows : List (Row N)) (order : List N) (x : N) → is_in same x order ≡ true → place same rows order x ≡ order
  place-there [] order x h = refl
  place-there (r ∷ older) order x h = ap (λ b. if b then order else (if same r.name x then place_all same older order r.parents ++ x ∷ [] else place same older order x)) h

  -- a newer row doesn't count where an older commit is placed
  older-place : (r : Row N) (older : List (Row N)) → MayCome (names_of older) r → (order : List N) (x : N) → IsIn x (names_of older) → place same (r ∷ older) order x ≡ place same older order x
  older-place r older next order x i = pick (is_in same x order) refl (same r.name x) refl
    where
      pick : (in_order : Bool) → is_in same x order ≡ in_order → (here : Bool) → same r.name x ≡ here
          → (if in_order then order else (if here then place_all same older order r.parents ++ x ∷ [] else place same older order x)) ≡ place same older order x
      pick true f here g = sym (place-there older order x f)
      pick false f true g = absurd (next.fresh (subst (λ z. IsIn z (names_of older)) (sym (exact r.name x g)) i))
      pick false f false g = refl

  pub older-place_all : (r : Row N) (older : List (Row N)) → MayCome (names_of older) r → (order xs : List N) → AreAllIn xs (names_of older) → place_all same (r ∷ older) order xs ≡ place_all same older order xs
  older-place_all r older next order [] h = refl
  older-place_all r older next order (x ∷ xs) h =
      ap (λ o. place_all same (r ∷ older) o xs) (older-place r older next order x h.0) ∙ older-place_all r older next (place same older order x) xs h.1

  row-known : (rows : List (Row N)) → IsDown rows → (row : Row N) → IsIn row rows → IsIn row.name (names_of rows) × AreAllIn row.parents (names_of rows)
  row-known [] d row i = absurd i
  row-known (r ∷ older) d row (inl e) = (inl (ap (λ (z : Row N). z.name) e), subst (λ (z : Row N). AreAllIn z.parents (names_of (r ∷ older))) (sym e) (all-through r.parents (names_of older) (names_of (r ∷ older)) (λ x j. inr j) d.0.known))
  row-known (r ∷ older) d row (inr i) = let k = row-known older d.1 row i in (inr k.0, all-through row.parents (names_of older) (names_of (r ∷ older)) (λ x j. inr j) k.1)

  -- any other goes behind its parents
  pub place-behind : (rows : List (Row N)) → IsDown rows → (row : Row N) → IsIn row rows → (order : List N) → is_in same row.name order ≡ false
      → place same rows order row.name ≡ place_all same rows order row.parents ++ row.name ∷ []
  place-behind [] d row i order h = absurd i
  place-behind (r ∷ older) d row (inl e) order h =
      subst (λ (z : Row N). is_in same z.name order ≡ false → place same (r ∷ older) order z.name ≡ place_all same (r ∷ older) order z.parents ++ z.name ∷ []) (sym e)
      (λ f. ap (λ b. if b then order else (if same r.name r.name then place_all same older order r.parents ++ r.name ∷ [] else place same older order r.name)) f
      ∙ ap (λ b. if b then place_all same older order r.parents ++ r.name ∷ [] else place same older order r.name) (self r.name)
      ∙ ap (λ o. o ++ r.name ∷ []) (sym (older-place_all r older d.0 order r.parents d.0.known))) h
  place-behind (r ∷ older) d row (inr i) order h =
      let k = row-known older d.1 row i in
      older-place r older d.0 order row.name k.0 ∙ place-behind older d.1 row i order h
      ∙ ap (λ o. o ++ row.name ∷ []) (sym (older-place_all r older d.0 order row.parents k.1))
