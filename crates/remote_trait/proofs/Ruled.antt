-- What calls leave and answer, in the words of the rules of remotes.
use Rattle.std.proofs.Common.{◌≡◌, ℕ, zero, suc, ◌+◌, ◌<◌, ◌≤◌, Bool, true, false, inl, inr, List, [], ◌∷◌, Option, Some, None, length, take, refl, sym, ap, subst, ◌∙◌, arith, ⊎_elim, append-nil, is_some, true≢false, if◌then◌else◌}
use Rattle.std.specs.Prelude.{slice_get, reverse}
use Rattle.std.specs.List.{filter_map, cons_option}
use Rattle.std.specs.List.{range_with_len}
use Rattle.std.proofs.lemmas.List.{reverse-reverse}
use Rattle.id_groups.specs.Lists.{IsIn, is_in}
use Rattle.id_groups.specs.Name.{Name, same_name}
use Rattle.id_groups.proofs.Names.{same_name-exact, same_name-self}
use Rattle.id_groups.proofs.Listing.{found, there}
use Rattle.commit_graph.specs.World.{Row, World, names_of}
use Rattle.commit_graph.specs.Graph.{Graph, first_ancestor}
use Rattle.commit_graph.proofs.Leading.{none-after}
use Rattle.commit_graph.proofs.Histories.{in-append}
use Rattle.commit_graph.proofs.Down.{in-reverse, in-down}
use Rattle.remote_rules.specs.Mirror.{Mirror}
use Rattle.remote_rules.specs.Honest.{IsSoundMirror}
use Rattle.remote_rules.specs.CloneData.{CloneData}
use Rattle.remote_rules.specs.Calls.{IsAskedFor, IsCloned, Failing, WhereBoth, MasterGoesOn}
use Rattle.remote_rules.specs.Known.{master_world, line_from}
use Rattle.remote_rules.specs.Serving.{IsServing}
use Rattle.remote_trait.specs.Calls.{Leaves, Refreshes, Fails, ToldSo, AreGrown, raised}
use Rattle.remote_trait.specs.Honest.{AreNamesOf, rows_graph}
use Rattle.remote_trait.specs.Serving.{Serves}

pub tells : {X : Type 0} (P : X → X → Type 0) (a b : Option X) → ToldSo a b P → is_some b ≡ is_some a
tells P None None h = refl
tells P None (Some y) h = absurd h
tells P (Some x) None h = absurd h
tells P (Some x) (Some y) h = refl

pub where-both : (R : ℕ → ℕ → Type 0) (a b : Option ℕ) → ToldSo a b R → WhereBoth R a b
where-both R None None h = tt
where-both R None (Some y) h = tt
where-both R (Some x) None h = tt
where-both R (Some x) (Some y) h = h

fewer-both : (a b : Option ℕ) → ToldSo a b (λ m n. n < m) → WhereBoth (λ before now. now < before) a b
fewer-both a b h = where-both (λ m n. n < m) a b h

-- what is told stays, and so it is sound as before
pub sound-as : (before now : Mirror) → now.master ≡ before.master → now.cloned ≡ before.cloned → IsSoundMirror before → IsSoundMirror now
sound-as before now e f s =
    subst (λ (o : Option (List (Row Name))). IsSoundMirror (record now { master = o })) (sym e)
    (subst (λ (o : Option CloneData). IsSoundMirror (record before { cloned = o })) (sym f) s)

pub asked-for : (count : ℕ) (before now : Mirror) → Leaves (raised count) before now → IsAskedFor count before now
asked-for count before now l = record {
  keeps = record {
    settled = l.settled;
    tells_master = ap is_some l.master;
    tells_clone = ap is_some l.cloned;
    tells_faults = tells (λ m n. n ≤ m) before.to_come now.to_come l.to_come;
    faults = l.faults;
    to_come = where-both (λ m n. n ≤ m) before.to_come now.to_come l.to_come;
    sound = sound-as before now l.master l.cloned;
  };
  master = l.master;
  cloned = l.cloned;
  asked = l.asked;
}

goes-on : (settled : Bool) (before now : Option (List (Row Name))) → ToldSo before now AreGrown → (settled ≡ true → now ≡ before) → MasterGoesOn settled before now
goes-on settled None now h k = tt
goes-on settled (Some rows) None h k = absurd h
goes-on true (Some rows) (Some new) h k = let e : Some new ≡ Some rows = k refl in cc
goes-on false (Some rows) (Some new) h k = (h.more, h.behind)

pub cloned-from : (before now : Mirror) → Refreshes before now → IsCloned before now
cloned-from before now r = record {
  keeps = record {
    settled = r.settled;
    tells_master = tells AreGrown before.master now.master r.master;
    tells_clone = r.cloned;
    tells_faults = tells (λ m n. n ≤ m) before.to_come now.to_come r.to_come;
    faults = r.faults;
    to_come = where-both (λ m n. n ≤ m) before.to_come now.to_come r.to_come;
    sound = r.sound;
  };
  master = goes-on before.settled before.master now.master r.master r.kept;
  asked = r.asked;
}

pub failed-as : (Does : Mirror → Mirror → Type 0) (before now : Mirror) → Does before now → Fails before now → Failing Does before now
failed-as Does before now d f = record { does = d; rose = f.faults; fewer = fewer-both before.to_come now.to_come f.to_come }

-- ---- names along first parents

module _ (g : Graph Name) (x : Name) where
  abbrev ancestor-at : ℕ → Option Name
  ancestor-at n = first_ancestor g n x

  none-on : (room back : ℕ) → ancestor-at back ≡ None → filter_map ancestor-at (range_with_len back room) ≡ []
  none-on zero back e = refl
  none-on (suc room) back e =
      let next : ancestor-at (back + 1) ≡ None = let one : 1 + back ≡ back + 1 = omega arith in subst (λ n. ancestor-at n ≡ None) one (none-after g x 1 back e) in
      ap (λ o. cons_option o (filter_map ancestor-at (range_with_len (back + 1) room))) e ∙ none-on room (back + 1) next

  -- as many as there are and fit
  line : (room back : ℕ) (got : List Name) → length got ≤ room → ((k : ℕ) → k < length got → ancestor-at (back + k) ≡ slice_get got k)
      → (length got < room → ancestor-at (back + length got) ≡ None) → got ≡ filter_map ancestor-at (range_with_len back room)
  line zero back [] le each all = refl
  line zero back (y ∷ got) le each all = absurd (omega (arith, le))
  line (suc room) back [] le each all =
      let here : ancestor-at back ≡ None = let same : back + 0 ≡ back = omega arith in subst (λ n. ancestor-at n ≡ None) same (all (omega arith)) in
      sym (none-on (suc room) back here)
  line (suc room) back (y ∷ got) le each all =
      let here : ancestor-at back ≡ Some y = let same : back + 0 ≡ back = omega arith in subst (λ n. ancestor-at n ≡ Some y) same (each 0 (omega arith)) in
      let rest = line room (back + 1) got (omega (arith, le))
      (λ k lt. let same : back + suc k ≡ back + 1 + k = omega arith in subst (λ n. ancestor-at n ≡ slice_get got k) same (each (suc k) (omega (arith, lt))))
      (λ lt. let same : back + suc (length got) ≡ back + 1 + length got = omega arith in subst (λ n. ancestor-at n ≡ None) same (all (omega (arith, lt)))) in
      ap (λ l. y ∷ l) rest ∙ sym (ap (λ o. cons_option o (filter_map ancestor-at (range_with_len (back + 1) room))) here)

unreversed : (x : Name) (xs : List Name) → IsIn x (reverse xs) → IsIn x xs
unreversed x xs i = subst (IsIn x) (reverse-reverse xs) (in-reverse x (reverse xs) i)

down-named : (rows : List (Row Name)) (x : Name) → IsIn x (rows_graph rows).down → IsIn x (names_of rows)
down-named rows x i = ⊎_elim (λ j. absurd (unreversed x [] j)) (λ j. unreversed x (names_of rows) j) (in-append x (reverse []) (reverse (names_of rows)) i)

named-down : (rows : List (Row Name)) (x : Name) → IsIn x (names_of rows) → IsIn x (rows_graph rows).down
named-down rows x i = in-down same_name (master_world rows) x (subst (λ l. IsIn x (names_of l)) (sym (append-nil rows)) i)

off : (xs : List Name) → (0 < length xs → ⊥) → xs ≡ []
off [] f = refl
off (y ∷ xs) f = absurd (f (omega arith))

pub names-ruled : (rows : List (Row Name)) (x : Name) (back room : ℕ) (got : List Name) → length got ≤ room → AreNamesOf rows x back room got → got ≡ line_from (rows_graph rows) x back room
names-ruled rows x back room got le a = by-test (is_in same_name x (rows_graph rows).down) refl
  where
    by-test : (b : Bool) → is_in same_name x (rows_graph rows).down ≡ b
        → got ≡ (if b then filter_map (λ n. first_ancestor (rows_graph rows) n x) (range_with_len back room) else [])
    by-test true e =
        let i = down-named rows x (found same_name same_name-exact same_name-self x (rows_graph rows).down e) in
        line (rows_graph rows) x room back got le a.each (λ lt. a.all lt i)
    by-test false e = off got (λ lt. true≢false (sym (there same_name same_name-exact same_name-self x (rows_graph rows).down (named-down rows x (a.there lt))) ∙ e))

-- ---- mirrors that serve

taken : (rows : List (Row Name)) (n id : ℕ) (row : Row Name) → id < n → slice_get rows id ≡ Some row → IsIn row (take n rows)
taken [] n id row lt e = cc
taken (r ∷ rows) zero id row lt e = absurd (omega (arith, lt))
taken (r ∷ rows) (suc n) zero row lt e = inl (cc)
taken (r ∷ rows) (suc n) (suc id) row lt e = inr (taken rows n id row (omega (arith, lt)) e)

pub serves-ruled : (cloned : ℕ) (w : World Name) (m : Mirror) → IsServing cloned w m → Serves w.master cloned m
serves-ruled cloned w m s = record { theirs = s.0; told = s.1; master = s.2.world; same = λ id row lt e. s.3 row (taken w.master cloned id row lt e) }
