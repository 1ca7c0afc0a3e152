-- What an insert makes of an index.
use Rattle.std.proofs.Common.{◌≡◌, ◌∙◌, ◌<◌, ◌≤◌, length, get_or, arith, refl, sym, ap, subst, ℕ, zero, suc, List, [], ◌∷◌, ◌++◌, take, drop, Result, Err, inl, inr, ⊎_elim, append_assoc, append-nil, take-append-drop}
use Rattle.std.specs.List.{AllByRecursion}
use Rattle.std.specs.List.Sorted.{IsPermutation}
use Rattle.std.proofs.lemmas.List.Sorted.{IsPermutation-sym, IsPermutation-map, IsPermutation-trans, IsPermutation-append, IsPermutation-refl}
use Rattle.id_groups.specs.Lists.{IsIn, AreDistinct}
use Rattle.id_groups.specs.Name.{Name}
use Rattle.name_index.specs.declared.entry.Entry.{Entry}
use Rattle.name_index.specs.Index.{IsIndexOf}
use Rattle.name_index.specs.Runs.{IsRun, Holds, AreRuns, joined, HaveCommon}
use Rattle.name_index.proofs.Moves.{all-moved, distinct-moved}
use Rattle.name_index.proofs.Indexes.{name-right, name-either, names-moved, runs-stand, all-right, all-both}
use Rattle.name_index.specs.Named.{NamedPlace, NamesStand, StandFrom, StandsFrom, names_in}

-- names of two lists together

distinct-right : (all new : List NamedPlace) → AreDistinct (names_in (all ++ new)) → AreDistinct (names_in new)
distinct-right [] new h = h
distinct-right (n ∷ ns) new h = distinct-right ns new h.1

distinct-apart : (all new : List NamedPlace) → AreDistinct (names_in (all ++ new)) → (name : Name) → IsIn name (names_in all) → IsIn name (names_in new) → ⊥
distinct-apart [] new h name i j = i
distinct-apart (n ∷ ns) new h name (inl e) j = h.0 (subst (λ z. IsIn z (names_in (ns ++ new))) e (name-right name ns new j))
distinct-apart (n ∷ ns) new h name (inr i) j = distinct-apart ns new h.1 name i j

pub distinct-both : (all new : List NamedPlace) → AreDistinct (names_in all) → AreDistinct (names_in new) → ((name : Name) → IsIn name (names_in all) → IsIn name (names_in new) → ⊥) → AreDistinct (names_in (all ++ new))
distinct-both [] new h g apart = g
distinct-both (n ∷ ns) new h g apart =
    (λ i. ⊎_elim h.0 (apart n.name (inl refl)) (name-either n.name ns new i), distinct-both ns new h.1 g (λ name i j. apart name (inr i) j))

common-of : (xs ys : List Name) → HaveCommon xs ys → (name : Name) × IsIn name xs × IsIn name ys
common-of [] ys h = absurd h
common-of (x ∷ xs) ys (inl i) = (x, inl refl, i)
common-of (x ∷ xs) ys (inr h) = let c = common-of xs ys h in (c.0, inr c.1, c.2)

common-by : (xs ys : List Name) (name : Name) → IsIn name xs → IsIn name ys → HaveCommon xs ys
common-by [] ys name i j = absurd i
common-by (x ∷ xs) ys name (inl e) j = inl (subst (λ z. IsIn z ys) e j)
common-by (x ∷ xs) ys name (inr i) j = inr (common-by xs ys name i j)

pub names-back : (xs ys : List NamedPlace) → IsPermutation xs ys → (name : Name) → IsIn name (names_in ys) → IsIn name (names_in xs)
names-back xs ys moved name i = names-moved ys xs (IsPermutation-sym xs ys moved) name i

pub stands-held : (at : ℕ) (bytes : List ℕ) (run : List Entry) (new : List NamedPlace) (holds : Holds run new) → StandFrom at bytes new → StandFrom at bytes holds.held
stands-held at bytes run new holds h = all-moved (StandsFrom at bytes) new holds.held holds.same h

-- a name that stands twice among the new ones
pub double-new : (run : List Entry) (all new : List NamedPlace) (holds : Holds run new) → (AreDistinct (names_in holds.held) → ⊥) → AreDistinct (names_in (all ++ new)) → ⊥
double-new run all new holds twice h = twice (distinct-moved _ _ (IsPermutation-map (λ n. n.name) new holds.held holds.same) (distinct-right all new h))

-- a new name that is held already
pub double-old : (run : List Entry) (all new : List NamedPlace) (held : List (List NamedPlace)) (holds : Holds run new) → IsPermutation all (joined held)
    → HaveCommon (names_in holds.held) (names_in (joined held)) → AreDistinct (names_in (all ++ new)) → ⊥
double-old run all new held holds moved common h =
    let c = common-of _ _ common in
    distinct-apart all new h c.0 (names-back all (joined held) moved c.0 c.2) (names-back new holds.held holds.same c.0 c.1)

pub distinct-now : (run : List Entry) (all new : List NamedPlace) (held : List (List NamedPlace)) (holds : Holds run new) → IsPermutation all (joined held) → AreDistinct (names_in all)
    → AreDistinct (names_in holds.held) → (HaveCommon (names_in holds.held) (names_in (joined held)) → ⊥) → AreDistinct (names_in (all ++ new))
distinct-now run all new held holds moved h once apart =
    let news = distinct-moved _ _ (IsPermutation-sym _ _ (IsPermutation-map (λ n. n.name) new holds.held holds.same)) once in
    distinct-both all new h news (λ name i j. apart (common-by _ _ name (names-moved new holds.held holds.same name j) (names-moved all (joined held) moved name i)))

-- one run of names that are distinct is an index
pub one-run : (run : List Entry) (new : List NamedPlace) (holds : Holds run new) → AreDistinct (names_in holds.held) → IsIndexOf (run ∷ []) new
one-run run new holds once = record {
  held = holds.held ∷ [];
  in_order = (holds.run, tt);
  same = subst (λ l. IsPermutation new l) (sym (append-nil holds.held)) holds.same;
  distinct = distinct-moved _ _ (IsPermutation-sym _ _ (IsPermutation-map (λ n. n.name) new holds.held holds.same)) once;
}

-- parts of runs

runs-take : (k : ℕ) (runs : List (List Entry)) (held : List (List NamedPlace)) → AreRuns runs held → AreRuns (take k runs) (take k held)
runs-take zero runs held h = tt
runs-take (suc k) [] [] h = tt
runs-take (suc k) [] (g ∷ gs) h = absurd h
runs-take (suc k) (r ∷ rs) [] h = absurd h
runs-take (suc k) (r ∷ rs) (g ∷ gs) h = (h.0, runs-take k rs gs h.1)

pub runs-drop : (k : ℕ) (runs : List (List Entry)) (held : List (List NamedPlace)) → AreRuns runs held → AreRuns (drop k runs) (drop k held)
runs-drop zero runs held h = h
runs-drop (suc k) [] [] h = tt
runs-drop (suc k) [] (g ∷ gs) h = absurd h
runs-drop (suc k) (r ∷ rs) [] h = absurd h
runs-drop (suc k) (r ∷ rs) (g ∷ gs) h = runs-drop k rs gs h.1

pub runs-push : (runs : List (List Entry)) (held : List (List NamedPlace)) (run : List Entry) (named : List NamedPlace) → AreRuns runs held → IsRun run named → AreRuns (runs ++ run ∷ []) (held ++ named ∷ [])
runs-push [] [] run named h r = (r, tt)
runs-push [] (g ∷ gs) run named h r = absurd h
runs-push (s ∷ ss) [] run named h r = absurd h
runs-push (s ∷ ss) (g ∷ gs) run named h r = (h.0, runs-push ss gs run named h.1 r)

pub joined-append : (xs ys : List (List NamedPlace)) → joined (xs ++ ys) ≡ joined xs ++ joined ys
joined-append [] ys = refl
joined-append (x ∷ xs) ys = ap (λ l. x ++ l) (joined-append xs ys) ∙ sym (append_assoc x (joined xs) (joined ys))

pub joined-stands : (at : ℕ) (bytes : List ℕ) (held : List (List NamedPlace)) → AllByRecursion (StandFrom at bytes) held → StandFrom at bytes (joined held)
joined-stands at bytes [] h = tt
joined-stands at bytes (run ∷ runs) h = all-both (StandsFrom at bytes) run (joined runs) h.0 (joined-stands at bytes runs h.1)

-- runs that are merged to one
pub merged-all : (at : ℕ) (bytes : List ℕ) (run : List Entry) (others : List (List Entry)) (later merged : List Entry)
    → ((held : List (List NamedPlace)) → AreRuns others held → AllByRecursion (StandFrom at bytes) held → Holds later (joined held))
    → ((c d : List NamedPlace) → IsRun run c → IsRun later d → StandFrom at bytes c → StandFrom at bytes d → Holds merged (c ++ d))
    → (held : List (List NamedPlace)) → AreRuns (run ∷ others) held → AllByRecursion (StandFrom at bytes) held → Holds merged (joined held)
merged-all at bytes run others later merged rest both [] r s = absurd r
merged-all at bytes run others later merged rest both (h ∷ hs) r s =
    let behind = rest hs r.1 s.1 in
    let whole = both h behind.held r.0 behind.run s.0 (stands-held at bytes later (joined hs) behind (joined-stands at bytes hs s.1)) in
    record {
      held = whole.held;
      run = whole.run;
      same = IsPermutation-trans _ _ _ (IsPermutation-append h h (joined hs) behind.held (IsPermutation-refl h) behind.same) whole.same;
    }

-- one run holds what the runs hold that it is all of
pub only-holds : (run : List Entry) (held : List (List NamedPlace)) → AreRuns (run ∷ []) held → Holds run (joined held)
only-holds run [] r = absurd r
only-holds run (h ∷ []) r = record { held = h; run = r.0; same = subst (λ l. IsPermutation l h) (sym (append-nil h)) (IsPermutation-refl h) }
only-holds run (h ∷ g ∷ gs) r = absurd r.1

pub only-of : (runs : List (List Entry)) (only : List Entry) → 1 ≤ length runs → length runs < 2 → only ≡ get_or runs 0 only → runs ≡ only ∷ []
only-of [] only some few e = absurd (omega (arith, some))
only-of (run ∷ []) only some few e = ap (λ r. r ∷ []) (sym e)
only-of (run ∷ next ∷ rest) only some few e = absurd (omega (arith, few))

-- the runs behind some, and a new one, that are merged to one
module _ (at : ℕ) (bytes : List ℕ) (at' : ℕ) (bytes' : List ℕ) (due run merged : List Entry) (held : List (List NamedPlace)) (named : List NamedPlace) where
  pub merged-last : Holds due (joined held) → Holds run named → AllByRecursion (StandFrom at bytes) held → StandFrom at' bytes' named
      → ((c d : List NamedPlace) → IsRun due c → IsRun run d → StandFrom at bytes c → StandFrom at' bytes' d → Holds merged (c ++ d)) → Holds merged (joined held ++ named)
  merged-last old holds stand stands both =
      let last = both old.held holds.held old.run holds.run (stands-held at bytes due (joined held) old (joined-stands at bytes held stand)) (stands-held at' bytes' run named holds stands) in
      record {
        held = last.held;
        run = last.run;
        same = IsPermutation-trans _ _ _ (IsPermutation-append (joined held) old.held named holds.held old.same holds.same) last.same;
      }

-- the index with one run in place of those behind the first `kept`, which holds what they do and the new names
pub put-behind : (runs : List (List Entry)) (kept : ℕ) (merged : List Entry) (all new : List NamedPlace) (is : IsIndexOf runs all) → Holds merged (joined (drop kept is.held) ++ new)
    → (AreDistinct (names_in (joined is.held)) → AreDistinct (names_in (joined is.held ++ new))) → IsIndexOf (take kept runs ++ merged ∷ []) (all ++ new)
put-behind runs kept merged all new is last distinct =
    let front = take kept is.held in
    let back = drop kept is.held in
    let split : joined is.held ≡ joined front ++ joined back = ap joined (sym (take-append-drop kept is.held)) ∙ joined-append front back in
    let one = IsPermutation-append all (joined is.held) new new is.same (IsPermutation-refl new) in
    let two = subst (λ l. IsPermutation (all ++ new) l) (ap (λ l. l ++ new) split ∙ append_assoc (joined front) (joined back) new) one in
    let three = IsPermutation-trans _ _ _ two (IsPermutation-append (joined front) (joined front) (joined back ++ new) last.held (IsPermutation-refl (joined front)) last.same) in
    let once = distinct (distinct-moved _ _ (IsPermutation-map (λ n. n.name) all (joined is.held) is.same) is.distinct) in
    record {
      held = front ++ last.held ∷ [];
      in_order = runs-push (take kept runs) front merged last.held (runs-take kept runs is.held is.in_order) last.run;
      same = subst (λ l. IsPermutation (all ++ new) l) (sym (joined-append front (last.held ∷ []) ∙ ap (λ l. joined front ++ l) (append-nil last.held))) three;
      distinct = distinct-moved _ _ (IsPermutation-sym _ _ (IsPermutation-map (λ n. n.name) (all ++ new) (joined is.held ++ new) one)) once;
    }

-- the index behind an insert
module _ (bytes : List ℕ) (at : ℕ) (added : List ℕ) (runs : List (List Entry)) (kept : ℕ) (run merged : List Entry) (all new : List NamedPlace) where
  pub inserted : (is : IsIndexOf runs all) → NamesStand bytes all → StandFrom at added new → Holds run new → (AreDistinct (names_in (joined is.held)) → AreDistinct (names_in (joined is.held ++ new)))
      → ((held : List (List NamedPlace)) (named : List NamedPlace) → AreRuns (drop kept runs) held → AllByRecursion (StandFrom 0 bytes) held → Holds run named → StandFrom at added named → Holds merged (joined held ++ named))
      → IsIndexOf (take kept runs ++ merged ∷ []) (all ++ new)
  inserted is stand stands holds distinct both =
      let back = drop kept is.held in
      let held = runs-stand bytes all is.held is.same stand in
      let stand_back = all-right (StandFrom 0 bytes) (take kept is.held) back (subst (AllByRecursion (StandFrom 0 bytes)) (sym (take-append-drop kept is.held)) held) in
      put-behind runs kept merged all new is (both back new (runs-drop kept runs is.held is.in_order) stand_back holds stands) distinct

-- names of an index and new ones that are distinct

pub held-distinct : (all held : List NamedPlace) → IsPermutation all held → AreDistinct (names_in all) → AreDistinct (names_in held)
held-distinct all held same h = distinct-moved _ _ (IsPermutation-map (λ n. n.name) all held same) h

pub distinct-there : (all new held : List NamedPlace) → IsPermutation all held → AreDistinct (names_in (all ++ new)) → AreDistinct (names_in (held ++ new))
distinct-there all new held same h = held-distinct (all ++ new) (held ++ new) (IsPermutation-append all held new new same (IsPermutation-refl new)) h

pub distinct-whole : (all new held : List NamedPlace) → IsPermutation all held → AreDistinct (names_in (held ++ new)) → AreDistinct (names_in (all ++ new))
distinct-whole all new held same h = distinct-there held new all (IsPermutation-sym all held same) h

-- names of an index and new ones that aren't distinct
pub double-all : (all new : List NamedPlace) (held : List NamedPlace) → IsPermutation all held → (AreDistinct (names_in (held ++ new)) → ⊥) → AreDistinct (names_in (all ++ new)) → ⊥
double-all all new held same double distinct =
    double (distinct-there all new held same distinct)

pub same-fault : {T E : Type 0} (r : Result T E) (x y z : E) → r ≡ Err x → x ≡ y → r ≡ Err z → y ≡ z
same-fault r x y z is same goal = let e : x ≡ z = cc (sym is ∙ goal) in sym same ∙ e
