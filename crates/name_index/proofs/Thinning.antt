-- Names of which some went, the others in their order at other places.
use Rattle.std.proofs.Common.{◌≡◌, ◌∙◌, refl, sym, ap, ap₂, subst, ℕ, zero, suc, ◌<◌, ◌≤◌, ◌+◌, ◌-◌, ◌*◌, length, get_or, List, [], ◌∷◌, ◌++◌, map, take, drop, replicate, Option, Some, None, inl, inr, ⊎_elim, append_assoc, append-nil, length-append, true, false, arith}
use Rattle.std.specs.Prelude.{IfSome}
use Rattle.std.specs.List.{AllByRecursion}
use Rattle.std.specs.Option.{option_to_list}
use Rattle.std.specs.List.Sorted.{IsPermutation}
use Rattle.std.proofs.Math.Seq.{drop-append_seam, take-append_seam}
use Rattle.std.proofs.lemmas.List.{drop-drop, length-drop, length-map, length-take, take-append-drop}
use Rattle.std.proofs.lemmas.List.Sorted.{IsPermutation-refl, IsPermutation-trans, IsPermutation-sym, IsPermutation-cons, IsPermutation-middle, IsPermutation-map, length_permutation}
use Rattle.id_groups.specs.Lists.{IsIn, AreDistinct}
use Rattle.id_groups.specs.Name.{Name}
use Rattle.name_index.specs.declared.entry.Entry.{Entry}
use Rattle.name_index.specs.Filter.{PassAll, lets_pass}
use Rattle.name_index.specs.Moved.{IsMove, AreMoves, AreNumbers, AppendsNumbers, AreThinned, StandsAmong}
use Rattle.name_index.specs.Named.{NamedPlace, StandFrom, StandsFrom, names_in, named_in}
use Rattle.name_index.specs.Runs.{entry_of, front_of, keys_of, sort_key, joined, AreRuns, IsAscending, IsRun}
use Rattle.name_index.proofs.Keys.{less, each-of}
use Rattle.name_index.proofs.Indexes.{begins, nil-is, all-both}
use Rattle.name_index.specs.Index.{IsIndexOf}
use Rattle.name_index.proofs.Moves.{all-moved, distinct-moved, in-moved}

-- what is told of each of the old names

module _ (old new : List ℕ) where
  pub moves-more : (k : ℕ) (moves : List (Option ℕ)) (move : Option ℕ) → AreMoves old new k moves → IsMove old new (k + length moves) move → AreMoves old new k (moves ++ move ∷ [])
  moves-more k [] move h is = (subst (λ n. IsMove old new n move) (omega arith) is, tt)
  moves-more k (m ∷ moves) move h is = (h.0, moves-more (k + 1) moves move h.1 (subst (λ n. IsMove old new n move) (omega arith) is))

  pub move-at : (k : ℕ) (moves : List (Option ℕ)) (i m : ℕ) → AreMoves old new k moves → get_or moves i None ≡ Some m → IsMove old new (k + i) (Some m)
  move-at k [] i m h e = absurd (no-move e)
    where
      no-move : {n : ℕ} → None ≡ Some n → ⊥
      no-move e = subst (λ (o : Option ℕ). is-none o) e tt
        where
          is-none : Option ℕ → Type 0
          is-none None = Unit {0}
          is-none (Some n) = ⊥
  move-at k (x ∷ moves) zero m h e = subst (λ n. IsMove old new n (Some m)) (omega arith) (subst (IsMove old new k) e h.0)
  move-at k (x ∷ moves) (suc i) m h e = subst (λ n. IsMove old new n (Some m)) (omega arith) (move-at (k + 1) moves i m h.1 e)

  -- how far the old names were gone over, and the new ones that were found
  pub record Moving (moves : List (Option ℕ)) (rest left : List ℕ) (number : ℕ) : Type 0 where
    pub are : AreMoves old new 0 moves
    pub rest_is : rest ≡ drop (20 * length moves) old
    pub left_is : left ≡ drop (20 * number) new
    pub fits : 20 * number + length left ≡ length new

  pub moving-start : Moving [] old new 0
  moving-start = record { are = tt; rest_is = refl; left_is = refl; fits = omega arith }

  behind-is : (moves : List (Option ℕ)) (move : Option ℕ) (rest : List ℕ) → rest ≡ drop (20 * length moves) old → drop 20 rest ≡ drop (20 * length (moves ++ move ∷ [])) old
  behind-is moves move rest is =
      let len = length-append moves (move ∷ []) in
      ap (drop 20) is ∙ drop-drop 20 (20 * length moves) old ∙ ap (λ k. drop k old) (omega (arith, len))

  -- the next of the new names isn't this one
  pub moving-gone : (moves : List (Option ℕ)) (rest others left : List ℕ) (number : ℕ) → others ≡ drop 20 rest → Moving moves rest left number → Moving (moves ++ None ∷ []) others left number
  moving-gone moves rest others left number behind m = record {
    are = moves-more 0 moves None m.are tt;
    rest_is = behind ∙ behind-is moves None rest m.rest_is;
    left_is = m.left_is;
    fits = m.fits;
  }

  move-told : (k number : ℕ) (move : Option ℕ) → IfSome move (λ m. m ≡ number) → IsMove old new k (Some number) → IsMove old new k move
  move-told k number None is h = tt
  move-told k number (Some m) is h = subst (λ n. IsMove old new k (Some n)) (sym is) h

  -- the next of the new names is this one
  pub moving-found : (moves : List (Option ℕ)) (rest name others left behind : List ℕ) (number : ℕ) (move : Option ℕ) → name ≡ take 20 rest → length name ≡ 20 → others ≡ drop 20 rest → left ≡ name ++ behind
      → IfSome move (λ m. m ≡ number) → Moving moves rest left number → Moving (moves ++ move ∷ []) others behind (number + 1)
  moving-found moves rest name others left behind number move is len after whole told m =
      let size = ap length whole ∙ length-append name behind in
      let fits = m.fits in
      let left = ap (drop 20) whole ∙ ap (λ n. drop n (name ++ behind)) (sym len) ∙ drop-append_seam name behind in
      let front = ap (take 20) whole ∙ ap (λ n. take n (name ++ behind)) (sym len) ∙ take-append_seam name behind in
      record {
        are = moves-more 0 moves move m.are (subst (λ n. IsMove old new n move) (omega arith) (move-told (length moves) number move told (omega (arith, size, fits, len), ap (take 20) (sym m.left_is) ∙ front ∙ is ∙ ap (take 20) m.rest_is)));
        rest_is = after ∙ behind-is moves move rest m.rest_is;
        left_is = sym left ∙ ap (drop 20) m.left_is ∙ drop-drop 20 (20 * number) new ∙ ap (λ k. drop k new) (omega arith);
        fits = omega (arith, size, fits, len);
      }

  -- so are the names that both begin with
  numbers-found : (told moves : List (Option ℕ)) (rest left names others behind : List ℕ) (number : ℕ) → rest ≡ names ++ others → left ≡ names ++ behind → length names ≡ 20 * length told
      → AreNumbers number told → Moving moves rest left number → Moving (moves ++ told) others behind (number + length told)
  numbers-found [] moves rest left [] others behind number first second len are m =
      let e : number ≡ number + 0 = omega arith in
      subst (λ ms. Moving ms others behind (number + 0)) (sym (append-nil moves)) (subst (Moving moves others behind) e (subst (λ b. Moving moves others b number) second (subst (λ r. Moving moves r left number) first m)))
  numbers-found [] moves rest left (x ∷ names) others behind number first second len are m = absurd (omega (arith, len))
  numbers-found (n ∷ told) moves rest left names others behind number first second len are m =
      let name = take 20 names in
      let names' = drop 20 names in
      let cut : names ≡ name ++ names' = sym (take-append-drop 20 names) in
      let size : length name ≡ 20 = length-take 20 names ∙ omega (arith, len) in
      let size' = length-drop 20 names in
      let rest-is : rest ≡ name ++ (names' ++ others) = first ∙ ap (λ l. l ++ others) cut ∙ append_assoc name names' others in
      let left-is : left ≡ name ++ (names' ++ behind) = second ∙ ap (λ l. l ++ behind) cut ∙ append_assoc name names' behind in
      let front = ap (take 20) rest-is ∙ ap (λ k. take k (name ++ (names' ++ others))) (sym size) ∙ take-append_seam name (names' ++ others) in
      let after = ap (drop 20) rest-is ∙ ap (λ k. drop k (name ++ (names' ++ others))) (sym size) ∙ drop-append_seam name (names' ++ others) in
      let next : number + 1 + length told ≡ number + length (n ∷ told) = omega arith in
      subst (λ ms. Moving ms others behind (number + length (n ∷ told))) (append_assoc moves (n ∷ []) told)
      (subst (Moving ((moves ++ n ∷ []) ++ told) others behind) next
      (numbers-found told (moves ++ n ∷ []) (names' ++ others) (names' ++ behind) names' others behind (number + 1) refl refl (omega (arith, len, size')) are.1
      (moving-found moves rest name (names' ++ others) left (names' ++ behind) number n (sym front) size (sym after) left-is are.0 m)))

  pub moving-same : (moves now : List (Option ℕ)) (rest left names others behind : List ℕ) (number count : ℕ) → rest ≡ names ++ others → left ≡ names ++ behind → length names ≡ 20 * count
      → AppendsNumbers number count moves now → Moving moves rest left number → Moving now others behind (number + count)
  moving-same moves now rest left names others behind number count first second len a m =
      let size = a.count_is in
      subst (λ ms. Moving ms others behind (number + count)) (sym a.appended) (subst (λ k. Moving (moves ++ a.numbers) others behind (number + k)) size
      (numbers-found a.numbers moves rest left names others behind number first second (omega (arith, len, size)) a.are m))

-- numbers that go up by one, and the next

pub all-numbers : (first n : ℕ) (numbers : List (Option ℕ)) (told : Option ℕ) → AreNumbers first numbers → first + length numbers ≡ n → IfSome told (λ m. m ≡ n) → AreNumbers first (numbers ++ told ∷ [])
all-numbers first n [] told are e is = (subst (λ k. IfSome told (λ m. m ≡ k)) (let z : n ≡ first = omega (arith, e) in z) is, tt)
all-numbers first n (x ∷ numbers) told are e is = (are.0, all-numbers (first + 1) n numbers told are.1 (omega (arith, e)) is)

pub none-told : (n first : ℕ) → AreNumbers first (replicate n None)
none-told zero first = tt
none-told (suc n) first = (tt, none-told n (first + 1))

-- fewer names of the same, in the same order

pub thinned-skip : (o : NamedPlace) (old new : List NamedPlace) → AreThinned old new → AreThinned (o ∷ old) new
thinned-skip o old [] h = tt
thinned-skip o old (n ∷ new) h = inr h

thinned-all : (P : List ℕ → Type 0) (old new : List NamedPlace) → AreThinned old new → AllByRecursion P (keys_of old) → AllByRecursion P (keys_of new)
thinned-all P old [] t h = tt
thinned-all P [] (n ∷ new) t h = absurd t
thinned-all P (o ∷ old) (n ∷ new) (inl t) h = (subst (λ name. P (sort_key name)) t.0 h.0, thinned-all P old new t.1 h.1)
thinned-all P (o ∷ old) (n ∷ new) (inr t) h = thinned-all P old (n ∷ new) t h.1

pub thinned-ascends : (old new : List NamedPlace) → AreThinned old new → IsAscending (keys_of old) → IsAscending (keys_of new)
thinned-ascends old [] t up = tt
thinned-ascends [] (n ∷ new) t up = absurd t
thinned-ascends (o ∷ old) (n ∷ new) (inl t) up = (
  subst (λ name. AllByRecursion (λ m. less m (sort_key name) ≡ false) (keys_of new)) t.0 (thinned-all (λ m. less m (sort_key o.name) ≡ false) old new t.1 up.0),
  thinned-ascends old new t.1 up.1,
)
thinned-ascends (o ∷ old) (n ∷ new) (inr t) up = thinned-ascends old (n ∷ new) t up.1

pub thinned-in : (old new : List NamedPlace) (name : Name) → AreThinned old new → IsIn name (names_in new) → IsIn name (names_in old)
thinned-in old [] name t i = absurd i
thinned-in [] (n ∷ new) name t i = absurd t
thinned-in (o ∷ old) (n ∷ new) name (inl t) (inl e) = inl (e ∙ sym t.0)
thinned-in (o ∷ old) (n ∷ new) name (inl t) (inr i) = inr (thinned-in old new name t.1 i)
thinned-in (o ∷ old) (n ∷ new) name (inr t) i = inr (thinned-in old (n ∷ new) name t i)

pub thinned-distinct : (old new : List NamedPlace) → AreThinned old new → AreDistinct (names_in old) → AreDistinct (names_in new)
thinned-distinct old [] t once = tt
thinned-distinct [] (n ∷ new) t once = absurd t
thinned-distinct (o ∷ old) (n ∷ new) (inl t) once = (
  λ i. once.0 (subst (λ name. IsIn name (names_in old)) (sym t.0) (thinned-in old new n.name t.1 i)),
  thinned-distinct old new t.1 once.1,
)
thinned-distinct (o ∷ old) (n ∷ new) (inr t) once = thinned-distinct old (n ∷ new) t once.1

-- as many of the entries were gone over

module _ (from to : ℕ) (old new : List ℕ) (held : List NamedPlace) where
  pub record Thinning (rest out : List Entry) : Type 0 where
    pub left : List NamedPlace
    pub done : List NamedPlace
    pub left_are : rest ≡ map entry_of left
    pub done_are : out ≡ map entry_of done
    pub stand : StandFrom from old left
    pub goes_on : (more : List NamedPlace) → AreThinned left more → AreThinned held (done ++ more)
    pub among : AllByRecursion (StandsAmong to new) done

  pub thin-start : (entries : List Entry) → entries ≡ map entry_of held → StandFrom from old held → Thinning entries []
  thin-start entries are stand = record { left = held; done = []; left_are = are; done_are = refl; stand = stand; goes_on = λ more t. t; among = tt }

  -- the name of an entry went
  pub thin-gone : (x : Entry) (rest others out : List Entry) → rest ≡ x ∷ others → Thinning rest out → Thinning others out
  thin-gone x rest others out e t =
      let b = begins x others t.left (sym e ∙ t.left_are) in
      record {
        left = b.others;
        done = t.done;
        left_are = b.others_are;
        done_are = t.done_are;
        stand = (subst (StandFrom from old) b.is t.stand).1;
        goes_on = λ more h. t.goes_on more (subst (λ l. AreThinned l more) (sym b.is) (thinned-skip b.first b.others more h));
        among = t.among;
      }

  -- an entry gets its new place
  pub thin-kept : (moves : List (Option ℕ)) (x : Entry) (rest others out : List Entry) (k m : ℕ) → AreMoves old new 0 moves → x.place ≡ from + 20 * k → get_or moves k None ≡ Some m
      → rest ≡ x ∷ others → Thinning rest out → Thinning others (out ++ record { front = x.front; place = to + 20 * m } ∷ [])
  thin-kept moves x rest others out k m are at is e t =
      let b = begins x others t.left (sym e ∙ t.left_are) in
      let stand = subst (StandFrom from old) b.is t.stand in
      let move = subst (λ n. IsMove old new n (Some m)) (omega arith) (move-at old new 0 moves k m are is) in
      let place : b.first.place - from ≡ 20 * k = let z = ap (λ (y : Entry). y.place) b.first_is in omega (arith, z, at) in
      let name : take 20 (drop (20 * m) new) ≡ b.first.name = move.1 ∙ ap (λ n. take 20 (drop n old)) (sym place) ∙ stand.0.stands in
      let next : NamedPlace = record { place = to + 20 * m; name = b.first.name } in
      record {
        left = b.others;
        done = t.done ++ next ∷ [];
        left_are = b.others_are;
        done_are = ap₂ (λ (f : Entry) (l : List Entry). l ++ f ∷ []) (ap (λ (y : Entry). record { front = y.front; place = to + 20 * m }) b.first_is) t.done_are ∙ sym (map-one t.done next);
        stand = stand.1;
        goes_on = λ more h. subst (AreThinned held) (sym (append_assoc t.done (next ∷ []) more)) (t.goes_on (next ∷ more) (subst (λ l. AreThinned l (next ∷ more)) (sym b.is) (inl (refl, h))));
        among = all-both (StandsAmong to new) t.done (next ∷ []) t.among (record { number = m; whole = move.0; place = refl; name = sym name }, tt);
      }
    where
      map-one : (ns : List NamedPlace) (n : NamedPlace) → map entry_of (ns ++ n ∷ []) ≡ map entry_of ns ++ entry_of n ∷ []
      map-one [] n = refl
      map-one (x ∷ ns) n = ap (λ (l : List Entry). entry_of x ∷ l) (map-one ns n)

  -- an entry was gone over
  pub thin-turn : (moves : List (Option ℕ)) (x : Entry) (rest others out : List Entry) (moved : Option Entry)
      → IfSome moved (λ e. (k m : ℕ) × (x.place ≡ from + 20 * k) × (get_or moves k None ≡ Some m) × (e ≡ record { front = x.front; place = to + 20 * m }))
      → AreMoves old new 0 moves → rest ≡ x ∷ others → Thinning rest out → Thinning others (out ++ option_to_list moved)
  thin-turn moves x rest others out None is are e t = subst (Thinning others) (sym (append-nil out)) (thin-gone x rest others out e t)
  thin-turn moves x rest others out (Some y) is are e t =
      subst (λ (z : Entry). Thinning others (out ++ z ∷ [])) (sym is.4) (thin-kept moves x rest others out is.0 is.1 are is.2 is.3 e t)

  pub record Thinned (out : List Entry) : Type 0 where
    pub next : List NamedPlace
    pub are : out ≡ map entry_of next
    pub thinned : AreThinned held next
    pub among : AllByRecursion (StandsAmong to new) next

  pub thin-end : (rest out : List Entry) → rest ≡ [] → Thinning rest out → Thinned out
  thin-end rest out e t =
      let none = nil-is t.left (sym e ∙ t.left_are) in
      record {
        next = t.done;
        are = t.done_are;
        thinned = subst (AreThinned held) (append-nil t.done) (t.goes_on [] tt);
        among = t.among;
      }

-- what lets each entry pass lets those pass that are left

pub front-same : (x : Entry) (moved : Option Entry) (from to : ℕ) (moves : List (Option ℕ))
    → IfSome moved (λ e. (k m : ℕ) × (x.place ≡ from + 20 * k) × (get_or moves k None ≡ Some m) × (e ≡ record { front = x.front; place = to + 20 * m }))
    → IfSome moved (λ e. e.front ≡ x.front)
front-same x None from to moves is = tt
front-same x (Some y) from to moves is = ap (λ (z : Entry). z.front) is.4

pub pass-turn : (words : List ℕ) (x : Entry) (rest others out : List Entry) (moved : Option Entry) → IfSome moved (λ e. e.front ≡ x.front) → rest ≡ x ∷ others
    → PassAll words rest × PassAll words out → PassAll words others × PassAll words (out ++ option_to_list moved)
pass-turn words x rest others out None is e h = ((subst (PassAll words) e h.0).1, subst (PassAll words) (sym (append-nil out)) h.1)
pass-turn words x rest others out (Some y) is e h =
    let pass = subst (PassAll words) e h.0 in
    (pass.1, all-both (λ (z : Entry). lets_pass words z.front ≡ true) out (y ∷ []) h.1 (subst (λ f. lets_pass words f ≡ true) (sym is) pass.0, tt))

-- names that stand one behind another

pub among-in : (n at i : ℕ) (bytes : List ℕ) → i < n → IsIn (record { place = at + 20 * i; name = take 20 (drop (20 * i) bytes) }) (named_in n at bytes)
among-in zero at i bytes lt = absurd (omega arith)
among-in (suc n) at zero bytes lt = inl (ap (λ p. record { place = p; name = take 20 bytes }) (omega arith))
among-in (suc n) at (suc i) bytes lt =
    let place : at + 20 + 20 * i ≡ at + 20 * suc i = omega arith in
    let behind : 20 * i + 20 ≡ 20 * suc i = omega arith in
    let name : drop (20 * i) (drop 20 bytes) ≡ drop (20 * suc i) bytes = drop-drop (20 * i) 20 bytes ∙ ap (λ k. drop k bytes) (omega (arith, behind)) in
    inr (subst (λ (z : NamedPlace). IsIn z (named_in n (at + 20) (drop 20 bytes))) (ap₂ (λ p l. record { place = p; name = take 20 l }) place name) (among-in n (at + 20) i (drop 20 bytes) (omega (arith, lt))))

pub stands-in : (n at : ℕ) (bytes : List ℕ) (x : NamedPlace) → length bytes ≡ 20 * n → StandsAmong at bytes x → IsIn x (named_in n at bytes)
stands-in n at bytes x len s =
    subst (λ (z : NamedPlace). IsIn z (named_in n at bytes)) (sym (ap₂ (λ p name. record { place = p; name = name }) s.place s.name))
    (among-in n at s.number bytes (let whole = s.whole in omega (arith, whole, len)))

-- as many of a list, each of them once, are the list in another order

module _ where
  taken-out : (xs : List NamedPlace) (y : NamedPlace) → IsIn y xs → (others : List NamedPlace) × IsPermutation xs (y ∷ others)
  taken-out [] y i = absurd i
  taken-out (x ∷ xs) y (inl e) = (xs, subst (λ z. IsPermutation (x ∷ xs) (z ∷ xs)) (sym e) (IsPermutation-refl (x ∷ xs)))
  taken-out (x ∷ xs) y (inr i) =
      let t = taken-out xs y i in
      (x ∷ t.0, IsPermutation-trans _ _ _ (IsPermutation-cons x _ _ t.1) (IsPermutation-middle (x ∷ []) y t.0))

  still-in : (others : List NamedPlace) (y : NamedPlace) (ys : List NamedPlace) → (IsIn y.name (names_in ys) → ⊥) → ((z : NamedPlace) → IsIn z ys → IsIn z (y ∷ others)) → (z : NamedPlace) → IsIn z ys → IsIn z others
  still-in others y ys once all z i = ⊎_elim (λ e. absurd (once (subst (λ (w : NamedPlace). IsIn w.name (names_in ys)) e (name-in z ys i)))) (λ j. j) (all z i)
    where
      name-in : (n : NamedPlace) (named : List NamedPlace) → IsIn n named → IsIn n.name (names_in named)
      name-in n [] i = absurd i
      name-in n (m ∷ ms) (inl e) = inl (ap (λ z. z.name) e)
      name-in n (m ∷ ms) (inr i) = inr (name-in n ms i)

  pub all-there : (xs ys : List NamedPlace) → length xs ≡ length ys → AreDistinct (names_in ys) → ((y : NamedPlace) → IsIn y ys → IsIn y xs) → IsPermutation xs ys
  all-there [] [] len once in' = IsPermutation-refl []
  all-there (x ∷ xs) [] len once in' = absurd (omega (arith, len))
  all-there xs (y ∷ ys) len once in' =
      let t = taken-out xs y (in' y (inl refl)) in
      let size = length_permutation xs (y ∷ t.0) t.1 in
      let rest = all-there t.0 ys (omega (arith, len, size)) once.1
      (still-in t.0 y ys once.0 (λ z i. in-moved (y ∷ t.0) xs (IsPermutation-sym _ _ t.1) z (in' z (inr i)))) in
      IsPermutation-trans _ _ _ t.1 (IsPermutation-cons y _ _ rest)

-- names that stand one behind another, in bytes that stand where they begin

stand-behind : (n at off : ℕ) (b : List ℕ) → length b ≡ off + 20 * n → StandFrom at b (named_in n (at + off) (drop off b))
stand-behind zero at off b len = tt
stand-behind (suc n) at off b len =
    let place : at + off - at ≡ off = omega arith in
    let next : at + (off + 20) ≡ at + off + 20 = omega arith in
    let rest = stand-behind n at (off + 20) b (omega (arith, len)) in
    let moved = subst (λ (z : List ℕ). StandFrom at b (named_in n (at + (off + 20)) z)) (sym (drop-drop 20 off b)) rest in (
      record {
        behind = omega arith;
        whole = omega (arith, len, length-take {A = ℕ} 20 (drop off b), length-drop {A = ℕ} off b);
        stands = ap (λ (k : ℕ). take 20 (drop k b)) place;
      },
      subst (λ (k : ℕ). StandFrom at b (named_in n k (drop 20 (drop off b)))) next moved,
    )

pub named-stand : (n at : ℕ) (b : List ℕ) → length b ≡ 20 * n → StandFrom at b (named_in n at b)
named-stand n at b len =
    let e : at + 0 ≡ at = omega arith in
    subst (λ (k : ℕ). StandFrom at b (named_in n k b)) e (stand-behind n at 0 b (omega (arith, len)))

pub named-count : (n at : ℕ) (b : List ℕ) → length (named_in n at b) ≡ n
named-count zero at b = refl
named-count (suc n) at b = ap suc (named-count n (at + 20) (drop 20 b))

-- the entries of names that stand one behind another, put at the end one by one

pub list-turn : (entries whole : List Entry) (place : ℕ) (rest name others : List ℕ) (k : ℕ) → 20 ≤ length rest → length rest ≡ 20 * k → name ≡ take 20 rest → others ≡ drop 20 rest
    → entries ++ map entry_of (named_in k place rest) ≡ whole
    → (l : ℕ) × (length others ≡ 20 * l) × ((entries ++ record { front = front_of name; place = place } ∷ []) ++ map entry_of (named_in l (place + 20) others) ≡ whole)
list-turn entries whole place rest name others zero many size is behind e = absurd (omega (arith, many, size))
list-turn entries whole place rest name others (suc k) many size is behind e = (
  k,
  (let len = ap length behind ∙ length-drop 20 rest in omega (arith, len, size)),
  append_assoc entries (record { front = front_of name; place = place } ∷ []) (map entry_of (named_in k (place + 20) others))
      ∙ ap₂ (λ (l m : List ℕ). entries ++ record { front = front_of l; place = place } ∷ map entry_of (named_in k (place + 20) m)) is behind ∙ e,
)

pub list-end : (entries whole : List Entry) (place : ℕ) (rest : List ℕ) (k : ℕ) → length rest < 20 → length rest ≡ 20 * k → entries ++ map entry_of (named_in k place rest) ≡ whole → entries ≡ whole
list-end entries whole place rest zero few size e = sym (append-nil entries) ∙ e
list-end entries whole place rest (suc k) few size e = absurd (omega (arith, few, size))

-- an index whose only run was thinned

one-held : (only : List Entry) (held : List (List NamedPlace)) → AreRuns (only ∷ []) held → (h : List NamedPlace) × (held ≡ h ∷ []) × IsRun only h
one-held only [] h = absurd h
one-held only (g ∷ []) h = (g, refl, h.0)
one-held only (g ∷ f ∷ more) h = absurd h.1

pub thinned-index : (from to : ℕ) (old new : List ℕ) (runs : List (List Entry)) (only run : List Entry) (all : List NamedPlace) (n : ℕ) → runs ≡ only ∷ [] → IsIndexOf runs all → StandFrom from old all
    → length new ≡ 20 * n → length run ≡ n
    → ((held : List NamedPlace) → IsRun only held → StandFrom from old held → (next : List NamedPlace) × IsRun run next × AreThinned held next × AllByRecursion (StandsAmong to new) next)
    → IsIndexOf (run ∷ []) (named_in n to new)
thinned-index from to old new runs only run all n one is stand len many moved =
    let is' = subst (λ r. IsIndexOf r all) one is in
    let h = one-held only is'.held is'.in_order in
    let same : IsPermutation all h.0 = subst (IsPermutation all) (ap joined h.1 ∙ append-nil h.0) is'.same in
    let t = moved h.0 h.2 (all-moved (StandsFrom from old) all h.0 same stand) in
    let once = thinned-distinct h.0 t.0 t.2 (distinct-moved _ _ (IsPermutation-map (λ n. n.name) all h.0 same) is'.distinct) in
    let size = named-count n to new in
    let size' = ap length t.1.entries_of ∙ length-map t.0 entry_of in
    let named = named_in n to new in
    let whole : IsPermutation named t.0 = all-there named t.0 (omega (arith, size, size', many)) once (λ y i. stands-in n to new y len (each-of (StandsAmong to new) t.0 t.3 y i)) in
    record {
      held = t.0 ∷ [];
      in_order = (t.1, tt);
      same = subst (IsPermutation named) (sym (append-nil t.0)) whole;
      distinct = distinct-moved _ _ (IsPermutation-sym _ _ (IsPermutation-map (λ n. n.name) named t.0 whole)) once;
    }
