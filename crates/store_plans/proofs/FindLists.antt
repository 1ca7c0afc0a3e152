-- Names that are looked up in the newest base, from left to right.
use Rattle.std.proofs.Common.{◌≡◌, ◌<◌, ◌≤◌, ◌+◌, ℕ, zero, suc, List, [], ◌∷◌, ◌++◌, length, map, take, drop, get_or, Option, Some, None, Result, Ok, Err, refl, sym, ap, subst, ◌∙◌, arith}
use Rattle.std.specs.Prelude.{IfOk, IsErrAnd, slice_get}
use Rattle.std.specs.List.{AllZip}
use Rattle.std.proofs.Common.{Vec, Global}
use Rattle.std.proofs.lemmas.List.{map-append, take_all, take-append-drop, take-append-le, length-map}
use Rattle.id_groups.specs.Name.{Name}
use Rattle.commit_graph.specs.World.{World}
use Rattle.name_map.specs.Added.{Placed, payloads_of}
use Rattle.payload_tables.specs.Pending.{HeldRow, PlainPending, HoldsRows, row_names}
use Rattle.remote_rules.specs.Mirror.{Mirror}
use Rattle.lazy_names.specs.Cache.{PlainCache}
use Rattle.step_rules.specs.declared.Refusal.{Refusal}
use Rattle.step_rules.specs.declared.Refusal.TheVariants as why
use Rattle.step_rules.specs.Tests.{Test}
use Rattle.store_plans.specs.Looking.{Tried, items_of}
use Rattle.store_plans.specs.Changes.{FindsEach, FindsIt, FindsRows, HaveNames, RowsFound}
use Rattle.store_plans.proofs.Lines.{one-more}
use Rattle.store_plans.proofs.Trials.{tried-memory, tried-none, tried-serves, tried-stop, tried-then}

zip-join : {A B : Type 0} (R : A → B → Type 0) (xs : List A) (ys : List B) (x : A) (y : B) → AllZip R xs ys → R x y → AllZip R (xs ++ x ∷ []) (ys ++ y ∷ [])
zip-join R [] [] x y h r = (r, tt)
zip-join R [] (b ∷ ys) x y h r = absurd h
zip-join R (a ∷ xs) [] x y h r = absurd h
zip-join R (a ∷ xs) (b ∷ ys) x y h r = (h.0, zip-join R xs ys x y h.1 r)

module _ {X : Type 0} (added : List Placed) (w : World Name) (test : Name → Test) (May Is : Name → X → Type 0) where
  pub each-none : (old : List Mirror) (a : PlainCache) (ids : List X) → ids ≡ [] → FindsEach added w test May Is [] old old a a (Ok ids)
  each-none old a ids e = subst (λ (l : List X). FindsEach added w test May Is [] old old a a (Ok l)) (sym e) (record {
    tried = tried-none (payloads_of added) w old a;
    found = tt;
    right = λ s. tt;
  })

  module _ (names : List Name) (i : ℕ) (name : Name) (lt : i < length names) (at : name ≡ get_or names i name) (old mid new : List Mirror) (a b c : PlainCache) (ids : List X)
      (h : FindsEach added w test May Is (take i names) old mid a b (Ok ids)) where
    pub each-more : (id : X) (more : List X) → FindsIt added w test May Is name mid new b c (Ok id) → more ≡ ids ++ id ∷ [] → FindsEach added w test May Is (take (i + 1) names) old new a c (Ok more)
    each-more id more f e = subst (λ (l : List X). FindsEach added w test May Is (take (i + 1) names) old new a c (Ok l)) (sym e)
        (subst (λ (l : List Name). FindsEach added w test May Is l old new a c (Ok (ids ++ id ∷ []))) (sym (one-more names i name lt at)) (record {
          tried = subst (λ t. Tried (payloads_of added) w t old new a c None) (sym (map-append test (take i names) (name ∷ [])))
              (tried-then (payloads_of added) w (map test (take i names)) (test name ∷ []) old mid new a b c None h.tried f.tried);
          found = zip-join May (take i names) ids name id h.found f.found;
          right = λ s. zip-join Is (take i names) ids name id (h.right s) (f.right (tried-serves (payloads_of added) w (map test (take i names)) old mid a b None h.tried s));
        }))

    pub each-refused : (refusal : Refusal) → FindsIt added w test May Is name mid new b c (Err refusal) → FindsEach added w test May Is names old new a c (Err refusal)
    each-refused refusal f = record {
      tried = subst (λ t. Tried (payloads_of added) w t old new a c (Some refusal)) whole
          (tried-stop (payloads_of added) w (map test (take i names) ++ test name ∷ []) (map test (drop (i + 1) names)) old new a c refusal
          (tried-then (payloads_of added) w (map test (take i names)) (test name ∷ []) old mid new a b c (Some refusal) h.tried f.tried));
      found = tt;
      right = λ s. tt;
    }
      where
        whole : (map test (take i names) ++ test name ∷ []) ++ map test (drop (i + 1) names) ≡ map test names
        whole = ap (λ t. t ++ map test (drop (i + 1) names)) (sym (map-append test (take i names) (name ∷ [])))
            ∙ sym (map-append test (take i names ++ name ∷ []) (drop (i + 1) names))
            ∙ ap (map test) (ap (λ l. l ++ drop (i + 1) names) (sym (one-more names i name lt at)) ∙ take-append-drop (i + 1) names)

  -- no memory behind the first names
  pub each-memory : (names : List Name) (n : ℕ) (old mid : List Mirror) (a b : PlainCache) (ids : List X) → FindsEach added w test May Is (take n names) old mid a b (Ok ids)
      → FindsEach added w test May Is names old mid a b (Err why.Memory)
  each-memory names n old mid a b ids h = record {
    tried = subst (λ t. Tried (payloads_of added) w t old mid a b (Some why.Memory)) (sym (map-append test (take n names) (drop n names)) ∙ ap (map test) (take-append-drop n names))
        (tried-then (payloads_of added) w (map test (take n names)) (map test (drop n names)) old mid mid a b b (Some why.Memory) h.tried
        (tried-memory (payloads_of added) w (map test (drop n names)) mid b));
    found = tt;
    right = λ s. tt;
  }

  -- the same where one more was found, and there is no memory to keep it
  pub each-unkept : (names : List Name) (i : ℕ) (name : Name) → i < length names → name ≡ get_or names i name → (old mid new : List Mirror) (a b c : PlainCache) (ids : List X) (id : X)
      → FindsEach added w test May Is (take i names) old mid a b (Ok ids) → FindsIt added w test May Is name mid new b c (Ok id) → FindsEach added w test May Is names old new a c (Err why.Memory)
  each-unkept names i name lt at old mid new a b c ids id h f = each-memory names (i + 1) old new a c (ids ++ id ∷ []) (each-more names i name lt at old mid new a b c ids h id (ids ++ id ∷ []) f refl)

  pub each-whole : (names : List Name) (i : ℕ) → length names ≤ i → (old mid : List Mirror) (a b : PlainCache) (ids : List X) → FindsEach added w test May Is (take i names) old mid a b (Ok ids)
      → FindsEach added w test May Is names old mid a b (Ok ids)
  each-whole names i le old mid a b ids h = subst (λ (l : List Name). FindsEach added w test May Is l old mid a b (Ok ids)) (take_all i names le) h

  pub err-each : (names : List Name) (old new : List Mirror) (a b : PlainCache) (r : Result (Vec X Global) Refusal) (f : Refusal) → IsErrAnd r (λ g. g ≡ f) → FindsEach added w test May Is names old new a b (Err f)
      → FindsEach added w test May Is names old new a b (items_of r)
  err-each names old new a b (Ok v) f h q = absurd h
  err-each names old new a b (Err g) f h q = subst (λ z. FindsEach added w test May Is names old new a b (Err z)) (sym h) q

-- ---- the names of pending rows

-- the name of a pending row
row-at : (rows : List HeldRow) (i : ℕ) (lent : Name) → i < length rows → ((row : HeldRow) → slice_get rows i ≡ Some row → lent ≡ row.name) → (i < length (row_names rows)) × (lent ≡ get_or (row_names rows) i lent)
row-at [] i lent lt h = absurd (omega (arith, lt))
row-at (r ∷ rows) zero lent lt h = ((let l = length-map rows (λ (q : HeldRow). q.name) in omega (arith, l)), h r refl)
row-at (r ∷ rows) (suc i) lent lt h = let q = row-at rows i lent (omega (arith, lt)) h in ((let a = q.0 in omega (arith, a)), q.1)

module _ (pending : PlainPending) (names : List Name) (h : HaveNames pending names) (n : ℕ) (len : (rows : List HeldRow) → HoldsRows pending rows → n ≡ length rows) where
  pub name-there : (i : ℕ) (lent : Name) → i < n → ((rows : List HeldRow) (row : HeldRow) → HoldsRows pending rows → slice_get rows i ≡ Some row → lent ≡ row.name) → (i < length names) × (lent ≡ get_or names i lent)
  name-there i lent lt name =
      subst (λ l. (i < length l) × (lent ≡ get_or l i lent)) h.2
      (row-at h.0 i lent (let e = len h.0 h.1 in omega (arith, lt, e)) (λ row at. name h.0 row h.1 at))

  pub names-over : (i : ℕ) → n ≤ i → length names ≤ i
  names-over i le =
      let e = len h.0 h.1 in
      let a = length-map h.0 (λ (q : HeldRow). q.name) in
      let b = ap (length {A = Name}) h.2 in
      omega (arith, le, e, a, b)

-- ---- what was found

pub each-found : {X : Type 0} (added : List Placed) (w : World Name) (test : Name → Test) (May Is : Name → X → Type 0) (names : List Name) (old new : List Mirror) (a b : PlainCache) (r : Result (Vec X Global) Refusal)
    → FindsEach added w test May Is names old new a b (items_of r) → IfOk r (λ found. AllZip May names found.items)
each-found added w test May Is names old new a b (Ok v) h = h.found
each-found added w test May Is names old new a b (Err f) h = tt

-- what was found of the names of pending rows
pub rows-found : (added : List Placed) (w : World Name) (pending : PlainPending) (old new : List Mirror) (a b : PlainCache) (r : Result (Vec (Option ℕ) Global) Refusal)
    → ((names : List Name) → HaveNames pending names → FindsRows added w names old new a b (items_of r)) → IfOk r (λ found. RowsFound added pending found.items)
rows-found added w pending old new a b (Ok v) h = λ names n. (h names n).found
rows-found added w pending old new a b (Err f) h = tt

pub zip-length : {A B : Type 0} (R : A → B → Type 0) (xs : List A) (ys : List B) → AllZip R xs ys → length ys ≡ length xs
zip-length R [] [] z = refl
zip-length R [] (y ∷ ys) z = absurd z
zip-length R (x ∷ xs) [] z = absurd z
zip-length R (x ∷ xs) (y ∷ ys) z = let n = zip-length R xs ys z.1 in omega (arith, n)

-- a list that is written back into one as long
pub written : {X : Type 0} (n : ℕ) (old new rest : List X) → n ≡ length old → length new ≡ length old → take n (new ++ rest) ≡ new
written n old new rest e f = take-append-le n new rest (omega (arith, e, f)) ∙ take_all n new (omega (arith, e, f))
