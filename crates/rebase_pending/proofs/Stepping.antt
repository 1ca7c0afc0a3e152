-- One step of a rebase's loop, by what the rebase is asked.
use Rattle.std.proofs.Common.{◌≡◌, ◌<◌, ◌≤◌, ◌+◌, ◌^◌, ℕ, zero, suc, ◌⊎◌, List, [], ◌∷◌, ◌++◌, length, take, drop, Option, Some, None, slice_get, get_or, is_some, refl, sym, ap, subst, ◌∙◌, ⊎_elim, arith, true≢false, lit≤}
use Rattle.std.specs.List.{AllByRecursion, AllZip}
use Rattle.std.proofs.lemmas.List.{length-map}
use Rattle.id_groups.specs.Lists.{AreDistinct}
use Rattle.id_groups.specs.Id.{other_id}
use Rattle.batch_codec.specs.Grammar.{count_after}
use Rattle.name_map.specs.Added.{Placed, payloads_of}
use Rattle.payload_tables.specs.declared.base.BaseRef.{BaseRef}
use Rattle.payload_tables.specs.Kept.{PlainTables}
use Rattle.payload_tables.specs.Pending.{HeldRow, PlainPending, HoldsRows, row_names}
use Rattle.payload_tables.specs.Bases.{IsBaseOf, MayView}
use Rattle.payload_tables.proofs.Basing.{base-others}
use Rattle.change_parts.specs.Asked.{others_count, IsFoundIn, MayStore}
use Rattle.rebase_pending.specs.Rebases.{MayRebaseOn}
use Rattle.rebase_pending.specs.Rebasing.{IsMoved, IsRebased, IsNewId, LeftSoFar}
use Rattle.rebase_pending.proofs.LeftSoFar.{found-so-far, kept-so-far, moved-new, row-parents-below, parents-at}

pub split-at : {X : Type 0} (xs : List X) (i : ℕ) (x : X) → slice_get xs i ≡ Some x → xs ≡ take i xs ++ x ∷ drop (suc i) xs
split-at [] i x e = absurd (true≢false (sym (ap is_some e)))
split-at {X} (y ∷ xs) zero x e = ap (λ z. z ∷ xs) (ap some_or e)
  where
    some_or : Option X → X
    some_or None = y
    some_or (Some a) = a
split-at (y ∷ xs) (suc i) x e = ap (λ l. y ∷ l) (split-at xs i x e)

take-snoc : {X : Type 0} (xs : List X) (i : ℕ) (x : X) → slice_get xs i ≡ Some x → take (suc i) xs ≡ take i xs ++ x ∷ []
take-snoc [] i x e = absurd (true≢false (sym (ap is_some e)))
take-snoc {X} (y ∷ xs) zero x e = ap (λ z. z ∷ []) (ap some_or e)
  where
    some_or : Option X → X
    some_or None = y
    some_or (Some a) = a
take-snoc (y ∷ xs) (suc i) x e = ap (λ l. y ∷ l) (take-snoc xs i x e)

take-long : {X : Type 0} (xs : List X) (i : ℕ) (x : X) → slice_get xs i ≡ Some x → length (take i xs) ≡ i
take-long [] i x e = absurd (true≢false (sym (ap is_some e)))
take-long (y ∷ xs) zero x e = refl
take-long (y ∷ xs) (suc i) x e = ap suc (take-long xs i x e)

pub take-next : {X : Type 0} (xs : List X) (i : ℕ) (x : X) → slice_get xs i ≡ Some x → take (i + 1) xs ≡ take i xs ++ x ∷ []
take-next xs i x e = ap (λ n. take n xs) (let z : i + 1 ≡ suc i = omega arith in z) ∙ take-snoc xs i x e

pub under : {X : Type 0} (xs : List X) (i : ℕ) (x : X) → slice_get xs i ≡ Some x → i < length xs
under [] i x e = absurd (true≢false (sym (ap is_some e)))
under (y ∷ xs) zero x e = omega arith
under (y ∷ xs) (suc i) x e = let r = under xs i x e in omega (arith, r)

all-weaker : (P Q : ℕ → Type 0) → ((x : ℕ) → P x → Q x) → (xs : List ℕ) → AllByRecursion P xs → AllByRecursion Q xs
all-weaker P Q f [] h = tt
all-weaker P Q f (x ∷ xs) h = (f x h.0, all-weaker P Q f xs h.1)

zip-found : (added : List Placed) (rows : List HeldRow) (found : List (Option ℕ)) (i : ℕ) (row : HeldRow) (o : Option ℕ) → AllZip (IsFoundIn added) (row_names rows) found → slice_get rows i ≡ Some row → slice_get found i ≡ Some o → IsFoundIn added row.name o
zip-found added [] found i row o h e f = absurd (true≢false (sym (ap is_some e)))
zip-found added (r ∷ rows) [] i row o h e f = absurd h
zip-found added (r ∷ rows) (p ∷ found) zero row o h e f = subst (λ (q : HeldRow). IsFoundIn added q.name o) (ap row_or e) (subst (IsFoundIn added r.name) (ap option_or f) h.0)
  where
    row_or : Option HeldRow → HeldRow
    row_or None = r
    row_or (Some a) = a

    option_or : Option (Option ℕ) → Option ℕ
    option_or None = p
    option_or (Some a) = a
zip-found added (r ∷ rows) (p ∷ found) (suc i) row o h e f = zip-found added rows found i row o h.1 e f

pub zip-long : {X Y : Type 0} (R : X → Y → Type 0) (xs : List X) (ys : List Y) → AllZip R xs ys → length xs ≡ length ys
zip-long R [] [] h = refl
zip-long R [] (y ∷ ys) h = absurd h
zip-long R (x ∷ xs) [] h = absurd h
zip-long R (x ∷ xs) (y ∷ ys) h = ap suc (zip-long R xs ys h.1)

pub found-under : (added : List Placed) (rows : List HeldRow) (found : List (Option ℕ)) (i : ℕ) → AllZip (IsFoundIn added) (row_names rows) found → i < length rows → i < length found
found-under added rows found i h lt = let a = zip-long (IsFoundIn added) (row_names rows) found h in let b = length-map rows (λ (r : HeldRow). r.name) in omega (arith, a, b, lt)

pub get-is : {X : Type 0} (xs : List X) (i : ℕ) (x : X) → i < length xs → x ≡ get_or xs i x → slice_get xs i ≡ Some x
get-is [] i x lt e = absurd (let z : ⊥ = omega (arith, lt) in z)
get-is (y ∷ xs) zero x lt e = ap Some (sym e)
get-is (y ∷ xs) (suc i) x lt e = get-is xs i x (omega (arith, lt)) e

pub no-rows-viewed : (newer : BaseRef) (added : List Placed) (none : PlainPending) → none.first ≡ others_count added → HoldsRows none [] → MayView newer added none
no-rows-viewed newer added none e h = record { rows = []; held = h; first = e; parents = tt }

pub first-left : (added : List Placed) (none : PlainPending) → none.first ≡ others_count added → HoldsRows none [] → LeftSoFar added [] [] none
first-left added none e h = record {
  some = [];
  held = h;
  first = e;
  parents = tt;
  distinct = tt;
  within = λ x i. i;
  fresh = λ x i s. i;
  few = omega arith;
  ids_long = refl;
  ids_new = tt;
}

module _ (tables : PlainTables) (bytes : List ℕ) (base : BaseRef) (pending : PlainPending) (found : List (Option ℕ)) (added before : List Placed) (m : MayRebaseOn tables bytes base pending found added before)
    (newer : BaseRef) (n : IsBaseOf newer added) (i : ℕ) (row : HeldRow) (at : slice_get m.rows i ≡ Some row) (ids : List ℕ) (kept : PlainPending) (l : LeftSoFar added (take i m.rows) ids kept) where
  ids-count : length ids ≡ i
  ids-count = l.ids_long ∙ take-long m.rows i row at

  pub parents-under : AllByRecursion (λ p. p < other_id (pending.first + length ids)) row.parents
  parents-under = let c = ids-count in all-weaker (λ p. p < other_id pending.first + i) (λ p. p < other_id (pending.first + length ids)) (λ x lt. omega (arith, lt, c)) row.parents (row-parents-below (other_id pending.first) 0 m.rows m.held.section.flat i row at).0

  pub parents-few : length row.parents ≤ 8
  parents-few = (row-parents-below (other_id pending.first) 0 m.rows m.held.section.flat i row at).1

  new-of : (moved : List ℕ) → AllZip (IsMoved before added pending.first ids) row.parents moved → (others : ℕ) → AllByRecursion (IsNewId (count_after 0 (payloads_of added)) (others_count added + others)) ids
      → AllByRecursion (IsNewId (count_after 0 (payloads_of added)) (others_count added + others)) moved
  new-of moved z others new = moved-new newer base added before n n.count m.grows pending.first ids others m.first new row.parents moved
      (parents-at (λ (q : HeldRow). AllByRecursion (λ p. (p < base.below) ⊎ (2 ^ 56 ≤ p)) q.parents) m.rows i row m.parents at) parents-under z

  pub moved-few : (moved : List ℕ) → AllZip (IsMoved before added pending.first ids) row.parents moved → length moved ≤ 8
  moved-few moved z = let e = zip-long (IsMoved before added pending.first ids) row.parents moved z in let f = parents-few in omega (arith, e, f)

  pub some-few : length l.some < 16777216
  some-few = let a = l.few in let b = take-long m.rows i row at in let c = under m.rows i row at in let d = m.held.few in omega (arith, a, b, c, d)

  pub moved-under : (moved : List ℕ) → AllZip (IsMoved before added pending.first ids) row.parents moved → (count : ℕ) → count ≡ length l.some → AllByRecursion (λ p. p < other_id (kept.first + count)) moved
  moved-under moved z count many =
      let first = l.first in let small = (base-others newer.bytes.now newer.tables.now newer.others.now newer.below added n).small in let c = n.count in let k : 16777216 ≤ 2 ^ 56 = lit≤ tt in
      all-weaker (IsNewId (count_after 0 (payloads_of added)) (others_count added + length l.some)) (λ p. p < other_id (kept.first + count))
      (λ x h. ⊎_elim (λ a. omega (arith, a, small, c, k)) (λ b. let hi = b.1 in omega (arith, hi, first, many)) h) moved (new-of moved z (length l.some) l.ids_new)

  pub so-far-more : (next : PlainPending) (o : Option ℕ) → slice_get found i ≡ Some o → (id : ℕ) → IsRebased before added pending.first ids o kept next row id → LeftSoFar added (take (i + 1) m.rows) (ids ++ id ∷ []) next
  so-far-more next (Some stored) f id h =
      subst (λ q. LeftSoFar added q (ids ++ id ∷ []) next) (sym (take-next m.rows i row at))
      (subst (λ p. LeftSoFar added (take i m.rows ++ row ∷ []) (ids ++ id ∷ []) p) (sym h.1)
      (found-so-far added (take i m.rows) row ids kept l id (subst (λ n. IsFoundIn added row.name (Some n)) (sym h.0) (zip-found added m.rows found i row (Some stored) m.found_are at f))))
  so-far-more next None f id h =
      subst (λ q. LeftSoFar added q (ids ++ id ∷ []) next) (sym (take-next m.rows i row at))
      (kept-so-far added (take i m.rows) (drop (suc i) m.rows) row ids kept next (subst (λ q. AreDistinct (row_names q)) (split-at m.rows i row at) m.distinct) l id h.0 (zip-found added m.rows found i row None m.found_are at f) h.3 (new-of h.0 h.1))

-- the parents of a row lie below the rows of which something was found
pub parents-found : (tables : PlainTables) (bytes : List ℕ) (base : BaseRef) (pending : PlainPending) (found : List (Option ℕ)) (added before : List Placed) (m : MayRebaseOn tables bytes base pending found added before)
    → (i : ℕ) (row : HeldRow) → slice_get m.rows i ≡ Some row → AllByRecursion (λ p. p < other_id (pending.first + length found)) row.parents
parents-found tables bytes base pending found added before m i row at =
    let lt = found-under added m.rows found i m.found_are (under m.rows i row at) in
    all-weaker (λ p. p < other_id pending.first + i) (λ p. p < other_id (pending.first + length found)) (λ x l. omega (arith, l, lt)) row.parents (row-parents-below (other_id pending.first) 0 m.rows m.held.section.flat i row at).0

pub stored-left : (added : List Placed) (rows : List HeldRow) (ids : List ℕ) (kept : PlainPending) → LeftSoFar added rows ids kept → MayStore kept added
stored-left added rows ids kept l = record { rows = l.some; held = l.held; first = l.first; parents = l.parents; distinct = l.distinct; fresh = l.fresh }
