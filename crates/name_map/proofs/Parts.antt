-- The parts of payloads that were added, and the search among them.
use Rattle.std.proofs.Common.{◌≡◌, ◌<◌, ◌≤◌, ◌+◌, ℕ, zero, suc, Bool, true, false, List, [], ◌∷◌, ◌++◌, map, length, get_or, filter, refl, sym, ap, ◌∙◌, subst, inl, inr, arith, zero-le, suc-le-suc, le_of_suc-le-suc}
use Rattle.std.specs.Prelude.{nat_le, nat_lt}
use Rattle.std.specs.List.{AllWithin}
use Rattle.std.specs.List.Sorted.{IsPartitionedBy, IsNonDecreasingBy}
use Rattle.std.proofs.lemmas.Bool.{leb-true, leb-false, lt-ltb, le-ltb}
use Rattle.std.proofs.lemmas.List.{length-append}
use Rattle.std.proofs.lemmas.List.Sorted.{IsPartitionedBy-leb}
use Rattle.std.proofs.lemmas.List.Elements.{filter-append}
use Rattle.id_groups.specs.Lists.{IsIn}
use Rattle.batch_codec.specs.Payload.{Known}
use Rattle.name_map.specs.Part.{PlainPart, count_below}
use Rattle.name_map.specs.Added.{Placed, known_of, FollowInLog}
use Rattle.name_map.specs.Map.{part_of, parts_of, count_known}
use Rattle.name_map.specs.Found.{BeginAbove, IsPartFor}
use Rattle.name_map.proofs.Orders.{known-split, front-below, behind-above, follow-behind}

-- the parts begin in ascending order
begin-from : (count rank : ℕ) (added : List Placed) (j : ℕ) (d : PlainPart) → FollowInLog count added → j < length (parts_of rank added) → count ≤ (get_or (parts_of rank added) j d).first
begin-from count rank [] j d h lt = absurd (omega (arith, lt))
begin-from count rank (a ∷ added) zero d h lt = let e = h.1 in omega (arith, e)
begin-from count rank (a ∷ added) (suc j) d h lt =
    let e = h.1 in let up = h.0.counts.grows in
    omega (arith, e, up, begin-from a.payload.after (rank + length a.payload.known) added j d h.2 (le_of_suc-le-suc lt))

rise : (count rank : ℕ) (added : List Placed) → FollowInLog count added → IsNonDecreasingBy (λ (p : PlainPart). p.first) (parts_of rank added)
rise count rank [] h i j d le lt = absurd (omega (arith, lt))
rise count rank (a ∷ added) h zero zero d le lt = omega arith
rise count rank (a ∷ added) h zero (suc j) d le lt =
    let e = h.1 in let up = h.0.counts.grows in
    omega (arith, e, up, begin-from a.payload.after (rank + length a.payload.known) added j d h.2 (le_of_suc-le-suc lt))
rise count rank (a ∷ added) h (suc i) zero d le lt = absurd (omega (arith, le))
rise count rank (a ∷ added) h (suc i) (suc j) d le lt = rise a.payload.after (rank + length a.payload.known) added h.2 i j d (le_of_suc-le-suc le) (le_of_suc-le-suc lt)

pub parts-parted : (number count rank : ℕ) (added : List Placed) → FollowInLog count added → IsPartitionedBy (λ (p : PlainPart). nat_le p.first number) (parts_of rank added)
parts-parted number count rank added h = IsPartitionedBy-leb (λ (p : PlainPart). p.first) (parts_of rank added) number (rise count rank added h)

-- where no part begins at the number or below it
pub none-begins : (number rank : ℕ) (added : List Placed) → AllWithin (λ (p : PlainPart). nat_le p.first number ≡ false) (parts_of rank added) 0 (length (parts_of rank added)) → BeginAbove number added
none-begins number rank [] h = tt
none-begins number rank (a ∷ added) h =
    (leb-false _ _ (h 0 (part_of rank a) zero-le (omega arith)), none-begins number (rank + length a.payload.known) added (λ k d le lt. h (suc k) d zero-le (suc-le-suc lt)))

-- the part at an index, the parts before it having so many known ids and those before these
record PartAt (rank : ℕ) (added : List Placed) (number : ℕ) (part : PlainPart) : Type 0 where
  pub front : List Placed
  pub here : Placed
  pub behind : List Placed
  pub whole : added ≡ front ++ here ∷ behind
  pub is : part ≡ part_of (rank + length (known_of front)) here
  pub begins : here.payload.before ≤ number
  pub above : BeginAbove number behind

at-part : (number m rank : ℕ) (added : List Placed) (d : PlainPart) → m < length (parts_of rank added)
    → AllWithin (λ (p : PlainPart). nat_le p.first number ≡ true) (parts_of rank added) 0 (suc m)
    → AllWithin (λ (p : PlainPart). nat_le p.first number ≡ false) (parts_of rank added) (suc m) (length (parts_of rank added))
    → PartAt rank added number (get_or (parts_of rank added) m d)
at-part number m rank [] d lt low high = absurd (omega (arith, lt))
at-part number zero rank (a ∷ added) d lt low high = record {
  front = [];
  here = a;
  behind = added;
  whole = refl;
  is = ap (λ (n : ℕ). part_of n a) (omega arith);
  begins = leb-true _ _ (low 0 d zero-le (omega arith));
  above = none-begins number (rank + length a.payload.known) added (λ k e le l. high (suc k) e (suc-le-suc le) (suc-le-suc l));
}
at-part number (suc m) rank (a ∷ added) d lt low high =
    let r = at-part number m (rank + length a.payload.known) added d (le_of_suc-le-suc lt) (λ k e le l. low (suc k) e zero-le (suc-le-suc l)) (λ k e le l. high (suc k) e (suc-le-suc le) (suc-le-suc l)) in
    record {
      front = a ∷ r.front;
      here = r.here;
      behind = r.behind;
      whole = ap (λ (z : List Placed). a ∷ z) r.whole;
      is = r.is ∙ ap (λ (n : ℕ). part_of n r.here) (omega (arith, length-append a.payload.known (known_of r.front)));
      begins = r.begins;
      above = r.above;
    }

pub found-part : (number m : ℕ) (added : List Placed) (d : PlainPart) → m < length (parts_of 0 added)
    → AllWithin (λ (p : PlainPart). nat_le p.first number ≡ true) (parts_of 0 added) 0 (suc m)
    → AllWithin (λ (p : PlainPart). nat_le p.first number ≡ false) (parts_of 0 added) (suc m) (length (parts_of 0 added))
    → IsPartFor added number (get_or (parts_of 0 added) m d)
found-part number m added d lt low high =
    let r = at-part number m 0 added d lt low high in
    record {
      front = r.front;
      here = r.here;
      behind = r.behind;
      whole = r.whole;
      is = r.is ∙ ap (λ (n : ℕ). part_of n r.here) (omega arith);
      begins = r.begins;
      above = r.above;
    }

-- ---- counts

count-all : (below : ℕ) (known : List Known) → ((k : Known) → IsIn k known → k.id < below) → count_known below known ≡ length known
count-all below [] h = refl
count-all below (k ∷ known) h = rw (lt-ltb k.id below (h k (inl refl))) (ap suc (count-all below known (λ x i. h x (inr i))))

count-none : (below : ℕ) (known : List Known) → ((k : Known) → IsIn k known → below ≤ k.id) → count_known below known ≡ 0
count-none below [] h = refl
count-none below (k ∷ known) h = rw (le-ltb k.id below (h k (inl refl))) (count-none below known (λ x i. h x (inr i)))

count-ids : (below : ℕ) (known : List Known) → count_known below known ≡ count_below below (map (λ k. k.id) known)
count-ids below [] = refl
count-ids below (k ∷ known) = by-case (nat_lt k.id below) refl (count-ids below known)
  where
    by-case : (b : Bool) → nat_lt k.id below ≡ b → count_known below known ≡ count_below below (map (λ x. x.id) known) → count_known below (k ∷ known) ≡ count_below below (map (λ x. x.id) (k ∷ known))
    by-case true e h = rw e (ap suc h)
    by-case false e h = rw e h

count-append : (below : ℕ) (xs ys : List Known) → count_known below (xs ++ ys) ≡ count_known below xs + count_known below ys
count-append below xs ys =
    let p = λ (k : Known). nat_lt k.id below in
    ap (length {A = Known}) (filter-append p xs ys) ∙ length-append (filter p xs) (filter p ys)

pub count-above : (below : ℕ) (added : List Placed) → FollowInLog 0 added → BeginAbove below added → 0 ≡ count_known below (known_of added)
count-above below added h above = sym (count-none below (known_of added) (λ k i. let up = behind-above 0 below added h above k i in omega (arith, up)))

pub count-for : (below : ℕ) (added : List Placed) (part : PlainPart) (n : ℕ) → FollowInLog 0 added → IsPartFor added below part → n ≡ part.rank + count_below below part.ids → n ≡ count_known below (known_of added)
count-for below added part n h f e =
    let g = subst (λ (z : List Placed). FollowInLog 0 z) f.whole h in
    let low = f.begins in
    let front = count-all below (known_of f.front) (λ k i. let small = front-below 0 f.front f.here f.behind g k i in omega (arith, small, low)) in
    let behind = count-none below (known_of f.behind) (λ k i. let up = behind-above f.here.payload.after below f.behind (follow-behind 0 f.front f.here f.behind g) f.above k i in omega (arith, up)) in
    let split = ap (λ (z : List Placed). count_known below (known_of z)) f.whole ∙ ap (count_known below) (known-split f.front f.here f.behind) in
    let parts = count-append below (known_of f.front) (f.here.payload.known ++ known_of f.behind) in
    let rest = count-append below f.here.payload.known (known_of f.behind) in
    let same = e ∙ ap (λ (p : PlainPart). p.rank + count_below below p.ids) f.is in
    omega (arith, front, behind, split, parts, rest, same, count-ids below f.here.payload.known)
