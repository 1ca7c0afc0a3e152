-- Names by their places.
use Rattle.std.proofs.Common.{◌≡◌, ℕ, zero, suc, ◌+◌, ◌-◌, ◌*◌, ◌/◌, ◌<◌, List, [], ◌∷◌, Some, None, length, take, drop, inl, inr, refl, sym, ap, subst, ◌∙◌, arith}
use Rattle.std.specs.Prelude.{slice_get}
use Rattle.std.proofs.Math.Nat.{mul-div_cancel_left}
use Rattle.std.proofs.lemmas.List.{length-map}
use Rattle.id_groups.specs.Lists.{IsIn}
use Rattle.id_groups.specs.Name.{Name}
use Rattle.commit_graph.specs.World.{Row, names_of}
use Rattle.commit_graph.proofs.Places.{same-row}
use Rattle.name_index.specs.Index.{Finds}
use Rattle.name_index.specs.Named.{NamedPlace, NamesStand}
use Rattle.bundle_codec.specs.Places.{named_from}
use Rattle.bundle_codec.proofs.Indexed.{names-are}
use Rattle.remote_trait.specs.Honest.{IsNamed}
use Rattle.remote_answers.specs.Master.{IsIdIn}
use Rattle.remote_answers.proofs.Walking.{some-at}
use Rattle.remote_bundle.specs.Names.{PlainNames, ArePlaced}

-- a place of one of these names, and its number
pub record IsPlaceOf (at : ℕ) (names : List Name) (place : ℕ) (name : Name) : Type 0 where
  pub number : ℕ
  pub within : number < length names
  pub place_is : place ≡ at + 20 * number
  pub there : slice_get names number ≡ Some name

pub place-of : (at : ℕ) (names : List Name) (place : ℕ) (name : Name) → IsIn (record { place = place; name = name }) (named_from at names) → IsPlaceOf at names place name
place-of at [] place name i = absurd i
place-of at (x ∷ names) place name (inl e) = record {
  number = 0;
  within = omega arith;
  place_is = (let p = ap (λ (z : NamedPlace). z.place) e in omega (arith, p));
  there = ap (λ (z : NamedPlace). Some z.name) (sym e);
}
place-of at (x ∷ names) place name (inr i) =
    let r = place-of (at + 20) names place name i in
    let lt = r.within in
    let p = r.place_is in
    record { number = suc r.number; within = omega (arith, lt); place_is = omega (arith, p); there = r.there }

pub number-back : (at place number : ℕ) → place ≡ at + 20 * number → (place - at) / 20 ≡ number
number-back at place number e = ap (λ n. n / 20) (let z : place - at ≡ 20 * number = omega (arith, e) in z) ∙ mul-div_cancel_left number (let z : 0 < 20 = omega arith in z)

-- the name with this number stands at its place
pub name-stands : (bytes : List ℕ) (at : ℕ) (names : List Name) (number : ℕ) (name : Name) → slice_get names number ≡ Some name → NamesStand bytes (named_from at names) → take 20 (drop (at + 20 * number) bytes) ≡ name
name-stands bytes at [] number name e h = cc
name-stands bytes at (x ∷ names) zero name e h =
    ap (λ n. take 20 (drop n bytes)) (let z : at + 20 * 0 ≡ at = omega arith in z) ∙ h.0.stands ∙ (let z : x ≡ name = cc in z)
name-stands bytes at (x ∷ names) (suc number) name e h =
    ap (λ n. take 20 (drop n bytes)) (let z : at + 20 * suc number ≡ at + 20 + 20 * number = omega arith in z) ∙ name-stands bytes (at + 20) names number name e h.1

pub row-named : (rows : List (Row Name)) (id : ℕ) (name : Name) → slice_get (names_of rows) id ≡ Some name → IsNamed rows id name
row-named [] id name e = cc
row-named (r ∷ rows) zero name e = record { row = r; there = refl; named = (let z : r.name ≡ name = cc in z) }
row-named (r ∷ rows) (suc id) name e = let n = row-named rows id name e in record { row = n.row; there = n.there; named = n.named }

name-get : (rows : List (Row Name)) (id : ℕ) (row : Row Name) → slice_get rows id ≡ Some row → slice_get (names_of rows) id ≡ Some row.name
name-get [] id row e = cc
name-get (r ∷ rows) zero row e = ap (λ (z : Row Name). Some z.name) (same-row r row e)
name-get (r ∷ rows) (suc id) row e = name-get rows id row e

pub rows-named : (rows : List (Row Name)) → length (names_of rows) ≡ length rows
rows-named rows = length-map rows (λ (r : Row Name). r.name)

module _ (n : PlainNames) (rows : List (Row Name)) (h : ArePlaced n (names_of rows)) where
  -- the name at an id's place is its name
  pub named-there : (id : ℕ) → id < length rows → IsNamed rows id (take 20 (drop (n.start + 20 * id) n.bytes))
  named-there id lt =
      let t = some-at rows id lt in
      let e = name-stands n.bytes n.start (names_of rows) id t.0.name (name-get rows id t.0 t.1) h.stand in
      record { row = t.0; there = t.1; named = sym e }

  -- the id by the place that a name was found at
  pub none-found : (name : Name) → Finds (named_from n.start (names_of rows)) name None → IsIdIn rows name None
  none-found name f = λ i. f (subst (IsIn name) (sym (names-are n.start (names_of rows))) i)

  pub id-found : (name : Name) (place : ℕ) → Finds (named_from n.start (names_of rows)) name (Some place) → IsIdIn rows name (Some ((place - n.start) / 20))
  id-found name place i =
      let p = place-of n.start (names_of rows) place name i in
      subst (λ id. IsNamed rows id name) (sym (number-back n.start place p.number p.place_is)) (row-named rows p.number name p.there)

-- there are as many names for whom ever they are
pub same-long : (n : PlainNames) (rows others : List (Row Name)) → ArePlaced n (names_of rows) → ArePlaced n (names_of others) → length rows ≡ length others
same-long n rows others h g =
    let a = h.size in
    let b = g.size in
    let l = rows-named rows in
    let m = rows-named others in
    omega (arith, a, b, l, m)
