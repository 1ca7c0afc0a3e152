-- A loop over names that are sought in an index, and the faults that are handed on.
use Rattle.std.proofs.Common.{◌≡◌, ◌<◌, ◌≤◌, ◌+◌, ℕ, zero, suc, true, false, List, [], ◌∷◌, length, get_or, slice_get, Option, Some, None, Ok, Err, refl, sym, ap, ◌∙◌, subst, inl, inr, ⊎_elim, arith, true≢false}
use Rattle.std.specs.declared.result.Result.{Result}
use Rattle.std.specs.Option.{is_some}
use Rattle.std.specs.Result.{IsErrAnd}
use Rattle.std.proofs.lemmas.Bool.{cases_lt}
use Rattle.segment_codec.proofs.Numbers.{some_is}
use Rattle.id_groups.specs.Lists.{IsIn}
use Rattle.id_groups.specs.Name.{Name}
use Rattle.name_index.specs.declared.index.IndexFault.{IndexFault}
use Rattle.name_index.specs.declared.index.IndexFault.TheVariants.{Double as IndexDouble, Memory as IndexMemory}
use Rattle.name_index.specs.Index.{NamedPlace, Finds, names_in}
use Rattle.name_map.specs.declared.fault.MapFault.{MapFault}
use Rattle.name_map.specs.declared.fault.MapFault.TheVariants.{Double}
use Rattle.name_map.specs.Adding.{Meet, fault_of}
use Rattle.name_map.proofs.Lists.{in-map}

get-in : (xs : List Name) (i : ℕ) (x : Name) → slice_get xs i ≡ Some x → IsIn x xs
get-in [] i x e = absurd (cc e)
get-in (y ∷ xs) zero x e = inl (sym (some_is y x e))
get-in (y ∷ xs) (suc i) x e = inr (get-in xs i x e)

get-is : (xs : List Name) (i : ℕ) (x : Name) → slice_get xs i ≡ Some x → get_or xs i [] ≡ x
get-is [] i x e = absurd (cc e)
get-is (y ∷ xs) zero x e = some_is y x e
get-is (y ∷ xs) (suc i) x e = get-is xs i x e

record NameIndexOf (x : Name) (xs : List Name) : Type 0 where
  pub index : ℕ
  pub within : index < length xs
  pub is : get_or xs index [] ≡ x

index-of : (x : Name) (xs : List Name) → IsIn x xs → NameIndexOf x xs
index-of x [] h = absurd h
index-of x (y ∷ ys) (inl e) = record { index = 0; within = omega arith; is = sym e }
index-of x (y ∷ ys) (inr h) = let r = index-of x ys h in let w = r.within in record { index = suc r.index; within = omega (arith, w); is = r.is }

pub meet-found : (all : List NamedPlace) (names : List Name) (i : ℕ) (name : Name) (r : Option ℕ) → slice_get names i ≡ Some name → Finds all name r → is_some r ≡ true → Meet (names_in all) names
meet-found all names i name None at found e = absurd (true≢false (sym e))
meet-found all names i name (Some place) at found e =
    record { name = name; first = in-map (λ (n : NamedPlace). n.name) (record { place = place; name = name }) all found; second = get-in names i name at }

missing-here : (all : List NamedPlace) (name : Name) (r : Option ℕ) → Finds all name r → is_some r ≡ false → IsIn name (names_in all) → ⊥
missing-here all name None found e = found
missing-here all name (Some place) found e = absurd (true≢false e)

pub missing-more : (all : List NamedPlace) (names : List Name) (i : ℕ) (name : Name) (r : Option ℕ) → ((k : ℕ) → k < i → IsIn (get_or names k []) (names_in all) → ⊥)
    → slice_get names i ≡ Some name → Finds all name r → is_some r ≡ false → (k : ℕ) → k < i + 1 → IsIn (get_or names k []) (names_in all) → ⊥
missing-more all names i name r before at found e k lt h =
    ⊎_elim (λ (less : k < i). before k less h)
    (λ (le : i ≤ k). let same : k ≡ i = omega (arith, lt, le) in
    missing-here all name r found e (subst (λ (z : Name). IsIn z (names_in all)) (ap (λ (j : ℕ). get_or names j []) same ∙ get-is names i name at) h))
    (cases_lt k i)

pub missing-all : (all : List NamedPlace) (names : List Name) (i : ℕ) → ((k : ℕ) → k < i → IsIn (get_or names k []) (names_in all) → ⊥) → length names ≤ i → (name : Name) → IsIn name (names_in all) → IsIn name names → ⊥
missing-all all names i before le name h j =
    let r = index-of name names j in
    let within = r.within in
    before r.index (omega (arith, within, le)) (subst (λ (z : Name). IsIn z (names_in all)) (sym r.is) h)

-- ---- faults handed on

fault-back : (f : IndexFault) → fault_of f ≡ Double → f ≡ IndexDouble
fault-back IndexDouble e = refl
fault-back IndexMemory e = absurd (cc e)

err-is : {T : Type 0} (r : Result T MapFault) (x y : MapFault) → IsErrAnd r (λ g. g ≡ x) → r ≡ Err y → x ≡ y
err-is (Ok v) x y h e = absurd h
err-is (Err g) x y h e = let same : g ≡ y = cc e in sym h ∙ same

pub double-of : {T : Type 0} (r : Result T MapFault) (f : IndexFault) → IsErrAnd r (λ g. g ≡ fault_of f) → r ≡ Err Double → f ≡ IndexDouble
double-of r f h e = fault-back f (err-is r (fault_of f) Double h e)

pub double-same : {T : Type 0} (r : Result T MapFault) (f : MapFault) → IsErrAnd r (λ g. g ≡ f) → r ≡ Err Double → f ≡ Double
double-same r f h e = err-is r f Double h e
