-- The places of names that stand one after another, and what stands there.
use Rattle.std.proofs.Common.{◌≡◌, ◌+◌, ◌-◌, ◌*◌, ℕ, zero, suc, List, [], ◌∷◌, ◌++◌, length, take, drop, refl, sym, ap, ◌∙◌, subst, arith}
use Rattle.std.proofs.lemmas.List.{length-take, length-drop, drop-drop}
use Rattle.id_groups.specs.Name.{Name}
use Rattle.batch_codec.specs.Payload.{Known}
use Rattle.batch_codec.specs.Reading.{knowns_in, names_read}
use Rattle.name_index.specs.Index.{NamedPlace, NamesStand, StandFrom, names_in, places_in}
use Rattle.name_map.specs.Added.{named_from, names_from, every}

pub every-more : (first step n : ℕ) → every first step (n + 1) ≡ every first step n ++ (first + step * n) ∷ []
every-more first step zero = ap (λ (k : ℕ). k ∷ []) (omega arith)
every-more first step (suc n) =
    let e : suc n + 1 ≡ suc (n + 1) = omega arith in
    let last : first + step + step * n ≡ first + step * suc n = omega arith in
    ap (every first step) e ∙ ap (λ (z : List ℕ). first ∷ z) (every-more (first + step) step n)
    ∙ ap (λ (k : ℕ). first ∷ (every (first + step) step n ++ k ∷ [])) last

pub named-places : (place : ℕ) (ks : List Known) → places_in (named_from place ks) ≡ every (place + 8) 28 (length ks)
named-places place [] = refl
named-places place (k ∷ ks) =
    let e : place + 28 + 8 ≡ place + 8 + 28 = omega arith in
    ap (λ (z : List ℕ). (place + 8) ∷ z) (named-places (place + 28) ks ∙ ap (λ (n : ℕ). every n 28 (length ks)) e)

pub names-places : (place : ℕ) (names : List Name) → places_in (names_from place names) ≡ every place 20 (length names)
names-places place [] = refl
names-places place (name ∷ names) = ap (λ (z : List ℕ). place ∷ z) (names-places (place + 20) names)

pub names-are : (place : ℕ) (names : List Name) → names_in (names_from place names) ≡ names
names-are place [] = refl
names-are place (name ∷ names) = ap (λ (z : List Name). name ∷ z) (names-are (place + 20) names)

known-stand : (n at off : ℕ) (b : List ℕ) → length b ≡ off + 28 * n → StandFrom at b (named_from (at + off) (knowns_in n (drop off b)))
known-stand zero at off b len = tt
known-stand (suc n) at off b len =
    let place : at + off + 8 - at ≡ off + 8 = omega arith in
    let next : at + (off + 28) ≡ at + off + 28 = omega arith in
    let rest = known-stand n at (off + 28) b (omega (arith, len)) in
    let moved = subst (λ (z : List ℕ). StandFrom at b (named_from (at + (off + 28)) (knowns_in n z))) (sym (drop-drop 28 off b)) rest in (
      record {
        behind = omega arith;
        whole = omega (arith, len, length-take {A = ℕ} 20 (drop 8 (drop off b)), length-drop {A = ℕ} 8 (drop off b), length-drop {A = ℕ} off b);
        stands = ap (λ (k : ℕ). take 20 (drop k b)) place ∙ ap (take 20) (sym (drop-drop 8 off b));
      },
      subst (λ (k : ℕ). StandFrom at b (named_from k (knowns_in n (drop 28 (drop off b))))) next moved,
    )

-- the names of known ids stand where these begin
pub known-from : (n at : ℕ) (b : List ℕ) → length b ≡ 28 * n → StandFrom at b (named_from at (knowns_in n b))
known-from n at b len =
    let e : at + 0 ≡ at = omega arith in
    subst (λ (k : ℕ). StandFrom at b (named_from k (knowns_in n b))) e (known-stand n at 0 b (omega (arith, len)))

names-stand : (n at off : ℕ) (b : List ℕ) → length b ≡ off + 20 * n → StandFrom at b (names_from (at + off) (names_read n (drop off b)))
names-stand zero at off b len = tt
names-stand (suc n) at off b len =
    let place : at + off - at ≡ off = omega arith in
    let next : at + (off + 20) ≡ at + off + 20 = omega arith in
    let rest = names-stand n at (off + 20) b (omega (arith, len)) in
    let moved = subst (λ (z : List ℕ). StandFrom at b (names_from (at + (off + 20)) (names_read n z))) (sym (drop-drop 20 off b)) rest in (
      record {
        behind = omega arith;
        whole = omega (arith, len, length-take {A = ℕ} 20 (drop off b), length-drop {A = ℕ} off b);
        stands = ap (λ (k : ℕ). take 20 (drop k b)) place;
      },
      subst (λ (k : ℕ). StandFrom at b (names_from k (names_read n (drop 20 (drop off b))))) next moved,
    )

-- names stand where these begin
pub others-from : (n at : ℕ) (b : List ℕ) → length b ≡ 20 * n → StandFrom at b (names_from at (names_read n b))
others-from n at b len =
    let e : at + 0 ≡ at = omega arith in
    subst (λ (k : ℕ). StandFrom at b (names_from k (names_read n b))) e (names-stand n at 0 b (omega (arith, len)))

-- what stands from the place 0 stands
pub stand-zero : (b : List ℕ) (named : List NamedPlace) → StandFrom 0 b named → NamesStand b named
stand-zero b [] h = tt
stand-zero b (n ∷ named) h =
    let e : n.place - 0 ≡ n.place = omega arith in
    (record { whole = h.0.whole; stands = ap (λ (k : ℕ). take 20 (drop k b)) (sym e) ∙ h.0.stands }, stand-zero b named h.1)
