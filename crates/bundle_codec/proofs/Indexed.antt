-- The names of a bundle by their places.
use Rattle.std.proofs.Common.{◌≡◌, ℕ, zero, suc, ◌+◌, ◌*◌, List, [], ◌∷◌, ◌++◌, length, take, refl, ap, subst, ◌∙◌, arith, length-append, append_assoc}
use Rattle.std.specs.List.{AllByRecursion, flat_map}
use Rattle.std.specs.Int.{w32, to_be_bytes}
use Rattle.std.proofs.lemmas.List.{take_at, drop_at}
use Rattle.id_groups.specs.Name.{Name, IsName}
use Rattle.segment_codec.specs.Record.{segment_bytes}
use Rattle.name_index.specs.Named.{names_in, places_in, NamesStand}
use Rattle.batch_codec.specs.Payload.{names_bytes}
use Rattle.bundle_codec.specs.Bundle.{Contents, bundle_bytes, mark}
use Rattle.bundle_codec.specs.Places.{named_from, names_start, places_from}

pub places-are : (at : ℕ) (names : List Name) → places_in (named_from at names) ≡ places_from at (length names)
places-are at [] = refl
places-are at (name ∷ names) = ap (λ (l : List ℕ). at ∷ l) (places-are (at + 20) names)

pub names-are : (at : ℕ) (names : List Name) → names_in (named_from at names) ≡ names
names-are at [] = refl
names-are at (name ∷ names) = ap (λ (l : List Name). name ∷ l) (names-are (at + 20) names)

pub places-more : (at n : ℕ) → places_from at (suc n) ≡ places_from at n ++ (at + 20 * n) ∷ []
places-more at zero = ap (λ (k : ℕ). k ∷ []) (let z : at ≡ at + 20 * 0 = omega arith in z)
places-more at (suc n) = ap (λ (l : List ℕ). at ∷ l) (places-more (at + 20) n ∙ ap (λ (k : ℕ). places_from (at + 20) n ++ k ∷ []) (let z : at + 20 + 20 * n ≡ at + 20 * suc n = omega arith in z))

-- names that are spelled behind so many bytes stand there
pub names-at : (names : List Name) (front : List ℕ) (at : ℕ) → AllByRecursion IsName names → length front ≡ at → NamesStand (front ++ names_bytes names) (named_from at names)
names-at [] front at h len = tt
names-at (name ∷ names) front at h len =
    let rest = names_bytes names in (
      record {
        whole = h.0.0;
        stands = ap (λ (l : List ℕ). take 20 l) (drop_at front (name ++ rest) at len) ∙ take_at name rest 20 h.0.0;
      },
      subst (λ (l : List ℕ). NamesStand l (named_from (at + 20) names)) (append_assoc front name rest)
          (names-at names (front ++ name) (at + 20) h.1 (let l = length-append front name in let t = h.0.0 in omega (arith, l, t, len))),
    )

-- the names of a bundle stand behind its records
pub bundle-names : (c : Contents) → AllByRecursion IsName c.names → NamesStand (bundle_bytes c) (named_from (names_start c) c.names)
unfolding bundle_bytes
bundle-names c h =
    let rows = to_be_bytes w32 (length c.names) in
    let count = to_be_bytes w32 (length c.segments) in
    let records = flat_map segment_bytes c.segments in
    let front = mark ++ (rows ++ (count ++ records)) in
    let a = length-append mark (rows ++ (count ++ records)) in
    let b = length-append rows (count ++ records) in
    let d = length-append count records in
    let m : length mark ≡ 8 = refl in
    let r : length rows ≡ 4 = refl in
    let n : length count ≡ 4 = refl in
    subst (λ (l : List ℕ). NamesStand l (named_from (names_start c) c.names))
    (append_assoc mark (rows ++ (count ++ records)) (names_bytes c.names)
    ∙ ap (λ (l : List ℕ). mark ++ l) (append_assoc rows (count ++ records) (names_bytes c.names) ∙ ap (λ (l : List ℕ). rows ++ l) (append_assoc count records (names_bytes c.names))))
    (names-at c.names front (names_start c) h (omega (arith, a, b, d, m, r, n)))
