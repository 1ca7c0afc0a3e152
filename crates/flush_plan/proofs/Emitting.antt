-- Sections of a payload with one item more.
use Rattle.std.proofs.Common.{◌≡◌, ◌<◌, ℕ, ◌+◌, List, [], ◌∷◌, ◌++◌, length, map, take, get_or, sym, ap, ap₂, ◌∙◌, append_assoc, arith}
use Rattle.std.proofs.lemmas.List.{take_more, map-append, length-map, length-take-le}
use Rattle.id_groups.specs.Name.{Name}
use Rattle.batch_codec.specs.Payload.{Known}
use Rattle.change_rules.specs.Change.{known_from}

known-last : (n : ℕ) (xs : List Name) (x : Name) → known_from n (xs ++ x ∷ []) ≡ known_from n xs ++ record { id = n + length xs; name = x } ∷ []
known-last n [] x = ap (λ k. record { id = k; name = x } ∷ []) (let z : n ≡ n + 0 = omega arith in z)
known-last n (y ∷ xs) x = ap (λ l. record { id = n; name = y } ∷ l)
    (known-last (n + 1) xs x ∙ ap (λ k. known_from (n + 1) xs ++ record { id = k; name = x } ∷ []) (let z : n + 1 + length xs ≡ n + length (y ∷ xs) = omega arith in z))

pub known-more : (front : List Known) (first : ℕ) (name : ℕ → Name) (numbers : List ℕ) (i id : ℕ) (x : Name) → i < length numbers → id ≡ first + i → x ≡ name (get_or numbers i 0)
    → (front ++ known_from first (map name (take i numbers))) ++ record { id = id; name = x } ∷ [] ≡ front ++ known_from first (map name (take (i + 1) numbers))
known-more front first name numbers i id x lt e f =
    append_assoc front (known_from first (map name (take i numbers))) (record { id = id; name = x } ∷ [])
    ∙ ap (λ l. front ++ l)
    (ap₂ {C = List Known} (λ a b. known_from first (map name (take i numbers)) ++ record { id = a; name = b } ∷ [])
    (let a = length-map (take i numbers) name in let b = length-take-le i numbers (let l = lt in omega (arith, l)) in let z : id ≡ first + length (map name (take i numbers)) = omega (arith, a, b, e) in z) f
    ∙ sym (ap (λ l. known_from first (map name l)) (take_more numbers i 0 lt) ∙ ap (known_from first) (map-append name (take i numbers) (get_or numbers i 0 ∷ []))
    ∙ known-last first (map name (take i numbers)) (name (get_or numbers i 0))))
