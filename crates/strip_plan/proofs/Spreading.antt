-- Marks that are spread over rows, one number after another.
use Rattle.std.proofs.Common.{◌≡◌, ◌<◌, ◌≤◌, ℕ, ◌+◌, ◌-◌, ◌^◌, Bool, false, not, ◌&&◌, ◌||◌, inl, inr, List, [], ◌∷◌, ◌++◌, length, take, set, get_or, refl, sym, ap, ap₂, subst, ◌∙◌, ⊎_elim, ◌⊎◌, arith}
use Rattle.std.specs.List.{AllByRecursion, list_any}
use Rattle.std.proofs.lemmas.List.{map-append, length-set, take_more, get_or-set_other}
use Rattle.std.proofs.lemmas.Grind.{get_or-set_at}
use Rattle.std.proofs.lemmas.Bool.{cases_lt}
use Rattle.id_groups.specs.Id.{is_master_id, other_id}
use Rattle.commit_graph.proofs.Places.{below-master}
use Rattle.assign_ids.specs.Numbers.{AreBelow}
use Rattle.strip_plan.specs.Stripping.{is_marked, places_of}

-- one more number of an id
pub places-next : (ids : List ℕ) (i x : ℕ) → i < length ids → x ≡ get_or ids i x → places_of (take (i + 1) ids) ≡ places_of (take i ids) ++ (x - 2 ^ 56) ∷ []
places-next ids i x lt e = ap places_of (take_more ids i x lt) ∙ map-append (λ id. id - 2 ^ 56) (take i ids) (get_or ids i x ∷ []) ∙ ap (λ z. places_of (take i ids) ++ (z - 2 ^ 56) ∷ []) (sym e)

-- the marks behind the first numbers
pub record SpreadSoFar (rows : List (List ℕ)) (given marks : List Bool) (i : ℕ) : Type 0 where
  pub long : length marks ≡ length given
  pub done : (k : ℕ) → k < i → k < length given → get_or marks k false ≡ (get_or given k false || list_any (is_marked marks) (get_or rows k []))
  pub later : (k : ℕ) → i ≤ k → get_or marks k false ≡ get_or given k false

pub spread-start : (rows : List (List ℕ)) (given : List Bool) → SpreadSoFar rows given given 0
spread-start rows given = record { long = refl; done = λ k lt l. absurd (let z : ⊥ = omega (arith, lt) in z); later = λ k le. refl }

lt-or-le : (a b : ℕ) → (a < b) ⊎ (b ≤ a)
lt-or-le a b = elim (cases_lt a b) [
  | inl lt ↦ inl lt
  | inr ge ↦ inr ge
]

-- a mark at a number changes nothing for ids below it
mark-other : (marks : List Bool) (i : ℕ) (b : Bool) (p : ℕ) → p < other_id i → is_marked (set marks i b) p ≡ is_marked marks p
mark-other marks i b p lt = ⊎_elim
    (λ small. let m = below-master p small in ap (λ t. not t && get_or (set marks i b) (p - 2 ^ 56) false) m ∙ sym (ap (λ t. not t && get_or marks (p - 2 ^ 56) false) m))
    (λ le. ap (λ z. not (is_master_id p) && z) (get_or-set_other marks i (p - 2 ^ 56) b false (λ (e : p - 2 ^ 56 ≡ i). let z : ⊥ = omega (arith, e, lt, le) in z)))
    (lt-or-le p (2 ^ 56))

any-same : (marks : List Bool) (i : ℕ) (b : Bool) (ps : List ℕ) → AllByRecursion (λ p. p < other_id i) ps → list_any (is_marked (set marks i b)) ps ≡ list_any (is_marked marks) ps
any-same marks i b [] h = refl
any-same marks i b (p ∷ ps) h = ap₂ (λ x y. x || y) (mark-other marks i b p h.0) (any-same marks i b ps h.1)

weaker : (i k : ℕ) (ps : List ℕ) → k ≤ i → AllByRecursion (λ p. p < other_id k) ps → AllByRecursion (λ p. p < other_id i) ps
weaker i k [] le h = tt
weaker i k (p ∷ ps) le h = ((let a = h.0 in omega (arith, a, le)), weaker i k ps le h.1)

-- one more number
pub spread-more : (rows : List (List ℕ)) (given marks : List Bool) (i : ℕ) (b : Bool) → i < length given → ((k : ℕ) → k < length given → AllByRecursion (λ p. p < other_id k) (get_or rows k []))
    → b ≡ (get_or marks i false || list_any (is_marked marks) (get_or rows i [])) → SpreadSoFar rows given marks i → SpreadSoFar rows given (set marks i b) (i + 1)
spread-more rows given marks i b lt below e s = record {
  long = length-set _ _ _ ∙ s.long;
  done = λ k kl kn. ⊎_elim
      (λ less.
      get_or-set_other marks i k b false (λ (q : k ≡ i). let z : ⊥ = omega (arith, q, less) in z)
      ∙ s.done k less kn
      ∙ ap (λ z. get_or given k false || z) (sym (any-same marks i b (get_or rows k []) (weaker i k (get_or rows k []) (omega (arith, less)) (below k kn)))))
      (λ ge.
      let same : k ≡ i = omega (arith, kl, ge) in
      subst (λ j. get_or (set marks i b) j false ≡ (get_or given j false || list_any (is_marked (set marks i b)) (get_or rows j []))) (sym same)
      (get_or-set_at marks i i b false refl (let l = s.long in omega (arith, lt, l))
      ∙ e
      ∙ ap₂ (λ x y. x || y) (s.later i (le-refl i)) (sym (any-same marks i b (get_or rows i []) (below i lt)))))
      (lt-or-le k i);
  later = λ k le. get_or-set_other marks i k b false (λ (q : k ≡ i). let z : ⊥ = omega (arith, q, le) in z) ∙ s.later k (omega (arith, le));
}
  where
    le-refl : (x : ℕ) → x ≤ x
    le-refl x = omega arith

-- the parents of a number lie below the marks
pub parents-few : (i n : ℕ) (ps : List ℕ) → i < n → AllByRecursion (λ p. p < other_id i) ps → AllByRecursion (λ p. p < 2 ^ 56 + n) ps
parents-few i n [] lt h = tt
parents-few i n (p ∷ ps) lt h = ((let a = h.0 in omega (arith, a, lt)), parents-few i n ps lt h.1)

-- the numbers of other ids lie below their count
pub places-below : (n : ℕ) (ids : List ℕ) → AllByRecursion (λ id. (2 ^ 56 ≤ id) × (id < other_id n)) ids → AreBelow n (places_of ids)
places-below n [] h = tt
places-below n (id ∷ ids) h = ((let a = h.0.0 in let b = h.0.1 in omega (arith, a, b)), places-below n ids h.1)
