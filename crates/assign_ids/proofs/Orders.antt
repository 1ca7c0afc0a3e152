-- The flags of the placed numbers, and the parents that are left to place.
use Rattle.std.proofs.Common.{◌≡◌, ℕ, zero, suc, ◌+◌, ◌<◌, ◌≤◌, Bool, true, false, ◌||◌, inl, inr, List, [], ◌∷◌, ◌++◌, length, drop, get_or, refl, sym, ap, subst, ◌∙◌, ⊎_elim, arith}
use Rattle.std.specs.Prelude.{nat_eq, max, ◌↔◌}
use Rattle.std.proofs.Math.ListN.{set}
use Rattle.std.proofs.lemmas.List.{get_or-set_same, get_or-set_other, drop_more, drop_all}
use Rattle.std.proofs.lemmas.Bool.{ne_eqb, cases_eq}
use Rattle.std.specs.Ordering.{ord_max, nat_cmp}
use Rattle.std.proofs.lemmas.Grind.{common_steps}
use Rattle.id_groups.specs.Lists.{IsIn, is_in}
use Rattle.id_groups.proofs.Listing.{there}
use Rattle.commit_graph.specs.World.{Row}
use Rattle.commit_graph.proofs.Down.{in-right}
use Rattle.assign_ids.specs.Placing.{place, place_all}
use Rattle.assign_ids.specs.Numbers.{others_of, AreBelow}
use Rattle.assign_ids.specs.declared.graph.Node.{Node}
use Rattle.assign_ids.specs.declared.graph.Node.TheVariants.{Placed, Other}
use Rattle.assign_ids.proofs.Placings.{place-there}
use Rattle.assign_ids.proofs.NumberLemmas.{same-self, same-exact, below-in}

-- one more number behind doesn't count for another number
snoc-other : (xs : List ℕ) (k n : ℕ) → (k ≡ n → ⊥) → is_in nat_eq k xs ≡ is_in nat_eq k (xs ++ n ∷ [])
snoc-other [] k n ne = ap (λ b. b || false) (sym (ne_eqb k n ne))
snoc-other (x ∷ xs) k n ne = ap (λ b. nat_eq k x || b) (snoc-other xs k n ne)

-- the flags once n is placed
pub flags-placed : (flags : List Bool) (numbers : List ℕ) (n : ℕ) → n < length flags → ((k : ℕ) → k < length flags → get_or flags k false ≡ is_in nat_eq k numbers)
    → (k : ℕ) → k < length flags → get_or (set flags n true) k false ≡ is_in nat_eq k (numbers ++ n ∷ [])
flags-placed flags numbers n lt h k less = ⊎_elim
    (λ e. subst (λ z. get_or (set flags n true) z false ≡ is_in nat_eq z (numbers ++ n ∷ [])) (sym e)
    (get_or-set_same flags n true false lt ∙ sym (there nat_eq same-exact same-self n (numbers ++ n ∷ []) (in-right n numbers (n ∷ []) (inl refl)))))
    (λ ne. get_or-set_other flags n k true false ne ∙ h k less ∙ snoc-other numbers k n ne)
    (cases_eq k n)

-- a parent that isn't in master is one of the numbers
pub other-in : (nodes : List Node) (i k : ℕ) → i < length nodes → Other k ≡ get_or nodes i (Other k) → IsIn k (others_of nodes)
other-in [] i k lt e = absurd (omega (arith, lt))
other-in (node ∷ nodes) zero k lt e = subst (λ z. IsIn k (others_of (z ∷ nodes))) e (inl refl)
other-in (Placed ∷ nodes) (suc i) k lt e = other-in nodes i k (omega (arith, lt)) e
other-in (Other j ∷ nodes) (suc i) k lt e = inr (other-in nodes i k (omega (arith, lt)) e)

-- what is read at a place, at whatever default
default-read : {X : Type 0} → (xs : List X) (i : ℕ) (d e : X) → i < length xs → get_or xs i d ≡ get_or xs i e
default-read [] i d e lt = absurd (omega (arith, lt))
default-read (x ∷ xs) zero d e lt = refl
default-read (x ∷ xs) (suc i) d e lt = default-read xs i d e (omega (arith, lt))

-- each number that is met at its place is one of the numbers
pub met-in : (nodes : List Node) (i k : ℕ) → i < length nodes → get_or nodes i Placed ≡ Other k → IsIn k (others_of nodes)
met-in nodes i k lt e = other-in nodes i k lt (sym e ∙ default-read nodes i Placed (Other k) lt)

pub met-below : (n : ℕ) (nodes : List Node) (i k : ℕ) → AreBelow n (others_of nodes) → i < length nodes → get_or nodes i Placed ≡ Other k → k < n
met-below n nodes i k h lt e = below-in n (others_of nodes) k h (met-in nodes i k lt e)

drop-at : (nodes : List Node) (i : ℕ) (node : Node) → i < length nodes → get_or nodes i Placed ≡ node → others_of (drop i nodes) ≡ others_of (node ∷ drop (i + 1) nodes)
drop-at nodes i node lt e = ap others_of (drop_more nodes i Placed lt ∙ ap (λ z. z ∷ drop (i + 1) nodes) e)

-- what is left to place of these parents, in an order that has all before the i-th
abbrev pub IsLeft : List Node → ℕ → List ℕ → ℕ → Type 0
IsLeft nodes done order i = (rows : List (Row ℕ)) → place_all nat_eq rows order (others_of (drop done nodes)) ≡ place_all nat_eq rows order (others_of (drop i nodes))

-- a parent in master is passed over
pub left-placed : (nodes : List Node) (done : ℕ) (order : List ℕ) (i : ℕ) → i < length nodes → get_or nodes i Placed ≡ Placed → IsLeft nodes done order i → IsLeft nodes done order (i + 1)
left-placed nodes done order i lt e h rows = h rows ∙ ap (λ ks. place_all nat_eq rows order ks) (drop-at nodes i Placed lt e)

left-next : (nodes : List Node) (done : ℕ) (order : List ℕ) (i k : ℕ) → i < length nodes → get_or nodes i Placed ≡ Other k → IsLeft nodes done order i
    → (rows : List (Row ℕ)) → place_all nat_eq rows order (others_of (drop done nodes)) ≡ place_all nat_eq rows (place nat_eq rows order k) (others_of (drop (i + 1) nodes))
left-next nodes done order i k lt e h rows = h rows ∙ ap (λ ks. place_all nat_eq rows order ks) (drop-at nodes i (Other k) lt e)

-- so is one that is in the order
pub left-there : (nodes : List Node) (done : ℕ) (order : List ℕ) (i k : ℕ) → i < length nodes → get_or nodes i Placed ≡ Other k → is_in nat_eq k order ≡ true → IsLeft nodes done order i → IsLeft nodes done order (i + 1)
left-there nodes done order i k lt e there h rows =
    left-next nodes done order i k lt e h rows
    ∙ ap (λ o. place_all nat_eq rows o (others_of (drop (i + 1) nodes))) (place-there nat_eq same-exact same-self (λ (j : ℕ). []) rows order k there)

-- any other is placed next
pub left-missing : (nodes : List Node) (done : ℕ) (order : List ℕ) (i k : ℕ) → i < length nodes → get_or nodes i Placed ≡ Other k → is_in nat_eq k order ≡ false → IsLeft nodes done order i
    → IsIn k (others_of nodes) × (is_in nat_eq k order ≡ false)
    × ((rows : List (Row ℕ)) → place_all nat_eq rows order (others_of (drop done nodes)) ≡ place_all nat_eq rows (place nat_eq rows order k) (others_of (drop (i + 1) nodes)))
left-missing nodes done order i k lt e new h = (met-in nodes i k lt e, new, left-next nodes done order i k lt e h)

-- the least number above all heads, of which the first i are done
abbrev pub IsAbove : List ℕ → ℕ → ℕ → Type 0
IsAbove heads size i = (n : ℕ) → AreBelow n heads ↔ ((size ≤ n) × AreBelow n (drop i heads))

pub above-next : (heads : List ℕ) (size next i : ℕ) → i < length heads → next ≡ max size (get_or heads i 0 + 1) → IsAbove heads size i → IsAbove heads next (i + 1)
above-next heads size next i lt e h n =
    let at : AreBelow n (drop i heads) ↔ ((get_or heads i 0 < n) × AreBelow n (drop (i + 1) heads)) = subst (λ ks. AreBelow n ks ↔ ((get_or heads i 0 < n) × AreBelow n (drop (i + 1) heads))) (sym (drop_more heads i 0 lt)) (λ z. z, λ z. z) in (
      λ below. let both = (h n).0 below in let a = both.0 in let b = (at.0 both.1).0 in (omega (arith, e, a, b), (at.0 both.1).1),
      λ t. let le = t.0 in (h n).1 (omega (arith, e, le), at.1 (omega (arith, e, le), t.1)),
    )

pub above-end : (heads : List ℕ) (size i : ℕ) → length heads ≤ i → IsAbove heads size i → (n : ℕ) → AreBelow n heads ↔ (size ≤ n)
above-end heads size i le h n =
    let none : drop i heads ≡ [] = drop_all i heads le in
    (λ below. ((h n).0 below).0, λ above. (h n).1 (above, subst (AreBelow n) (sym none) tt))

pub greater-is : (a b : ℕ) → ord_max nat_cmp a b ≡ max a b
greater-is a b = grind (arith, common_steps)
