-- Names that stand one behind the other.
use Rattle.std.proofs.Common.{◌≡◌, ◌+◌, ℕ, List, [], ◌∷◌, ◌++◌, length, refl, sym, ap, subst, ◌∙◌, arith, append_assoc, append-nil}
use Rattle.std.specs.List.{AllByRecursion, concat}
use Rattle.id_groups.specs.Name.{Name}
use Rattle.segdag_c.specs.Names.{HasTwenty}

pub concat-append : (xs ys : List (List ℕ)) → concat (xs ++ ys) ≡ concat xs ++ concat ys
concat-append [] ys = refl
concat-append (x ∷ xs) ys = ap (λ l. x ++ l) (concat-append xs ys) ∙ sym (append_assoc x (concat xs) (concat ys))

pub concat-one : (xs : List (List ℕ)) (x : List ℕ) → concat (xs ++ x ∷ []) ≡ concat xs ++ x
concat-one xs x = concat-append xs (x ∷ []) ∙ ap (λ l. concat xs ++ l) (append-nil x)

pub twenty-behind : (names : List Name) (name : Name) → AllByRecursion HasTwenty names → HasTwenty name → AllByRecursion HasTwenty (names ++ name ∷ [])
twenty-behind [] name all is = (is, tt)
twenty-behind (n ∷ names) name all is = (all.0, twenty-behind names name all.1 is)

-- the next name goes from what is left to those that were found
pub next-name : (names now : List Name) (name rest behind bytes : List ℕ) → concat names ++ rest ≡ bytes → rest ≡ name ++ behind → now ≡ names ++ name ∷ []
    → concat now ++ behind ≡ bytes
next-name names now name rest behind bytes was parts items =
    ap (λ l. concat l ++ behind) items ∙ ap (λ l. l ++ behind) (concat-one names name) ∙ append_assoc (concat names) name behind
    ∙ ap (λ l. concat names ++ l) (sym parts) ∙ was

pub next-twenty : (names now : List Name) (name : Name) → AllByRecursion HasTwenty names → HasTwenty name → now ≡ names ++ name ∷ [] → AllByRecursion HasTwenty now
next-twenty names now name all is items = subst (AllByRecursion HasTwenty) (sym items) (twenty-behind names name all is)

-- nothing is left
pub all-names : (names : List Name) (rest bytes : List ℕ) → concat names ++ rest ≡ bytes → length rest ≡ 0 → concat names ≡ bytes
all-names names [] bytes was none = sym (append-nil (concat names)) ∙ was
all-names names (b ∷ rest) bytes was none = absurd (omega (arith, none))
