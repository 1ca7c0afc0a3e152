-- Names by their ids, and names one after another.
use Rattle.std.proofs.Common.{◌≡◌, ◌<◌, ◌≤◌, ◌+◌, ◌*◌, ◌++◌, ◌∷◌, [], inl, inr, ℕ, List, false, cond, nat_lt, map, length, take, drop, get_or, Some, None, refl, sym, ap, ap₂, subst, ◌∙◌, append_assoc, arith, ⊎_elim}
use Rattle.std.specs.List.{AllByRecursion}
use Rattle.std.proofs.lemmas.Bool.{lt-ltb, le-ltb, cases_lt}
use Rattle.std.proofs.lemmas.List.{take_more}
use Rattle.id_groups.specs.Lists.{IsIn}
use Rattle.id_groups.specs.Name.{Name, IsName}
use Rattle.batch_codec.specs.Payload.{Payload, Known, names_bytes}
use Rattle.batch_codec.specs.Building.{Building, IsBuilt}
use Rattle.name_map.specs.Map.{IsNameOf}
use Rattle.change_rules.proofs.Cloned.{Rises}
use Rattle.payload_tables.proofs.Naming.{name-in-bytes}
use Rattle.payload_tables.proofs.Rows.{get-below}
use Rattle.change_parts.proofs.Gathered.{behind-more}
use Rattle.log_compact.specs.Sections.{known_below, IsKnownOf, AscendWithin}

-- ---- what is known of one id

pub none-known : (known : List Known) (id : ℕ) → IsNameOf known id None → IsKnownOf known id []
none-known known id h k i e = h k.name (subst (λ (n : Known). IsIn n known) (ap (λ (n : ℕ). record { id = n; name = k.name }) e) i)

pub one-known : (known : List Known) (id : ℕ) (name : Name) → IsNameOf known id (Some name) → IsKnownOf known id (record { id = id; name = name } ∷ [])
one-known known id name h = (refl, refl, h)

pub ascend-rising : (least end : ℕ) (known : List Known) → Rises least end (map (λ (k : Known). k.id) known) → AscendWithin least end known
ascend-rising least end [] h = tt
ascend-rising least end (k ∷ known) h = (h.0, h.1, ascend-rising (k.id + 1) end known h.2)

above-least : (least end : ℕ) (known : List Known) → AscendWithin least end known → (k : Known) → IsIn k known → least ≤ k.id
above-least least end [] h k i = absurd i
above-least least end (t ∷ known) h k (inl e) = let a = h.0 in let f = ap (λ (n : Known). n.id) e in omega (arith, a, f)
above-least least end (t ∷ known) h k (inr i) = let a = h.0 in let r = above-least (t.id + 1) end known h.2 k i in omega (arith, a, r)

none-below : (n least end : ℕ) (known : List Known) → n ≤ least → AscendWithin least end known → known_below n known ≡ []
none-below n least end [] le h = refl
none-below n least end (k ∷ known) le h =
    let a = h.0 in
    let off : nat_lt k.id n ≡ false = le-ltb k.id n (omega (arith, le, a)) in
    ap (λ b. cond b (k ∷ known_below n known) (known_below n known)) off ∙ none-below n (k.id + 1) end known (omega (arith, le, a)) h.2

all-below : (end n least : ℕ) (known : List Known) → AscendWithin least end known → end ≤ n → known_below n known ≡ known
all-below end n least [] h le = refl
all-below end n least (k ∷ known) h le =
    let a = h.1 in
    ap (λ b. cond b (k ∷ known_below n known) (known_below n known)) (lt-ltb k.id n (omega (arith, a, le))) ∙ ap (λ l. k ∷ l) (all-below end n (k.id + 1) known h.2 le)

pub known-none : (count : ℕ) (known : List Known) → AscendWithin 0 count known → known_below 0 known ≡ []
known-none count known h = none-below 0 0 count known (omega arith) h

pub known-all : (count n : ℕ) (known : List Known) → AscendWithin 0 count known → count ≤ n → known_below n known ≡ known
known-all count n known h le = all-below count n 0 known h le

abbrev first_id : List Known → ℕ
first_id [] = 0
first_id (q ∷ more) = q.id

-- with what is known of an id, all are had that lie below the next
module _ (id end : ℕ) where
  known-next : (least : ℕ) (known found : List Known) → AscendWithin least end known → IsKnownOf known id found → known_below (id + 1) known ≡ known_below id known ++ found
  known-next least [] [] h f = refl
  known-next least [] (k ∷ more) h f = absurd f.2
  known-next least (k ∷ known) found h f = ⊎_elim
      (λ (lt : k.id < id).
      ap (λ b. cond b (k ∷ known_below (id + 1) known) (known_below (id + 1) known)) (lt-ltb k.id (id + 1) (omega (arith, lt)))
      ∙ ap (λ l. k ∷ l) (known-next (k.id + 1) known found h.2 (behind found lt f))
      ∙ sym (ap (λ b. cond b (k ∷ known_below id known) (known_below id known) ++ found) (lt-ltb k.id id lt)))
      (λ (le : id ≤ k.id).
      ap (λ l. cond (nat_lt k.id (id + 1)) (k ∷ l) l) (none-below (id + 1) (k.id + 1) end known (omega (arith, le)) h.2)
      ∙ here found le f
      ∙ sym (ap (λ l. l ++ found) (none-below id k.id end (k ∷ known) le ((let z : k.id ≤ k.id = omega arith in z), h.1, h.2))))
      (cases_lt k.id id)
    where
      behind : (found : List Known) → k.id < id → IsKnownOf (k ∷ known) id found → IsKnownOf known id found
      behind [] lt f = λ q i e. f q (inr i) e
      behind (q ∷ more) lt f = (f.0, f.1, ⊎_elim (λ e. absurd (let g = ap (λ (n : Known). n.id) e in let s = f.1 in let bad : ⊥ = omega (arith, lt, g, s) in bad)) (λ i. i) f.2)

      same-one : (q : Known) (more : List Known) → id ≤ k.id → IsKnownOf (k ∷ known) id (q ∷ more) → k ∷ [] ≡ q ∷ more
      same-one q more le f = ap₂ {C = List Known} (λ a b. a ∷ b)
          (⊎_elim (λ e. sym e) (λ i. absurd (let a = above-least (k.id + 1) end known h.2 q i in let s = f.1 in let bad : ⊥ = omega (arith, le, a, s) in bad)) f.2) (sym f.0)

      here : (found : List Known) → id ≤ k.id → IsKnownOf (k ∷ known) id found → cond (nat_lt k.id (id + 1)) (k ∷ []) [] ≡ found
      here [] le f = ap (λ b. cond b (k ∷ []) []) (le-ltb k.id (id + 1) (⊎_elim (λ (lt : k.id < id + 1). absurd (f k (inl refl) (omega (arith, le, lt)))) (λ (up : id + 1 ≤ k.id). up) (cases_lt k.id (id + 1))))
      here (q ∷ more) le f =
          let e : k ∷ [] ≡ q ∷ more = same-one q more le f in
          let low : k.id ≡ id = ap (λ (l : List Known). first_id l) e ∙ f.1 in
          ap (λ b. cond b (k ∷ []) []) (lt-ltb k.id (id + 1) (omega (arith, low))) ∙ e

pub built-known : (b : Building) (p : Payload) (known found : List Known) (id end : ℕ) → AscendWithin 0 end known → IsKnownOf known id found
    → IsBuilt b (record p { known = (p.known ++ known_below id known) ++ found }) → IsBuilt b (record p { known = p.known ++ known_below (id + 1) known })
built-known b p known found id end h f is =
    subst (λ l. IsBuilt b (record p { known = l })) (append_assoc p.known (known_below id known) found ∙ ap (λ l. p.known ++ l) (sym (known-next id end 0 known found h f))) is

-- ---- names one after another

-- the name at a place, and those before it
pub built-name : (b : Building) (p : Payload) (bytes : List ℕ) (list : List Name) (i : ℕ) (x : Name) → bytes ≡ names_bytes list → AllByRecursion IsName list → i < length list
    → x ≡ take 20 (drop (20 * i) bytes) → IsBuilt b (record p { other_names = (p.other_names ++ take i list) ++ x ∷ [] }) → IsBuilt b (record p { other_names = p.other_names ++ take (i + 1) list })
built-name b p bytes list i x e whole lt is built =
    let at = get-below list i lt in
    let same : x ≡ at.0 = is ∙ ap (λ l. take 20 (drop (20 * i) l)) e ∙ name-in-bytes list i at.0 whole at.1 in
    subst (λ l. IsBuilt b (record p { other_names = l })) (ap (λ z. (p.other_names ++ take i list) ++ z ∷ []) same ∙ behind-more p.other_names list i at.0 at.1) built

-- an item more of those that were taken
pub built-head : (b : Building) (p : Payload) (list : List Name) (i : ℕ) (x : Name) → i < length list → x ≡ get_or list i x
    → IsBuilt b (record p { heads = (p.heads ++ take i list) ++ x ∷ [] }) → IsBuilt b (record p { heads = p.heads ++ take (i + 1) list })
built-head b p list i x lt is built =
    subst (λ l. IsBuilt b (record p { heads = l }))
    (append_assoc p.heads (take i list) (x ∷ []) ∙ ap (λ l. p.heads ++ l) (ap (λ z. take i list ++ z ∷ []) is ∙ sym (take_more list i x lt))) built
