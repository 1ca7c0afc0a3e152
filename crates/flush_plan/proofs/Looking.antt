-- Heads that are looked up: the numbers that are found are those of other ids.
use Rattle.std.proofs.Common.{◌≡◌, ◌<◌, ◌≤◌, ◌+◌, ◌-◌, ◌^◌, ℕ, zero, suc, ◌⊎◌, inl, inr, List, [], ◌∷◌, ◌++◌, length, map, Option, Some, get_or, refl, sym, ap, subst, ◌∙◌, ⊎_elim, if◌then◌else◌, arith}
use Rattle.std.specs.Prelude.{IfSome}
use Rattle.std.specs.List.{AllZip}
use Rattle.id_groups.specs.Lists.{IsIn, AreAllIn}
use Rattle.id_groups.specs.Name.{Name, same_name}
use Rattle.id_groups.specs.Id.{other_id}
use Rattle.id_groups.proofs.Names.{same_name-exact, same_name-self}
use Rattle.commit_graph.specs.World.{Row, World, IsWorld, names_of, rows_of, with_pending}
use Rattle.commit_graph.specs.Ids.{id_in}
use Rattle.commit_graph.proofs.Places.{below-master, over-master, other-place, id-in-others, name-at}
use Rattle.commit_graph.proofs.Down.{in-right}
use Rattle.std.proofs.lemmas.List.{map-append}
use Rattle.assign_ids.specs.Numbers.{AreBelow, others_of}
use Rattle.assign_ids.specs.declared.graph.Node.{Node}
use Rattle.assign_ids.specs.declared.graph.Node.TheVariants.{Placed, Other}
use Rattle.change_parts.specs.Moves.{node_of}
use Rattle.payload_tables.specs.Pending.{HeldRow, PlainPending, HoldsRows}
use Rattle.flush_plan.specs.Flushing.{MayLook}
use Rattle.change_parts.proofs.Renumber.{below-append}
use Rattle.payload_tables.proofs.Rows.{get-below}

pub zip-long : {A B : Type 0} (R : A → B → Type 0) (xs : List A) (ys : List B) → AllZip R xs ys → length ys ≡ length xs
zip-long R [] [] h = refl
zip-long R [] (y ∷ ys) h = absurd h
zip-long R (x ∷ xs) [] h = absurd h
zip-long R (x ∷ xs) (y ∷ ys) h = ap suc (zip-long R xs ys h.1)

pub zip-at : {A B : Type 0} (R : A → B → Type 0) (xs : List A) (ys : List B) (i : ℕ) (x : A) (y : B) → AllZip R xs ys → i < length xs → x ≡ get_or xs i x → y ≡ get_or ys i y → R x y
zip-at R [] ys i x y h lt ex ey = absurd (omega (arith, lt))
zip-at R (a ∷ xs) [] i x y h lt ex ey = absurd h
zip-at R (a ∷ xs) (b ∷ ys) zero x y h lt ex ey = subst (λ z. R x z) (sym ey) (subst (λ z. R z b) (sym ex) h.0)
zip-at R (a ∷ xs) (b ∷ ys) (suc i) x y h lt ex ey = zip-at R xs ys i x y h.1 (omega (arith, lt)) ex ey

if-some : (o : Option ℕ) (id : ℕ) (P : ℕ → Type 0) → IfSome o P → o ≡ Some id → P id
if-some o id P h e = subst (λ z. IfSome z P) e h

-- a master id, or one of the first other ids
abbrev pub IsBelow : ℕ → ℕ → Type 0
IsBelow n id = (id < 2 ^ 56) ⊎ ((2 ^ 56 ≤ id) × (id < other_id n))

pub look-below : (p : PlainPending) (heads : List Name) (found : List (Option ℕ)) (rows : List HeldRow) → MayLook p heads found → (i : ℕ) (h : Name) (o : Option ℕ) (id : ℕ)
    → i < length heads → h ≡ get_or heads i h → o ≡ get_or found i o → (o ≡ Some id) ⊎ ((2 ^ 56 ≤ id) × (id < other_id (p.first + length rows))) → IsBelow (p.first + length rows) id
look-below p heads found rows m i h o id lt eh eo (inl e) =
    ⊎_elim (λ a. inl a) (λ b. inr (b.0, (let hi = b.1 in omega (arith, hi))))
    (if-some o id (λ id. (id < 2 ^ 56) ⊎ ((2 ^ 56 ≤ id) × (id < other_id p.first)))
    (zip-at (λ name o. IfSome o (λ id. (id < 2 ^ 56) ⊎ ((2 ^ 56 ≤ id) × (id < other_id p.first)))) heads found i h o m.found_are lt eh eo) e)
look-below p heads found rows m i h o id lt eh eo (inr b) = inr b

node-master : (id : ℕ) → id < 2 ^ 56 → others_of (node_of id ∷ []) ≡ []
node-master id lt = ap (λ b. others_of ((if b then Placed else Other (id - 2 ^ 56)) ∷ [])) (below-master id lt)

node-other : (k : ℕ) → others_of (node_of (other_id k) ∷ []) ≡ k ∷ []
node-other k = ap (λ b. others_of ((if b then Placed else Other (other_id k - 2 ^ 56)) ∷ [])) (over-master k) ∙ ap (λ n. n ∷ []) (other-place k)

node-below : (n id : ℕ) → IsBelow n id → AreBelow n (others_of (node_of id ∷ []))
node-below n id (inl lt) = subst (AreBelow n) (sym (node-master id lt)) tt
node-below n id (inr b) =
    let lo = b.0 in let hi = b.1 in
    let e : id ≡ other_id (id - 2 ^ 56) = omega (arith, lo) in
    subst (AreBelow n) (sym (ap (λ i. others_of (node_of i ∷ [])) e ∙ node-other (id - 2 ^ 56))) (omega (arith, lo, hi), tt)

pub more-below : (n id : ℕ) (numbers new : List ℕ) → IsBelow n id → AreBelow n numbers → new ≡ numbers ++ others_of (node_of id ∷ []) → AreBelow n new
more-below n id numbers new b h e = subst (AreBelow n) (sym e) (below-append n numbers (others_of (node_of id ∷ [])) h (node-below n id b))

pub id-fits : (p : PlainPending) (rows : List HeldRow) (id : ℕ) → HoldsRows p rows → IsBelow (p.first + length rows) id → id < 2 ^ 56 + 2 ^ 32
id-fits p rows id h (inl lt) = omega (arith, lt)
id-fits p rows id h (inr b) = let a = h.room in let c = h.few in let hi = b.1 in omega (arith, a, c, hi)

-- ---- heads for numbers: the rows with these numbers

module _ (w : World Name) (rows : List (Row Name)) (whole : IsWorld (with_pending w rows)) where
  pub record HeadsOf (numbers : List ℕ) : Type 0 where
    pub heads : List Name
    pub known : AreAllIn heads (names_of (rows_of (with_pending w rows)))
    pub numbers_are : numbers ≡ others_of (map node_of (map (id_in same_name (with_pending w rows)) heads))

  others-cons : (x : Node) (xs : List Node) → others_of (x ∷ xs) ≡ others_of (x ∷ []) ++ others_of xs
  others-cons Placed xs = refl
  others-cons (Other k) xs = refl

  pub heads-of : (numbers : List ℕ) → AreBelow (length (w.others ++ rows)) numbers → HeadsOf numbers
  heads-of [] h = record { heads = []; known = tt; numbers_are = refl }
  heads-of (k ∷ numbers) h =
      let rest = heads-of numbers h.1 in
      let r = get-below (w.others ++ rows) k h.0 in
      let id = id-in-others same_name same_name-exact same_name-self (with_pending w rows) whole k r.0 r.1 in
      record {
        heads = r.0.name ∷ rest.heads;
        known = (subst (IsIn r.0.name) (sym (map-append (λ (q : Row Name). q.name) w.master (w.others ++ rows))) (in-right r.0.name (names_of w.master) (names_of (w.others ++ rows)) (name-at (w.others ++ rows) k r.0 r.1)), rest.known);
        numbers_are = ap (λ l. k ∷ l) rest.numbers_are ∙ sym (
            others-cons (node_of (id_in same_name (with_pending w rows) r.0.name)) (map node_of (map (id_in same_name (with_pending w rows)) rest.heads))
            ∙ ap (λ l. l ++ others_of (map node_of (map (id_in same_name (with_pending w rows)) rest.heads))) (ap (λ i. others_of (node_of i ∷ [])) id ∙ node-other k));
      }
