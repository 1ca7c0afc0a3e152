-- Lists, payloads and names in general.
use Rattle.std.proofs.Common.{◌≡◌, ℕ, zero, suc, Bool, true, false, inl, inr, List, [], ◌∷◌, ◌++◌, length, flat_map, Option, Some, slice_get, refl, sym, ap, subst, ◌∙◌, if◌then◌else◌, ⊎_elim, true≢false, append_assoc, append-nil, arith, is_some, ◌<◌, zero-lt-suc, nat_eq}
use Rattle.std.specs.List.{AllByRecursion, last_or}
use Rattle.std.proofs.lemmas.Grind.{flat_map-append}
use Rattle.std.proofs.lemmas.Bool.{eq-eqb}
use Rattle.std.proofs.lemmas.Map.Views.{exact_unsigned_eq}
use Rattle.id_groups.specs.Lists.{IsIn, AreAllIn, AreDistinct}
use Rattle.id_groups.specs.Name.{Name, same_name}
use Rattle.id_groups.proofs.Names.{same_name-self}
use Rattle.commit_graph.specs.World.{Row, IsHistory, names_of}
use Rattle.commit_graph.specs.Ids.{place_of}
use Rattle.commit_graph.proofs.Histories.{in-append}
use Rattle.commit_graph.proofs.Down.{in-left, in-right}
use Rattle.batch_codec.specs.Payload.{Payload}
use Rattle.batch_codec.specs.Grammar.{count_after}
use Rattle.commit_graph.proofs.Places.{apart}

pub last-of : {X : Type 0} (o : Option X) (xs : List X) (x : X) → last_or o (xs ++ x ∷ []) ≡ Some x
last-of o [] x = refl
last-of o (y ∷ xs) x = last-of (Some y) xs x

pub flat-snoc : {X A : Type 0} (f : X → List A) (xs : List X) (x : X) → flat_map f (xs ++ x ∷ []) ≡ flat_map f xs ++ f x
flat-snoc f xs x = flat_map-append f xs (x ∷ []) ∙ ap (λ l. flat_map f xs ++ l) (append-nil (f x))

pub get-front : {X : Type 0} (xs ys : List X) (i : ℕ) (x : X) → slice_get xs i ≡ Some x → slice_get (xs ++ ys) i ≡ Some x
get-front [] ys i x e = absurd (true≢false (sym (ap is_some e)))
get-front (y ∷ xs) ys zero x e = e
get-front (y ∷ xs) ys (suc i) x e = get-front xs ys i x e

pub all-append : {X : Type 0} (P : X → Type 0) (xs ys : List X) → AllByRecursion P xs → AllByRecursion P ys → AllByRecursion P (xs ++ ys)
all-append P [] ys h k = k
all-append P (x ∷ xs) ys h k = (h.0, all-append P xs ys h.1 k)

pub names-length : (rows : List (Row Name)) → length (names_of rows) ≡ length rows
names-length [] = refl
names-length (r ∷ rows) = ap suc (names-length rows)

pub place-front : (x : Name) (xs ys : List Name) → IsIn x xs → place_of same_name x (xs ++ ys) ≡ place_of same_name x xs
place-front x [] ys i = absurd i
place-front x (y ∷ xs) ys i = go (same_name y x) refl (λ j. place-front x xs ys j)
  where
    go : (b : Bool) → same_name y x ≡ b → (IsIn x xs → place_of same_name x (xs ++ ys) ≡ place_of same_name x xs)
        → (if b then 0 else suc (place_of same_name x (xs ++ ys))) ≡ (if b then 0 else suc (place_of same_name x xs))
    go true e rec = refl
    go false e rec = ap suc (rec (⊎_elim (λ f. absurd (true≢false (sym (same_name-self x) ∙ ap (λ z. same_name z x) f ∙ e))) (λ j. j) i))

pub wider : (xs ys zs : List Name) → AreAllIn xs ys → AreAllIn xs (ys ++ zs)
wider [] ys zs h = tt
wider (x ∷ xs) ys zs h = (in-left x ys zs h.0, wider xs ys zs h.1)

-- in a history each row's parents are among the names
pub parents-known : (before : List Name) (rows : List (Row Name)) → IsHistory before rows → (r : Row Name) → IsIn r rows → AreAllIn r.parents (before ++ names_of rows)
parents-known before [] h r i = absurd i
parents-known before (q ∷ rows) h r (inl e) = subst (λ (z : Row Name). AreAllIn z.parents (before ++ names_of (q ∷ rows))) (sym e) (wider q.parents before (names_of (q ∷ rows)) h.0.known)
parents-known before (q ∷ rows) h r (inr i) = subst (λ l. AreAllIn r.parents l) (append_assoc before (q.name ∷ []) (names_of rows)) (parents-known (before ++ q.name ∷ []) rows h.1 r i)

-- the count after some payloads is that after the last one
pub count-last : (n : ℕ) (payloads : List Payload) (p : Payload) → count_after n (payloads ++ p ∷ []) ≡ p.after
count-last n [] p = refl
count-last n (q ∷ payloads) p = count-last q.after payloads p

pub distinct-join : {X : Type 0} (xs ys : List X) → AreDistinct xs → AreDistinct ys → ((x : X) → IsIn x xs → IsIn x ys → ⊥) → AreDistinct (xs ++ ys)
distinct-join [] ys d e apart = e
distinct-join (x ∷ xs) ys d e apart = ((λ i. ⊎_elim d.0 (λ j. apart x (inl refl) j) (in-append x xs ys i)), distinct-join xs ys d.1 e (λ y i. apart y (inr i)))

pub distinct-parts : {X : Type 0} (xs ys : List X) → AreDistinct (xs ++ ys) → AreDistinct xs × AreDistinct ys × ((x : X) → IsIn x xs → IsIn x ys → ⊥)
distinct-parts [] ys h = (tt, h, λ x i. absurd i)
distinct-parts (x ∷ xs) ys h =
    let r = distinct-parts xs ys h.1 in
    (((λ i. h.0 (in-left x xs ys i)), r.0), r.1, λ y i j. ⊎_elim (λ e. h.0 (in-right x xs ys (subst (λ z. IsIn z ys) e j))) (λ k. r.2 y k j) i)

pub same-self : (x : ℕ) → nat_eq x x ≡ true
same-self x = eq-eqb x x refl

pub same-exact : (x y : ℕ) → nat_eq x y ≡ true → x ≡ y
same-exact x y h = exact_unsigned_eq x y h

pub get-below : {X : Type 0} (xs : List X) (k : ℕ) (x : X) → slice_get xs k ≡ Some x → k < length xs
get-below [] k x e = absurd (true≢false (sym (ap is_some e)))
get-below (y ∷ xs) zero x e = zero-lt-suc _
get-below (y ∷ xs) (suc k) x e = let r = get-below xs k x e in omega (arith, r)
