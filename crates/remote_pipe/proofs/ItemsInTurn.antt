-- Items that are read one after another by a loop.
use Rattle.std.proofs.Common.{◌≡◌, ℕ, zero, suc, ◌+◌, ◌-◌, ◌<◌, List, [], ◌∷◌, ◌++◌, length, take, Option, Some, None, refl, sym, ap, ◌∙◌, arith, append_assoc, slice_set}
use Rattle.std.proofs.lemmas.List.{append-nil}
use Rattle.std.specs.Int.{w32}
use Rattle.std.specs.Prelude.{IfNone}
use Rattle.segment_codec.specs.Reading.{◌>>=◌}
use Rattle.batch_codec.specs.Reading.{fixed_at}
use Rattle.remote_pipe.specs.Reading.{items_at, counted_at}

pub if-none : {X : Type 0} (o : Option X) (P : Type 0) → P → IfNone o P
if-none None P p = p
if-none (Some x) P p = tt

-- items that were read stand in front of those that are
abbrev pub put_front : {X : Type 0} → List X → Option (List X × List ℕ) → Option (List X × List ℕ)
put_front done None = None
put_front done (Some found) = Some (done ++ found.0, found.1)

pub front-none : {X : Type 0} (found : Option (List X × List ℕ)) → found ≡ put_front [] found
front-none None = refl
front-none (Some found) = refl

front-joined : {X : Type 0} (done : List X) (x : X) (found : Option (List X × List ℕ))
    → put_front done (found >>= λ others. Some (x ∷ others.0, others.1)) ≡ put_front (done ++ x ∷ []) found
front-joined done x None = refl
front-joined {X} done x (Some found) = ap (λ (l : List X). (let o : Option (List X × List ℕ) = Some (l, found.1) in o)) (sym (append_assoc done (x ∷ []) found.0))

-- one item more
pub one-more : {X : Type 0} (item : List ℕ → Option (X × List ℕ)) (all : Option (List X × List ℕ)) (done : List X) (n k : ℕ) (rest behind : List ℕ) (x : X) → k < n
    → all ≡ put_front done (items_at item (n - k) rest) → item rest ≡ Some (x, behind) → all ≡ put_front (done ++ x ∷ []) (items_at item (n - (k + 1)) behind)
unfolding items_at
one-more {X} item all done n k rest behind x lt e f =
    let m : n - k ≡ suc (n - (k + 1)) = omega (arith, lt) in
    e ∙ ap (λ (j : ℕ). put_front done (items_at item j rest)) m
    ∙ ap (λ (p : Option (X × List ℕ)). put_front done (p >>= λ first. items_at item (n - (k + 1)) first.1 >>= λ others. Some (first.0 ∷ others.0, others.1))) f
    ∙ front-joined done x (items_at item (n - (k + 1)) behind)

-- no further item
pub none-more : {X : Type 0} (item : List ℕ → Option (X × List ℕ)) (all : Option (List X × List ℕ)) (done : List X) (n k : ℕ) (rest : List ℕ) → k < n
    → all ≡ put_front done (items_at item (n - k) rest) → item rest ≡ None → all ≡ None
unfolding items_at
none-more {X} item all done n k rest lt e f =
    let m : n - k ≡ suc (n - (k + 1)) = omega (arith, lt) in
    e ∙ ap (λ (j : ℕ). put_front done (items_at item j rest)) m
    ∙ ap (λ (p : Option (X × List ℕ)). put_front done (p >>= λ first. items_at item (n - (k + 1)) first.1 >>= λ others. Some (first.0 ∷ others.0, others.1))) f

-- all were read
pub all-read : {X : Type 0} (item : List ℕ → Option (X × List ℕ)) (all : Option (List X × List ℕ)) (done : List X) (n k : ℕ) (rest : List ℕ) → n ≡ k
    → all ≡ put_front done (items_at item (n - k) rest) → all ≡ Some (done, rest)
unfolding items_at
all-read {X} item all done n k rest same e =
    let m : n - k ≡ zero = omega (arith, same) in
    e ∙ ap (λ (j : ℕ). put_front done (items_at item j rest)) m ∙ ap (λ (l : List X). (let o : Option (List X × List ℕ) = Some (l, rest) in o)) (append-nil done)

pub set-long : {X : Type 0} (xs : List X) (k : ℕ) (x : X) → length (slice_set xs k x) ≡ length xs
set-long [] k x = refl
set-long (y ∷ xs) zero x = refl
set-long (y ∷ xs) (suc k) x = ap suc (set-long xs k x)

front-set : {X : Type 0} (xs : List X) (k : ℕ) (x : X) → k < length xs → take (suc k) (slice_set xs k x) ≡ take k xs ++ x ∷ []
front-set [] k x lt = absurd (omega (arith, lt))
front-set (y ∷ xs) zero x lt = refl
front-set {X} (y ∷ xs) (suc k) x lt = ap (λ (l : List X). y ∷ l) (front-set xs k x (omega (arith, lt)))

pub set-front : {X : Type 0} (xs : List X) (k : ℕ) (x : X) → k < length xs → take (k + 1) (slice_set xs k x) ≡ take k xs ++ x ∷ []
set-front xs k x lt = ap (λ (j : ℕ). take j (slice_set xs k x)) (let z : k + 1 ≡ suc k = omega arith in z) ∙ front-set xs k x lt

-- behind their count
pub counted-none : {X : Type 0} (item : List ℕ → Option (X × List ℕ)) (bytes : List ℕ) → fixed_at w32 bytes ≡ None → counted_at item bytes ≡ None
unfolding counted_at
counted-none item bytes e = ap (λ (p : Option (ℕ × List ℕ)). p >>= λ count. items_at item count.0 count.1) e

pub counted-some : {X : Type 0} (item : List ℕ → Option (X × List ℕ)) (bytes rest : List ℕ) (n : ℕ) (told : List X) → fixed_at w32 bytes ≡ Some (n, rest) → told ≡ []
    → counted_at item bytes ≡ put_front told (items_at item (n - 0) rest)
unfolding counted_at
counted-some {X} item bytes rest n told e none =
    ap (λ (p : Option (ℕ × List ℕ)). p >>= λ count. items_at item count.0 count.1) e ∙ front-none (items_at item n rest)
    ∙ ap (λ (l : List X). put_front l (items_at item n rest)) (sym none) ∙ ap (λ (j : ℕ). put_front told (items_at item j rest)) (let z : n ≡ n - 0 = omega arith in z)
