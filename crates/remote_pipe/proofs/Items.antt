-- Items that are read one after another are those that were spelled, and what was spelled is read again.
use Rattle.std.proofs.Common.{◌≡◌, ℕ, zero, suc, ◌+◌, ◌^◌, ◌<◌, ◌≤◌, leb, List, [], ◌∷◌, ◌++◌, length, Option, Some, refl, sym, ap, subst, ◌∙◌, arith, append_assoc}
use Rattle.std.specs.List.{flat_map, AllByRecursion}
use Rattle.std.specs.Int.{w32, w64, to_be_bytes}
use Rattle.std.proofs.lemmas.Bool.{leb-true, le-leb}
use Rattle.std.proofs.lemmas.List.Concat.{flat_map-cons}
use Rattle.id_groups.specs.Name.{Name, IsName}
use Rattle.segment_codec.specs.Record.{Segment}
use Rattle.segment_codec.specs.Reading.{◌>>=◌}
use Rattle.segment_codec.proofs.Numbers.{IsBytes, bytes-rest, bind_some, chosen, some_is}
use Rattle.batch_codec.specs.Reading.{fixed_at, piece_at}
use Rattle.batch_codec.proofs.Pieces.{wide32, wide64, fixed_takes, fixed_again, piece_takes, piece_again}
use Rattle.remote_rules.specs.CloneData.{KnownName}
use Rattle.remote_serve.specs.Telling.{IsTold, IsToldName}
use Rattle.remote_serve.specs.Answers.{numbers_bytes, told_segment_bytes, told_name_bytes}
use Rattle.remote_pipe.specs.Reading.{items_at, counted_at, parents_at, segment_at, known_at}

bytes-all : (xs : List ℕ) → IsBytes xs → AllByRecursion (λ b. b < 256) xs
bytes-all [] f = tt
bytes-all (x ∷ xs) f = (f 0, bytes-all xs (λ i. f (suc i)))

pub name-is : (x : List ℕ) → length x ≡ 20 → IsBytes x → IsName x
name-is x len f = (len, bytes-all x f)

-- an item that stands in front
pub record ItemTaken {X : Type 0} (bytes_of : X → List ℕ) (Is : X → Type 0) (bytes : List ℕ) (x : X × List ℕ) : Type 0 where
  pub parts : bytes ≡ bytes_of x.0 ++ x.1
  pub is : Is x.0
  pub rest : IsBytes x.1

-- reading is the inverse of spelling
pub record ItemReads {X : Type 0} (item : List ℕ → Option (X × List ℕ)) (bytes_of : X → List ℕ) (Is : X → Type 0) : Type 0 where
  pub takes : (bytes : List ℕ) (x : X × List ℕ) → IsBytes bytes → item bytes ≡ Some x → ItemTaken bytes_of Is bytes x
  pub again : (x : X) (rest : List ℕ) → Is x → item (bytes_of x ++ rest) ≡ Some (x, rest)

pub record ItemsTaken {X : Type 0} (bytes_of : X → List ℕ) (Is : X → Type 0) (count : ℕ) (bytes : List ℕ) (x : List X × List ℕ) : Type 0 where
  pub parts : bytes ≡ flat_map bytes_of x.0 ++ x.1
  pub many : length x.0 ≡ count
  pub are : AllByRecursion Is x.0
  pub rest : IsBytes x.1

pub items_takes : {X : Type 0} (item : List ℕ → Option (X × List ℕ)) (bytes_of : X → List ℕ) (Is : X → Type 0) → ItemReads item bytes_of Is
    → (count : ℕ) (bytes : List ℕ) (x : List X × List ℕ) → IsBytes bytes → items_at item count bytes ≡ Some x → ItemsTaken bytes_of Is count bytes x
unfolding items_at
items_takes {X} item bytes_of Is reads zero bytes x fits e =
    let made : List X × List ℕ = ([], bytes) in
    subst (ItemsTaken bytes_of Is zero bytes) (some_is made x e) (record { parts = refl; many = refl; are = tt; rest = fits })
items_takes {X} item bytes_of Is reads (suc count) bytes x fits e =
    let a = bind_some (item bytes) (λ first. items_at item count first.1 >>= λ others. Some (first.0 ∷ others.0, others.1)) x e in
    let b = bind_some (items_at item count a.0.1) (λ others. Some (a.0.0 ∷ others.0, others.1)) x a.2 in
    let first = reads.takes bytes a.0 fits a.1 in
    let others = items_takes item bytes_of Is reads count a.0.1 b.0 first.rest b.1 in
    let made : List X × List ℕ = (a.0.0 ∷ b.0.0, b.0.1) in
    subst (ItemsTaken bytes_of Is (suc count) bytes) (some_is made x b.2) (record {
      parts = first.parts ∙ ap (λ (l : List ℕ). bytes_of a.0.0 ++ l) others.parts ∙ sym (append_assoc (bytes_of a.0.0) (flat_map bytes_of b.0.0) b.0.1)
          ∙ ap (λ (l : List ℕ). l ++ b.0.1) (sym (flat_map-cons bytes_of a.0.0 b.0.0));
      many = ap suc others.many;
      are = (first.is, others.are);
      rest = others.rest;
    })

pub items_again : {X : Type 0} (item : List ℕ → Option (X × List ℕ)) (bytes_of : X → List ℕ) (Is : X → Type 0) → ItemReads item bytes_of Is
    → (xs : List X) (rest : List ℕ) → AllByRecursion Is xs → items_at item (length xs) (flat_map bytes_of xs ++ rest) ≡ Some (xs, rest)
unfolding items_at
items_again item bytes_of Is reads [] rest h = refl
items_again {X} item bytes_of Is reads (x ∷ xs) rest h =
    ap (λ (l : List ℕ). items_at item (suc (length xs)) l) (ap (λ (l : List ℕ). l ++ rest) (flat_map-cons bytes_of x xs) ∙ append_assoc (bytes_of x) (flat_map bytes_of xs) rest)
    ∙ ap (λ (p : Option (X × List ℕ)). p >>= λ first. items_at item (length xs) first.1 >>= λ others. Some (first.0 ∷ others.0, others.1)) (reads.again x (flat_map bytes_of xs ++ rest) h.0)
    ∙ ap (λ (p : Option (List X × List ℕ)). p >>= λ others. Some (x ∷ others.0, others.1)) (items_again item bytes_of Is reads xs rest h.1)

-- ---- behind their count

pub record CountedTaken {X : Type 0} (bytes_of : X → List ℕ) (Is : X → Type 0) (bytes : List ℕ) (x : List X × List ℕ) : Type 0 where
  pub parts : bytes ≡ to_be_bytes w32 (length x.0) ++ (flat_map bytes_of x.0 ++ x.1)
  pub few : length x.0 < 2 ^ 32
  pub are : AllByRecursion Is x.0
  pub rest : IsBytes x.1

pub counted_takes : {X : Type 0} (item : List ℕ → Option (X × List ℕ)) (bytes_of : X → List ℕ) (Is : X → Type 0) → ItemReads item bytes_of Is
    → (bytes : List ℕ) (x : List X × List ℕ) → IsBytes bytes → counted_at item bytes ≡ Some x → CountedTaken bytes_of Is bytes x
unfolding counted_at
counted_takes item bytes_of Is reads bytes x fits e =
    let a = bind_some (fixed_at w32 bytes) (λ count. items_at item count.0 count.1) x e in
    let count = fixed_takes w32 (2 ^ 32) wide32 bytes a.0 fits a.1 in
    let items = items_takes item bytes_of Is reads a.0.0 a.0.1 x count.rest a.2 in
    record {
      parts = count.parts ∙ ap (λ (l : List ℕ). to_be_bytes w32 a.0.0 ++ l) items.parts ∙ ap (λ (n : ℕ). to_be_bytes w32 n ++ (flat_map bytes_of x.0 ++ x.1)) (sym items.many);
      few = let lt = count.below in let m = items.many in omega (arith, lt, m);
      are = items.are;
      rest = items.rest;
    }

pub counted_again : {X : Type 0} (item : List ℕ → Option (X × List ℕ)) (bytes_of : X → List ℕ) (Is : X → Type 0) → ItemReads item bytes_of Is
    → (xs : List X) (rest : List ℕ) → length xs < 2 ^ 32 → AllByRecursion Is xs → counted_at item (to_be_bytes w32 (length xs) ++ (flat_map bytes_of xs ++ rest)) ≡ Some (xs, rest)
unfolding counted_at
counted_again item bytes_of Is reads xs rest few h =
    ap (λ (p : Option (ℕ × List ℕ)). p >>= λ count. items_at item count.0 count.1) (fixed_again w32 (2 ^ 32) wide32 (length xs) (flat_map bytes_of xs ++ rest) few)
    ∙ items_again item bytes_of Is reads xs rest h

-- ---- numbers, names, segments

abbrev pub IsNumber : ℕ → Type 0
IsNumber n = n < 2 ^ 64

pub numbers_read : ItemReads (fixed_at w64) (to_be_bytes w64) IsNumber
numbers_read = record {
  takes = λ bytes x fits e. (let t = fixed_takes w64 (2 ^ 64) wide64 bytes x fits e in record { parts = t.parts; is = t.below; rest = t.rest });
  again = λ n rest lt. fixed_again w64 (2 ^ 64) wide64 n rest lt;
}

abbrev pub itself : Name → List ℕ
itself name = name

pub pieces_read : ItemReads (piece_at 20) itself IsName
pieces_read = record {
  takes = λ bytes x fits e. (let t = piece_takes 20 bytes x fits e in record { parts = t.parts; is = name-is x.0 t.len t.front; rest = t.rest });
  again = λ name rest is. piece_again 20 name rest is.0;
}

known_takes : (bytes : List ℕ) (x : KnownName × List ℕ) → IsBytes bytes → known_at bytes ≡ Some x → ItemTaken told_name_bytes IsToldName bytes x
unfolding known_at
known_takes bytes x fits e =
    let a = bind_some (fixed_at w64 bytes) (λ id. piece_at 20 id.1 >>= λ name. Some (record { id = id.0; name = name.0 }, name.1)) x e in
    let b = bind_some (piece_at 20 a.0.1) (λ name. Some (record { id = a.0.0; name = name.0 }, name.1)) x a.2 in
    let id = fixed_takes w64 (2 ^ 64) wide64 bytes a.0 fits a.1 in
    let name = piece_takes 20 a.0.1 b.0 id.rest b.1 in
    let made : KnownName × List ℕ = (record { id = a.0.0; name = b.0.0 }, b.0.1) in
    subst (ItemTaken told_name_bytes IsToldName bytes) (some_is made x b.2) (record {
      parts = id.parts ∙ ap (λ (l : List ℕ). to_be_bytes w64 a.0.0 ++ l) name.parts ∙ sym (append_assoc (to_be_bytes w64 a.0.0) b.0.0 b.0.1);
      is = (id.below, name-is b.0.0 name.len name.front);
      rest = name.rest;
    })

known_again : (k : KnownName) (rest : List ℕ) → IsToldName k → known_at (told_name_bytes k ++ rest) ≡ Some (k, rest)
unfolding known_at
known_again k rest h =
    ap known_at (append_assoc (to_be_bytes w64 k.id) k.name rest)
    ∙ ap (λ (p : Option (ℕ × List ℕ)). p >>= λ id. piece_at 20 id.1 >>= λ name. Some (record { id = id.0; name = name.0 }, name.1)) (fixed_again w64 (2 ^ 64) wide64 k.id (k.name ++ rest) h.0)
    ∙ ap (λ (p : Option (List ℕ × List ℕ)). p >>= λ name. Some (record { id = k.id; name = name.0 }, name.1)) (piece_again 20 k.name rest h.1.0)

pub knowns_read : ItemReads known_at told_name_bytes IsToldName
knowns_read = record { takes = known_takes; again = known_again }

pub record ParentsTaken (bytes : List ℕ) (x : List ℕ × List ℕ) : Type 0 where
  pub parts : bytes ≡ (length x.0 ∷ numbers_bytes x.0) ++ x.1
  pub few : length x.0 ≤ 8
  pub are : AllByRecursion IsNumber x.0
  pub rest : IsBytes x.1

parents_take : (bytes : List ℕ) (x : List ℕ × List ℕ) → IsBytes bytes → parents_at bytes ≡ Some x → ParentsTaken bytes x
unfolding parents_at
parents_take [] x fits e = absurd cc
parents_take (count ∷ rest) x fits e =
    let g = chosen (leb count 8) (items_at (fixed_at w64) count rest) x e in
    let items = items_takes (fixed_at w64) (to_be_bytes w64) IsNumber numbers_read count rest x (bytes-rest count rest fits) g.1 in
    record {
      parts = ap (λ (l : List ℕ). count ∷ l) items.parts ∙ ap (λ (n : ℕ). n ∷ (numbers_bytes x.0 ++ x.1)) (sym items.many);
      few = let le = leb-true count 8 g.0 in let m = items.many in omega (arith, le, m);
      are = items.are;
      rest = items.rest;
    }

parents_again : (ps rest : List ℕ) → length ps ≤ 8 → AllByRecursion IsNumber ps → parents_at ((length ps ∷ numbers_bytes ps) ++ rest) ≡ Some (ps, rest)
unfolding parents_at
parents_again ps rest few h = rw (le-leb (length ps) 8 few) (items_again (fixed_at w64) (to_be_bytes w64) IsNumber numbers_read ps rest h)

segment_takes : (bytes : List ℕ) (x : Segment × List ℕ) → IsBytes bytes → segment_at bytes ≡ Some x → ItemTaken told_segment_bytes IsTold bytes x
unfolding segment_at
segment_takes bytes x fits e =
    let a = bind_some (fixed_at w64 bytes) (λ low. fixed_at w64 low.1 >>= λ high. parents_at high.1 >>= λ parents. Some (record { low = low.0; high = high.0; level = 0; parents = parents.0 }, parents.1)) x e in
    let b = bind_some (fixed_at w64 a.0.1) (λ high. parents_at high.1 >>= λ parents. Some (record { low = a.0.0; high = high.0; level = 0; parents = parents.0 }, parents.1)) x a.2 in
    let c = bind_some (parents_at b.0.1) (λ parents. Some (record { low = a.0.0; high = b.0.0; level = 0; parents = parents.0 }, parents.1)) x b.2 in
    let low = fixed_takes w64 (2 ^ 64) wide64 bytes a.0 fits a.1 in
    let high = fixed_takes w64 (2 ^ 64) wide64 a.0.1 b.0 low.rest b.1 in
    let parents = parents_take b.0.1 c.0 high.rest c.1 in
    let made : Segment × List ℕ = (record { low = a.0.0; high = b.0.0; level = 0; parents = c.0.0 }, c.0.1) in
    let told = length c.0.0 ∷ numbers_bytes c.0.0 in
    subst (ItemTaken told_segment_bytes IsTold bytes) (some_is made x c.2) (record {
      parts = low.parts ∙ ap (λ (l : List ℕ). to_be_bytes w64 a.0.0 ++ l) (high.parts ∙ ap (λ (l : List ℕ). to_be_bytes w64 b.0.0 ++ l) parents.parts ∙ sym (append_assoc (to_be_bytes w64 b.0.0) told c.0.1))
          ∙ sym (append_assoc (to_be_bytes w64 a.0.0) (to_be_bytes w64 b.0.0 ++ told) c.0.1);
      is = record { flat = refl; low = low.below; high = high.below; few = parents.few; parents = parents.are };
      rest = parents.rest;
    })

segment_again : (s : Segment) (rest : List ℕ) → IsTold s → segment_at (told_segment_bytes s ++ rest) ≡ Some (s, rest)
unfolding segment_at
segment_again s rest h =
    let told = length s.parents ∷ numbers_bytes s.parents in
    let whole : Segment → Option (Segment × List ℕ) = λ q. Some (q, rest) in
    ap segment_at (append_assoc (to_be_bytes w64 s.low) (to_be_bytes w64 s.high ++ told) rest ∙ ap (λ (l : List ℕ). to_be_bytes w64 s.low ++ l) (append_assoc (to_be_bytes w64 s.high) told rest))
    ∙ ap (λ (p : Option (ℕ × List ℕ)). p >>= λ low. fixed_at w64 low.1 >>= λ high. parents_at high.1 >>= λ parents. Some (record { low = low.0; high = high.0; level = 0; parents = parents.0 }, parents.1)) (fixed_again w64 (2 ^ 64) wide64 s.low (to_be_bytes w64 s.high ++ (told ++ rest)) h.low)
    ∙ ap (λ (p : Option (ℕ × List ℕ)). p >>= λ high. parents_at high.1 >>= λ parents. Some (record { low = s.low; high = high.0; level = 0; parents = parents.0 }, parents.1)) (fixed_again w64 (2 ^ 64) wide64 s.high (told ++ rest) h.high)
    ∙ ap (λ (p : Option (List ℕ × List ℕ)). p >>= λ parents. Some (record { low = s.low; high = s.high; level = 0; parents = parents.0 }, parents.1)) (parents_again s.parents rest h.few h.parents)
    ∙ ap whole (ap (λ (n : ℕ). (let q : Segment = record { low = s.low; high = s.high; level = n; parents = s.parents } in q)) (sym h.flat))

pub segments_read : ItemReads segment_at told_segment_bytes IsTold
segments_read = record { takes = segment_takes; again = segment_again }
