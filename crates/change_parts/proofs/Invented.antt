-- Lawful payloads stand for some world, and pending rows behind them are rows of a session that sees it.
use Rattle.std.proofs.Common.{◌≡◌, ◌<◌, ◌≤◌, ◌+◌, ◌-◌, ◌^◌, ℕ, zero, suc, true, ◌⊎◌, inl, inr, List, [], ◌∷◌, ◌++◌, length, map, flat_map, Option, Some, None, slice_get, get_or, refl, sym, ap, ap₂, subst, ◌∙◌, ⊎_elim, arith, append_assoc, append-nil, length-append, lit≤}
use Rattle.std.specs.List.{AllByRecursion, last_or}
use Rattle.std.proofs.lemmas.List.{map-append, length-map}
use Rattle.id_groups.specs.Lists.{IsIn, AreDistinct}
use Rattle.id_groups.specs.Name.{Name, IsName, same_name}
use Rattle.commit_graph.specs.World.{Row, World, IsWorld, IsHistory, IsNamedWorld, names_of, rows_of, with_pending}
use Rattle.commit_graph.specs.Ids.{id_in, parent_ids}
use Rattle.commit_graph.proofs.Histories.{history-front, in-all, in-append}
use Rattle.commit_graph.proofs.Down.{in-left, in-right}
use Rattle.commit_graph.proofs.Naming.{each, all-each}
use Rattle.segment_codec.specs.Record.{Segment, IsSegment, HasLevelsParents}
use Rattle.segment_codec.specs.Table.{Follow}
use Rattle.batch_codec.specs.Payload.{Payload, Known, known_ids, known_names}
use Rattle.batch_codec.specs.Reading.{ids_ascend}
use Rattle.batch_codec.specs.Grammar.{IsPayload, HasOthersParents, AreFlat, count_after}
use Rattle.change_rules.specs.Lawful.{AreLawful}
use Rattle.batch_codec.proofs.Ascending.{ascend-each, ascend-parts, increasing-ascend}
use Rattle.batch_codec.proofs.Meanings.{ascend-length}
use Rattle.name_map.specs.Part.{upward}
use Rattle.name_map.proofs.Ids.{in-upward}
use Rattle.segment_rules.specs.Flat.{followers, segment_parents, parents_listed as parents_in}
use Rattle.change_rules.specs.Tables.{newest, others_in, other_names_in, StandFor}
use Rattle.payload_tables.specs.Pending.{HeldRow, row_names}
use Rattle.payload_tables.specs.Bases.{held_row}
use Rattle.payload_tables.proofs.Lists.{all-append, parents-known, count-last, distinct-join, distinct-parts}
use Rattle.payload_tables.proofs.Joined.{get-map, seen-id}
use Rattle.payload_tables.proofs.Standing.{lawful-follow}
use Rattle.change_parts.proofs.Renumber.{in-map, map-in-back}
use Rattle.change_parts.proofs.Fresh.{family, name-of-id, fresh-number, name-known, names-one, name-apart, name-whole}
use Rattle.change_parts.proofs.NumberedRows.{AllRows, Below, Behind, rows-join, row, world, is-world, row-again}

-- ---- payloads in turn

abbrev InTurn : ℕ → List Payload → Type 0
InTurn n [] = Unit {0}
InTurn n (p ∷ more) = IsPayload p × (p.before ≡ n) × InTurn p.after more

pub in-turn : (before more : List Payload) → AreLawful before more → InTurn (count_after 0 before) more
in-turn before [] h = tt
in-turn before (p ∷ more) h = (h.0.whole, h.0.count, subst (λ n. InTurn n more) (count-last 0 before p) (in-turn (before ++ p ∷ []) more h.1))

turn-grows : (n : ℕ) (payloads : List Payload) → InTurn n payloads → n ≤ count_after n payloads
turn-grows n [] h = omega arith
turn-grows n (p ∷ more) h = let r = turn-grows p.after more h.2 in let g = h.0.counts.grows in let e = h.1 in omega (arith, r, g, e)

pub count-small : (n : ℕ) (payloads : List Payload) → n ≤ 16777216 → InTurn n payloads → count_after n payloads ≤ 16777216
count-small n [] le h = le
count-small n (p ∷ more) le h = count-small p.after more h.0.counts.master h.2

abbrev pub known_in : List Payload → List Known
known_in payloads = flat_map (λ p. p.known) payloads

-- the known ids of a payload ascend
ascends : (p : Payload) → IsPayload p → ids_ascend p.before p.after (known_ids p) ≡ true
ascends p h = increasing-ascend p.before p.after (known_ids p) (λ some. first (known_ids p) some h.known.within) (uppers (known_ids p) h.known.within) h.known.ascend
  where
    first : (ids : List ℕ) → 0 < length ids → AllByRecursion (λ id. (p.before ≤ id) × (id < p.after)) ids → p.before ≤ get_or ids 0 0
    first [] lt h = absurd (omega (arith, lt))
    first (x ∷ ids) lt h = h.0.0

    uppers : (ids : List ℕ) → AllByRecursion (λ id. (p.before ≤ id) × (id < p.after)) ids → AllByRecursion (λ id. id < p.after) ids
    uppers [] h = tt
    uppers (x ∷ ids) h = (h.0.1, uppers ids h.1)

ids-apart : (least end : ℕ) (ids : List ℕ) → ids_ascend least end ids ≡ true → AreDistinct ids
ids-apart least end [] h = tt
ids-apart least end (x ∷ ids) h =
    let parts = ascend-parts least end x ids h in
    ((λ i. let lo = (each (λ id. (x + 1 ≤ id) × (id < end)) ids (ascend-each (x + 1) end ids parts.2) x i).0 in let z : ⊥ = omega (arith, lo) in z), ids-apart (x + 1) end ids parts.2)

known-within : (p : Payload) → IsPayload p → (id : ℕ) → IsIn id (known_ids p) → (p.before ≤ id) × (id < p.after)
known-within p h id i = each (λ id. (p.before ≤ id) × (id < p.after)) (known_ids p) h.known.within id i

ids-from : (n : ℕ) (payloads : List Payload) → InTurn n payloads → (id : ℕ) → IsIn id (map (λ (k : Known). k.id) (known_in payloads)) → (n ≤ id) × (id < count_after n payloads)
ids-from n [] h id i = absurd i
ids-from n (p ∷ more) h id i =
    let e = h.1 in
    ⊎_elim
    (λ j. let w = known-within p h.0 id j in let lo = w.0 in let hi = w.1 in let g = turn-grows p.after more h.2 in (omega (arith, lo, e), omega (arith, hi, g)))
    (λ j. let r = ids-from p.after more h.2 id j in let lo = r.0 in let g = h.0.counts.grows in (omega (arith, lo, g, e), r.1))
    (in-append id (known_ids p) (map (λ (k : Known). k.id) (known_in more)) (subst (IsIn id) (map-append (λ (k : Known). k.id) p.known (known_in more)) i))

ids-distinct : (n : ℕ) (payloads : List Payload) → InTurn n payloads → AreDistinct (map (λ (k : Known). k.id) (known_in payloads))
ids-distinct n [] h = tt
ids-distinct n (p ∷ more) h =
    subst AreDistinct (sym (map-append (λ (k : Known). k.id) p.known (known_in more)))
    (distinct-join (known_ids p) (map (λ (k : Known). k.id) (known_in more)) (ids-apart p.before p.after (known_ids p) (ascends p h.0)) (ids-distinct p.after more h.2)
    (λ id i j. let hi = (known-within p h.0 id i).1 in let lo = (ids-from p.after more h.2 id j).0 in let z : ⊥ = omega (arith, hi, lo) in z))

known-few : (n : ℕ) (payloads : List Payload) → InTurn n payloads → n + length (known_in payloads) ≤ count_after n payloads
known-few n [] h = omega arith
known-few n (p ∷ more) h =
    let r = known-few p.after more h.2 in let l = length-append p.known (known_in more) in let m = length-map p.known (λ (k : Known). k.id) in
    let s = ascend-length p.before p.after (known_ids p) (ascends p h.0) in let e = h.1 in let g = h.0.counts.grows in omega (arith, r, l, m, s, e, g)

pub known-named : (payloads : List Payload) → map (λ (k : Known). k.name) (known_in payloads) ≡ flat_map known_names payloads
known-named [] = refl
known-named (p ∷ more) = map-append (λ (k : Known). k.name) p.known (known_in more) ∙ ap (λ l. known_names p ++ l) (known-named more)

known-whole : (n : ℕ) (payloads : List Payload) → InTurn n payloads → AllByRecursion IsName (flat_map known_names payloads)
known-whole n [] h = tt
known-whole n (p ∷ more) h = all-append IsName (known_names p) (flat_map known_names more) h.0.names (known-whole p.after more h.2)

-- all known names, and those of the newest others
names-apart : (before more : List Payload) (o : Option Payload) → AreLawful before more → AreDistinct (flat_map known_names before ++ other_names_in o)
    → AreDistinct (flat_map known_names (before ++ more) ++ other_names_in (last_or o more))
names-apart before [] o h d = subst (λ l. AreDistinct (flat_map known_names l ++ other_names_in o)) (sym (append-nil before)) d
names-apart before (p ∷ more) o h d = subst (λ l. AreDistinct (flat_map known_names l ++ other_names_in (last_or (Some p) more))) (append_assoc before (p ∷ []) more)
    (names-apart (before ++ p ∷ []) more (Some p) h.1 h.0.distinct)

-- ---- the newest others

record OthersAre (count : ℕ) (o : Option Payload) : Type 0 where
  pub follow : Follow (2 ^ 56) (2 ^ 56 + length (other_names_in o)) (others_in o)
  pub flat : AreFlat (others_in o)
  pub parents : AllByRecursion (HasOthersParents count) (others_in o)
  pub whole : AllByRecursion IsName (other_names_in o)
  pub few : length (other_names_in o) ≤ 65536

others-are : (n : ℕ) (payloads : List Payload) (o : Option Payload) → InTurn n payloads → OthersAre n o → OthersAre (count_after n payloads) (last_or o payloads)
others-are n [] o h a = a
others-are n (p ∷ more) o h a = others-are p.after more (Some p) h.2 (record { follow = h.0.cover.others; flat = h.0.cover.flat_others; parents = h.0.parents.others; whole = h.0.other_names; few = h.0.counts.others })

masters-flat : (n : ℕ) (payloads : List Payload) → InTurn n payloads → AreFlat (flat_map (λ p. p.master) payloads)
masters-flat n [] h = tt
masters-flat n (p ∷ more) h = all-append (λ s. IsSegment s × (s.level ≡ 0)) p.master (flat_map (λ q. q.master) more) h.0.cover.flat_master (masters-flat p.after more h.2)

-- ---- the parents of ids, row by row

abbrev pub AllFrom : (ℕ → List ℕ → Type 0) → ℕ → List (List ℕ) → Type 0
AllFrom Q k [] = Unit {0}
AllFrom Q k (ps ∷ more) = Q k ps × AllFrom Q (k + 1) more

from-join : (Q : ℕ → List ℕ → Type 0) (k : ℕ) (xs ys : List (List ℕ)) → AllFrom Q k xs → AllFrom Q (k + length xs) ys → AllFrom Q k (xs ++ ys)
from-join Q k [] ys h g = subst (λ n. AllFrom Q n ys) (let z : k + 0 ≡ k = omega arith in z) g
from-join Q k (x ∷ xs) ys h g = (h.0, from-join Q (k + 1) xs ys h.1 (subst (λ n. AllFrom Q n ys) (let z : k + suc (length xs) ≡ k + 1 + length xs = omega arith in z) g))

followers-long : (id n : ℕ) → length (followers id n) ≡ n
followers-long id zero = refl
followers-long id (suc n) = ap suc (followers-long (id + 1) n)

followers-from : (Q : ℕ → List ℕ → Type 0) (base : ℕ) → ((k : ℕ) → Q (k + 1) ((base + k) ∷ [])) → (k id n : ℕ) → id ≡ base + k → AllFrom Q (k + 1) (followers id n)
followers-from Q base f k id zero e = tt
followers-from Q base f k id (suc n) e = (subst (λ i. Q (k + 1) (i ∷ [])) (sym e) (f k), followers-from Q base f (k + 1) (id + 1) n (omega (arith, e)))

listed-long : (first end : ℕ) (segments : List Segment) → Follow first end segments → first + length (parents_in segments) ≡ end
listed-long first end [] h = omega (arith, h)
listed-long first end (s ∷ more) h =
    let r = listed-long (s.high + 1) end more h.2 in let l = length-append (segment_parents s) (parents_in more) in let m = followers-long s.low (s.high - s.low) in
    let e = h.0 in let le = h.1 in omega (arith, r, l, m, e, le)

pub listed-from : (Q : ℕ → List ℕ → Type 0) (base : ℕ) → ((k : ℕ) → Q (k + 1) ((base + k) ∷ [])) → (k end : ℕ) (segments : List Segment) → Follow (base + k) end segments
    → AllByRecursion (λ s. (j : ℕ) → s.low ≡ base + j → Q j s.parents) segments → AllFrom Q k (parents_in segments)
listed-from Q base f k end [] h own = tt
listed-from Q base f k end (s ∷ more) h own =
    let e = h.0 in let le = h.1 in let m = followers-long s.low (s.high - s.low) in
    from-join Q k (segment_parents s) (parents_in more) (own.0 k h.0, followers-from Q base f k s.low (s.high - s.low) h.0)
    (listed-from Q base f (k + length (segment_parents s)) end more
    (subst (λ n. Follow n end more) (let z : s.high + 1 ≡ base + (k + length (segment_parents s)) = omega (arith, e, le, m) in z) h.2) own.1)

-- names and parents together
zipped : List Name → List (List ℕ) → List HeldRow
zipped [] parents = []
zipped (x ∷ names) [] = []
zipped (x ∷ names) (ps ∷ parents) = record { name = x; parents = ps } ∷ zipped names parents

zipped-names : (names : List Name) (parents : List (List ℕ)) → length names ≡ length parents → row_names (zipped names parents) ≡ names
unfolding zipped
zipped-names [] parents e = refl
zipped-names (x ∷ names) [] e = absurd (omega (arith, e))
zipped-names (x ∷ names) (ps ∷ parents) e = ap (λ l. x ∷ l) (zipped-names names parents (omega (arith, e)))

zipped-parents : (names : List Name) (parents : List (List ℕ)) → length names ≡ length parents → map (λ (r : HeldRow). r.parents) (zipped names parents) ≡ parents
unfolding zipped
zipped-parents [] [] e = refl
zipped-parents [] (ps ∷ parents) e = absurd (omega (arith, e))
zipped-parents (x ∷ names) [] e = absurd (omega (arith, e))
zipped-parents (x ∷ names) (ps ∷ parents) e = ap (λ l. ps ∷ l) (zipped-parents names parents (omega (arith, e)))

zipped-long : (names : List Name) (parents : List (List ℕ)) → length names ≡ length parents → length (zipped names parents) ≡ length names
unfolding zipped
zipped-long [] parents e = refl
zipped-long (x ∷ names) [] e = absurd (omega (arith, e))
zipped-long (x ∷ names) (ps ∷ parents) e = ap suc (zipped-long names parents (omega (arith, e)))

zipped-rows : (Q : ℕ → List ℕ → Type 0) (k : ℕ) (names : List Name) (parents : List (List ℕ)) → AllFrom Q k parents → AllRows Q k (zipped names parents)
unfolding zipped
zipped-rows Q k [] parents h = tt
zipped-rows Q k (x ∷ names) [] h = tt
zipped-rows Q k (x ∷ names) (ps ∷ parents) h = (h.0, zipped-rows Q (k + 1) names parents h.1)

upward-long : (first n : ℕ) → length (upward first n) ≡ n
upward-long first zero = refl
upward-long first (suc n) = ap suc (upward-long (first + 1) n)

upward-get : (first n k : ℕ) → k < n → slice_get (upward first n) k ≡ Some (first + k)
upward-get first zero k lt = absurd (omega (arith, lt))
upward-get first (suc n) zero lt = ap Some (let z : first ≡ first + 0 = omega arith in z)
upward-get first (suc n) (suc k) lt = upward-get (first + 1) n k (omega (arith, lt)) ∙ ap Some (let z : first + 1 + k ≡ first + suc k = omega arith in z)

upward-apart : (first n : ℕ) → AreDistinct (upward first n)
upward-apart first zero = tt
upward-apart first (suc n) = ((λ i. let lo = (in-upward first (first + 1) n i).0 in let z : ⊥ = omega (arith, lo) in z), upward-apart (first + 1) n)

named-apart : (f : ℕ → Name) (xs : List ℕ) → ((x y : ℕ) → IsIn x xs → IsIn y xs → f x ≡ f y → x ≡ y) → AreDistinct xs → AreDistinct (map f xs)
named-apart f [] one d = tt
named-apart f (x ∷ xs) one d = (
  (λ i. let r = map-in-back f (f x) xs i in d.0 (subst (λ z. IsIn z xs) (sym (one x r.0 (inl refl) (inr r.1) r.2)) r.1)),
  named-apart f xs (λ y z i j. one y z (inr i) (inr j)) d.1,
)

all-named : (f : ℕ → Name) (xs : List ℕ) → ((x : ℕ) → IsName (f x)) → AllByRecursion IsName (map f xs)
all-named f [] h = tt
all-named f (x ∷ xs) h = (h x, all-named f xs h)

flat-own : (s : Segment) → IsSegment s × (s.level ≡ 0) → AllByRecursion (λ p. p < s.low) s.parents × AreDistinct s.parents × (length s.parents ≤ 8)
flat-own s h = (h.0.below, h.0.distinct, subst (λ n. HasLevelsParents n s.parents) h.1 h.0.level_parents)

masters-own : (segments : List Segment) → AreFlat segments → AllByRecursion (λ s. (j : ℕ) → s.low ≡ 0 + j → Below j s.parents) segments
masters-own [] h = tt
masters-own (s ∷ more) h =
    ((λ j e. let o = flat-own s h.0 in (subst (λ n. AllByRecursion (λ p. p < n) s.parents) (let z : s.low ≡ j = omega (arith, e) in z) o.0, o.1, o.2)), masters-own more h.1)

others-own : (m : ℕ) (segments : List Segment) → AreFlat segments → AllByRecursion (HasOthersParents m) segments → AllByRecursion (λ s. (j : ℕ) → s.low ≡ 2 ^ 56 + j → Behind m j s.parents) segments
others-own m [] h g = tt
others-own m (s ∷ more) h g =
    ((λ j e. let o = flat-own s h.0 in (subst (λ n. AllByRecursion (λ p. (p < m) ⊎ ((2 ^ 56 ≤ p) × (p < n))) s.parents) e g.0, o.1, o.2)), others-own m more h.1 g.1)

-- rows behind so many others, whose parents lie before them
pub record FitAmong (payloads : List Payload) (rows : List HeldRow) : Type 0 where
  pub parents : AllRows (Behind (count_after 0 payloads)) (length (other_names_in (newest payloads))) rows
  pub distinct : AreDistinct (row_names rows)
  pub few : length rows ≤ 2 ^ 32
  pub new : (x : Name) → IsIn x (row_names rows) → IsIn x (flat_map known_names payloads) ⊎ IsIn x (other_names_in (newest payloads)) → ⊥

-- the same of rows that may be pending
pub record FitBehind (payloads : List Payload) (rows : List HeldRow) : Type 0 where
  pub parents : AllRows (Behind (count_after 0 payloads)) (length (other_names_in (newest payloads))) rows
  pub distinct : AreDistinct (row_names rows)
  pub whole : AllByRecursion IsName (row_names rows)
  pub few : length rows ≤ 16777216
  pub new : (x : Name) → IsIn x (row_names rows) → IsIn x (flat_map known_names payloads) ⊎ IsIn x (other_names_in (newest payloads)) → ⊥

-- a world for which payloads stand, and the rows of a session that sees it
pub record Stands (payloads : List Payload) (rows : List HeldRow) : Type 0 where
  pub of_world : World Name
  pub pending : List (Row Name)
  pub stand : StandFor payloads of_world
  pub named : IsNamedWorld of_world
  pub view : IsWorld (with_pending of_world pending)
  pub rows_are : rows ≡ map (held_row (with_pending of_world pending)) pending

module _ (payloads : List Payload) (lawful : AreLawful [] payloads) (rows : List HeldRow) (fit : FitAmong payloads rows) where
  turn : InTurn 0 payloads
  turn = in-turn [] payloads lawful

  m : ℕ
  m = count_after 0 payloads

  abbrev known : List Known
  known = known_in payloads

  abbrev others : List Name
  others = other_names_in (newest payloads)

  abbrev used : List Name
  used = map (λ (k : Known). k.name) known ++ (others ++ row_names rows)

  facts : OthersAre (count_after 0 payloads) (newest payloads)
  facts = others-are 0 payloads None turn (record { follow = refl; flat = tt; parents = tt; whole = tt; few = (let z : 0 ≤ 65536 = lit≤ tt in z) })

  few-used : length (map family used) ≤ 2 ^ 60
  few-used =
      let a = length-map used family in
      let b = length-append (map (λ (k : Known). k.name) known) (others ++ row_names rows) in
      let c = length-append others (row_names rows) in
      let d = length-map rows (λ (r : HeldRow). r.name) in
      let e = length-map known (λ (k : Known). k.name) in
      let f = facts.few in let g = fit.few in let h = known-few 0 payloads turn in let i = count-small 0 payloads (let z : 0 ≤ 16777216 = lit≤ tt in z) turn in
      omega (arith, a, b, c, d, e, f, g, h, i)

  found : (t : ℕ) × (t ≤ 2 ^ 60) × (IsIn t (map family used) → ⊥)
  found = fresh-number (2 ^ 60) (map family used) few-used

  abbrev t : ℕ
  t = found.0

  room : t < 2 ^ 64
  room = let le = found.1 in omega (arith, le)

  names_apart : AreDistinct (flat_map known_names payloads ++ others)
  names_apart = names-apart [] payloads None lawful tt

  known_apart : AreDistinct (map (λ (k : Known). k.name) known)
  known_apart = subst AreDistinct (sym (known-named payloads)) (distinct-parts (flat_map known_names payloads) others names_apart).0

  ids_apart : AreDistinct (map (λ (k : Known). k.id) known)
  ids_apart = ids-distinct 0 payloads turn

  known_used : (x : Name) → IsIn x (map (λ (k : Known). k.name) known) → IsIn x used
  known_used x i = in-left x (map (λ (k : Known). k.name) known) (others ++ row_names rows) i

  abbrev name : ℕ → Name
  name = name-of-id t known

  abbrev segments : List Segment
  segments = flat_map (λ p. p.master) payloads

  abbrev masters : List (List ℕ)
  masters = parents_in segments

  follow : Follow 0 (count_after 0 payloads) segments
  follow = lawful-follow [] payloads lawful

  masters_long : length masters ≡ count_after 0 payloads
  masters_long = let l = listed-long 0 (count_after 0 payloads) segments follow in omega (arith, l)

  abbrev names : List Name
  names = map name (upward 0 (count_after 0 payloads))

  names_long : length names ≡ length masters
  names_long = length-map (upward 0 (count_after 0 payloads)) name ∙ upward-long 0 (count_after 0 payloads) ∙ sym masters_long

  abbrev ms : List HeldRow
  ms = zipped names masters

  ms_names : row_names ms ≡ names
  ms_names = zipped-names names masters names_long

  ms_long : length ms ≡ count_after 0 payloads
  ms_long = zipped-long names masters names_long ∙ names_long ∙ masters_long

  ms_below : AllRows Below 0 ms
  ms_below = zipped-rows Below 0 names masters
      (listed-from Below 0 (λ k. ((omega arith, tt), ((λ i. i), tt), lit≤ tt)) 0 (count_after 0 payloads) segments follow (masters-own segments (masters-flat 0 payloads turn)))

  abbrev other_parents : List (List ℕ)
  other_parents = parents_in (others_in (newest payloads))

  others_long : length others ≡ length other_parents
  others_long = let l = listed-long (2 ^ 56) (2 ^ 56 + length others) (others_in (newest payloads)) facts.follow in omega (arith, l)

  abbrev os : List HeldRow
  os = zipped others other_parents

  os_names : row_names os ≡ others
  os_names = zipped-names others other_parents others_long

  abbrev bs : List HeldRow
  bs = os ++ rows

  bs_behind : AllRows (Behind (count_after 0 payloads)) 0 bs
  bs_behind = rows-join (Behind (count_after 0 payloads)) 0 os rows
      (zipped-rows (Behind (count_after 0 payloads)) 0 others other_parents
      (listed-from (Behind (count_after 0 payloads)) (2 ^ 56) (λ k. ((inr (omega arith, omega arith), tt), ((λ i. i), tt), lit≤ tt)) 0 (2 ^ 56 + length others) (others_in (newest payloads)) facts.follow
      (others-own (count_after 0 payloads) (others_in (newest payloads)) facts.flat facts.parents)))
      (subst (λ n. AllRows (Behind (count_after 0 payloads)) n rows) (let l = zipped-long others other_parents others_long in let z : length others ≡ 0 + length os = omega (arith, l) in z) fit.parents)

  small : length ms ≤ 2 ^ 56
  small = let l = ms_long in let c = count-small 0 payloads (let z : 0 ≤ 16777216 = lit≤ tt in z) turn in omega (arith, l, c)

  names_are : row_names (ms ++ bs) ≡ names ++ (others ++ row_names rows)
  names_are = map-append (λ (x : HeldRow). x.name) ms bs ∙ ap₂ (λ a b. a ++ b) ms_names (map-append (λ (x : HeldRow). x.name) os rows ∙ ap (λ l. l ++ row_names rows) os_names)

  id-fits : (id : ℕ) → IsIn id (upward 0 (count_after 0 payloads)) → id < 2 ^ 64
  id-fits id i = let lt = (in-upward id 0 (count_after 0 payloads) i).1 in let c = count-small 0 payloads (let z : 0 ≤ 16777216 = lit≤ tt in z) turn in omega (arith, lt, c)

  all_apart : AreDistinct (row_names (ms ++ bs))
  all_apart = subst AreDistinct (sym names_are)
      (distinct-join names (others ++ row_names rows)
      (named-apart name (upward 0 (count_after 0 payloads)) (λ x y i j e. names-one t known room known_apart ids_apart used found.2 known_used x y (id-fits x i) (id-fits y j) e) (upward-apart 0 (count_after 0 payloads)))
      (distinct-join others (row_names rows) (distinct-parts (flat_map known_names payloads) others names_apart).1 fit.distinct (λ x i j. fit.new x j (inr i)))
      (λ x i j.
      let n = map-in-back name x (upward 0 (count_after 0 payloads)) i in
      let k : IsIn x (flat_map known_names payloads) = subst (IsIn x) (known-named payloads)
      (name-apart t known room known_apart ids_apart used found.2 known_used n.0 x (sym n.2) (in-right x (map (λ (k : Known). k.name) known) (others ++ row_names rows) j)) in
      ⊎_elim (λ o. (distinct-parts (flat_map known_names payloads) others names_apart).2 x k o) (λ o. fit.new x o (inl k)) (in-append x others (row_names rows) j)))

  bs_stand : AllRows (Behind (length ms)) 0 bs
  bs_stand = subst (λ n. AllRows (Behind n) 0 bs) (sym ms_long) bs_behind

  abbrev to_row : HeldRow → Row Name
  to_row x = row ms bs all_apart small ms_below bs_stand x

  abbrev of_world : World Name
  of_world = record { master = map to_row ms; others = map to_row os }

  abbrev pending : List (Row Name)
  pending = map to_row rows

  view_is : world ms bs all_apart small ms_below bs_stand ≡ with_pending of_world pending
  view_is = ap (λ l. record { master = map to_row ms; others = l }) (map-append to_row os rows)

  view : IsWorld (with_pending of_world pending)
  view = subst IsWorld view_is (is-world ms bs all_apart small ms_below bs_stand)

  again : (x : HeldRow) → IsIn x (ms ++ bs) → map (id_in same_name (with_pending of_world pending)) (to_row x).parents ≡ x.parents
  again x i = subst (λ v. map (id_in same_name v) (to_row x).parents ≡ x.parents) view_is (row-again ms bs all_apart small ms_below bs_stand x i)

  parents-again : (some : List HeldRow) → ((x : HeldRow) → IsIn x some → IsIn x (ms ++ bs)) → parent_ids same_name (with_pending of_world pending) (map to_row some) ≡ map (λ (x : HeldRow). x.parents) some
  parents-again [] f = refl
  parents-again (x ∷ some) f = ap₂ (λ a b. a ∷ b) (again x (f x (inl refl))) (parents-again some (λ y i. f y (inr i)))

  rows-again : (some : List HeldRow) → ((x : HeldRow) → IsIn x some → IsIn x (ms ++ bs)) → some ≡ map (held_row (with_pending of_world pending)) (map to_row some)
  rows-again [] f = refl
  rows-again (x ∷ some) f = ap₂ (λ a b. a ∷ b) (ap (λ ps. record { name = x.name; parents = ps }) (sym (again x (f x (inl refl))))) (rows-again some (λ y i. f y (inr i)))

  names-again : (some : List HeldRow) → names_of (map to_row some) ≡ row_names some
  names-again [] = refl
  names-again (x ∷ some) = ap (λ l. x.name ∷ l) (names-again some)

  old_world : IsWorld of_world
  old_world = history-front [] (map to_row ms ++ map to_row os) pending (subst (IsHistory []) (sym (append_assoc (map to_row ms) (map to_row os) pending)) view)

  seen-all : (ps : List Name) → ((p : Name) → IsIn p ps → IsIn p (names_of (rows_of of_world))) → map (id_in same_name (with_pending of_world pending)) ps ≡ map (id_in same_name of_world) ps
  seen-all [] f = refl
  seen-all (p ∷ ps) f = ap₂ (λ a b. a ∷ b) (seen-id of_world pending p (f p (inl refl))) (seen-all ps (λ q i. f q (inr i)))

  seen-rows : (some : List (Row Name)) → ((r : Row Name) → IsIn r some → IsIn r (rows_of of_world)) → parent_ids same_name of_world some ≡ parent_ids same_name (with_pending of_world pending) some
  seen-rows [] f = refl
  seen-rows (r ∷ some) f = ap₂ (λ a b. a ∷ b)
      (sym (seen-all r.parents (λ p i. in-all p r.parents (names_of (rows_of of_world)) i (parents-known [] (rows_of of_world) old_world r (f r (inl refl))))))
      (seen-rows some (λ q i. f q (inr i)))

  in-ms : (x : HeldRow) → IsIn x ms → IsIn x (ms ++ bs)
  in-ms x i = in-left x ms bs i

  in-bs : (x : HeldRow) → IsIn x bs → IsIn x (ms ++ bs)
  in-bs x i = in-right x ms bs i

  master-stands : masters ≡ parent_ids same_name of_world (map to_row ms)
  master-stands = sym (seen-rows (map to_row ms) (λ r i. in-left r (map to_row ms) (map to_row os) i) ∙ parents-again ms in-ms ∙ zipped-parents names masters names_long)

  others-stand : other_parents ≡ parent_ids same_name of_world (map to_row os)
  others-stand = sym (seen-rows (map to_row os) (λ r i. in-right r (map to_row ms) (map to_row os) i) ∙ parents-again os (λ x i. in-bs x (in-left x os rows i)) ∙ zipped-parents others other_parents others_long)

  known-stands : AllByRecursion (λ (k : Known). slice_get (names_of (map to_row ms)) k.id ≡ Some k.name) known
  known-stands = all-each (λ (k : Known). slice_get (names_of (map to_row ms)) k.id ≡ Some k.name) known (λ k i.
      let lt = (ids-from 0 payloads turn k.id (in-map (λ (q : Known). q.id) k known i)).1 in
      ap (λ l. slice_get l k.id) (names-again ms ∙ ms_names)
      ∙ get-map name (upward 0 (count_after 0 payloads)) k.id k.id (upward-get 0 (count_after 0 payloads) k.id lt ∙ ap Some (let z : 0 + k.id ≡ k.id = omega arith in z))
      ∙ ap Some (name-known t known room known_apart ids_apart used found.2 known_used k i))

  all-whole : AllByRecursion IsName (names_of (rows_of of_world))
  all-whole = subst (AllByRecursion IsName)
      (sym (map-append (λ (r : Row Name). r.name) (map to_row ms) (map to_row os) ∙ ap₂ (λ a b. a ++ b) (names-again ms ∙ ms_names) (names-again os ∙ os_names)))
      (all-append IsName names others
      (all-named name (upward 0 (count_after 0 payloads)) (name-whole t known room known_apart ids_apart used found.2 known_used (subst (AllByRecursion IsName) (sym (known-named payloads)) (known-whole 0 payloads turn))))
      facts.whole)

  pub world-among : Stands payloads rows
  world-among = record {
    of_world = of_world;
    pending = pending;
    stand = record {
      count = sym (length-map ms to_row ∙ ms_long);
      master = master-stands;
      known = known-stands;
      others = others-stand;
      names = sym (names-again os ∙ os_names);
    };
    named = record { world = old_world; names = all-whole };
    view = view;
    rows_are = rows-again rows (λ x i. in-bs x (in-right x os rows i));
  }

pub some-world : (payloads : List Payload) → AreLawful [] payloads → (rows : List HeldRow) → FitBehind payloads rows → Stands payloads rows
some-world payloads lawful rows fit = world-among payloads lawful rows (record { parents = fit.parents; distinct = fit.distinct; few = (let f = fit.few in let k : 16777216 ≤ 2 ^ 32 = lit≤ tt in omega (arith, f, k)); new = fit.new })
