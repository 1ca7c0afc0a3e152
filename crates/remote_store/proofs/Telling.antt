-- The rows that a log tells are those of the world that it holds.
use Rattle.std.proofs.Common.{◌≡◌, ℕ, zero, suc, ◌+◌, ◌<◌, ◌≤◌, Bool, true, false, inl, inr, List, [], ◌∷◌, ◌++◌, Some, None, length, map, drop, get_or, refl, sym, ap, ap₂, subst, ◌∙◌, arith, length-append, if◌then◌else◌}
use Rattle.std.specs.Prelude.{slice_get, slice_index_or, option_and_then}
use Rattle.std.specs.Option.{option_map}
use Rattle.std.specs.List.{AllByRecursion, range_with_len}
use Rattle.std.proofs.lemmas.List.{length-map, map-append, drop_all}
use Rattle.std.proofs.lemmas.Option.{get_or_from_slice_get}
use Rattle.std.proofs.Math.Seq.{drop-cons}
use Rattle.id_groups.specs.Lists.{IsIn}
use Rattle.id_groups.specs.Name.{Name, same_name}
use Rattle.id_groups.proofs.Names.{same_name-exact, same_name-self}
use Rattle.commit_graph.specs.World.{Row, World, IsNamedWorld, IsHistory, names_of}
use Rattle.commit_graph.specs.Ids.{id_in, parent_ids}
use Rattle.commit_graph.proofs.Histories.{history-front, in-all}
use Rattle.commit_graph.proofs.Places.{at-name, id-in-master}
use Rattle.batch_codec.specs.Payload.{Payload, Known, known_ids}
use Rattle.batch_codec.specs.Reading.{ids_ascend}
use Rattle.batch_codec.specs.Grammar.{IsPayload, count_after}
use Rattle.batch_codec.proofs.Ascending.{ascend-parts, increasing-ascend}
use Rattle.batch_codec.proofs.Meanings.{ascend-length}
use Rattle.batch_codec.proofs.Payloads.{payload_again}
use Rattle.change_rules.specs.Lawful.{AreLawful}
use Rattle.change_rules.specs.Change.{text_of}
use Rattle.change_rules.specs.Tables.{StandFor, known_in}
use Rattle.payload_tables.proofs.Lists.{parents-known}
use Rattle.remote_store.specs.Told.{payloads_in, rows_by, names_known, master_rows, are_whole, told_by, told_in}

some-one : {X : Type 0} (a b : X) → Some a ≡ Some b → a ≡ b
some-one a b e = cc

-- ---- payloads in turn

abbrev pub InTurn : ℕ → List Payload → Type 0
InTurn n [] = Unit {0}
InTurn n (p ∷ more) = IsPayload p × (p.before ≡ n) × InTurn p.after more

pub in-turn : (before more : List Payload) → AreLawful before more → InTurn (count_after 0 before) more
in-turn before [] h = tt
in-turn before (p ∷ more) h = (h.0.whole, h.0.count, subst (λ n. InTurn n more) (count-last 0 before) (in-turn (before ++ p ∷ []) more h.1))
  where
    count-last : (n : ℕ) (payloads : List Payload) → count_after n (payloads ++ p ∷ []) ≡ p.after
    count-last n [] = refl
    count-last n (q ∷ payloads) = count-last q.after payloads

pub count-small : (n : ℕ) (payloads : List Payload) → n ≤ 16777216 → InTurn n payloads → count_after n payloads ≤ 16777216
count-small n [] le h = le
count-small n (p ∷ more) le h = count-small p.after more h.0.counts.master h.2

-- the payloads that texts spell
pub payloads-again : (before payloads : List Payload) → AreLawful before payloads → payloads_in (map text_of payloads) ≡ Some payloads
payloads-again before [] h = refl
payloads-again before (p ∷ more) h =
    ap (option_and_then (λ q. option_map (λ ps. q ∷ ps) (payloads_in (map text_of more)))) (payload_again p h.0.whole)
    ∙ ap (option_map (λ ps. p ∷ ps)) (payloads-again (before ++ p ∷ []) more h.1)

-- ---- known names by their ids

each-of : {X : Type 0} (P : X → Type 0) (xs : List X) → AllByRecursion P xs → (x : X) → IsIn x xs → P x
each-of P [] h x i = absurd i
each-of P (y ∷ xs) h x (inl e) = subst P (sym e) h.0
each-of P (y ∷ xs) h x (inr i) = each-of P xs h.1 x i

-- the known ids of a payload ascend
ascends : (p : Payload) → IsPayload p → ids_ascend p.before p.after (known_ids p) ≡ true
ascends p h = increasing-ascend p.before p.after (known_ids p) (λ some. first (known_ids p) some h.known.within) (uppers (known_ids p) h.known.within) h.known.ascend
  where
    first : (ids : List ℕ) → 0 < length ids → AllByRecursion (λ id. (p.before ≤ id) × (id < p.after)) ids → p.before ≤ get_or ids 0 0
    first [] lt h = absurd (omega (arith, lt))
    first (x ∷ ids) lt h = h.0.0

    uppers : (ids : List ℕ) → AllByRecursion (λ id. (p.before ≤ id) × (id < p.after)) ids → AllByRecursion (λ id. id < p.after) ids
    uppers [] h = tt
    uppers (x ∷ ids) h = (h.0.1, uppers ids h.1)

-- ids that ascend and are as many as there is room for are all of them
all-ids : (least end : ℕ) (ids : List ℕ) → ids_ascend least end ids ≡ true → least + length ids ≡ end → ids ≡ range_with_len least (length ids)
all-ids least end [] h e = refl
all-ids least end (x ∷ ids) h e =
    let parts = ascend-parts least end x ids h in
    let low = parts.0 in let high = parts.1 in
    let size = ascend-length (x + 1) end ids parts.2 in
    let is : x ≡ least = omega (arith, low, high, size, e) in
    ap₂ (λ a b. a ∷ b) is (all-ids (x + 1) end ids parts.2 (omega (arith, is, e)) ∙ ap (λ n. range_with_len (n + 1) (length ids)) is)

known-few : (n : ℕ) (payloads : List Payload) → InTurn n payloads → n + length (known_in payloads) ≤ count_after n payloads
known-few n [] h = omega arith
known-few n (p ∷ more) h =
    let r = known-few p.after more h.2 in let l = length-append p.known (known_in more) in let m = length-map p.known (λ (k : Known). k.id) in
    let s = ascend-length p.before p.after (known_ids p) (ascends p h.0) in let e = h.1 in let g = h.0.counts.grows in omega (arith, r, l, m, s, e, g)

range-join : (a m n : ℕ) → range_with_len a m ++ range_with_len (a + m) n ≡ range_with_len a (m + n)
range-join a zero n = ap (λ k. range_with_len k n) (let e : a + 0 ≡ a = omega arith in e) ∙ ap (range_with_len a) (let e : n ≡ 0 + n = omega arith in e)
range-join a (suc m) n = ap (λ l. a ∷ l) (ap (λ k. range_with_len (a + 1) m ++ range_with_len k n) (let e : a + suc m ≡ a + 1 + m = omega arith in e) ∙ range-join (a + 1) m n) ∙ ap (range_with_len a) (let e : suc (m + n) ≡ suc m + n = omega arith in e)

-- where each id is known, the known ids are all ids, in order
known-range : (n : ℕ) (payloads : List Payload) → InTurn n payloads → count_after n payloads ≤ n + length (known_in payloads)
    → map (λ (k : Known). k.id) (known_in payloads) ≡ range_with_len n (length (known_in payloads))
known-range n [] h le = refl
known-range n (p ∷ more) h le =
    let l = length-append p.known (known_in more) in
    let m = length-map p.known (λ (k : Known). k.id) in
    let s = ascend-length p.before p.after (known_ids p) (ascends p h.0) in
    let f = known-few p.after more h.2 in
    let e = h.1 in let g = h.0.counts.grows in
    let own : p.before + length (known_ids p) ≡ p.after = omega (arith, l, m, s, f, e, g, le) in
    let rest : count_after p.after more ≤ p.after + length (known_in more) = omega (arith, l, m, s, f, e, g, le) in
    let mine : known_ids p ≡ range_with_len n (length p.known) = all-ids p.before p.after (known_ids p) (ascends p h.0) own ∙ ap₂ range_with_len e m in
    map-append (λ (k : Known). k.id) p.known (known_in more)
    ∙ ap₂ (λ a b. a ++ b) mine (known-range p.after more h.2 rest ∙ ap (λ k. range_with_len k (length (known_in more))) (let z : p.after ≡ n + length p.known = omega (arith, own, m, e) in z))
    ∙ range-join n (length p.known) (length (known_in more))
    ∙ ap (range_with_len n) (sym l)

-- names by ids from one on
names-from : (all : List Name) (n : ℕ) (ks : List Known) → map (λ (k : Known). k.id) ks ≡ range_with_len n (length ks) → AllByRecursion (λ (k : Known). slice_get all k.id ≡ Some k.name) ks
    → n + length ks ≡ length all → map (λ (k : Known). k.name) ks ≡ drop n all
names-from all n [] ids each size = sym (drop_all n all (omega (arith, size)))
names-from all n (k ∷ ks) ids each size =
    let is : k.id ≡ n = cc in
    let more : map (λ (q : Known). q.id) ks ≡ range_with_len (n + 1) (length ks) = cc in
    let lt : n < length all = omega (arith, size) in
    let here : slice_get all n ≡ Some k.name = subst (λ i. slice_get all i ≡ Some k.name) is each.0 in
    ap (λ l. k.name ∷ l) (names-from all (n + 1) ks more each.1 (omega (arith, size)))
    ∙ ap₂ (λ (a : Name) b. a ∷ b) (sym (get_or_from_slice_get all n k.name [] here)) (ap (λ i. drop i all) (let e : n + 1 ≡ suc n = omega arith in e))
    ∙ sym (drop-cons all n [] lt)

module _ (payloads : List Payload) (w : World Name) (lawful : AreLawful [] payloads) (stand : StandFor payloads w) (named : IsNamedWorld w) (whole : count_after 0 payloads ≤ length (known_in payloads)) where
  turn : InTurn 0 payloads
  turn = in-turn [] payloads lawful

  pub known-all : length (known_in payloads) ≡ length w.master
  known-all = let f = known-few 0 payloads turn in let c = stand.count in omega (arith, whole, f, c)

  pub ids-all : map (λ (k : Known). k.id) (known_in payloads) ≡ range_with_len 0 (length (known_in payloads))
  ids-all = known-range 0 payloads turn (omega (arith, whole))

  pub names-all : names_known payloads ≡ names_of w.master
  names-all = names-from (names_of w.master) 0 (known_in payloads) ids-all stand.known (let l = known-all in let m = length-map w.master (λ (r : Row Name). r.name) in omega (arith, l, m))

  history : IsHistory [] w.master
  history = history-front [] w.master w.others named.world

  -- a parent's name by its id
  back : (row : Row Name) → IsIn row w.master → (p : Name) → IsIn p row.parents → slice_index_or (names_of w.master) (id_in same_name w p) [] ≡ p
  back row i p j =
      let k = in-all p row.parents (names_of w.master) j (parents-known [] w.master history row i) in
      let at = at-name w.master p k in
      let id = id-in-master same_name same_name-exact same_name-self w named.world at.0 at.1 at.2 in
      get_or_from_slice_get (names_of w.master) (id_in same_name w p) p []
      (ap (slice_get (names_of w.master)) (ap (id_in same_name w) (sym at.3) ∙ id) ∙ name-there w.master at.0 at.1 at.2 ∙ ap (λ z. Some z) at.3)
    where
      name-there : (rows : List (Row Name)) (i : ℕ) (r : Row Name) → slice_get rows i ≡ Some r → slice_get (names_of rows) i ≡ Some r.name
      name-there [] i r e = cc
      name-there (q ∷ rows) zero r e = ap (λ (z : Row Name). Some z.name) (some-one q r e)
      name-there (q ∷ rows) (suc i) r e = name-there rows i r e

  again : (ps : List Name) → ((p : Name) → IsIn p ps → slice_index_or (names_of w.master) (id_in same_name w p) [] ≡ p) → map (λ id. slice_index_or (names_of w.master) id []) (map (id_in same_name w) ps) ≡ ps
  again [] f = refl
  again (p ∷ ps) f = ap₂ {C = List Name} (λ a b. a ∷ b) (f p (inl refl)) (again ps (λ q i. f q (inr i)))

  rows-again : (rows : List (Row Name)) → ((row : Row Name) → IsIn row rows → IsIn row w.master) → rows_by (names_of w.master) (names_of rows) (parent_ids same_name w rows) ≡ rows
  rows-again [] f = refl
  rows-again (row ∷ rows) f = ap₂ {C = List (Row Name)} (λ a b. a ∷ b)
      (ap (λ ps. record { name = row.name; parents = ps }) (again row.parents (back row (f row (inl refl)))))
      (rows-again rows (λ q i. f q (inr i)))

  pub rows-are : master_rows payloads ≡ w.master
  rows-are =
      ap₂ (λ names ps. rows_by names names ps) names-all stand.master ∙ rows-again w.master (λ row i. i)

  -- what the texts tell, if anything
  pub told-is : (rows : List (Row Name)) → told_in (map text_of payloads) ≡ Some rows → rows ≡ w.master
  told-is rows e = by_test (are_whole payloads) refl (sym (ap (option_and_then told_by) (payloads-again [] payloads lawful)) ∙ e)
    where
      by_test : (b : Bool) → are_whole payloads ≡ b → (if b then Some (master_rows payloads) else None) ≡ Some rows → rows ≡ w.master
      by_test true t f = sym (some-one (master_rows payloads) rows f) ∙ rows-are
      by_test false t f = cc
