-- The rows that a remote told, one by one, and its cloned rows.
use Rattle.std.proofs.Common.{◌≡◌, ◌≢◌, ◌<◌, ◌≤◌, ◌+◌, ◌-◌, ◌^◌, ℕ, zero, suc, Bool, true, false, ◌⊎◌, inl, inr, List, [], ◌∷◌, ◌++◌, length, map, take, nat_eq, Option, Some, None, slice_get, is_some, refl, sym, ap, ap₂, subst, ◌∙◌, ⊎_elim, if◌then◌else◌, arith, true≢false, append_assoc, append-nil, length-append}
use Rattle.std.specs.List.{AllByRecursion, AllZip, cons_option}
use Rattle.std.proofs.lemmas.List.{map-append}
use Rattle.std.proofs.lemmas.Bool.{eq-eqb}
use Rattle.std.proofs.lemmas.Map.Views.{exact_unsigned_eq}
use Rattle.id_groups.specs.Lists.{IsIn}
use Rattle.id_groups.specs.Name.{Name}
use Rattle.commit_graph.specs.World.{Row, World, names_of}
use Rattle.commit_graph.proofs.Naming.{each, all-each}
use Rattle.commit_graph.proofs.Down.{in-left, in-right}
use Rattle.segment_codec.specs.Record.{Segment}
use Rattle.segment_codec.specs.Table.{Follow}
use Rattle.segment_codec.specs.Turns.{StandInTurn, place_behind}
use Rattle.segment_codec.proofs.Tables.{le_or_lt}
use Rattle.segment_rules.specs.Flat.{parents_listed}
use Rattle.batch_codec.specs.Payload.{Payload, Known, known_ids}
use Rattle.batch_codec.specs.Grammar.{count_after, IsFlush, IsClone, IsWholePayload}
use Rattle.name_map.specs.Added.{Placed, payloads_of, known_of}
use Rattle.remote_rules.specs.CloneData.{first_broken}
use Rattle.remote_rules.specs.Lawful.{MayStandHere}
use Rattle.remote_rules.proofs.Unbroken.{unbroken-is-lawful}
use Rattle.mirror_set.specs.Fresh.{PlainFresh, count_from}
use Rattle.change_rules.specs.Change.{known_from}
use Rattle.change_rules.specs.Lawful.{MayFollow, AreLawful}
use Rattle.change_rules.specs.Tables.{StandFor, known_in, newest, other_names_in, cloned_count}
use Rattle.change_rules.proofs.Reached.{inside, lowest}
use Rattle.payload_tables.specs.Bases.{stored_in}
use Rattle.payload_tables.proofs.Lists.{names-length, count-last}
use Rattle.payload_tables.proofs.Leveling.{listed-long}
use Rattle.payload_tables.proofs.Rows.{get-below}
use Rattle.payload_tables.proofs.Joined.{get-map}
use Rattle.change_parts.specs.Asked.{IsStored}
use Rattle.pull_plan.specs.Pulling.{told_names, names_at_all, rows_with, told_rows}
use Rattle.rebase_pending.proofs.Rebased.{known-all}
use Rattle.change_parts.proofs.Renumber.{in-map, map-in-back}
use Rattle.rebase_pending.proofs.Stepping.{under}

pub no-some : {X : Type 0} (x : X) → ◌≡◌ {A = Option X} (Some x) None → ⊥
no-some x e = true≢false (ap is_some e)

pub some-is : {X : Type 0} (x y : X) → ◌≡◌ {A = Option X} (Some x) (Some y) → x ≡ y
some-is {X} x y e = ap some_or e
  where
    some_or : Option X → X
    some_or None = x
    some_or (Some a) = a

pub take-get : {X : Type 0} (xs : List X) (n k : ℕ) → k < n → slice_get (take n xs) k ≡ slice_get xs k
take-get xs zero k lt = absurd (let z : ⊥ = omega (arith, lt) in z)
take-get [] (suc n) k lt = refl
take-get (x ∷ xs) (suc n) zero lt = refl
take-get (x ∷ xs) (suc n) (suc k) lt = take-get xs n k (omega (arith, lt))

pub take-long : {X : Type 0} (n : ℕ) (xs : List X) → n ≤ length xs → length (take n xs) ≡ n
take-long zero xs le = refl
take-long (suc n) [] le = absurd (let z : ⊥ = omega (arith, le) in z)
take-long (suc n) (x ∷ xs) le = ap suc (take-long n xs (omega (arith, le)))

get-back : {X : Type 0} (xs ys : List X) (k : ℕ) → length xs ≤ k → slice_get (xs ++ ys) k ≡ slice_get ys (k - length xs)
get-back [] ys k le = ap (slice_get ys) (let z : k ≡ k - 0 = omega arith in z)
get-back (x ∷ xs) ys zero le = absurd (let z : ⊥ = omega (arith, le) in z)
get-back (x ∷ xs) ys (suc k) le = get-back xs ys k (omega (arith, le)) ∙ ap (slice_get ys) (let z : k - length xs ≡ suc k - length (x ∷ xs) = omega arith in z)

-- ---- rows with names and parents

pub row-with : (all names : List Name) (parents : List (List ℕ)) (k : ℕ) (x : Name) (ids : List ℕ) → slice_get names k ≡ Some x → slice_get parents k ≡ Some ids
    → slice_get (rows_with all names parents) k ≡ Some (record { name = x; parents = names_at_all all ids })
row-with all [] parents k x ids e f = absurd (no-some x (sym e))
row-with all (n ∷ names) [] k x ids e f = absurd (no-some ids (sym f))
row-with all (n ∷ names) (ps ∷ parents) zero x ids e f = ap₂ {C = Option (Row Name)} (λ a b. Some (record { name = a; parents = names_at_all all b })) (some-is n x e) (some-is ps ids f)
row-with all (n ∷ names) (ps ∷ parents) (suc k) x ids e f = row-with all names parents k x ids e f

pub rows-short : (all names : List Name) (parents : List (List ℕ)) → length (rows_with all names parents) ≤ length parents
rows-short all [] parents = omega arith
rows-short all (n ∷ names) [] = omega arith
rows-short all (n ∷ names) (ps ∷ parents) = let r = rows-short all names parents in omega (arith, r)

pub named-ids : (all : List Name) (end : ℕ) (ids : List ℕ) → AllByRecursion (λ n. n < end) ids → end ≤ length all → AllZip (λ n p. (n < end) × (slice_get all n ≡ Some p)) ids (names_at_all all ids)
named-ids all end [] h le = tt
named-ids all end (n ∷ ids) h le =
    let t = get-below all n (let lt = h.0 in omega (arith, lt, le)) in
    subst (λ o. AllZip (λ n p. (n < end) × (slice_get all n ≡ Some p)) (n ∷ ids) (cons_option o (names_at_all all ids))) (sym t.1) ((h.0, t.1), named-ids all end ids h.1 le)

zip-map : {A B : Type 0} (R Q : A → B → Type 0) → ((x : A) (y : B) → R x y → Q x y) → (xs : List A) (ys : List B) → AllZip R xs ys → AllZip Q xs ys
zip-map R Q f [] [] h = tt
zip-map R Q f [] (y ∷ ys) h = absurd h
zip-map R Q f (x ∷ xs) [] h = absurd h
zip-map R Q f (x ∷ xs) (y ∷ ys) h = (f x y h.0, zip-map R Q f xs ys h.1)

-- ---- what was told

stand-follow : (place : ℕ) (ss : List Segment) → StandInTurn MayStandHere place ss → Follow place (place_behind place ss) ss
stand-follow place [] h = refl
stand-follow place (s ∷ ss) h = (h.0.begins, (let b = h.0.begins in let o = h.0.order in omega (arith, b, o)), stand-follow (s.high + 1) ss h.1)

stands-in : (place : ℕ) (ss : List Segment) → StandInTurn MayStandHere place ss → (s : Segment) → IsIn s ss → MayStandHere s.low s
stands-in place [] h s i = absurd i
stands-in place (t ∷ ss) h s (inl f) = subst (λ (z : Segment). MayStandHere z.low z) (sym f) (subst (λ n. MayStandHere n t) (sym h.0.begins) h.0)
stands-in place (t ∷ ss) h s (inr j) = stands-in (t.high + 1) ss h.1 s j

-- a told row with its name and parents
pub record RowAt (cloned : ℕ) (fresh : PlainFresh) (rows : List (Row Name)) (numbers : List ℕ) (id : ℕ) : Type 0 where
  pub row : Row Name
  pub at : slice_get rows id ≡ Some row
  pub named : slice_get fresh.names (id - cloned) ≡ Some row.name
  pub parents_are : AllZip (λ n p. slice_get (names_of (take id rows)) n ≡ Some p) numbers row.parents

module _ (w : World Name) (cloned : ℕ) (fresh : PlainFresh) (unbroken : first_broken fresh.cloned ≡ None) (count : length fresh.names ≡ count_from cloned fresh.cloned) (few : cloned ≤ length w.master) where
  abbrev all : List Name
  all = told_names w cloned fresh.names

  abbrev segments : List Segment
  segments = fresh.cloned.segments

  abbrev listed : List (List ℕ)
  listed = parents_listed segments

  abbrev rows : List (Row Name)
  rows = told_rows w cloned fresh

  abbrev total : ℕ
  total = place_behind 0 segments

  pub turn : StandInTurn MayStandHere 0 segments
  turn = ((unbroken-is-lawful fresh.cloned).0 unbroken).segments

  pub follow : Follow 0 total segments
  follow = stand-follow 0 segments turn

  pub listed-total : length listed ≡ total
  listed-total = let l = listed-long 0 total segments follow in omega (arith, l)

  pub rows-total : length rows ≤ total
  rows-total = let s = rows-short all all listed in let l = listed-total in omega (arith, s, l)

  pub front-long : length (take cloned (names_of w.master)) ≡ cloned
  front-long = take-long cloned (names_of w.master) (let n = names-length w.master in omega (arith, n, few))

  pub all-long : length all ≡ cloned + length fresh.names
  all-long = length-append (take cloned (names_of w.master)) fresh.names ∙ ap (λ n. n + length fresh.names) front-long

  -- the row with an id, where its parents have these numbers
  pub row-of : (id : ℕ) (ids : List ℕ) → cloned ≤ id → id < total → slice_get listed id ≡ Some ids → AllByRecursion (λ n. n < id) ids → RowAt cloned fresh rows ids id
  row-of id ids ge lt listed_at below =
      let long = all-long in
      let n = get-below all id (let c = count in omega (arith, long, c, ge, lt)) in
      let e = row-with all all listed id n.0 ids n.1 listed_at in record {
        row = record { name = n.0; parents = names_at_all all ids };
        at = e;
        named =
            ap (λ k. slice_get fresh.names (id - k)) (sym front-long)
            ∙ sym (get-back (take cloned (names_of w.master)) fresh.names id (let f = front-long in omega (arith, f, ge))) ∙ n.1;
        parents_are = zip-map (λ n p. (n < id) × (slice_get all n ≡ Some p)) (λ n p. slice_get (names_of (take id rows)) n ≡ Some p) named-there ids (names_at_all all ids)
            (named-ids all id ids below (let c = count in omega (arith, long, c, ge, lt)));
      }
    where
      named-there : (k : ℕ) (p : Name) → (k < id) × (slice_get all k ≡ Some p) → slice_get (names_of (take id rows)) k ≡ Some p
      named-there k p h =
          let ps = get-below listed k (let l = listed-total in let a = h.0 in omega (arith, l, a, lt)) in
          get-map (λ (r : Row Name). r.name) (take id rows) k (record { name = p; parents = names_at_all all ps.0 })
          (take-get rows id k h.0 ∙ row-with all all listed k p ps.0 h.1 ps.1)

  -- the same by the segment that has the id
  pub row-at : (s : Segment) → IsIn s segments → (id : ℕ) → s.low ≤ id → id ≤ s.high → cloned ≤ id → RowAt cloned fresh rows (if nat_eq id s.low then s.parents else (id - 1) ∷ []) id
  row-at s i id low high ge = by_test (nat_eq id s.low) refl
    where
      by_test : (b : Bool) → nat_eq id s.low ≡ b → RowAt cloned fresh rows (if nat_eq id s.low then s.parents else (id - 1) ∷ []) id
      by_test true e =
          let at = exact_unsigned_eq id s.low e in
          let l = lowest 0 total segments follow s i in
          let m = stands-in 0 segments turn s i in
          subst (λ b. RowAt cloned fresh rows (if b then s.parents else (id - 1) ∷ []) id) (sym e)
          (row-of id s.parents ge (let a = l.1 in let b = l.2 in omega (arith, a, b, at)) (ap (slice_get listed) (let z : id ≡ s.low - 0 = omega (arith, at) in z) ∙ l.3)
          (all-each (λ n. n < id) s.parents (λ p j. let b = m.below p j in omega (arith, b, at))))
      by_test false e =
          let apart : id ≡ s.low → ⊥ = λ f. true≢false (sym (eq-eqb id s.low f) ∙ e) in
          let above : s.low < id = ⊎_elim (λ (le : id ≤ s.low). absurd (apart (omega (arith, le, low)))) (λ (lt : s.low < id). lt) (le_or_lt id s.low) in
          let l = lowest 0 total segments follow s i in
          let n = inside 0 total segments follow s i id above high in
          subst (λ b. RowAt cloned fresh rows (if b then s.parents else (id - 1) ∷ []) id) (sym e)
          (row-of id ((id - 1) ∷ []) ge (let b = l.2 in omega (arith, high, b)) (ap (slice_get listed) (let z : id ≡ id - 0 = omega arith in z) ∙ n.1) (omega (arith, above), tt))

  pub ends : (s : Segment) → IsIn s segments → s.high < total
  ends s i = (lowest 0 total segments follow s i).2

-- ---- ids that weren't cloned have stored names

some-first : {X : Type 0} (x : X) (xs : List X) → (x ∷ xs) ≢ []
some-first x xs e = cc

joined : {X : Type 0} (xs : List X) (x : X) → (xs ++ x ∷ []) ≢ []
joined [] x e = cc
joined (y ∷ xs) x e = cc

later-flush : (before : List Payload) (p : Payload) → before ≢ [] → MayFollow before p → IsFlush p
later-flush before p some m = ⊎_elim (λ f. f)
    (λ o. ⊎_elim (λ (c : IsClone p). absurd (some (m.clone_first c.kind))) (λ (w : IsWholePayload p). absurd (some (m.whole_first w.kind))) o) m.whole.by_kind

in-ids : (xs ys : List Known) (n : ℕ) → IsIn n (map (λ (k : Known). k.id) xs) ⊎ IsIn n (map (λ (k : Known). k.id) ys) → IsIn n (map (λ (k : Known). k.id) (xs ++ ys))
in-ids xs ys n h = subst (IsIn n) (sym (map-append (λ (k : Known). k.id) xs ys))
    (⊎_elim (λ i. in-left n (map (λ (k : Known). k.id) xs) (map (λ (k : Known). k.id) ys) i) (λ i. in-right n (map (λ (k : Known). k.id) xs) (map (λ (k : Known). k.id) ys) i) h)

later-known : (before more : List Payload) → before ≢ [] → AreLawful before more → (id : ℕ) → count_after 0 before ≤ id → id < count_after 0 (before ++ more) → IsIn id (map (λ (k : Known). k.id) (known_in more))
later-known before [] some h id le lt = absurd (let e = ap (count_after 0) (append-nil before) in omega (arith, le, lt, e))
later-known before (p ∷ more) some h id le lt =
    let last = count-last 0 before p in
    let count = h.0.count in
    let f = later-flush before p some h.0 in
    ⊎_elim
    (λ (b : p.after ≤ id). in-ids p.known (known_in more) id (inr (later-known (before ++ p ∷ []) more (joined before p) h.1 id (omega (arith, last, b)) (subst (λ l. id < count_after 0 l) (sym (append_assoc before (p ∷ []) more)) lt))))
    (λ (b : id < p.after). in-ids p.known (known_in more) id (inl (f.all_known id (omega (arith, count, le)) b)))
    (le_or_lt p.after id)

pub uncloned-known : (payloads : List Payload) → AreLawful [] payloads → (id : ℕ) → cloned_count payloads ≤ id → id < count_after 0 payloads → IsIn id (map (λ (k : Known). k.id) (known_in payloads))
uncloned-known [] h id le lt = absurd (let z : ⊥ = omega (arith, lt) in z)
uncloned-known (p ∷ more) h id le lt = ⊎_elim
    (λ (b : p.after ≤ id). in-ids p.known (known_in more) id (inr (later-known (p ∷ []) more (some-first p []) h.1 id b lt)))
    (λ (b : id < p.after). in-ids p.known (known_in more) id (inl (first-known b)))
    (le_or_lt p.after id)
  where
    first-known : id < p.after → IsIn id (known_ids p)
    first-known b = ⊎_elim
        (λ (f : IsFlush p). f.all_known id (let c = h.0.count in omega (arith, c)) b)
        (λ o. ⊎_elim (λ (c : IsClone p). absurd (let e = c.cloned in let z : ⊥ = omega (arith, e, le, b) in z)) (λ (v : IsWholePayload p). v.all_known id le b) o)
        h.0.whole.by_kind

-- the cloned rows are among those of master
pub cloned-few : (payloads : List Payload) → AreLawful [] payloads → cloned_count payloads ≤ count_after 0 payloads
cloned-few [] h = omega arith
cloned-few (p ∷ more) h =
    let rises = later (p ∷ []) more h.1 in
    let first : p.cloned ≤ p.after = ⊎_elim (λ (f : IsFlush p). let c = f.cloned in omega (arith, c)) (λ o. ⊎_elim (λ (c : IsClone p). let e = c.cloned in omega (arith, e)) (λ (v : IsWholePayload p). v.cloned) o) h.0.whole.by_kind in
    omega (arith, rises, first)
  where
    later : (before more : List Payload) → AreLawful before more → count_after 0 before ≤ count_after (count_after 0 before) more
    later before [] h = omega arith
    later before (q ∷ more) h =
        let r = later (before ++ q ∷ []) more h.1 in let l = count-last 0 before q in
        let g = h.0.whole.counts.grows in let c = h.0.count in
        let same : count_after (count_after 0 (before ++ q ∷ [])) more ≡ count_after q.after more = ap (λ n. count_after n more) l in
        omega (arith, r, l, g, c, same)

-- a name of master that wasn't cloned is stored
pub stored-behind : (added : List Placed) (w : World Name) → AreLawful [] (payloads_of added) → StandFor (payloads_of added) w → (i : ℕ) (name : Name) → cloned_count (payloads_of added) ≤ i → slice_get (names_of w.master) i ≡ Some name → IsStored added name
stored-behind added w h stand i name ge e =
    let lt = under (names_of w.master) i name e in let n = names-length w.master in let c = stand.count in
    let known = map-in-back (λ (k : Known). k.id) i (known_in (payloads_of added)) (uncloned-known (payloads_of added) h i ge (omega (arith, lt, n, c))) in
    let at = each (λ (q : Known). slice_get (names_of w.master) q.id ≡ Some q.name) (known_in (payloads_of added)) stand.known known.0 known.1 in
    let same : known.0.name ≡ name = some-is known.0.name name (sym at ∙ ap (slice_get (names_of w.master)) (sym known.2) ∙ e) in
    subst (IsStored added) same
    (in-map (λ (q : Known). q.name) known.0 (stored_in added) (in-left known.0 (known_of added) (known_from (2 ^ 56) (other_names_in (newest (payloads_of added)))) (subst (IsIn known.0) (sym (known-all added)) known.1)))
