-- An honest mirror whose master begins with the cloned rows never disagrees with the log at a pull.
use Rattle.std.proofs.Common.{◌≡◌, ◌≤◌, ◌<◌, ◌+◌, ◌-◌, ◌||◌, not, ℕ, zero, suc, Bool, true, false, inl, inr, List, [], ◌∷◌, ◌++◌, length, map, filter, flat_map, min, nat_eq, nat_lt, nat_le, Option, Some, None, slice_get, cond, refl, sym, ap, ap₂, subst, ◌∙◌, arith, append-nil, append_assoc, length-append, le_refl, if◌then◌else◌}
use Rattle.std.specs.List.{AllByRecursion}
use Rattle.std.specs.Cmp.Lexicographic.{bytes_decides}
use Rattle.std.proofs.Math.Nat.{min-eq_left, min-eq_right}
use Rattle.std.proofs.lemmas.Bool.{ltb-true, ltb-false, lt-ltb, le-ltb, le-leb, eq-eqb}
use Rattle.std.proofs.lemmas.List.{length-map, map-append}
use Rattle.std.proofs.lemmas.Map.Views.{exact_unsigned_eq}
use Rattle.id_groups.specs.Lists.{IsIn, is_in, AreAllIn, AreDistinct}
use Rattle.id_groups.specs.Name.{Name, same_name}
use Rattle.id_groups.proofs.Names.{same_name-exact, same_name-self}
use Rattle.id_groups.proofs.Listing.{both_true, implies, true_not, in-all-true, found}
use Rattle.commit_graph.specs.World.{Row, World, IsNamedWorld, IsHistory, names_of}
use Rattle.commit_graph.specs.Ids.{id_in, parent_ids}
use Rattle.commit_graph.proofs.Down.{in-left, in-right}
use Rattle.commit_graph.proofs.Naming.{each}
use Rattle.commit_graph.proofs.Histories.{history-front}
use Rattle.segment_codec.specs.Record.{Segment}
use Rattle.segment_codec.specs.Table.{Follow}
use Rattle.segment_codec.specs.Turns.{is_only}
use Rattle.segment_rules.specs.Flat.{single, with_id, flat_segments_of, parents_listed}
use Rattle.batch_codec.specs.Payload.{Payload, Known}
use Rattle.remote_rules.specs.CloneData.{KnownName, first_false, first_some}
use Rattle.remote_rules.specs.Known.{master_world}
use Rattle.remote_rules.specs.Honest.{clone_data_of, named_ids, stored_ids, master_segments}
use Rattle.change_rules.specs.Tables.{known_in}
use Rattle.change_rules.specs.Holding.{HoldPayloads}
use Rattle.change_rules.specs.Disagree.{segments_agree, name_agrees, first_unlike, rows_fit, first_bad_row}
use Rattle.batch_codec.specs.Grammar.{cut_below}
use Rattle.change_rules.proofs.Spans.{flat_segments, same-segments}
use Rattle.change_rules.proofs.Changes.{rows-front, parents-known}
use Rattle.change_rules.proofs.Lawful.{flat-cover, record-cover, history-distinct, distinct-parts}
use Rattle.change_rules.proofs.Cloned.{as_known, ids-rise, pick-names}
use Rattle.change_rules.proofs.Unbroken.{none-false}

-- Segments cut at an id are those of the ids below it.

flat-follow : (first : ℕ) (ps : List (List ℕ)) → Follow first (first + length ps) (flat_segments_of first ps)
flat-follow first ps = subst (Follow first (first + length ps)) (sym (same-segments first ps)) (record-cover first (first + length ps) (flat_segments first ps) (flat-cover first (first + length ps) ps refl))

cut-none : (below first end : ℕ) (ss : List Segment) → below ≤ first → Follow first end ss → cut_below below ss ≡ []
cut-none below first end [] le f = refl
cut-none below first end (s ∷ ss) le f =
    ap (λ b. if b then record s { high = min s.high (below - 1) } ∷ cut_below below ss else cut_below below ss) (le-ltb s.low below (let e = f.0 in omega (arith, e, le)))
    ∙ cut-none below (s.high + 1) end ss (let e = f.0 in let o = f.1 in omega (arith, e, o, le)) f.2

-- an id put before the segments behind it, and cut
with-cut : (below id end : ℕ) (p : List ℕ) (ss : List Segment) → id < below → Follow (id + 1) end ss → cut_below below (with_id id p ss) ≡ with_id id p (cut_below below ss)
with-cut below id end p [] lt f =
    ap (λ b. if b then record (single id p) { high = min id (below - 1) } ∷ [] else []) (lt-ltb id below lt)
    ∙ ap (λ n. record (single id p) { high = n } ∷ []) (min-eq_left {n = id} {m = below - 1} (omega (arith, lt)))
with-cut below id end p (next ∷ more) lt f = by_place (nat_lt next.low below) refl
  where
    short : min id (below - 1) ≡ id
    short = min-eq_left {n = id} {m = below - 1} (omega (arith, lt))

    first : (s : Segment) (rest : List Segment) → s.low ≡ id → cut_below below (s ∷ rest) ≡ record s { high = min s.high (below - 1) } ∷ cut_below below rest
    first s rest e = ap (λ b. if b then record s { high = min s.high (below - 1) } ∷ cut_below below rest else cut_below below rest) (lt-ltb s.low below (omega (arith, e, lt)))

    near : nat_lt next.low below ≡ true → (t : Bool) → is_only id next.parents ≡ t
        → cut_below below (if t then record { low = id; high = next.high; level = 0; parents = p } ∷ more else single id p ∷ next ∷ more)
        ≡ (if t then record { low = id; high = min next.high (below - 1); level = 0; parents = p } ∷ cut_below below more else single id p ∷ record next { high = min next.high (below - 1) } ∷ cut_below below more)
    near e true g = first (record { low = id; high = next.high; level = 0; parents = p }) more refl
    near e false g =
        first (single id p) (next ∷ more) refl
        ∙ ap₂ (λ (n : ℕ) (l : List Segment). record (single id p) { high = n } ∷ l) short
        (ap (λ b. if b then record next { high = min next.high (below - 1) } ∷ cut_below below more else cut_below below more) e)

    far : nat_lt next.low below ≡ false → (t : Bool) → is_only id next.parents ≡ t → below ≡ id + 1 → cut_below below more ≡ []
        → cut_below below (if t then record { low = id; high = next.high; level = 0; parents = p } ∷ more else single id p ∷ next ∷ more) ≡ single id p ∷ []
    far e true g edge none =
        first (record { low = id; high = next.high; level = 0; parents = p }) more refl
        ∙ ap₂ (λ (n : ℕ) (l : List Segment). record { low = id; high = n; level = 0; parents = p } ∷ l) high none
      where
        high : min next.high (below - 1) ≡ id
        high = ap (min next.high) (let z : below - 1 ≡ id = omega (arith, edge) in z) ∙ min-eq_right {n = id} {m = next.high} (let a = f.1 in omega (arith, a))
    far e false g edge none =
        first (single id p) (next ∷ more) refl
        ∙ ap₂ (λ (n : ℕ) (l : List Segment). record (single id p) { high = n } ∷ l) short
        (ap (λ b. if b then record next { high = min next.high (below - 1) } ∷ cut_below below more else cut_below below more) e ∙ none)

    by_place : (b : Bool) → nat_lt next.low below ≡ b → cut_below below (with_id id p (next ∷ more)) ≡ with_id id p (if b then record next { high = min next.high (below - 1) } ∷ cut_below below more else cut_below below more)
    by_place true e = near e (is_only id next.parents) refl
    by_place false e =
        let over : below ≤ next.low = ltb-false next.low below e in
        let edge : below ≡ id + 1 = (let a = f.0 in omega (arith, a, over, lt)) in
        let none = cut-none below (next.high + 1) end more (let a = f.0 in let o = f.1 in omega (arith, a, o, over, edge)) f.2 in
        far e (is_only id next.parents) refl edge none ∙ sym (ap (with_id id p) none)

pub flat-cut : (first : ℕ) (xs ys : List (List ℕ)) → cut_below (first + length xs) (flat_segments_of first (xs ++ ys)) ≡ flat_segments_of first xs
flat-cut first [] ys = cut-none (first + 0) first (first + length ys) (flat_segments_of first ys) (omega arith) (flat-follow first ys)
flat-cut first (x ∷ xs) ys =
    with-cut (first + length (x ∷ xs)) first (first + 1 + length (xs ++ ys)) x (flat_segments_of (first + 1) (xs ++ ys)) (omega arith) (flat-follow (first + 1) (xs ++ ys))
    ∙ ap (with_id first x) (ap (λ n. cut_below n (flat_segments_of (first + 1) (xs ++ ys))) (let z : first + length (x ∷ xs) ≡ first + 1 + length xs = omega arith in z) ∙ flat-cut (first + 1) xs ys)

-- Equal segments agree, and names of the same rows.

all-agree : (ss : List Segment) → AllByRecursion (λ b. b ≡ true) (segments_agree ss ss)
all-agree [] = tt
all-agree (s ∷ ss) = (both_true _ _ (both_true _ _ (eq-eqb s.low s.low refl) (eq-eqb s.high s.high refl)) ((bytes_decides s.parents s.parents).1 refl), all-agree ss)

all-mapped : {X : Type 0} (f : X → Bool) (xs : List X) → ((x : X) → IsIn x xs → f x ≡ true) → AllByRecursion (λ b. b ≡ true) (map f xs)
all-mapped f [] h = tt
all-mapped f (x ∷ xs) h = (h x (inl refl), all-mapped f xs (λ y i. h y (inr i)))

abbrev or_this : {X : Type 0} → X → Option X → X
or_this d None = d
or_this d (Some x) = x

get-both : (front a b : List (Row Name)) (i : ℕ) (x y : Name) → i < length front → slice_get (names_of (front ++ a)) i ≡ Some x → slice_get (names_of (front ++ b)) i ≡ Some y → x ≡ y
get-both [] a b i x y lt e f = absurd (omega (arith, lt))
get-both (r ∷ front) a b zero x y lt e f = ap (or_this x) (sym e ∙ f)
get-both (r ∷ front) a b (suc i) x y lt e f = get-both front a b i x y (omega (arith, lt)) e f

get-front-in : (front a : List (Row Name)) (i : ℕ) (x : Name) → i < length front → slice_get (names_of (front ++ a)) i ≡ Some x → IsIn x (names_of front)
get-front-in [] a i x lt e = absurd (omega (arith, lt))
get-front-in (r ∷ front) a zero x lt e = inl (ap (or_this x) (sym e))
get-front-in (r ∷ front) a (suc i) x lt e = inr (get-front-in front a i x (omega (arith, lt)) e)

get-past : (front : List (Row Name)) (row : Row Name) (a : List (Row Name)) → slice_get (names_of (front ++ row ∷ a)) (length front) ≡ Some row.name
get-past [] row a = refl
get-past (r ∷ front) row a = get-past front row a

known-as : (k : KnownName) (ks : List KnownName) → IsIn k ks → IsIn (record { id = k.id; name = k.name }) (as_known ks)
known-as k [] i = i
known-as k (c ∷ ks) (inl e) = inl (ap (λ (z : KnownName). record { id = z.id; name = z.name }) e)
known-as k (c ∷ ks) (inr i) = inr (known-as k ks i)

module _ (payloads : List Payload) (w : World Name) (front rest more : List (Row Name)) (hold : HoldPayloads payloads w) (mine : w.master ≡ front ++ rest) (named : IsNamedWorld (master_world (front ++ more))) where
  abbrev r : World Name
  r = master_world (front ++ more)

  abbrev cloned : ℕ
  cloned = length front

  history : IsHistory [] (front ++ more)
  history = subst (IsHistory []) (append-nil (front ++ more)) named.world

  within : (q : Row Name) → IsIn q front → AreAllIn q.parents (names_of front)
  within q i = parents-known [] front (history-front [] front more history) q i

  -- both have the cloned rows' parents
  theirs : parent_ids same_name r (front ++ more) ≡ parent_ids same_name (master_world front) front ++ parent_ids same_name r more
  theirs = map-append (λ (row : Row Name). map (id_in same_name r) row.parents) front more
      ∙ ap (λ l. l ++ parent_ids same_name r more) (rows-front r (master_world front) (names_of more) (map-append (λ (q : Row Name). q.name) front more) front within)

  ours : parent_ids same_name w w.master ≡ parent_ids same_name (master_world front) front ++ parent_ids same_name w rest
  ours = ap (parent_ids same_name w) mine ∙ map-append (λ (row : Row Name). map (id_in same_name w) row.parents) front rest
      ∙ ap (λ l. l ++ parent_ids same_name w rest) (rows-front w (master_world front) (names_of rest) (ap names_of mine ∙ map-append (λ (q : Row Name). q.name) front rest) front within)

  size : length (parent_ids same_name (master_world front) front) ≡ cloned
  size = length-map front (λ (row : Row Name). map (id_in same_name (master_world front)) row.parents)

  abbrev cut : List Segment
  cut = flat_segments_of 0 (parent_ids same_name (master_world front) front)

  cut-of : (ps qs : List (List ℕ)) → ps ≡ parent_ids same_name (master_world front) front ++ qs → cut_below cloned (flat_segments_of 0 ps) ≡ cut
  cut-of ps qs e =
      ap (λ l. cut_below cloned (flat_segments_of 0 l)) e
      ∙ ap (λ n. cut_below n (flat_segments_of 0 (parent_ids same_name (master_world front) front ++ qs))) (let s = size in let z : cloned ≡ 0 + length (parent_ids same_name (master_world front) front) = omega (arith, s) in z)
      ∙ flat-cut 0 (parent_ids same_name (master_world front) front) qs

  their-cut : cut_below cloned (master_segments r) ≡ cut
  their-cut = cut-of (parent_ids same_name r (front ++ more)) (parent_ids same_name r more) theirs

  our-cut : cut_below cloned (flat_segments_of 0 (parents_listed (flat_map (λ (p : Payload). p.master) payloads))) ≡ cut
  our-cut = ap (λ l. cut_below cloned (flat_segments_of 0 l)) hold.stand.master ∙ cut-of (parent_ids same_name w w.master) (parent_ids same_name w rest) ours

  stored-at : (s : Known) → IsIn s (known_in payloads) → slice_get (names_of (front ++ rest)) s.id ≡ Some s.name
  stored-at s i = subst (λ l. slice_get (names_of l) s.id ≡ Some s.name) mine (each (λ (k : Known). slice_get (names_of w.master) k.id ≡ Some k.name) (known_in payloads) hold.stand.known s i)

  told-at : (k : KnownName) → IsIn k (named_ids r (stored_ids r)) → slice_get (names_of (front ++ more)) k.id ≡ Some k.name
  told-at k i = each (λ (k : Known). slice_get (names_of (front ++ more)) k.id ≡ Some k.name) (as_known (named_ids r (stored_ids r))) (pick-names r 0 (stored_ids r) (ids-rise r named)) (record { id = k.id; name = k.name }) (known-as k (named_ids r (stored_ids r)) i)

  names-agree : (k : KnownName) → IsIn k (named_ids r (stored_ids r)) → (not (nat_lt k.id cloned) || name_agrees (known_in payloads) k) ≡ true
  names-agree k i = implies (nat_lt k.id cloned) (name_agrees (known_in payloads) k) (λ below.
      in-all-true (λ (s : Known). not (nat_eq s.id k.id) || same_name s.name k.name) (known_in payloads) (λ s j.
      implies (nat_eq s.id k.id) (same_name s.name k.name) (λ e.
      let same = exact_unsigned_eq s.id k.id e in
      let name : s.name ≡ k.name = get-both front rest more k.id s.name k.name (ltb-true k.id cloned below) (subst (λ n. slice_get (names_of (front ++ rest)) n ≡ Some s.name) same (stored-at s j)) (told-at k i) in
      subst (λ z. same_name s.name z ≡ true) name (same_name-self s.name))))

  pub none-unlike : first_unlike payloads cloned (clone_data_of r) ≡ None
  none-unlike =
      let told = clone_data_of r in
      let items = length told.segments + length told.names + length told.heads in
      ap₂ first_some
      (ap₂ (λ a b. first_false 0 (segments_agree a b)) their-cut our-cut ∙ none-false 0 (segments_agree cut cut) (all-agree cut))
      (ap₂ first_some
      (ap₂ (λ (a b : List Segment). first_false items (nat_le (length a) (length b) ∷ [])) our-cut their-cut ∙ none-false items (nat_le (length cut) (length cut) ∷ []) (le-leb (length cut) (length cut) (le_refl (length cut)), tt))
      (none-false (length told.segments) (map (λ k. not (nat_lt k.id cloned) || name_agrees (known_in payloads) k) told.names) (all-mapped (λ k. not (nat_lt k.id cloned) || name_agrees (known_in payloads) k) told.names names-agree)))

  abbrev stored : List Name
  stored = map (λ (k : Known). k.name) (filter (λ (k : Known). nat_lt k.id cloned) (known_in payloads))

  stored-in-front : (x : Name) → (ks : List Known) → ((k : Known) → IsIn k ks → IsIn k (known_in payloads)) → IsIn x (map (λ (k : Known). k.name) (filter (λ (k : Known). nat_lt k.id cloned) ks)) → IsIn x (names_of front)
  stored-in-front x [] f i = absurd i
  stored-in-front x (k ∷ ks) f i = by_test (nat_lt k.id cloned) refl i (stored-in-front x ks (λ c j. f c (inr j)))
    where
      by_test : (b : Bool) → nat_lt k.id cloned ≡ b → IsIn x (map (λ (k : Known). k.name) (cond b (k ∷ filter (λ (k : Known). nat_lt k.id cloned) ks) (filter (λ (k : Known). nat_lt k.id cloned) ks)))
          → (IsIn x (map (λ (k : Known). k.name) (filter (λ (k : Known). nat_lt k.id cloned) ks)) → IsIn x (names_of front)) → IsIn x (names_of front)
      by_test true e (inl g) rec = subst (λ z. IsIn z (names_of front)) (sym g) (get-front-in front rest k.id k.name (ltb-true k.id cloned e) (stored-at k (f k (inl refl))))
      by_test true e (inr j) rec = rec j
      by_test false e j rec = rec j

  distinct : AreDistinct (names_of (front ++ more))
  distinct = (history-distinct [] (front ++ more) history).0

  -- the rows behind those that came
  rows-right : (done todo : List (Row Name)) → more ≡ done ++ todo → AllByRecursion (λ b. b ≡ true) (rows_fit stored (names_of done) (clone_data_of r) (cloned + length done) (names_of todo))
  rows-right done [] e = tt
  rows-right done (row ∷ todo) e = (
    both_true _ _ (both_true _ _
        (true_not (is_in same_name row.name (names_of done)) (λ g. (distinct-parts (names_of (front ++ done)) (names_of (row ∷ todo)) whole).2 row.name
        (subst (IsIn row.name) (sym (map-append (λ (q : Row Name). q.name) front done)) (in-right row.name (names_of front) (names_of done) (found same_name same_name-exact same_name-self row.name (names_of done) g))) (inl refl)))
        (true_not (is_in same_name row.name stored) (λ g. (distinct-parts (names_of (front ++ done)) (names_of (row ∷ todo)) whole).2 row.name
        (subst (IsIn row.name) (sym (map-append (λ (q : Row Name). q.name) front done)) (in-left row.name (names_of front) (names_of done)
        (stored-in-front row.name (known_in payloads) (λ k i. i) (found same_name same_name-exact same_name-self row.name stored g)))) (inl refl))))
        (in-all-true (λ (k : KnownName). not (nat_eq k.id (cloned + length done)) || same_name k.name row.name) (named_ids r (stored_ids r)) (λ k i.
        implies (nat_eq k.id (cloned + length done)) (same_name k.name row.name) (λ g.
        let at = subst (λ n. slice_get (names_of (front ++ more)) n ≡ Some k.name) (exact_unsigned_eq k.id (cloned + length done) g) (told-at k i) in
        let name : k.name ≡ row.name = ap (or_this k.name) (sym at ∙ here) in
        subst (λ z. same_name k.name z ≡ true) name (same_name-self k.name)))),
    subst (λ n. AllByRecursion (λ b. b ≡ true) (rows_fit stored (names_of done ++ row.name ∷ []) (clone_data_of r) n (names_of todo))) (let l = length-append done (row ∷ []) in let z : cloned + length (done ++ row ∷ []) ≡ cloned + length done + 1 = omega (arith, l) in z)
        (subst (λ l. AllByRecursion (λ b. b ≡ true) (rows_fit stored l (clone_data_of r) (cloned + length (done ++ row ∷ [])) (names_of todo))) (map-append (λ (q : Row Name). q.name) done (row ∷ []))
        (rows-right (done ++ row ∷ []) todo (e ∙ sym (append_assoc done (row ∷ []) todo)))),
  )
    where
      joined : front ++ more ≡ front ++ done ++ row ∷ todo
      joined = ap (λ l. front ++ l) e ∙ sym (append_assoc front done (row ∷ todo))

      whole : AreDistinct (names_of (front ++ done) ++ names_of (row ∷ todo))
      whole = subst AreDistinct (ap names_of joined ∙ map-append (λ (q : Row Name). q.name) (front ++ done) (row ∷ todo)) distinct

      here : slice_get (names_of (front ++ more)) (cloned + length done) ≡ Some row.name
      here = ap (λ l. slice_get (names_of l) (cloned + length done)) joined ∙ ap (slice_get (names_of (front ++ done ++ row ∷ todo))) (sym (length-append front done)) ∙ get-past (front ++ done) row todo

  pub none-bad : first_bad_row payloads cloned (clone_data_of r) (names_of more) ≡ None
  none-bad = none-false cloned (rows_fit stored [] (clone_data_of r) cloned (names_of more))
      (subst (λ n. AllByRecursion (λ b. b ≡ true) (rows_fit stored [] (clone_data_of r) n (names_of more))) (let z : cloned + 0 ≡ cloned = omega arith in z) (rows-right [] more refl))
