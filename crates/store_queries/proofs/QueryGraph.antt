-- The answer over the segments of a world is that of the world, by ids.
use Rattle.std.proofs.Common.{◌≡◌, ◌<◌, ◌≤◌, ◌+◌, ◌-◌, ◌^◌, ℕ, zero, suc, Some, List, [], ◌∷◌, ◌++◌, length, map, slice_get, refl, sym, ap, ap₂, ◌∙◌, subst, inl, inr, ⊎_elim, arith, append_assoc}
use Rattle.std.specs.Prelude.{◌↔◌, reverse}
use Rattle.std.proofs.lemmas.List.{map-append, reverse-append, reverse-reverse}
use Rattle.std.proofs.lemmas.Bool.{false_from_ne_true}
use Rattle.id_groups.specs.Lists.{IsIn, AreAllIn, IsFiltered, is_in}
use Rattle.id_groups.specs.Name.{Name, same_name}
use Rattle.id_groups.specs.Id.{is_master_id, other_id}
use Rattle.id_groups.specs.declared.span.IdSpan.{IdSpan}
use Rattle.id_groups.proofs.Listing.{filtered_once, found, there}
use Rattle.id_groups.proofs.Names.{same_name-exact, same_name-self}
use Rattle.commit_graph.specs.World.{Row, World, IsWorld, names_of, rows_of}
use Rattle.commit_graph.specs.Ids.{id_in, row_at}
use Rattle.commit_graph.specs.Graph.{graph_of, parents_of}
use Rattle.commit_graph.specs.Renaming.{IsRenaming}
use Rattle.commit_graph.proofs.Histories.{in-append, history-rest}
use Rattle.commit_graph.proofs.Down.{in-left, in-right, in-reverse, in-down}
use Rattle.commit_graph.proofs.Places.{IsFound, at-name, apart, master-found, others-found, below-master, over-master}
use Rattle.segment_codec.specs.Record.{Segment}
use Rattle.segment_codec.specs.Table.{Follow, IsHeld, IsLawful}
use Rattle.span_set.specs.Members.{IsMember, IsCanonical, IsDescending, AreUnder, descending_from, ids_of}
use Rattle.span_set.proofs.Counts.{ids-member, member-ids, ids-descending}
use Rattle.ancestor_query.specs.Graph.{table_graph, down_of}
use Rattle.set_expr.specs.Expr.{Expr, commits_in, renamed}
use Rattle.set_expr.specs.Ids.{with_ids}
use Rattle.set_expr.specs.Meaning as means
use Rattle.set_expr.specs.Meaning.{IsAnswer}
use Rattle.set_expr.specs.Computed.{answer_of}
use Rattle.set_expr.proofs.PutIds.{with-renamed}
use Rattle.set_expr.proofs.Renamings.{answer-agree, members-agree}
use Rattle.set_expr.proofs.Worlds.{world-answer, world-closed}
use Rattle.set_query.proofs.Ids.{held-down, down-held, table-closed}
use Rattle.payload_tables.specs.Bases.{AreSegmentsOf}

-- ---- ids that descend

under-in : (x y : ℕ) (xs : List ℕ) → AreUnder x xs → IsIn y xs → y < x
under-in x y [] h i = absurd i
under-in x y (z ∷ xs) h (inl e) = let lt = h.0 in subst (λ (k : ℕ). k < x) (sym e) lt
under-in x y (z ∷ xs) h (inr i) = under-in x y xs h.1 i

under-more : (a b : ℕ) (ys : List ℕ) → a ≤ b → AreUnder a ys → AreUnder b ys
under-more a b [] le h = tt
under-more a b (y ∷ ys) le h = (let u = h.0 in omega (arith, u, le), under-more a b ys le h.1)

under-descending : (x low n : ℕ) (ys : List ℕ) → low + n ≤ x → AreUnder x ys → AreUnder x (descending_from low n ++ ys)
under-descending x low zero ys le h = h
under-descending x low (suc n) ys le h = (omega (arith, le), under-descending x low n ys (omega (arith, le)) h)

descending-joined : (low n : ℕ) (ys : List ℕ) → AreUnder low ys → IsDescending ys → IsDescending (descending_from low n ++ ys)
descending-joined low zero ys u d = d
descending-joined low (suc n) ys u d =
    (under-descending (low + n) low n ys (omega arith) (under-more low (low + n) ys (omega arith) u), descending-joined low n ys u d)

-- what is in a list that descends filters another that does, where it is in that one too
filtered : (P : ℕ → Type 0) (xs ys : List ℕ) → IsDescending xs → IsDescending ys → ((x : ℕ) → IsIn x ys → IsIn x xs) → ((x : ℕ) → IsIn x xs → P x ↔ IsIn x ys) → IsFiltered P xs ys
filtered P [] [] h k within same = refl
filtered P [] (y ∷ ys) h k within same = absurd (within y (inl refl))
filtered P (x ∷ xs) [] h k within same = inr ((λ p. (same x (inl refl)).0 p), filtered P xs [] h.1 k (λ z i. absurd i) (λ z i. same z (inr i)))
filtered P (x ∷ xs) (y ∷ ys) h k within same = ⊎_elim
    (λ e. inl (
      (same x (inl refl)).1 (inl (sym e)),
      ys,
      ap (λ z. z ∷ ys) e,
      filtered P xs ys h.1 k.1 (λ z j. inner z e j (within z (inr j))) (λ z i. (λ p. behind z e i ((same z (inr i)).0 p), λ j. (same z (inr i)).1 (inr j))),
    ))
    (λ i. inr (
      (λ p. let lt = below x i ((same x (inl refl)).0 p) in omega (arith, lt)),
      filtered P xs (y ∷ ys) h.1 k (λ z j. inside z i j (within z j)) (λ z m. same z (inr m)),
    ))
    (within y (inl refl))
  where
    behind : (z : ℕ) → y ≡ x → IsIn z xs → IsIn z (y ∷ ys) → IsIn z ys
    behind z e i (inl f) = let lt = under-in x z xs h.0 i in absurd (omega (arith, lt, e, f))
    behind z e i (inr j) = j

    inner : (z : ℕ) → y ≡ x → IsIn z ys → IsIn z (x ∷ xs) → IsIn z xs
    inner z e j (inl f) = let lt = under-in y z ys k.0 j in absurd (omega (arith, lt, e, f))
    inner z e j (inr i) = i

    below : (z : ℕ) → IsIn y xs → IsIn z (y ∷ ys) → z < x
    below z i (inl f) = let lt = under-in x y xs h.0 i in omega (arith, lt, f)
    below z i (inr j) = let lt = under-in x y xs h.0 i in let under = under-in y z ys k.0 j in omega (arith, lt, under)

    inside : (z : ℕ) → IsIn y xs → IsIn z (y ∷ ys) → IsIn z (x ∷ xs) → IsIn z xs
    inside z i j (inl e) = let lt = below z i j in absurd (omega (arith, lt, e))
    inside z i j (inr m) = m

descending-add : (low n m : ℕ) → descending_from (low + n) m ++ descending_from low n ≡ descending_from low (n + m)
descending-add low n zero = ap (descending_from low) (let z : n ≡ n + 0 = omega arith in z)
descending-add low n (suc m) =
    ap₂ {C = List ℕ} (λ x xs. x ∷ xs) (let z : low + n + m ≡ low + (n + m) = omega arith in z) (descending-add low n m)
    ∙ ap (descending_from low) (let z : suc (n + m) ≡ n + suc m = omega arith in z)

-- the ids of segments that follow one another
down-follow : (first end : ℕ) (segments : List Segment) → Follow first end segments → (n : ℕ) → end ≡ first + n → down_of segments ≡ descending_from first n
down-follow first end [] h n e = ap (descending_from first) (let z : 0 ≡ n = omega (arith, h, e) in z)
down-follow first end (s ∷ rest) h n e =
    let low = h.0 in let le = h.1 in
    let width : s.high + 1 - s.low ≡ s.high + 1 - first = omega (arith, low) in
    let end-behind = follow-grows (s.high + 1) end rest h.2 in
    ap₂ {C = List ℕ} (λ x y. x ++ y)
    (down-follow (s.high + 1) end rest h.2 (end - (s.high + 1)) (omega (arith, end-behind)) ∙ ap (λ k. descending_from k (end - (s.high + 1))) (let z : s.high + 1 ≡ first + (s.high + 1 - first) = omega (arith, le) in z))
    (ap₂ {C = List ℕ} descending_from low width)
    ∙ descending-add first (s.high + 1 - first) (end - (s.high + 1))
    ∙ ap (descending_from first) (let z : s.high + 1 - first + (end - (s.high + 1)) ≡ n = omega (arith, e, le, end-behind) in z)
  where
    follow-grows : (first end : ℕ) (segments : List Segment) → Follow first end segments → first ≤ end
    follow-grows first end [] h = let e = h in omega (arith, e)
    follow-grows first end (s ∷ rest) h = let r = follow-grows (s.high + 1) end rest h.2 in let l = h.1 in omega (arith, r, l)

down-append : (front back : List Segment) → down_of (front ++ back) ≡ down_of back ++ down_of front
down-append [] back = sym (nil (down_of back))
  where
    nil : (xs : List ℕ) → xs ++ [] ≡ xs
    nil [] = refl
    nil (x ∷ xs) = ap (λ ys. x ∷ ys) (nil xs)
down-append (s ∷ front) back =
    ap (λ xs. xs ++ descending_from s.low (s.high + 1 - s.low)) (down-append front back)
    ∙ append_assoc (down_of back) (down_of front) (descending_from s.low (s.high + 1 - s.low))

-- rows with ids in turn
names-down : (f : Name → ℕ) (first : ℕ) (rows : List (Row Name)) → ((k : ℕ) (r : Row Name) → slice_get rows k ≡ Some r → f r.name ≡ first + k)
    → map f (reverse (names_of rows)) ≡ descending_from first (length rows)
names-down f first [] h = refl
names-down f first (r ∷ rows) h =
    ap (map f) (reverse-append (r.name ∷ []) (names_of rows)) ∙ map-append f (reverse (names_of rows)) (r.name ∷ [])
    ∙ ap₂ {C = List ℕ} (λ x y. x ++ y)
    (names-down f (first + 1) rows (λ k q e. h (suc k) q e ∙ (let z : first + suc k ≡ first + 1 + k = omega arith in z)))
    (ap (λ n. n ∷ []) (h 0 r refl))
    ∙ descending-add first 1 (length rows) ∙ ap (descending_from first) (let z : 1 + length rows ≡ suc (length rows) = omega arith in z)

-- ---- a world and its segments

module _ (w : World Name) (h : IsWorld w) (few : length w.master ≤ 2 ^ 32) where
  abbrev pub id : Name → ℕ
  id = id_in same_name w

  -- the row of a name
  pub row-of : (x : Name) → IsIn x (names_of (rows_of w)) → IsFound same_name w x (id_in same_name w x)
  row-of x i = ⊎_elim
      (λ j. let t = at-name w.master x j in
      let f = subst (λ z. IsFound same_name w z t.0) t.3 (master-found same_name same_name-exact same_name-self w h few t.0 t.1 t.2) in
      subst (IsFound same_name w x) f.same_id f)
      (λ j. let t = at-name w.others x j in
      let f = subst (λ z. IsFound same_name w z (other_id t.0)) t.3 (others-found same_name same_name-exact same_name-self w h t.0 t.1 t.2) in
      subst (IsFound same_name w x) f.same_id f)
      (in-append x (names_of w.master) (names_of w.others) (subst (IsIn x) (map-append (λ (r : Row Name). r.name) w.master w.others) i))

  -- what is in the graph is in the world
  pub down-in : (x : Name) → IsIn x (graph_of same_name w).down → IsIn x (names_of (rows_of w))
  down-in x i = subst (IsIn x) (sym (map-append (λ (r : Row Name). r.name) w.master w.others)) (⊎_elim
      (λ j. in-right x (names_of w.master) (names_of w.others) (subst (IsIn x) (reverse-reverse (names_of w.others)) (in-reverse x (reverse (names_of w.others)) j)))
      (λ j. in-left x (names_of w.master) (names_of w.others) (subst (IsIn x) (reverse-reverse (names_of w.master)) (in-reverse x (reverse (names_of w.master)) j)))
      (in-append x (reverse (names_of w.others)) (reverse (names_of w.master)) i))

  pub all-down : (names : List Name) → AreAllIn names (names_of (rows_of w)) → AreAllIn names (graph_of same_name w).down
  all-down [] a = tt
  all-down (x ∷ names) a = (in-down same_name w x a.0, all-down names a.1)

  some-of : (a b : Row Name) → Some a ≡ Some b → a ≡ b
  some-of a b e = cc e

  pub one-id : (x y : Name) → IsIn x (names_of (rows_of w)) → IsIn y (names_of (rows_of w)) → id_in same_name w x ≡ id_in same_name w y → x ≡ y
  one-id x y i j e =
      let a = (row-of x i).row in let b = (row-of y j).row in
      sym a.2 ∙ ap (λ (r : Row Name). r.name) (some-of a.0 b.0 (sym a.1 ∙ ap (row_at w) e ∙ b.1)) ∙ b.2

  group-of : (x : Name) → IsIn x (names_of (rows_of w)) → is_master_id (id_in same_name w x) ≡ is_in same_name x (names_of w.master)
  group-of x i = ⊎_elim
      (λ j. let t = at-name w.master x j in
      let f = subst (λ z. IsFound same_name w z t.0) t.3 (master-found same_name same_name-exact same_name-self w h few t.0 t.1 t.2) in
      let lt = get-less w.master t.0 t.1 t.2 in
      ap is_master_id (sym f.same_id) ∙ below-master t.0 (omega (arith, lt, few)) ∙ sym (there same_name same_name-exact same_name-self x (names_of w.master) j))
      (λ j. let t = at-name w.others x j in
      let f = subst (λ z. IsFound same_name w z (other_id t.0)) t.3 (others-found same_name same_name-exact same_name-self w h t.0 t.1 t.2) in
      let rest = history-rest [] w.master w.others h in
      let out = false_from_ne_true (is_in same_name x (names_of w.master)) (λ e. apart (names_of w.master) w.others t.0 t.1 rest t.2
      (subst (λ z. IsIn z (names_of w.master)) (sym t.3) (found same_name same_name-exact same_name-self x (names_of w.master) e))) in
      ap is_master_id (sym f.same_id) ∙ over-master t.0 ∙ sym out)
      (in-append x (names_of w.master) (names_of w.others) (subst (IsIn x) (map-append (λ (r : Row Name). r.name) w.master w.others) i))
    where
      get-less : (rows : List (Row Name)) (k : ℕ) (r : Row Name) → slice_get rows k ≡ Some r → k < length rows
      get-less [] k r e = cc
      get-less (q ∷ rows) zero r e = omega arith
      get-less (q ∷ rows) (suc k) r e = let l = get-less rows k r e in omega (arith, l)

  module _ (flats : List Segment) (s : AreSegmentsOf w flats) where
    down-ids : down_of flats ≡ descending_from (2 ^ 56) (length w.others) ++ descending_from 0 (length w.master)
    down-ids = ap down_of s.parts ∙ down-append s.masters s.others
        ∙ ap₂ {C = List ℕ} (λ x y. x ++ y) (down-follow (2 ^ 56) (other_id (length w.others)) s.others s.other_ids (length w.others) refl)
        (down-follow 0 (length w.master) s.masters s.master_ids (length w.master) (omega arith))

    pub renaming : IsRenaming (id_in same_name w) (graph_of same_name w) (table_graph flats)
    renaming = record {
      down = down-ids ∙ sym (map-append (id_in same_name w) (reverse (names_of w.others)) (reverse (names_of w.master))
          ∙ ap₂ {C = List ℕ} (λ x y. x ++ y)
          (names-down (id_in same_name w) (2 ^ 56) w.others (λ k r e. sym (others-found same_name same_name-exact same_name-self w h k r e).same_id))
          (names-down (id_in same_name w) 0 w.master (λ k r e. sym (master-found same_name same_name-exact same_name-self w h few k r e).same_id ∙ (let z : k ≡ 0 + k = omega arith in z))));
      parents = λ x i.
          let f = row-of x (down-in x i) in
          s.parents (id_in same_name w x) f.row.0 f.row.1
          ∙ ap (λ (r : _). map (id_in same_name w) (parents_of r)) (sym f.row.1 ∙ f.named);
      master = λ x i. group-of x (down-in x i);
      apart = λ x y i j e. one-id x y (down-in x i) (down-in y j) e;
    }

    descends : IsDescending (down_of flats)
    descends = subst IsDescending (sym down-ids)
        (descending-joined (2 ^ 56) (length w.others) (descending_from 0 (length w.master))
        (subst (AreUnder (2 ^ 56)) (nil (descending_from 0 (length w.master))) (under-descending (2 ^ 56) 0 (length w.master) [] (omega (arith, few)) tt))
        (subst IsDescending (nil (descending_from 0 (length w.master))) (descending-joined 0 (length w.master) [] tt tt)))
      where
        nil : (xs : List ℕ) → xs ++ [] ≡ xs
        nil [] = refl
        nil (x ∷ xs) = ap (λ ys. x ∷ ys) (nil xs)

    -- an id of a name is one of the table
    pub held : (x : Name) → IsIn x (names_of (rows_of w)) → IsHeld flats (id_in same_name w x)
    held x i = down-held flats (id_in same_name w x) (subst (IsIn (id_in same_name w x)) (sym renaming.down) (in-map (graph_of same_name w).down (in-down same_name w x i)))
      where
        in-map : (xs : List Name) → IsIn x xs → IsIn (id_in same_name w x) (map (id_in same_name w) xs)
        in-map [] j = j
        in-map (y ∷ xs) (inl e) = inl (ap (id_in same_name w) e)
        in-map (y ∷ xs) (inr j) = inr (in-map xs j)

    -- the members by ids are the answer in the world
    pub answered : IsLawful flats → (e : Expr Name) → AreAllIn (commits_in e) (names_of (rows_of w)) → (ids : List ℕ) → ids ≡ map (id_in same_name w) (commits_in e)
        → (set : List IdSpan) → IsCanonical set → ((x : ℕ) → IsMember set x ↔ means.IsMember (table_graph flats) (with_ids e ids) x)
        → (names : List Name) × IsAnswer (graph_of same_name w) e names × (ids_of set ≡ map (id_in same_name w) names) × AreAllIn names (names_of (rows_of w))
    answered lawful e known ids is set canonical members =
        let g = graph_of same_name w in
        let f = id_in same_name w in
        let names = answer_of same_name g (length (rows_of w)) e in
        let down = all-down (commits_in e) known in
        let closed = world-closed w h in
        let also = table-closed flats lawful in
        let answer = world-answer same_name same_name-exact same_name-self w e h down in
        let by-ids = answer-agree f g (table_graph flats) renaming closed also e names down answer in
        let agrees = members-agree f g (table_graph flats) renaming closed also e down in
        let same : with_ids e ids ≡ renamed f e = ap (with_ids e) is ∙ with-renamed f e in
        let all : IsFiltered (means.IsMember (table_graph flats) (renamed f e)) (down_of flats) (ids_of set) =
        filtered (means.IsMember (table_graph flats) (renamed f e)) (down_of flats) (ids_of set) descends (ids-descending set canonical)
        (λ x i. let m = agrees.from x (subst (λ t. means.IsMember (table_graph flats) t x) same ((members x).0 (ids-member set x i))) in
        subst (λ z. IsIn z (down_of flats)) m.2 (held-down flats (f m.0) (held m.0 (down-in m.0 (agrees.within m.0 m.1)))))
        (λ x i. (
          λ m. member-ids set x ((members x).1 (subst (λ t. means.IsMember (table_graph flats) t x) (sym same) m)),
          λ j. subst (λ t. means.IsMember (table_graph flats) t x) same ((members x).0 (ids-member set x j)),
        )) in (
          names,
          answer,
          filtered_once (means.IsMember (table_graph flats) (renamed f e)) (down_of flats) (ids_of set) (map f names) all by-ids,
          answer-in (means.IsMember g e) g.down names answer (λ x i. i),
        )
      where
        all-in : (xs : List Name) → ((x : Name) → IsIn x xs → IsIn x (graph_of same_name w).down) → AreAllIn xs (names_of (rows_of w))
        all-in [] k = tt
        all-in (x ∷ xs) k = (down-in x (k x (inl refl)), all-in xs (λ y i. k y (inr i)))

        filtered-in : (P : Name → Type 0) (xs ys : List Name) → IsFiltered P xs ys → (y : Name) → IsIn y ys → IsIn y xs
        filtered-in P [] ys e y i = absurd (subst (IsIn y) e i)
        filtered-in P (x ∷ xs) ys (inl (p, rest, e, more)) y i =
            ⊎_elim (λ a. inl a) (λ b. inr (filtered-in P xs rest more y b)) (subst (IsIn y) e i)
        filtered-in P (x ∷ xs) ys (inr (n, more)) y i = inr (filtered-in P xs ys more y i)

        answer-in : (P : Name → Type 0) (xs ys : List Name) → IsFiltered P xs ys → ((x : Name) → IsIn x xs → IsIn x (graph_of same_name w).down) → AreAllIn ys (names_of (rows_of w))
        answer-in P xs ys a k = all-in ys (λ y i. k y (filtered-in P xs ys a y i))
