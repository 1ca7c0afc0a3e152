-- The clone data of a master are exactly those of whose items the rules hold.
use Rattle.std.proofs.Common.{◌≡◌, ◌≤◌, ◌<◌, ◌+◌, ◌-◌, ◌↔◌, ◌⊎◌, ℕ, suc, Bool, true, false, inl, inr, List, [], ◌∷◌, ◌++◌, length, map, nat_eq, Option, Some, None, slice_get, refl, sym, ap, ap₂, subst, subst₂, ◌∙◌, ⊎_elim, arith, append-nil, append_assoc, length-append, eq-or-lt_of_le}
use Rattle.std.proofs.lemmas.List.{length-map}
use Rattle.id_groups.specs.Lists.{IsIn, is_in, IsFiltered}
use Rattle.id_groups.specs.Name.{Name, same_name}
use Rattle.id_groups.proofs.Listing.{filtered_once}
use Rattle.commit_graph.specs.World.{Row, World, IsNamedWorld, names_of}
use Rattle.commit_graph.specs.Ids.{id_in, parent_ids}
use Rattle.commit_graph.proofs.Naming.{each}
use Rattle.segment_codec.specs.Record.{Segment}
use Rattle.segment_codec.specs.Table.{Follow}
use Rattle.segment_codec.proofs.Tables.{le_or_lt}
use Rattle.segment_rules.specs.Flat.{parents_listed}
use Rattle.segment_rules.proofs.Flats.{flat-keeps}
use Rattle.batch_codec.specs.Grammar.{AreMaximal}
use Rattle.remote_rules.specs.CloneData.{CloneData, KnownName, head_ids}
use Rattle.remote_rules.specs.Known.{master_world, master_graph, IsKnownTo}
use Rattle.remote_rules.specs.Honest.{clone_data_of, named_ids, stored_ids, heads_of, master_segments}
use Rattle.remote_rules.specs.Clones.{IsFlatIn, AreFlatOf, numbered, IsHead, IsStoredIn, IsCloneOf}
use Rattle.change_rules.proofs.Alone.{segments-cover, segments-maximal, segments-level}
use Rattle.change_rules.proofs.Cloned.{Rises, follow-bound, ids-rise, pick-next}
use Rattle.change_rules.proofs.Reached.{lowest, inside, known-there, row-in, index-below, in-map-back, in-map-on, child, heads-rise, picked-in, head-then, known-stored}

abbrev or_this : {X : Type 0} → X → Option X → X
or_this d None = d
or_this d (Some x) = x

-- Two lists of flat segments of the same ids are one.

segment-is : (s t : Segment) → s.low ≡ t.low → s.high ≡ t.high → s.level ≡ t.level → s.parents ≡ t.parents → s ≡ t
segment-is s t a b c d =
    ap₂ {C = Segment} (λ x y. record { low = x; high = y; level = s.level; parents = s.parents }) a b
    ∙ ap₂ {C = Segment} (λ x y. record { low = t.low; high = t.high; level = x; parents = y }) c d

module _ (parents : List (List ℕ)) where
  -- a segment doesn't go on where the next one begins
  no-longer : (end : ℕ) (s t : Segment) (ss : List Segment) → Follow (s.high + 1) end ss → ((u : Segment) → IsIn u ss → IsFlatIn parents u) → IsFlatIn parents t → t.low ≤ s.high → s.high < t.high → t.high < end → ⊥
  no-longer end s t [] f all h low more bound = (let e = f in absurd (omega (arith, e, more, bound)))
  no-longer end s t (u ∷ us) f all h low more bound =
      let next = all u (inl refl) in
      let at : slice_get parents u.low ≡ Some ((u.low - 1) ∷ []) = h.others u.low (let e = f.0 in omega (arith, e, low)) (let e = f.0 in omega (arith, e, more)) in
      next.begins (let e = f.0 in omega (arith, e)) (ap (or_this []) (sym next.lowest ∙ at))

  pub one-cut : (first end : ℕ) (ss ts : List Segment) → Follow first end ss → Follow first end ts → ((s : Segment) → IsIn s ss → IsFlatIn parents s) → ((t : Segment) → IsIn t ts → IsFlatIn parents t) → ss ≡ ts
  one-cut first end [] [] f g a b = refl
  one-cut first end [] (t ∷ ts) f g a b = (let e = f in let n = follow-bound (t.high + 1) end ts g.2 in let u = g.1 in absurd (omega (arith, e, n, u)))
  one-cut first end (s ∷ ss) [] f g a b = (let e = g in let n = follow-bound (s.high + 1) end ss f.2 in let u = f.1 in absurd (omega (arith, e, n, u)))
  one-cut first end (s ∷ ss) (t ∷ ts) f g a b = ap₂ (λ x y. x ∷ y) same (one-cut (s.high + 1) end ss ts f.2 (subst (λ n. Follow (n + 1) end ts) (sym high) g.2) (λ u i. a u (inr i)) (λ u i. b u (inr i)))
    where
      h : IsFlatIn parents s
      h = a s (inl refl)

      k : IsFlatIn parents t
      k = b t (inl refl)

      low : s.low ≡ t.low
      low = f.0 ∙ sym g.0

      high : s.high ≡ t.high
      high = ⊎_elim
          (λ le. ⊎_elim (λ e. e) (λ lt. absurd (no-longer end s t ss f.2 (λ u i. a u (inr i)) k
          (let e = g.0 in let o = f.1 in omega (arith, e, o)) lt (let n = follow-bound (t.high + 1) end ts g.2 in omega (arith, n)))) (eq-or-lt_of_le le))
          (λ lt. absurd (no-longer end t s ts g.2 (λ u i. b u (inr i)) h
          (let e = f.0 in let o = g.1 in omega (arith, e, o)) lt (let n = follow-bound (s.high + 1) end ss f.2 in omega (arith, n))))
          (le_or_lt s.high t.high)

      same : s ≡ t
      same = segment-is s t low high (h.flat ∙ sym k.flat) (ap (or_this []) (sym h.lowest ∙ ap (slice_get parents) low ∙ k.lowest))

-- Picked ids make a filtered list.

filtered-map : {X Y : Type 0} (f : X → Y) (P : X → Type 0) (Q : Y → Type 0) (xs ys : List X) → ((x : X) → IsIn x xs → P x ↔ Q (f x)) → IsFiltered P xs ys → IsFiltered Q (map f xs) (map f ys)
filtered-map f P Q [] ys h k = ap (map f) k
filtered-map f P Q (x ∷ xs) ys h (inl k) = inl ((h x (inl refl)).0 k.0, map f k.1, ap (map f) k.2, filtered-map f P Q xs k.1 (λ y i. h y (inr i)) k.3)
filtered-map f P Q (x ∷ xs) ys h (inr k) = inr ((λ q. k.0 ((h x (inl refl)).1 q)), filtered-map f P Q xs ys (λ y i. h y (inr i)) k.1)

numbered-names : (id : ℕ) (rows : List (Row Name)) → map (λ (k : KnownName). k.name) (numbered id rows) ≡ names_of rows
numbered-names id [] = refl
numbered-names id (row ∷ rows) = ap (λ l. row.name ∷ l) (numbered-names (id + 1) rows)

-- a numbered row stands at its place
numbered-at : (id : ℕ) (rows : List (Row Name)) (k : KnownName) → IsIn k (numbered id rows) → (row : Row Name) × (id ≤ k.id) × (slice_get rows (k.id - id) ≡ Some row) × (row.name ≡ k.name)
numbered-at id [] k i = absurd i
numbered-at id (row ∷ rows) k (inl e) =
    let at : k.id ≡ id = ap (λ (z : KnownName). z.id) e in
    let none : 0 ≡ k.id - id = omega (arith, at) in
    (row, omega (arith, at), ap (slice_get (row ∷ rows)) (sym none), sym (ap (λ (z : KnownName). z.name) e))
numbered-at id (row ∷ rows) k (inr i) =
    let n = numbered-at (id + 1) rows k i in
    let above = n.1 in
    let one : suc (k.id - (id + 1)) ≡ k.id - id = omega (arith, above) in
    (n.0, omega (arith, above), ap (slice_get (row ∷ rows)) (sym one) ∙ n.2, n.3)

not-in : (least end n : ℕ) (ids : List ℕ) → Rises least end ids → n < least → IsIn n ids → ⊥
not-in least end n [] h lt i = i
not-in least end n (id ∷ ids) h lt (inl e) = (let a = h.0 in absurd (omega (arith, e, a, lt)))
not-in least end n (id ∷ ids) h lt (inr i) = not-in (id + 1) end n ids h.2 (let a = h.0 in omega (arith, a, lt)) i

module _ (r : World Name) (P : KnownName → Type 0) where
  pub picked-filtered : (front rows : List (Row Name)) (ids : List ℕ) → r.master ≡ front ++ rows → Rises (length front) (length r.master) ids
      → ((k : KnownName) → IsIn k (numbered (length front) rows) → IsIn k.id ids ↔ P k) → IsFiltered P (numbered (length front) rows) (named_ids r ids)
  picked-filtered front [] [] e h p = refl
  picked-filtered front [] (id ∷ ids) e h p = (let l = ap length e ∙ ap length (append-nil front) in let a = h.0 in let b = h.1 in absurd (omega (arith, l, a, b)))
  picked-filtered front (row ∷ rows) [] e h p =
      inr (
        (λ q. absurd ((p (record { id = length front; name = row.name }) (inl refl)).1 q)),
        subst (λ n. IsFiltered P (numbered n rows) []) (length-append front (row ∷ []))
            (picked-filtered (front ++ row ∷ []) rows [] (e ∙ sym (append_assoc front (row ∷ []) rows)) tt
            (λ k i. p k (inr (subst (λ n. IsIn k (numbered n rows)) (length-append front (row ∷ [])) i)))),
      )
  picked-filtered front (row ∷ rows) (id ∷ ids) e h p =
      ⊎_elim (λ same. here same (λ rises q. picked-filtered (front ++ row ∷ []) rows ids (e ∙ sym (append_assoc front (row ∷ []) rows)) rises q))
      (λ lt. later lt (λ rises q. picked-filtered (front ++ row ∷ []) rows (id ∷ ids) (e ∙ sym (append_assoc front (row ∷ []) rows)) rises q)) (eq-or-lt_of_le h.0)
    where
      Rest : List ℕ → Type 0
      Rest some = Rises (length (front ++ row ∷ [])) (length r.master) some → ((k : KnownName) → IsIn k (numbered (length (front ++ row ∷ [])) rows) → IsIn k.id some ↔ P k)
          → IsFiltered P (numbered (length (front ++ row ∷ [])) rows) (named_ids r some)

      size : length (front ++ row ∷ []) ≡ length front + 1
      size = length-append front (row ∷ [])

      at : slice_get r.master (length front) ≡ Some row
      at = ap (λ l. slice_get l (length front)) e ∙ there front
        where
          there : (front : List (Row Name)) → slice_get (front ++ row ∷ rows) (length front) ≡ Some row
          there [] = refl
          there (x ∷ front) = there front

      here : length front ≡ id → Rest ids → IsFiltered P (numbered (length front) (row ∷ rows)) (named_ids r (id ∷ ids))
      here same rec = inl (
        (p (record { id = length front; name = row.name }) (inl refl)).0 (inl same),
        named_ids r ids,
        pick-next r id ids row (ap (slice_get r.master) (sym same) ∙ at) ∙ ap (λ n. record { id = n; name = row.name } ∷ named_ids r ids) (sym same),
        subst (λ n. IsFiltered P (numbered n rows) (named_ids r ids)) size
            (rec (subst (λ n. Rises n (length r.master) ids) (ap (λ n. n + 1) (sym same) ∙ sym size) h.2)
            (λ k i.
            let j = subst (λ n. IsIn k (numbered n rows)) size i in
            let both = p k (inr j) in
            let above = (numbered-at (length front + 1) rows k j).1 in
            ((λ m. both.0 (inr m)), (λ q. ⊎_elim (λ f. absurd (omega (arith, f, same, above))) (λ m. m) (both.1 q))))),
      )

      later : length front < id → Rest (id ∷ ids) → IsFiltered P (numbered (length front) (row ∷ rows)) (named_ids r (id ∷ ids))
      later lt rec = inr (
        (λ q. not-in id (length r.master) (length front) (id ∷ ids) (let le : id ≤ id = omega arith in (le, h.1, h.2)) lt ((p (record { id = length front; name = row.name }) (inl refl)).1 q)),
        subst (λ n. IsFiltered P (numbered n rows) (named_ids r (id ∷ ids))) size
            (rec ((let s = size in omega (arith, s, lt)), h.1, h.2)
            (λ k i. p k (inr (subst (λ n. IsIn k (numbered n rows)) size i)))),
      )

-- The clone data that are made of a master have all that.
module _ (rows : List (Row Name)) (named : IsNamedWorld (master_world rows)) where
  abbrev r : World Name
  r = master_world rows

  abbrev segments : List Segment
  segments = master_segments r

  abbrev parents : List (List ℕ)
  parents = parent_ids same_name r rows

  listed : parents_listed segments ≡ parents
  listed = flat-keeps 0 parents

  many : length parents ≡ length rows
  many = length-map rows (λ (row : Row Name). map (id_in same_name r) row.parents)

  begins-so : (ss : List Segment) → Follow 0 (length rows) ss → AreMaximal ss → (s : Segment) → IsIn s ss → 0 < s.low → s.parents ≡ (s.low - 1) ∷ [] → ⊥
  begins-so [] f m s i lt e = i
  begins-so (t ∷ ts) f m s (inl g) lt e = (let low = ap (λ (z : Segment). z.low) g ∙ f.0 in absurd (omega (arith, low, lt)))
  begins-so (t ∷ ts) f m s (inr i) lt e = each (λ (s : Segment). s.parents ≡ (s.low - 1) ∷ [] → ⊥) ts m s i e

  flat : (s : Segment) → IsIn s segments → IsFlatIn parents s
  flat s i =
      let l = lowest 0 (length rows) segments (segments-cover r named) s i in
      record {
        flat = each (λ (s : Segment). s.level ≡ 0) segments (segments-level r named) s i;
        lowest = ap (λ p. slice_get p s.low) (sym listed) ∙ ap (slice_get (parents_listed segments)) (let z : s.low ≡ s.low - 0 = omega arith in z) ∙ l.3;
        others = λ id more le.
            let n = inside 0 (length rows) segments (segments-cover r named) s i id more le in
            ap (λ p. slice_get p id) (sym listed) ∙ ap (slice_get (parents_listed segments)) (let z : id ≡ id - 0 = omega arith in z) ∙ n.1;
        begins = begins-so segments (segments-cover r named) (segments-maximal r named) s i;
      }

  all-flat : AreFlatOf parents segments
  all-flat = record { follow = subst (λ n. Follow 0 n segments) (sym many) (segments-cover r named); each = flat }

  place-of : (k : KnownName) → IsIn k (numbered 0 rows) → (row : Row Name) × (slice_get rows k.id ≡ Some row) × (row.name ≡ k.name)
  place-of k i = let n = numbered-at 0 rows k i in (n.0, ap (slice_get rows) (let z : k.id ≡ k.id - 0 = omega arith in z) ∙ n.2, n.3)

  heads-filtered : IsFiltered (IsHead rows) (names_of rows) (heads_of r)
  heads-filtered =
      subst (λ l. IsFiltered (IsHead rows) l (heads_of r)) (numbered-names 0 rows)
      (filtered-map (λ (k : KnownName). k.name) (λ k. IsHead rows k.name) (IsHead rows) (numbered 0 rows) (named_ids r (head_ids segments)) (λ k i. ((λ h. h), (λ h. h)))
      (picked-filtered r (λ k. IsHead rows k.name) [] rows (head_ids segments) refl (heads-rise r named) both))
    where
      both : (k : KnownName) → IsIn k (numbered 0 rows) → IsIn k.id (head_ids segments) ↔ IsHead rows k.name
      both k i =
          let at = place-of k i in (
            (λ j. subst (IsHead rows) at.2 (head-then r named k.id at.0 at.1 (picked-in r named 0 (head_ids segments) (heads-rise r named) k.id at.0 j at.1))),
            (λ h. by_test at.0 at.1 (subst (IsHead rows) (sym at.2) h) (is_in nat_eq k.id (head_ids segments)) refl),
          )
        where
          by_test : (row : Row Name) → slice_get rows k.id ≡ Some row → IsHead rows row.name → (b : Bool) → is_in nat_eq k.id (head_ids segments) ≡ b → IsIn k.id (head_ids segments)
          by_test row e h true f = known-there k.id (head_ids segments) f
          by_test row e h false f = let c = child r named k.id row e (index-below rows k.id row e) f in absurd (h c.1 (row-in rows c.0 c.1 c.3) c.4)

  names-filtered : IsFiltered (IsStoredIn rows (clone_data_of r)) (numbered 0 rows) (named_ids r (stored_ids r))
  names-filtered = picked-filtered r (IsStoredIn rows (clone_data_of r)) [] rows (stored_ids r) refl (ids-rise r named) (λ k i.
      let at = place-of k i in
      let both = known-stored r named k.id at.0 at.1 in (
        (λ j. ⊎_elim (λ h. inl (subst (IsKnownTo (master_graph r) (heads_of r)) at.2 h)) (λ h. inr (let s = in-map-back (λ (s : Segment). s.high) k.id segments h in (s.0, s.1, sym s.2))) (both.0 j)),
        (λ h. both.1 (⊎_elim (λ q. inl (subst (IsKnownTo (master_graph r) (heads_of r)) (sym at.2) q)) (λ q. inr (subst (λ n. IsIn n (map (λ (s : Segment). s.high) segments)) q.2 (in-map-on (λ (s : Segment). s.high) q.0 segments q.1))) h)),
      ))

  clone-is : IsCloneOf rows (clone_data_of r)
  clone-is = record { segments = all-flat; heads = heads-filtered; names = names-filtered }

  told-is : (a b : CloneData) → a.segments ≡ b.segments → a.names ≡ b.names → a.heads ≡ b.heads → a ≡ b
  told-is a b e f g = ap₂ {C = CloneData} (λ x y. record { segments = x; names = y; heads = a.heads }) e f ∙ ap (λ z. record { segments = b.segments; names = b.names; heads = z }) g

  only-clone : (told : CloneData) → IsCloneOf rows told → told ≡ clone_data_of r
  only-clone told h =
      let cut : told.segments ≡ segments = one-cut parents 0 (length parents) told.segments segments h.segments.follow all-flat.follow h.segments.each flat in
      let heads : told.heads ≡ heads_of r = filtered_once (IsHead rows) (names_of rows) told.heads (heads_of r) h.heads heads-filtered in
      let same : (k : KnownName) → IsStoredIn rows told k ≡ IsStoredIn rows (clone_data_of r) k = λ k.
      ap₂ (λ (x : List Name) (y : List Segment). IsKnownTo (master_graph r) x k.name ⊎ ((s : Segment) × IsIn s y × (s.high ≡ k.id))) heads cut in
      told-is told (clone_data_of r) cut
      (filtered_once (IsStoredIn rows (clone_data_of r)) (numbered 0 rows) told.names (named_ids r (stored_ids r))
      (subst₂ (λ (x : List Name) (y : List Segment). IsFiltered (λ k. IsKnownTo (master_graph r) x k.name ⊎ ((s : Segment) × IsIn s y × (s.high ≡ k.id))) (numbered 0 rows) told.names) heads cut h.names)
      names-filtered) heads

pub clones-are : (rows : List (Row Name)) → IsNamedWorld (master_world rows) → (told : CloneData) → IsCloneOf rows told ↔ (told ≡ clone_data_of (master_world rows))
clones-are rows named told = (only-clone rows named told, λ e. subst (IsCloneOf rows) (sym e) (clone-is rows named))
