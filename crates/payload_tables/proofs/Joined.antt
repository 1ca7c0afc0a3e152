-- The segments of a view are those of its world: each id has its row's parents.
use Rattle.std.proofs.Common.{◌≡◌, ◌<◌, ◌≤◌, ℕ, zero, suc, ◌+◌, ◌-◌, ◌^◌, Bool, true, false, ◌⊎◌, inl, inr, List, [], ◌∷◌, ◌++◌, length, map, Option, Some, None, slice_get, refl, sym, ap, ap₂, subst, ◌∙◌, if◌then◌else◌, ⊎_elim, true≢false, length-append, arith, nat_eq, is_some, le_refl}
use Rattle.std.proofs.lemmas.List.{map-append, length-map}
use Rattle.std.proofs.lemmas.Bool.{false_from_ne_true}
use Rattle.id_groups.specs.Lists.{IsIn, is_in}
use Rattle.id_groups.specs.Name.{Name, same_name}
use Rattle.id_groups.specs.Id.{is_master_id, other_id}
use Rattle.id_groups.proofs.Names.{same_name-exact, same_name-self}
use Rattle.id_groups.proofs.Listing.{missing}
use Rattle.commit_graph.specs.World.{Row, World, IsWorld, names_of, rows_of, with_pending}
use Rattle.commit_graph.specs.Ids.{id_in, place_of, row_at, parent_ids}
use Rattle.commit_graph.proofs.Histories.{in-append}
use Rattle.commit_graph.proofs.Down.{in-left, in-right}
use Rattle.commit_graph.proofs.Places.{below-master, over-master, item-at}
use Rattle.segment_codec.specs.Record.{Segment}
use Rattle.segment_codec.specs.Table.{IsInSegment, Follow, parents_at, parents_in}
use Rattle.segment_codec.proofs.Tables.{found-head, found-behind, head-or-behind, le_or_lt}
use Rattle.segment_rules.specs.Flat.{followers, segment_parents, parents_listed as all_parents}
use Rattle.payload_tables.specs.Pending.{HeldRow, segments_from}
use Rattle.payload_tables.specs.Bases.{held_row, AreSegmentsOf}
use Rattle.payload_tables.proofs.Lists.{same-self, same-exact, get-front, place-front, get-below}

parents-here : (s : Segment) (rest : List Segment) (x : ℕ) → IsInSegment x s → parents_at (s ∷ rest) x ≡ parents_in (Some s) x
parents-here s rest x i = ap (λ o. parents_in o x) (found-head s rest x i)

parents-behind : (s : Segment) (rest : List Segment) (x : ℕ) → (IsInSegment x s → ⊥) → parents_at (s ∷ rest) x ≡ parents_at rest x
parents-behind s rest x n = ap (λ o. parents_in o x) (found-behind s rest x n)

-- an id of the segments in front
pub front-parents : (first end : ℕ) (xs ys : List Segment) (x : ℕ) → Follow first end xs → first ≤ x → x < end → parents_at (xs ++ ys) x ≡ parents_at xs x
front-parents first end [] ys x h le lt = absurd (omega (arith, h, le, lt))
front-parents first end (s ∷ more) ys x h le lt =
    ⊎_elim
    (λ i. parents-here s (more ++ ys) x i ∙ sym (parents-here s more x i))
    (λ n. parents-behind s (more ++ ys) x n
    ∙ ⊎_elim (λ (a : s.high + 1 ≤ x). front-parents (s.high + 1) end more ys x h.2 a lt) (λ (a : x < s.high + 1). absurd (n (let low = h.0 in omega (arith, low, le), omega (arith, a)))) (le_or_lt (s.high + 1) x)
    ∙ sym (parents-behind s more x n))
    (head-or-behind s x)

-- an id behind them
pub back-parents : (first end : ℕ) (xs ys : List Segment) (x : ℕ) → Follow first end xs → end ≤ x → parents_at (xs ++ ys) x ≡ parents_at ys x
back-parents first end [] ys x h le = refl
back-parents first end (s ∷ more) ys x h le =
    parents-behind s (more ++ ys) x (λ i. let high = i.1 in let e = follow-le (s.high + 1) end more h.2 in omega (arith, high, e, le)) ∙ back-parents (s.high + 1) end more ys x h.2 le
  where
    follow-le : (first end : ℕ) (xs : List Segment) → Follow first end xs → first ≤ end
    follow-le first end [] h = omega (arith, h)
    follow-le first end (s ∷ more) h = let r = follow-le (s.high + 1) end more h.2 in let o = h.1 in omega (arith, r, o)

pub follow-join : (first middle end : ℕ) (xs ys : List Segment) → Follow first middle xs → Follow middle end ys → Follow first end (xs ++ ys)
follow-join first middle end [] ys h k = subst (λ n. Follow n end ys) (sym h) k
follow-join first middle end (s ∷ more) ys h k = (h.0, h.1, follow-join (s.high + 1) middle end more ys h.2 k)

pub follow-once : (first a b : ℕ) (xs : List Segment) → Follow first a xs → Follow first b xs → a ≡ b
follow-once first a b [] h k = sym h ∙ k
follow-once first a b (s ∷ more) h k = follow-once (s.high + 1) a b more h.2 k.2

get-back : {X : Type 0} (xs ys : List X) (k i : ℕ) (x : X) → k ≡ length xs + i → slice_get ys i ≡ Some x → slice_get (xs ++ ys) k ≡ Some x
get-back [] ys k i x e f = ap (slice_get ys) (let z : k ≡ i = omega (arith, e) in z) ∙ f
get-back (y ∷ xs) ys zero i x e f = absurd (omega (arith, e))
get-back (y ∷ xs) ys (suc k) i x e f = get-back xs ys k i x (omega (arith, e)) f

followers-at : (id n j : ℕ) → j < n → slice_get (followers id n) j ≡ Some ((id + j) ∷ [])
followers-at id zero j lt = absurd (omega (arith, lt))
followers-at id (suc n) zero lt = ap (λ k. Some (k ∷ [])) (let z : id ≡ id + 0 = omega arith in z)
followers-at id (suc n) (suc j) lt = followers-at (id + 1) n j (omega (arith, lt)) ∙ ap (λ k. Some (k ∷ [])) (let z : id + 1 + j ≡ id + suc j = omega arith in z)

pub followers-long : (id n : ℕ) → length (followers id n) ≡ n
followers-long id zero = refl
followers-long id (suc n) = ap suc (followers-long (id + 1) n)

-- the parents of one segment's ids
own-parents : (s : Segment) (k x : ℕ) → x ≡ s.low + k → k ≤ s.high - s.low → slice_get (segment_parents s) k ≡ Some (parents_in (Some s) x)
own-parents s zero x e le = ap (λ b. Some (if b then s.parents else (x - 1) ∷ [])) (sym (same x s.low (omega (arith, e))))
  where
    same : (a b : ℕ) → a ≡ b → nat_eq a b ≡ true
    same a b f = ap (λ z. nat_eq z b) f ∙ same-self b
own-parents s (suc j) x e le =
    followers-at s.low (s.high - s.low) j (omega (arith, le))
    ∙ ap (λ k. Some (k ∷ [])) (let z : s.low + j ≡ x - 1 = omega (arith, e) in z)
    ∙ ap (λ b. Some (if b then s.parents else (x - 1) ∷ [])) (sym (false_from_ne_true (nat_eq x s.low) (λ t. let f = same-exact x s.low t in absurd (omega (arith, e, f)))))

-- the parents of each id, listed
pub listed-parents : (first end : ℕ) (xs : List Segment) (k : ℕ) → Follow first end xs → first + k < end → slice_get (all_parents xs) k ≡ Some (parents_at xs (first + k))
listed-parents first end [] k h lt = absurd (omega (arith, h, lt))
listed-parents first end (s ∷ more) k h lt =
    let low = h.0 in let order = h.1 in
    ⊎_elim
    (λ (inside : k ≤ s.high - s.low).
    get-front (segment_parents s) (all_parents more) k (parents_in (Some s) (first + k)) (own-parents s k (first + k) (omega (arith, low)) inside)
    ∙ ap Some (sym (parents-here s more (first + k) (omega (arith, low), omega (arith, low, inside, order)))))
    (λ (past : s.high - s.low < k).
    let size = followers-long s.low (s.high - s.low) in
    let rest : first + k ≡ s.high + 1 + (k - (s.high - s.low + 1)) = omega (arith, low, order, past) in
    get-back (segment_parents s) (all_parents more) k (k - (s.high - s.low + 1)) (parents_at more (s.high + 1 + (k - (s.high - s.low + 1)))) (omega (arith, size, past))
    (listed-parents (s.high + 1) end more (k - (s.high - s.low + 1)) h.2 (omega (arith, rest, lt)))
    ∙ ap (λ z. Some (parents_at more z)) (sym rest)
    ∙ ap Some (sym (parents-behind s more (first + k) (λ i. let b = i.1 in omega (arith, b, low, order, past)))))
    (le_or_lt k (s.high - s.low))

pub get-map : {X Y : Type 0} (f : X → Y) (xs : List X) (k : ℕ) (x : X) → slice_get xs k ≡ Some x → slice_get (map f xs) k ≡ Some (f x)
get-map f [] k x e = absurd (true≢false (sym (ap is_some e)))
get-map f (y ∷ xs) zero x e = ap (λ o. option_map f o) e
  where
    option_map : {X Y : Type 0} → (X → Y) → Option X → Option Y
    option_map f None = None
    option_map f (Some x) = Some (f x)
get-map f (y ∷ xs) (suc k) x e = get-map f xs k x e

abbrev some_or : List ℕ → Option (List ℕ) → List ℕ
some_or d None = d
some_or d (Some x) = x

some-same : (x y : List ℕ) → ◌≡◌ {A = Option (List ℕ)} (Some x) (Some y) → x ≡ y
some-same x y e = ap (some_or x) e

-- where the segments have the parents of rows, each id has its row's
pub row-parents : (w : World Name) (rows : List (Row Name)) (first end : ℕ) (xs : List Segment) → Follow first end xs → first + length rows ≡ end → all_parents xs ≡ parent_ids same_name w rows
    → (k : ℕ) (r : Row Name) → slice_get rows k ≡ Some r → parents_at xs (first + k) ≡ map (id_in same_name w) r.parents
row-parents w rows first end xs h size e k r at =
    let lt = get-below rows k r at in
    some-same (parents_at xs (first + k)) (map (id_in same_name w) r.parents)
    (sym (listed-parents first end xs k h (omega (arith, lt, size))) ∙ ap (λ l. slice_get l k) e ∙ get-map (λ (row : Row Name). map (id_in same_name w) row.parents) rows k r at)

-- rows as segments of their own
pub rows-follow : (id : ℕ) (rows : List HeldRow) → Follow id (id + length rows) (segments_from id rows)
rows-follow id [] = omega arith
rows-follow id (row ∷ rows) = (refl, le_refl id, subst (λ n. Follow (id + 1) n (segments_from (id + 1) rows)) (let z : id + 1 + length rows ≡ id + length (row ∷ rows) = omega arith in z) (rows-follow (id + 1) rows))

pub rows-parents : (id : ℕ) (rows : List HeldRow) (k : ℕ) (row : HeldRow) → slice_get rows k ≡ Some row → parents_at (segments_from id rows) (id + k) ≡ row.parents
rows-parents id [] k row e = absurd (true≢false (sym (ap is_some e)))
rows-parents id (q ∷ rows) zero row e =
    parents-here (record { low = id; high = id; level = 0; parents = q.parents }) (segments_from (id + 1) rows) (id + 0) (omega arith, omega arith)
    ∙ ap (λ b. if b then q.parents else (id + 0 - 1) ∷ []) (let z : id + 0 ≡ id = omega arith in ap (λ n. nat_eq n id) z ∙ same-self id)
    ∙ ap (parents_or q) e
  where
    parents_or : HeldRow → Option HeldRow → List ℕ
    parents_or d None = d.parents
    parents_or d (Some x) = x.parents
rows-parents id (q ∷ rows) (suc k) row e =
    parents-behind (record { low = id; high = id; level = 0; parents = q.parents }) (segments_from (id + 1) rows) (id + suc k) (λ i. let b = i.1 in omega (arith, b))
    ∙ ap (parents_at (segments_from (id + 1) rows)) (let z : id + suc k ≡ id + 1 + k = omega arith in z)
    ∙ rows-parents (id + 1) rows k row e

-- a commit of the base has one id in the base and in the view
pub seen-id : (w : World Name) (rows : List (Row Name)) (p : Name) → IsIn p (names_of (rows_of w)) → id_in same_name (with_pending w rows) p ≡ id_in same_name w p
seen-id w rows p i = by_test (is_in same_name p (names_of w.master)) refl
  where
    by_test : (b : Bool) → is_in same_name p (names_of w.master) ≡ b
        → (if is_in same_name p (names_of w.master) then place_of same_name p (names_of w.master) else other_id (place_of same_name p (names_of (w.others ++ rows))))
        ≡ (if is_in same_name p (names_of w.master) then place_of same_name p (names_of w.master) else other_id (place_of same_name p (names_of w.others)))
    by_test true e = ap (λ b. if b then place_of same_name p (names_of w.master) else other_id (place_of same_name p (names_of (w.others ++ rows)))) e
        ∙ sym (ap (λ b. if b then place_of same_name p (names_of w.master) else other_id (place_of same_name p (names_of w.others))) e)
    by_test false e =
        let o : IsIn p (names_of w.others) = ⊎_elim (λ j. absurd (missing same_name same_name-exact same_name-self p (names_of w.master) e j)) (λ j. j)
        (in-append p (names_of w.master) (names_of w.others) (subst (IsIn p) (map-append (λ r. r.name) w.master w.others) i)) in
        ap (λ k. if is_in same_name p (names_of w.master) then place_of same_name p (names_of w.master) else other_id k)
        (ap (place_of same_name p) (map-append (λ r. r.name) w.others rows) ∙ place-front p (names_of w.others) (names_of rows) o)

module _ (w : World Name) (rows : List (Row Name)) (whole : IsWorld (with_pending w rows)) (masters others : List Segment)
    (master_ids : Follow 0 (length w.master) masters) (master_parents : (k : ℕ) (r : Row Name) → slice_get w.master k ≡ Some r → parents_at masters k ≡ map (id_in same_name w) r.parents)
    (other_ids : Follow (2 ^ 56) (other_id (length w.others)) others) (others_parents : all_parents others ≡ parent_ids same_name w w.others)
    (known : (r : Row Name) → IsIn r (rows_of w) → (p : Name) → IsIn p r.parents → IsIn p (names_of (rows_of w)))
    (room : length w.master ≤ 2 ^ 56) where
  abbrev pub pending : List Segment
  pending = segments_from (other_id (length w.others)) (map (held_row (with_pending w rows)) rows)

  seen-parents : (r : Row Name) → IsIn r (rows_of w) → map (id_in same_name w) r.parents ≡ map (id_in same_name (with_pending w rows)) r.parents
  seen-parents r i = seen-all r.parents (known r i)
    where
      seen-all : (ps : List Name) → ((p : Name) → IsIn p ps → IsIn p (names_of (rows_of w))) → map (id_in same_name w) ps ≡ map (id_in same_name (with_pending w rows)) ps
      seen-all [] f = refl
      seen-all (p ∷ ps) f = ap₂ (λ a b. a ∷ b) (sym (seen-id w rows p (f p (inl refl)))) (seen-all ps (λ q i. f q (inr i)))

  master-row : (k : ℕ) (r : Row Name) → slice_get w.master k ≡ Some r → parents_at (masters ++ (others ++ pending)) k ≡ map (id_in same_name (with_pending w rows)) r.parents
  master-row k r e =
      front-parents 0 (length w.master) masters (others ++ pending) k master_ids (omega arith) (get-below w.master k r e)
      ∙ master_parents k r e ∙ seen-parents r (in-left r w.master w.others (item-at w.master k r e))

  other-row : (k : ℕ) (r : Row Name) → slice_get w.others k ≡ Some r → parents_at (masters ++ (others ++ pending)) (other_id k) ≡ map (id_in same_name (with_pending w rows)) r.parents
  other-row k r e =
      let lt = get-below w.others k r e in
      back-parents 0 (length w.master) masters (others ++ pending) (other_id k) master_ids (let le = room in omega (arith, le))
      ∙ front-parents (2 ^ 56) (other_id (length w.others)) others pending (other_id k) other_ids (omega arith) (omega (arith, lt))
      ∙ row-parents w w.others (2 ^ 56) (other_id (length w.others)) others other_ids refl others_parents k r e
      ∙ seen-parents r (in-right r w.master w.others (item-at w.others k r e))

  pending-row : (k : ℕ) (r : Row Name) → slice_get rows k ≡ Some r → parents_at (masters ++ (others ++ pending)) (other_id (length w.others + k)) ≡ map (id_in same_name (with_pending w rows)) r.parents
  pending-row k r e =
      back-parents 0 (length w.master) masters (others ++ pending) (other_id (length w.others + k)) master_ids (let le = room in omega (arith, le))
      ∙ back-parents (2 ^ 56) (other_id (length w.others)) others pending (other_id (length w.others + k)) other_ids (omega arith)
      ∙ ap (parents_at pending) (let z : other_id (length w.others + k) ≡ other_id (length w.others) + k = omega arith in z)
      ∙ rows-parents (other_id (length w.others)) (map (held_row (with_pending w rows)) rows) k (held_row (with_pending w rows) r) (get-map (held_row (with_pending w rows)) rows k r e)

  split-get : (xs ys : List (Row Name)) (k : ℕ) (r : Row Name) → slice_get (xs ++ ys) k ≡ Some r → (slice_get xs k ≡ Some r) ⊎ ((i : ℕ) × (k ≡ length xs + i) × (slice_get ys i ≡ Some r))
  split-get [] ys k r e = inr (k, omega arith, e)
  split-get (x ∷ xs) ys zero r e = inl e
  split-get (x ∷ xs) ys (suc k) r e = ⊎_elim (λ l. inl l) (λ t. inr (t.0, (let z = t.1 in omega (arith, z)), t.2)) (split-get xs ys k r e)

  each-row : (id : ℕ) (r : Row Name) → row_at (with_pending w rows) id ≡ Some r → parents_at (masters ++ (others ++ pending)) id ≡ map (id_in same_name (with_pending w rows)) r.parents
  each-row id r e = ⊎_elim over under (le_or_lt (2 ^ 56) id)
    where
      under : id < 2 ^ 56 → parents_at (masters ++ (others ++ pending)) id ≡ map (id_in same_name (with_pending w rows)) r.parents
      under lt = master-row id r (sym (ap (λ b. if b then slice_get w.master id else slice_get (w.others ++ rows) (id - 2 ^ 56)) (below-master id lt)) ∙ e)

      over : 2 ^ 56 ≤ id → parents_at (masters ++ (others ++ pending)) id ≡ map (id_in same_name (with_pending w rows)) r.parents
      over le =
          let same : other_id (id - 2 ^ 56) ≡ id = omega (arith, le) in
          let at : slice_get (w.others ++ rows) (id - 2 ^ 56) ≡ Some r =
          sym (ap (λ b. if b then slice_get w.master id else slice_get (w.others ++ rows) (id - 2 ^ 56)) (ap is_master_id (sym same) ∙ over-master (id - 2 ^ 56))) ∙ e in
          ⊎_elim
          (λ here. ap (parents_at (masters ++ (others ++ pending))) (sym same) ∙ other-row (id - 2 ^ 56) r here)
          (λ t. ap (parents_at (masters ++ (others ++ pending))) (sym (ap other_id (sym t.1) ∙ same)) ∙ pending-row t.0 r t.2)
          (split-get w.others rows (id - 2 ^ 56) r at)

  pub view-segments : AreSegmentsOf (with_pending w rows) (masters ++ (others ++ pending))
  view-segments = record {
    masters = masters;
    others = others ++ pending;
    parts = refl;
    master_ids = master_ids;
    other_ids = follow-join (2 ^ 56) (other_id (length w.others)) (other_id (length (w.others ++ rows))) others pending other_ids
        (subst (λ n. Follow (other_id (length w.others)) n pending)
        (let a = length-map rows (held_row (with_pending w rows)) in let b = length-append w.others rows in let z : other_id (length w.others) + length (map (held_row (with_pending w rows)) rows) ≡ other_id (length (w.others ++ rows)) = omega (arith, a, b) in z)
        (rows-follow (other_id (length w.others)) (map (held_row (with_pending w rows)) rows)));
    parents = each-row;
  }
