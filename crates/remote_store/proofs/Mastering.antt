-- What was read of a log is the master group of its world.
use Rattle.std.proofs.Common.{◌≡◌, ℕ, zero, suc, ◌+◌, ◌-◌, ◌≤◌, ◌^◌, inl, inr, List, [], ◌∷◌, ◌++◌, Option, Some, None, length, map, refl, sym, ap, ap₂, subst, ◌∙◌, arith, append-nil, lit≤}
use Rattle.std.specs.Prelude.{◌↔◌, slice_get, IfSome}
use Rattle.std.specs.List.{AllByRecursion}
use Rattle.std.proofs.lemmas.Option.{slice_get_within}
use Rattle.id_groups.specs.Lists.{IsIn, AreAllIn}
use Rattle.id_groups.specs.Name.{Name, IsName, same_name}
use Rattle.id_groups.specs.Id.{is_master_id}
use Rattle.commit_graph.specs.World.{Row, World, IsNamedWorld, IsHistory, names_of, with_pending}
use Rattle.commit_graph.specs.Ids.{id_in, parent_ids}
use Rattle.commit_graph.proofs.Histories.{history-front}
use Rattle.commit_graph.proofs.Places.{same-row, below-master, chosen}
use Rattle.segment_codec.specs.Record.{Segment}
use Rattle.segment_codec.specs.Table.{Follow}
use Rattle.segment_rules.specs.Flat.{flat_segments_of}
use Rattle.batch_codec.specs.Payload.{Payload, Known}
use Rattle.batch_codec.specs.Grammar.{count_after}
use Rattle.gated_log.specs.Held.{Held, log_bytes}
use Rattle.name_map.specs.Added.{Placed, payloads_of, known_of}
use Rattle.change_rules.specs.Lawful.{AreLawful}
use Rattle.change_rules.specs.Tables.{known_in}
use Rattle.change_rules.proofs.Changes.{rows-front}
use Rattle.change_rules.proofs.Alone.{segments-cover}
use Rattle.payload_tables.specs.Kept.{PlainTables}
use Rattle.payload_tables.specs.Pending.{PlainPending}
use Rattle.payload_tables.specs.Bases.{AreSegmentsOf, ArePending, flat_segments_in}
use Rattle.payload_tables.proofs.Basing.{table-end}
use Rattle.payload_tables.proofs.Lists.{parents-known, names-length}
use Rattle.remote_rules.specs.Known.{master_world}
use Rattle.remote_trait.specs.Calls.{AreMaster}
use Rattle.remote_trait.specs.Honest.{IsNamed}
use Rattle.remote_store.specs.Told.{told_in}
use Rattle.remote_answers.specs.Master.{IsMasterIn}
use Rattle.remote_store.specs.Names.{AreLogNames}
use Rattle.remote_store.specs.Loaded.{IsRead}
use Rattle.remote_answers.proofs.Walking.{in-map}
use Rattle.remote_store.proofs.Telling.{in-turn, count-small, known-all, ids-all, told-is}
use Rattle.remote_answers.proofs.Marking.{range-in}

-- ---- lists

each-of : {X : Type 0} (P : X → Type 0) (xs : List X) → AllByRecursion P xs → (x : X) → IsIn x xs → P x
each-of P [] h x i = absurd i
each-of P (y ∷ xs) h x (inl e) = subst P (sym e) h.0
each-of P (y ∷ xs) h x (inr i) = each-of P xs h.1 x i

all-front : {X : Type 0} (P : X → Type 0) (xs ys : List X) → AllByRecursion P (xs ++ ys) → AllByRecursion P xs
all-front P [] ys h = tt
all-front P (x ∷ xs) ys h = (h.0, all-front P xs ys h.1)

head-same : (a b : List ℕ) → a ∷ [] ≡ b ∷ [] → a ≡ b
head-same a b e = cc

pub known-same : (added : List Placed) → known_in (payloads_of added) ≡ known_of added
known-same [] = refl
known-same (a ∷ added) = ap (λ l. a.payload.known ++ l) (known-same added)

row-named : (rows : List (Row Name)) (id : ℕ) (name : Name) → slice_get (names_of rows) id ≡ Some name → IsNamed rows id name
row-named [] id name e = cc
row-named (r ∷ rows) zero name e = record { row = r; there = refl; named = (let z : r.name ≡ name = cc in z) }
row-named (r ∷ rows) (suc id) name e = let n = row-named rows id name e in record { row = n.row; there = n.there; named = n.named }

name-get : (rows : List (Row Name)) (id : ℕ) (row : Row Name) → slice_get rows id ≡ Some row → slice_get (names_of rows) id ≡ Some row.name
name-get [] id row e = cc
name-get (r ∷ rows) zero row e = ap (λ (z : Row Name). Some z.name) (same-row r row e)
name-get (r ∷ rows) (suc id) row e = name-get rows id row e

same-some : (a b : Name) → Some a ≡ Some b → a ≡ b
same-some a b e = cc

-- segments that follow one another up to an end are one front of a list
one-split : (first end : ℕ) (a b c d : List Segment) → Follow first end a → Follow first end c → a ++ b ≡ c ++ d → (a ≡ c) × (b ≡ d)
one-split first end [] b [] d h g e = (refl, e)
one-split first end [] b (s ∷ c) d h g e = let lt = g.1 in let r = ends (s.high + 1) end c g.2 in absurd (omega (arith, h, lt, r))
  where
    ends : (first end : ℕ) (segments : List Segment) → Follow first end segments → first ≤ end
    ends first end [] h = omega (arith, h)
    ends first end (s ∷ more) h = let r = ends (s.high + 1) end more h.2 in let l = h.1 in omega (arith, r, l)
one-split first end (s ∷ a) b [] d h g e = let lt = h.1 in let r = ends (s.high + 1) end a h.2 in absurd (omega (arith, g, lt, r))
  where
    ends : (first end : ℕ) (segments : List Segment) → Follow first end segments → first ≤ end
    ends first end [] h = omega (arith, h)
    ends first end (s ∷ more) h = let r = ends (s.high + 1) end more h.2 in let l = h.1 in omega (arith, r, l)
one-split first end (s ∷ a) b (t ∷ c) d h g e =
    let same : s ≡ t = cc in
    let more : a ++ b ≡ c ++ d = cc in
    let r = one-split (s.high + 1) end a b c d h.2 (subst (λ (z : Segment). Follow (z.high + 1) end c) (sym same) g.2) more in
    (ap₂ (λ x l. x ∷ l) same r.0, r.1)

names-front : (xs ys : List (Row Name)) → AllByRecursion IsName (names_of (xs ++ ys)) → AllByRecursion IsName (names_of xs)
names-front [] ys h = tt
names-front (x ∷ xs) ys h = (h.0, names-front xs ys h.1)

-- the master of a world is one by itself
pub master-of : (w : World Name) → IsNamedWorld w → AreMaster w.master
master-of w named = record {
  world = subst (IsHistory []) (sym (append-nil w.master)) (history-front [] w.master w.others named.world);
  names = subst (λ l. AllByRecursion IsName (names_of l)) (sym (append-nil w.master)) (names-front w.master w.others named.names);
}

module _ (log : Held) (tables : PlainTables) (none : PlainPending) (r : IsRead log tables none) where
  abbrev pub w : World Name
  w = r.of_world

  abbrev pub payloads : List Payload
  payloads = payloads_of r.added

  lawful : AreLawful [] (payloads_of r.added)
  lawful = r.tables_of.lawful

  all-known : count_after 0 (payloads_of r.added) ≤ length (known_in (payloads_of r.added))
  all-known = subst (λ (l : List Known). count_after 0 (payloads_of r.added) ≤ length l) (sym (known-same r.added)) r.all_known

  history : IsHistory [] r.of_world.master
  history = history-front [] r.of_world.master r.of_world.others r.named.world

  master-named : AreMaster r.of_world.master
  master-named = master-of r.of_world r.named

  parents-in : (row : Row Name) → IsIn row r.of_world.master → AreAllIn row.parents (names_of r.of_world.master)
  parents-in row i = parents-known [] r.of_world.master history row i

  -- no row is pending
  pub none-pending : ArePending r.of_world none []
  none-pending = record {
    first = r.first ∙ ap (length {A = Name}) r.stands.names ∙ names-length r.of_world.others;
    held = r.no_rows;
    view = subst (λ l. IsHistory [] (r.of_world.master ++ l)) (sym (append-nil r.of_world.others)) r.named.world;
  }

  ids-alone : parent_ids same_name r.of_world r.of_world.master ≡ parent_ids same_name (master_world r.of_world.master) r.of_world.master
  ids-alone = rows-front r.of_world (master_world r.of_world.master) [] (sym (append-nil (names_of r.of_world.master))) r.of_world.master parents-in

  cover-masters : Follow 0 (length r.of_world.master) (flat_segments_of 0 (parent_ids same_name r.of_world r.of_world.master))
  cover-masters = subst (λ ps. Follow 0 (length r.of_world.master) (flat_segments_of 0 ps)) (sym ids-alone) (segments-cover r.of_world master-named)

  item-in : (rows : List (Row Name)) (id : ℕ) (row : Row Name) → slice_get rows id ≡ Some row → IsIn row rows
  item-in [] id row e = cc
  item-in (q ∷ rows) zero row e = inl (sym (same-row q row e))
  item-in (q ∷ rows) (suc id) row e = inr (item-in rows id row e)

  small : length r.of_world.master ≤ 16777216
  small = let c = r.stands.count in let s = count-small 0 (payloads_of r.added) (let z : 0 ≤ 16777216 = lit≤ tt in z) (in-turn [] (payloads_of r.added) lawful) in omega (arith, c, s)

  known-named : (id : ℕ) (name : Name) → IsIn (record { id = id; name = name }) (known_of r.added) ↔ IsNamed r.of_world.master id name
  known-named id name = (
    λ i. row-named r.of_world.master id name
        (each-of (λ (k : Known). slice_get (names_of r.of_world.master) k.id ≡ Some k.name) (known_in (payloads_of r.added)) r.stands.known (record { id = id; name = name }) (subst (IsIn {X = Known} (record { id = id; name = name })) (sym (known-same r.added)) i)),
    λ n.
        let lt = slice_get_within r.of_world.master id n.row n.there in
        let size = known-all (payloads_of r.added) r.of_world lawful r.stands r.named all-known in
        let at : IsIn id (map (λ (k : Known). k.id) (known_in (payloads_of r.added))) = subst (IsIn id) (sym (ids-all (payloads_of r.added) r.of_world lawful r.stands r.named all-known)) (range-in 0 (length (known_in (payloads_of r.added))) id (omega arith) (omega (arith, lt, size))) in
        let k = in-map (λ (q : Known). q.id) (known_in (payloads_of r.added)) id at in
        let theirs = each-of (λ (q : Known). slice_get (names_of r.of_world.master) q.id ≡ Some q.name) (known_in (payloads_of r.added)) r.stands.known k.0 k.1 in
        let mine = name-get r.of_world.master id n.row n.there in
        let same : k.0.name ≡ name = same-some k.0.name name (sym theirs ∙ ap (slice_get (names_of r.of_world.master)) (sym k.2) ∙ mine ∙ ap (λ z. Some z) n.named) in
        subst (IsIn {X = Known} (record { id = id; name = name })) (known-same r.added) (as-made id name k.0 (sym k.2) same k.1),
  )
    where
      as-made : (id : ℕ) (name : Name) (k : Known) → k.id ≡ id → k.name ≡ name → IsIn k (known_in (payloads_of r.added)) → IsIn (record { id = id; name = name }) (known_in (payloads_of r.added))
      as-made id name k e f i = subst (λ z. IsIn z (known_in (payloads_of r.added))) (ap₂ {C = Known} (λ a b. record { id = a; name = b }) e f) i

  pub read-names : (count : ℕ) → count ≡ tables.flat.end → AreLogNames tables.names (log_bytes log) count r.of_world.master
  read-names count e = record {
    size = let f = table-end tables r.added r.tables_of in let c = r.stands.count in omega (arith, e, f, c);
    added = r.added;
    map_of = r.tables_of.names;
    stand = r.stand;
    named = known-named;
  }

  module _ (flats : List Segment) (of_view : AreSegmentsOf (with_pending r.of_world []) flats) (are : flats ≡ flat_segments_in r.of_world ++ []) where
    split : (of_view.masters ≡ flat_segments_of 0 (parent_ids same_name r.of_world r.of_world.master)) × (of_view.others ≡ flat_segments_of (2 ^ 56) (parent_ids same_name r.of_world r.of_world.others))
    split = one-split 0 (length r.of_world.master) of_view.masters of_view.others (flat_segments_of 0 (parent_ids same_name r.of_world r.of_world.master)) (flat_segments_of (2 ^ 56) (parent_ids same_name r.of_world r.of_world.others))
        of_view.master_ids cover-masters (sym of_view.parts ∙ are ∙ append-nil (flat_segments_in r.of_world))

    pub read-master : IsMasterIn flats r.of_world.master
    read-master = record {
      world = master-named;
      few = small;
      masters = flat_segments_of 0 (parent_ids same_name r.of_world r.of_world.master);
      others = of_view.others;
      parts = of_view.parts ∙ ap (λ l. l ++ of_view.others) split.0;
      flat = ap (flat_segments_of 0) ids-alone;
      follow = cover-masters;
      other_count = length (r.of_world.others ++ []);
      behind = of_view.other_ids;
      parents = λ id row e.
          let lt = slice_get_within r.of_world.master id row e in
          let s = small in
          of_view.parents id row (chosen (is_master_id id) (slice_get r.of_world.master id) (slice_get (r.of_world.others ++ []) (id - 2 ^ 56)) (below-master id (omega (arith, lt, s))) ∙ e)
          ∙ head-same (map (id_in same_name (with_pending r.of_world [])) row.parents) (map (id_in same_name (master_world r.of_world.master)) row.parents)
          (rows-front (with_pending r.of_world []) (master_world r.of_world.master) [] (sym (append-nil (names_of r.of_world.master))) (row ∷ []) (λ q i. alone row (item-in r.of_world.master id row e) q i));
    }
      where
        alone : (row : Row Name) → IsIn row r.of_world.master → (q : Row Name) → IsIn q (row ∷ []) → AreAllIn q.parents (names_of r.of_world.master)
        alone row j q (inl e) = subst (λ (z : Row Name). AreAllIn z.parents (names_of r.of_world.master)) (sym e) (parents-in row j)
        alone row j q (inr i) = absurd i

  -- what holds of the world's master holds of what the log tells
  pub told-so : (P : List (Row Name) → Type 0) → P r.of_world.master → IfSome (told_in log.payloads) P
  told-so P h = by_option (told_in log.payloads) refl
    where
      by_option : (o : Option (List (Row Name))) → told_in log.payloads ≡ o → IfSome o P
      by_option None e = tt
      by_option (Some rows) e = subst P (sym (told-is (payloads_of r.added) r.of_world lawful r.stands r.named all-known rows (ap told_in (sym r.texts) ∙ e))) h
