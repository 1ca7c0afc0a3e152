-- What is asked of mirrors for a name that a base doesn't store.
use Rattle.std.proofs.Common.{◌≡◌, ◌≢◌, ◌<◌, ◌≤◌, ◌+◌, ◌-◌, ◌^◌, ℕ, zero, suc, Bool, true, false, inl, inr, ◌⊎◌, List, [], ◌∷◌, ◌++◌, length, map, flat_map, nat_eq, nat_lt, Option, Some, None, Result, Ok, Err, slice_get, is_some, refl, sym, ap, ap₂, subst, ◌∙◌, ⊎_elim, arith, true≢false, zero-le, le_refl, append-nil, if◌then◌else◌, lit≤}
use Rattle.std.specs.Prelude.{IfSome, option_and_then}
use Rattle.std.proofs.lemmas.Bool.{ltb-true}
use Rattle.std.proofs.lemmas.List.{map-append}
use Rattle.id_groups.specs.Lists.{IsIn, is_in}
use Rattle.id_groups.specs.Name.{Name, IsName, same_name}
use Rattle.id_groups.specs.Id.{is_master_id, other_id}
use Rattle.id_groups.proofs.Names.{same_name-exact, same_name-self}
use Rattle.id_groups.proofs.Listing.{found, there}
use Rattle.commit_graph.specs.World.{Row, World, IsHistory, IsNamedWorld, names_of, rows_of, with_pending}
use Rattle.commit_graph.specs.Ids.{id_in, place_of, row_at, parent_ids}
use Rattle.commit_graph.specs.Graph.{first_ancestor, first_of_list}
use Rattle.commit_graph.proofs.Down.{in-left}
use Rattle.commit_graph.proofs.Histories.{in-append, history-front}
use Rattle.commit_graph.proofs.Naming.{each, all-each}
use Rattle.commit_graph.proofs.Places.{below-master}
use Rattle.segment_codec.specs.Record.{Segment}
use Rattle.segment_codec.specs.Table.{Cover, Follow, parents_at}
use Rattle.segment_codec.proofs.Tables.{le_or_lt}
use Rattle.batch_codec.specs.Payload.{Payload, Known, known_ids}
use Rattle.batch_codec.specs.Grammar.{count_after, cloned_head_names, cut_below}
use Rattle.change_rules.specs.Lawful.{AreLawful}
use Rattle.name_map.specs.Added.{Placed, payloads_of, known_of}
use Rattle.name_map.specs.Map.{count_known}
use Rattle.change_rules.specs.Lazy.{has_lazy, stored_names}
use Rattle.change_rules.specs.Tables.{known_in, cloned_count, remote_heads, newest, other_names_in}
use Rattle.change_rules.specs.Change.{known_from}
use Rattle.change_rules.specs.Disagree.{IsBadPath, id_graph}
use Rattle.change_rules.proofs.Cloned.{get-some}
use Rattle.remote_rules.specs.Known.{Path, master_world}
use Rattle.remote_rules.specs.Mirror.{Mirror}
use Rattle.remote_rules.specs.Serving.{IsServing}
use Rattle.remote_rules.specs.Calls.{IsAskedFor}
use Rattle.remote_rules.specs.Asking.{IsOneAsk, AsksForNames}
use Rattle.remote_rules.specs.declared.MirrorFault.{MirrorFault}
use Rattle.remote_rules.specs.declared.MirrorFault.TheVariants as mirror
use Rattle.remote_trait.specs.Calls.{AreMaster, Leaves, raised}
use Rattle.remote_trait.specs.Honest.{IsNamed, IsPathOf}
use Rattle.remote_trait.specs.Serving.{Serves, AllServe}
use Rattle.remote_trait.proofs.Ruled.{asked-for, serves-ruled}
use Rattle.remote_trait.proofs.Rows.{id_of, id-of-named, parent-row}
use Rattle.mirror_set.specs.Asking.{end_of}
use Rattle.mirror_set.proofs.Ruled.{asks-ruled}
use Rattle.payload_tables.specs.declared.base.BaseRef.{BaseRef}
use Rattle.payload_tables.specs.Pending.{PlainPending}
use Rattle.payload_tables.specs.Bases.{AreSegmentsOf, stored_in}
use Rattle.payload_tables.proofs.Joined.{front-parents, row-parents}
use Rattle.payload_tables.proofs.Standing.{lawful-follow}
use Rattle.payload_tables.proofs.Lists.{count-last, get-below, same-exact, same-self}
use Rattle.payload_tables.proofs.Basing.{base-others}
use Rattle.change_parts.specs.Asked.{IsStored}
use Rattle.lazy_names.specs.Cache.{PlainCache, Keeps}
use Rattle.lazy_names.specs.Standing.{HasName, StandForRows, AreHeads}
use Rattle.lazy_names.specs.Finding.{Finds, IsAsked, IsWay, IsMadeOf, IsRight, IsUnknown, found_entries}
use Rattle.lazy_names.specs.declared.fault.LazyFault.{LazyFault}
use Rattle.lazy_names.specs.declared.fault.LazyFault.TheVariants as lazy
use Rattle.ancestor_query.specs.Graph.{table_graph}
use Rattle.payload_tables.specs.Kept.{PlainTables}
use Rattle.store_plans.specs.Looking.{AreServing, AreTablesBehind, Asked, EndsSo, IsRightOf, IsWrongPath, Sees, as_refused, gained_by}
use Rattle.store_plans.proofs.LawfulParts.{lawful-behind, known-above, lawful-front}
use Rattle.store_plans.proofs.StoredNames.{known-all, known-below, known-row, row-of, stored-are}
use Rattle.store_plans.proofs.Counting.{lazy-counted}
use Rattle.store_plans.proofs.Heads.{AreCloned, BeginsCloned, anchored-of, cloned-are, cloned-first, heads-of, known-of-id, later-known, later-heads}
use Rattle.store_plans.proofs.Anchors.{reach-up}
use Rattle.segment_rules.specs.Flat.{flat_segments_of}
use Rattle.lazy_names.specs.Fetching.{AreAnchored}

-- ---- one ask for one name

-- how many names were answered
abbrev answered_by : Option MirrorFault → ℕ
answered_by None = 1
answered_by (Some fault) = 0

one-name : (end : Option MirrorFault) (before now : List Mirror) → IsOneAsk (IsAskedFor 1) before end now → AsksForNames 1 0 (answered_by end) before end now
one-name None before now a = (1 ∷ [], (le_refl _, tt), le_refl _, (λ le e. cc), inr (now, 0, refl, a, (refl, refl, refl)))
one-name (Some fault) before now a = (1 ∷ [], (le_refl _, tt), le_refl _, (λ le e. cc), inl (fault, refl, refl, a))

-- what was found or put is the same
pub gained-entries : (name : Name) (result : Result (Option ℕ) LazyFault) → found_entries name result ≡ map (λ k. (k.id, k.name)) (gained_by name (as_refused result))
gained-entries name (Ok None) = refl
gained-entries name (Ok (Some id)) = refl
gained-entries name (Err fault) = refl

module _ (payloads : List Payload) (w : World Name) (name : Name) (flats : List Segment) (known : List Known) (heads : List Name)
    (within : (path : Path) (id : ℕ) → IsWay flats known (length w.master) path id → id < length w.master)
    (bad : (path : Path) → ((id : ℕ) → IsWay flats known (length w.master) path id → ⊥) → IsWrongPath payloads w path.from path.back)
    (old new : List Mirror) (before now : PlainCache) where
  abbrev Gives : Option Path → Mirror → Type 0
  Gives found m = IfSome m.master (λ rows. IsPathOf rows heads name found)

  abbrev Made : Option MirrorFault → Result (Option ℕ) LazyFault → Type 0
  Made end result = EndsSo payloads w end (as_refused result) × (length (gained_by name (as_refused result)) ≤ answered_by end)

  made-of : (answer : Result (Option Path) MirrorFault) (result : Result (Option ℕ) LazyFault) → IsMadeOf flats known (length w.master) answer result → Made (end_of answer) result
  made-of (Err mirror.NoRemote) result h = subst (Made (Some mirror.NoRemote)) (sym h) ((mirror.NoRemote, refl, refl), zero-le)
  made-of (Err (mirror.AllFailed n)) result h = subst (Made (Some (mirror.AllFailed n))) (sym h) ((mirror.AllFailed n, refl, refl), zero-le)
  made-of (Err mirror.Memory) result h = subst (Made (Some mirror.Memory)) (sym h) ((mirror.Memory, refl, refl), zero-le)
  made-of (Ok None) result h = subst (Made None) (sym h) (refl, zero-le)
  made-of (Ok (Some path)) (Ok None) h = absurd h
  made-of (Ok (Some path)) (Ok (Some id)) h = ((refl, within path id h), le_refl _)
  made-of (Ok (Some path)) (Err lazy.NoRemote) h = absurd h
  made-of (Ok (Some path)) (Err (lazy.AllFailed n)) h = absurd h
  made-of (Ok (Some path)) (Err (lazy.BadPath x n)) h =
      ((refl, subst (λ y. IsWrongPath payloads w y n) (sym h.0) (subst (IsWrongPath payloads w path.from) (sym h.1) (bad path h.2))), zero-le)
  made-of (Ok (Some path)) (Err (lazy.BadNames a b)) h = absurd h
  made-of (Ok (Some path)) (Err lazy.Memory) h = absurd h

  pub asked-of : (result : Result (Option ℕ) LazyFault) → IsAsked flats known (length w.master) heads name old new result → Keeps (found_entries name result) before now
      → (AreServing payloads w old → IsRightOf w name (as_refused result)) → Asked payloads w name old new before now (as_refused result)
  asked-of result a keeps right =
      let answer = a.answered.answer in
      let made = made-of answer result a.answered.made in
      record {
        answered = answered_by (end_of answer);
        end = end_of answer;
        asks = one-name (end_of answer) old new (asks-ruled (Leaves (raised 1)) (IsAskedFor 1) (asked-for 1) Gives old new answer a.answered.asks);
        gain = made.1;
        keeps = subst (λ l. Keeps l before now) (gained-entries name result) keeps;
        ends = made.0;
        right = right;
      }

-- ---- the world of a base, as the finding of names has it

pub get-name : (rows : List (Row Name)) (i : ℕ) (x : Name) → slice_get (names_of rows) i ≡ Some x → IsNamed rows i x
get-name rows i x e = let r = row-of rows i x e in record { row = r.0; there = r.1; named = r.2 }

pub named-in : (rows : List (Row Name)) (id : ℕ) (x : Name) → IsNamed rows id x → IsIn x (names_of rows)
named-in rows id x n = subst (λ z. IsIn z (names_of rows)) n.named (at rows id n.row n.there)
  where
    at : (rows : List (Row Name)) (i : ℕ) (r : Row Name) → slice_get rows i ≡ Some r → IsIn r.name (names_of rows)
    at [] i r e = absurd (true≢false (sym (ap is_some e)))
    at (q ∷ rows) zero r e = inl (ap (λ (z : Row Name). z.name) (some-row q r (sym e)))
      where
        some-row : (q r : Row Name) → Some r ≡ Some q → r ≡ q
        some-row q r e = cc
    at (q ∷ rows) (suc i) r e = inr (at rows i r e)

-- a name of master has the same id with other rows behind it
pub master-id : (v w : World Name) → v.master ≡ w.master → (x : Name) → IsIn x (names_of w.master) → id_in same_name v x ≡ id_in same_name w x
master-id v w e x i =
    let yes = there same_name same_name-exact same_name-self x (names_of w.master) i in
    let other : is_in same_name x (names_of v.master) ≡ true = ap (λ l. is_in same_name x (names_of l)) e ∙ yes in
    ap (λ b. if b then place_of same_name x (names_of v.master) else other_id (place_of same_name x (names_of v.others))) other
    ∙ ap (λ l. place_of same_name x (names_of l)) e
    ∙ sym (ap (λ b. if b then place_of same_name x (names_of w.master) else other_id (place_of same_name x (names_of w.others))) yes)

map-same : {X Y : Type 0} (f g : X → Y) (xs : List X) → ((x : X) → IsIn x xs → f x ≡ g x) → map f xs ≡ map g xs
map-same f g [] h = refl
map-same f g (x ∷ xs) h = ap₂ (λ a b. a ∷ b) (h x (inl refl)) (map-same f g xs (λ z i. h z (inr i)))

alone-named : (w : World Name) → IsNamedWorld w → AreMaster w.master
alone-named w h = record {
  world = history-alone;
  names = all-each IsName (names_of (w.master ++ [])) (λ x i. each IsName (names_of (rows_of w)) h.names x
      (subst (λ l. IsIn x l) (sym (map-append (λ (r : Row Name). r.name) w.master w.others)) (in-left x (names_of w.master) (names_of w.others) (subst (λ l. IsIn x (names_of l)) (append-nil w.master) i))));
}
  where
    history-alone : IsHistory [] (w.master ++ [])
    history-alone = subst (λ (l : List (Row Name)). IsHistory [] l) (sym (append-nil w.master)) (history-front [] w.master w.others h.world)

module _ (base : BaseRef) (pending : PlainPending) (added : List Placed) (w : World Name) (rows : List (Row Name)) (s : Sees base pending added w rows) (tables : PlainTables) (bytes : List ℕ) (b : AreTablesBehind tables bytes added) (flats : List Segment)
    (segs : AreSegmentsOf (with_pending w rows) flats) (some : has_lazy (payloads_of added) w ≡ true) where
  abbrev all : List Placed
  all = added ++ b.behind

  abbrev payloads : List Payload
  payloads = payloads_of added

  abbrev later : List Payload
  later = payloads_of b.behind

  abbrev bound : ℕ
  bound = length w.master

  parts : payloads_of (added ++ b.behind) ≡ payloads_of added ++ payloads_of b.behind
  parts = map-append (λ (a : Placed). a.payload) added b.behind

  lawful : AreLawful [] (payloads_of added ++ payloads_of b.behind)
  lawful = subst (AreLawful []) parts b.tables_of.lawful

  first-lawful : AreLawful [] (payloads_of added)
  first-lawful = lawful-front [] (payloads_of added) (payloads_of b.behind) lawful

  small : length w.master ≤ 16777216
  small = let o = s.base_of in let a = (base-others base.bytes.now base.tables.now base.others.now base.below added o).small in let c = o.count in let d = s.stand.count in omega (arith, a, c, d)

  pub covered : Cover flats (length w.master) (length (w.others ++ rows))
  covered = record { front = segs.masters; back = segs.others; parts = segs.parts; master_ids = segs.master_ids; other_ids = segs.other_ids; room = (let a = small in let l : 16777216 ≤ 2 ^ 56 = lit≤ tt in omega (arith, a, l)) }

  -- names of all payloads
  pub knowns : known_of (added ++ b.behind) ≡ known_in (payloads_of added) ++ known_in (payloads_of b.behind)
  knowns = known-all (added ++ b.behind) ∙ ap known_in parts ∙ known-both (payloads_of added) (payloads_of b.behind)
    where
      known-both : (xs ys : List Payload) → known_in (xs ++ ys) ≡ known_in xs ++ known_in ys
      known-both [] ys = refl
      known-both (x ∷ xs) ys = ap (λ l. x.known ++ l) (known-both xs ys) ∙ sym (join x.known (known_in xs) (known_in ys))
        where
          join : (a b c : List Known) → (a ++ b) ++ c ≡ a ++ (b ++ c)
          join [] b c = refl
          join (k ∷ a) b c = ap (λ l. k ∷ l) (join a b c)

  -- one of an id below is that of the base
  pub front-name : (id : ℕ) (x : Name) → id < length w.master → HasName (known_of (added ++ b.behind)) id x → IsIn {X = Known} (record { id = id; name = x }) (known_of added)
  front-name id x lt h = ⊎_elim
      (λ j. subst (IsIn {X = Known} (record { id = id; name = x })) (sym (known-all added)) j)
      (λ j. absurd (let a = each (λ (k : Known). count_after 0 (payloads_of added) ≤ k.id) (known_in (payloads_of b.behind))
      (known-above (payloads_of added) (payloads_of b.behind) (lawful-behind [] (payloads_of added) (payloads_of b.behind) lawful)) (record { id = id; name = x }) j in
      let c = s.stand.count in omega (arith, a, c, lt)))
      (in-append (record { id = id; name = x }) (known_in (payloads_of added)) (known_in (payloads_of b.behind)) (subst (IsIn {X = Known} (record { id = id; name = x })) knowns h))

  pub unknown-here : (name : Name) → (IsStored added name → ⊥) → IsUnknown (known_of (added ++ b.behind)) (length w.master) name
  unknown-here name out id lt h =
      let k : Known = record { id = id; name = name } in
      out (map-in (λ (k : Known). k.name) k (stored_in added) (in-left k (known_of added) (known_from (2 ^ 56) (other_names_in (newest (payloads_of added)))) (front-name id name lt h)))
    where
      map-in : {X Y : Type 0} (f : X → Y) (x : X) (xs : List X) → IsIn x xs → IsIn (f x) (map f xs)
      map-in f x [] i = i
      map-in f x (y ∷ xs) (inl e) = inl (ap f e)
      map-in f x (y ∷ xs) (inr i) = inr (map-in f x xs i)

  pub some-unnamed : count_known (length w.master) (known_of (added ++ b.behind)) < length w.master
  some-unnamed = ltb-true (count_known (length w.master) (known_of (added ++ b.behind))) (length w.master)
      (counted ∙ some)
    where
      counted : nat_lt (count_known (length w.master) (known_of (added ++ b.behind))) (length w.master) ≡ has_lazy (payloads_of added) w
      counted = lazy-counted added b.behind b.tables_of.names.follow w s.stand (length w.master) (count_known (length w.master) (known_of (added ++ b.behind))) refl refl

  -- the mirrors are asked
  pub must-be-asked : (heads : List Name) (name : Name) (old new : List Mirror) (result : Result (Option ℕ) LazyFault) → (IsStored added name → ⊥)
      → Finds flats (known_of (added ++ b.behind)) (length w.master) heads name old new result → IsAsked flats (known_of (added ++ b.behind)) (length w.master) heads name old new result
  must-be-asked heads name old new result out (inl (same, inl k)) = absurd (unknown-here name out k.id k.below k.is_known)
  must-be-asked heads name old new result out (inl (same, inr n)) = absurd (let a = n.whole in let b = some-unnamed in omega (arith, a, b))
  must-be-asked heads name old new result out (inr a) = a

  -- ---- the parents of master ids

  master : AreMaster w.master
  master = alone-named w s.world

  parent-in : (id : ℕ) (row : Row Name) → slice_get w.master id ≡ Some row → (p : Name) → IsIn p row.parents → IsIn p (names_of w.master)
  parent-in id row e p i = let r = parent-row w.master master id row e p i in named-in w.master (id_of w.master p) p r.0

  view-parents : (id : ℕ) (row : Row Name) → slice_get w.master id ≡ Some row → parents_at flats id ≡ map (id_in same_name (with_pending w rows)) row.parents
  view-parents id row e =
      let lt = get-below w.master id row e in
      segs.parents id row (at (below-master id (let a = small in let l : 16777216 ≤ 2 ^ 56 = lit≤ tt in omega (arith, lt, a, l))))
    where
      at : is_master_id id ≡ true → row_at (with_pending w rows) id ≡ Some row
      at b = ap (λ z. if z then slice_get w.master id else slice_get (w.others ++ rows) (id - 2 ^ 56)) b ∙ e

  pub table-parents : (id : ℕ) (row : Row Name) → slice_get w.master id ≡ Some row → parents_at flats id ≡ map (id_in same_name (master_world w.master)) row.parents
  table-parents id row e = view-parents id row e
      ∙ map-same (id_in same_name (with_pending w rows)) (id_in same_name (master_world w.master)) row.parents (λ p i. master-id (with_pending w rows) (master_world w.master) refl p (parent-in id row e p i))

  pub stands-for : StandForRows flats (known_of (added ++ b.behind)) w.master
  stands-for = record {
    master = master;
    others = length (w.others ++ rows);
    cover = covered;
    parents = table-parents;
    names = λ id x lt h. get-name w.master id x (known-row added w s.stand (record { id = id; name = x }) (front-name id x lt h));
  }

  -- as the records have them
  records-follow : Follow 0 (length w.master) (flat_map (λ (p : Payload). p.master) (payloads_of added))
  records-follow = subst (λ n. Follow 0 n (flat_map (λ (p : Payload). p.master) (payloads_of added))) s.stand.count (lawful-follow [] (payloads_of added) first-lawful)

  pub record-parents : (id : ℕ) → id < length w.master → parents_at flats id ≡ parents_at (flat_map (λ (p : Payload). p.master) (payloads_of added)) id
  record-parents id lt =
      let (row, e) = get-some w.master id lt in
      let r = row-parents w w.master 0 (length w.master) (flat_map (λ (p : Payload). p.master) (payloads_of added)) records-follow (omega arith) s.stand.master id row e in
      table-parents id row e
      ∙ map-same (id_in same_name (master_world w.master)) (id_in same_name w) row.parents (λ p i. master-id (master_world w.master) w refl p (parent-in id row e p i))
      ∙ sym r ∙ ap (parents_at (flat_map (λ (p : Payload). p.master) (payloads_of added))) (let z : 0 + id ≡ id = omega arith in z)

  -- ---- the heads

  -- what was cloned comes with the first payload: the table gives its ids the same parents, its names are known, and so are those of each id that wasn't cloned
  pub record IsFirst (p : Payload) : Type 0 where
    pub are : AreCloned flats p.cloned (known_ids p) (cut_below p.cloned p.master)
    pub own : (k : Known) → IsIn k p.known → IsIn k (known_of (added ++ b.behind))
    pub late : (id : ℕ) → p.cloned ≤ id → id < length w.master → IsIn id (map (λ (k : Known). k.id) (known_of (added ++ b.behind)))
    pub room : p.cloned ≤ length w.master
    pub cloned : cloned_count (payloads_of added) ≡ p.cloned
    pub heads : remote_heads (payloads_of (added ++ b.behind)) ≡ cloned_head_names p

  the-first : (p : Payload) × IsFirst p
  the-first =
      let (p, rest, e, begins, heads) = cloned-first (payloads_of added) w first-lawful s.stand some in
      (p, by-first p rest e begins heads)
    where
      by-first : (p : Payload) (rest : List Payload) → payloads_of added ≡ p ∷ rest → BeginsCloned p → p.heads ≡ cloned_head_names p → IsFirst p
      by-first p rest e begins heads =
          let whole : payloads_of (added ++ b.behind) ≡ p ∷ (rest ++ payloads_of b.behind) = parts ∙ ap (λ l. l ++ payloads_of b.behind) e in
          let h : AreLawful [] (p ∷ (rest ++ payloads_of b.behind)) = subst (AreLawful []) whole b.tables_of.lawful in
          let hf : AreLawful [] (p ∷ rest) = subst (AreLawful []) e first-lawful in
          let count : count_after 0 (p ∷ rest) ≡ length w.master = ap (count_after 0) (sym e) ∙ s.stand.count in
          let le : p.after ≤ length w.master = (let a = after-le p rest hf.1 in omega (arith, a, count)) in
          let known : known_of (added ++ b.behind) ≡ p.known ++ (known_in rest ++ known_in (payloads_of b.behind)) = knowns ∙ ap (λ l. known_in l ++ known_in (payloads_of b.behind)) e ∙ join p.known (known_in rest) (known_in (payloads_of b.behind)) in
          let row : Follow 0 p.after p.master = subst (λ n. Follow n p.after p.master) begins.first hf.0.whole.cover.master in
          record {
            are = cloned-are p begins hf.0.whole flats
                (λ id lt. record-parents id (omega (arith, lt, le)) ∙ ap (λ l. parents_at (flat_map (λ (q : Payload). q.master) l) id) e ∙ front-parents 0 p.after p.master (flat_map (λ (q : Payload). q.master) rest) id row zero-le lt);
            own = λ k i. subst (IsIn k) (sym known) (in-left k p.known (known_in rest ++ known_in (payloads_of b.behind)) i);
            late = λ id over under. subst (λ l. IsIn id (map (λ (k : Known). k.id) l)) (sym known) (⊎_elim
                (λ (new : p.after ≤ id). ids-behind p.known (known_in rest) (known_in (payloads_of b.behind)) id (later-known (p ∷ []) rest (λ z. cc) hf.1 id new (omega (arith, under, count))))
                (λ (own : id < p.after). ids-before p.known (known_in rest ++ known_in (payloads_of b.behind)) id (begins.all_known id over own))
                (le_or_lt p.after id));
            room = (let a = begins.cloned in omega (arith, a, le));
            cloned = ap cloned_count e;
            heads = ap remote_heads whole ∙ ap (λ l. p.heads ++ l) (later-heads (p ∷ []) (rest ++ payloads_of b.behind) (λ z. cc) h.1) ∙ append-nil p.heads ∙ heads;
          }
        where
          join : (a b c : List Known) → (a ++ b) ++ c ≡ a ++ (b ++ c)
          join [] b c = refl
          join (k ∷ a) b c = ap (λ l. k ∷ l) (join a b c)

          ids-behind : (a b c : List Known) (n : ℕ) → IsIn n (map (λ (k : Known). k.id) b) → IsIn n (map (λ (k : Known). k.id) (a ++ (b ++ c)))
          ids-behind [] [] c n i = absurd i
          ids-behind [] (k ∷ b) c n (inl e) = inl e
          ids-behind [] (k ∷ b) c n (inr i) = inr (ids-behind [] b c n i)
          ids-behind (k ∷ a) b c n i = inr (ids-behind a b c n i)

          ids-before : (a b : List Known) (n : ℕ) → IsIn n (map (λ (k : Known). k.id) a) → IsIn n (map (λ (k : Known). k.id) (a ++ b))
          ids-before [] b n i = absurd i
          ids-before (k ∷ a) b n (inl e) = inl e
          ids-before (k ∷ a) b n (inr i) = inr (ids-before a b n i)

          after-le : (p : Payload) (rest : List Payload) → AreLawful (p ∷ []) rest → p.after ≤ count_after 0 (p ∷ rest)
          after-le p rest h = counts p.after (p ∷ []) rest refl h
            where
              counts : (n : ℕ) (before more : List Payload) → count_after 0 before ≡ n → AreLawful before more → n ≤ count_after n more
              counts n before [] e h = le_refl _
              counts n before (q ∷ more) e h =
                  let g = h.0.whole.counts.grows in let c = h.0.count in
                  let r = counts q.after (before ++ q ∷ []) more (count-last 0 before q) h.1 in omega (arith, g, c, e, r)

  pub heads-are : AreHeads flats (known_of (added ++ b.behind)) (length w.master) (cloned_count (payloads_of added)) (remote_heads (payloads_of (added ++ b.behind)))
  heads-are =
      let (p, f) = the-first in
      subst (λ n. AreHeads flats (known_of (added ++ b.behind)) (length w.master) n (remote_heads (payloads_of (added ++ b.behind)))) (sym f.cloned)
      (heads-of flats p.cloned p.known (cut_below p.cloned p.master) f.are (length w.master) (known_of (added ++ b.behind)) f.own f.late (remote_heads (payloads_of (added ++ b.behind))) f.heads f.room)

  -- from each id without a name its segment goes up to one that has a name
  pub anchors-are : (rest : List Segment) → flats ≡ flat_segments_of 0 (parent_ids same_name w w.master) ++ rest → AreAnchored flats (known_of (added ++ b.behind)) (length w.master) (cloned_count (payloads_of added))
  anchors-are rest front =
      let (p, f) = the-first in
      subst (AreAnchored flats (known_of (added ++ b.behind)) (length w.master)) (sym f.cloned)
      (anchored-of flats p.cloned p.known (cut_below p.cloned p.master) f.are (length w.master) (known_of (added ++ b.behind)) f.own f.late f.room (reach-up w.master w flats rest front))

  -- ---- mirrors that serve

  pub serve-as : (old : List Mirror) → AreServing (payloads_of added) w old → AllServe w.master (cloned_count (payloads_of added)) old
  serve-as old h = all-each (Serves w.master (cloned_count (payloads_of added))) old (λ m i. serves-ruled (cloned_count (payloads_of added)) w m (each (IsServing (cloned_count (payloads_of added)) w) old h m i))

  pub right-of : (name : Name) (result : Result (Option ℕ) LazyFault) → IsRight w.master name result → IsRightOf w name (as_refused result)
  right-of name (Ok None) h = h
  right-of name (Ok (Some id)) h =
      let i = named-in w.master id name h in
      (i, sym (id-of-named w.master master id name h) ∙ master-id (master_world w.master) w refl name i)
  right-of name (Err lazy.NoRemote) h = tt
  right-of name (Err (lazy.AllFailed n)) h = tt
  right-of name (Err (lazy.BadPath x n)) h = absurd h
  right-of name (Err (lazy.BadNames a b)) h = tt
  right-of name (Err lazy.Memory) h = tt

  -- ---- first parents

  first-below : (n x y : ℕ) → x < length w.master → first_ancestor (table_graph flats) n x ≡ Some y → y < length w.master
  first-below zero x y lt e = let same : x ≡ y = cc in omega (arith, same, lt)
  first-below (suc n) x y lt e = by-before (first_ancestor (table_graph flats) n x) (λ z f. first-below n x z lt f) e
    where
      by-before : (o : Option ℕ) → ((z : ℕ) → o ≡ Some z → z < length w.master) → option_and_then (λ z. first_of_list (parents_at flats z)) o ≡ Some y → y < length w.master
      by-before None rec f = absurd (true≢false (sym (ap is_some f)))
      by-before (Some z) rec f =
          let under = rec z refl in
          let (row, at) = get-some w.master z under in
          let i : IsIn y (map (id_of w.master) row.parents) = first-in (map (id_of w.master) row.parents) (ap first_of_list (sym (table-parents z row at)) ∙ f) in
          let (q, j, is) = from-map (id_of w.master) row.parents y i in
          let fall = (parent-row w.master master z row at q j).1 in
          omega (arith, under, is, fall)
        where
          first-in : (xs : List ℕ) → first_of_list xs ≡ Some y → IsIn y xs
          first-in [] f = absurd (true≢false (sym (ap is_some f)))
          first-in (x ∷ xs) f = inl (some-same x y f)
            where
              some-same : (a b : ℕ) → Some a ≡ Some b → b ≡ a
              some-same a b f = cc

          from-map : {X Y : Type 0} (f : X → Y) (xs : List X) (y : Y) → IsIn y (map f xs) → (x : X) × IsIn x xs × (y ≡ f x)
          from-map f [] y i = absurd i
          from-map f (x ∷ xs) y (inl e) = (x, inl refl, e)
          from-map f (x ∷ xs) y (inr i) = let r = from-map f xs y i in (r.0, inr r.1, r.2)

  pub way-within : (path : Path) (id : ℕ) → IsWay flats (known_of (added ++ b.behind)) (length w.master) path id → id < length w.master
  way-within path id way = first-below path.back way.from id way.below way.leads

  first-same : (n x : ℕ) → x < length w.master → first_ancestor (table_graph flats) n x ≡ first_ancestor (id_graph (payloads_of added)) n x
  first-same zero x lt = refl
  first-same (suc n) x lt = by-before (first_ancestor (table_graph flats) n x) refl ∙ ap (option_and_then (λ z. first_of_list ((id_graph (payloads_of added)).parents z))) (first-same n x lt)
    where
      by-before : (o : Option ℕ) → first_ancestor (table_graph flats) n x ≡ o → option_and_then (λ z. first_of_list (parents_at flats z)) (first_ancestor (table_graph flats) n x)
          ≡ option_and_then (λ z. first_of_list ((id_graph (payloads_of added)).parents z)) (first_ancestor (table_graph flats) n x)
      by-before None e = ap (option_and_then (λ z. first_of_list (parents_at flats z))) e ∙ sym (ap (option_and_then (λ z. first_of_list ((id_graph (payloads_of added)).parents z))) e)
      by-before (Some z) e = ap (option_and_then (λ z. first_of_list (parents_at flats z))) e ∙ ap first_of_list (record-parents z (first-below n x z lt e))
          ∙ sym (ap (option_and_then (λ z. first_of_list ((id_graph (payloads_of added)).parents z))) e)

  -- ---- a path that is no way

  abbrev StoredThere : ℕ → Name → Type 0
  StoredThere id x = (k : Known) × IsIn k (known_in (payloads_of added)) × (k.id ≡ id) × (id < length w.master) × (k.name ≡ x)

  abbrev Known-there : Name → Type 0
  Known-there from = (k : Known) × IsIn k (known_in (payloads_of added)) × (k.name ≡ from)

  pub wrong-path : (name : Name) → (IsStored added name → ⊥) → (path : Path) → ((id : ℕ) → IsWay flats (known_of (added ++ b.behind)) (length w.master) path id → ⊥)
      → IsWrongPath (payloads_of added) w path.from path.back
  wrong-path name out path never = (name, some, not-there, by-from (search (known_in (payloads_of added)) (λ k i. i)))
    where
      not-there : is_in same_name name (stored_names (payloads_of added) w) ≡ false
      not-there = by_test (is_in same_name name (stored_names (payloads_of added) w)) refl
        where
          by_test : (z : Bool) → is_in same_name name (stored_names (payloads_of added) w) ≡ z → is_in same_name name (stored_names (payloads_of added) w) ≡ false
          by_test true e = absurd (out (subst (IsIn name) (stored-are added w s.stand) (found same_name same_name-exact same_name-self name (stored_names (payloads_of added) w) e)))
          by_test false e = e

      search : (ks : List Known) → ((k : Known) → IsIn k ks → IsIn k (known_in (payloads_of added))) → Known-there path.from ⊎ ((k : Known) → IsIn k ks → k.name ≡ path.from → ⊥)
      search [] f = inr (λ k i e. i)
      search (k ∷ ks) f = by_test (same_name k.name path.from) refl (search ks (λ q i. f q (inr i)))
        where
          by_test : (z : Bool) → same_name k.name path.from ≡ z → Known-there path.from ⊎ ((q : Known) → IsIn q ks → q.name ≡ path.from → ⊥) → Known-there path.from ⊎ ((q : Known) → IsIn q (k ∷ ks) → q.name ≡ path.from → ⊥)
          by_test true e rec = inl (k, f k (inl refl), same_name-exact k.name path.from e)
          by_test false e rec = ⊎_elim (λ r. inl r)
              (λ r. inr (λ q i h. ⊎_elim (λ g. true≢false (sym (same_name-self path.from) ∙ ap (λ n. same_name n path.from) (sym h ∙ ap (λ (z : Known). z.name) g) ∙ e)) (λ j. r q j h) i)) rec

      below : (k : Known) → IsIn k (known_in (payloads_of added)) → k.id < length w.master
      below k i = known-below added w s.stand k (subst (IsIn k) (sym (known-all added)) i)

      has-all : (k : Known) → IsIn k (known_in (payloads_of added)) → HasName (known_of (added ++ b.behind)) k.id k.name
      has-all k i = subst (IsIn k) (sym knowns) (in-left k (known_in (payloads_of added)) (known_in (payloads_of b.behind)) i)

      by-from : Known-there path.from ⊎ ((k : Known) → IsIn k (known_in (payloads_of added)) → k.name ≡ path.from → ⊥) → IsBadPath (payloads_of added) (length w.master) name path.from path.back
      by-from (inr none) = inl (λ id h. none h.0 h.1 h.4)
      by-from (inl (k, i, e)) = inr (k.id, (k, i, refl, below k i, e), by-end (first_ancestor (id_graph (payloads_of added)) path.back k.id) refl)
        where
          by-end : (o : Option ℕ) → first_ancestor (id_graph (payloads_of added)) path.back k.id ≡ o
              → (first_ancestor (id_graph (payloads_of added)) path.back k.id ≡ None)
              ⊎ ((end : ℕ) × (other : Name) × (first_ancestor (id_graph (payloads_of added)) path.back k.id ≡ Some end) × (StoredThere end other) × (other ≢ name))
          by-end None f = inl f
          by-end (Some end) f = inr (by-name (is_in nat_eq end (map (λ (q : Known). q.id) (known_in (payloads_of added)))) refl)
            where
              leads : first_ancestor (table_graph flats) path.back k.id ≡ Some end
              leads = first-same path.back k.id (below k i) ∙ f

              by-name : (z : Bool) → is_in nat_eq end (map (λ (q : Known). q.id) (known_in (payloads_of added))) ≡ z
                  → (to : ℕ) × (other : Name) × (first_ancestor (id_graph (payloads_of added)) path.back k.id ≡ Some to) × (StoredThere to other) × (other ≢ name)
              by-name true g =
                  let (q, j, is) = known-of-id (known_in (payloads_of added)) end (found nat_eq same-exact same-self end (map (λ (q : Known). q.id) (known_in (payloads_of added))) g) in (
                    end,
                    q.name,
                    f,
                    (q, j, is, (let lt = below q j in omega (arith, lt, is)), refl),
                    λ h. out (subst (IsStored added) h (stored-in q (subst (IsIn q) (sym (known-all added)) j))),
                  )
                where
                  stored-in : (q : Known) → IsIn q (known_of added) → IsStored added q.name
                  stored-in q j = map-name q (stored_in added) (in-left q (known_of added) (known_from (2 ^ 56) (other_names_in (newest (payloads_of added)))) j)
                    where
                      map-name : (q : Known) (ks : List Known) → IsIn q ks → IsIn q.name (map (λ (k : Known). k.name) ks)
                      map-name q [] i = i
                      map-name q (k ∷ ks) (inl e) = inl (ap (λ (z : Known). z.name) e)
                      map-name q (k ∷ ks) (inr i) = inr (map-name q ks i)
              by-name false g = absurd (never end (record {
                from = k.id;
                below = below k i;
                is_known = subst (HasName (known_of (added ++ b.behind)) k.id) e (has-all k i);
                leads = leads;
                unnamed = λ x h. true≢false (sym (there nat_eq same-exact same-self end (map (λ (q : Known). q.id) (known_in (payloads_of added)))
                    (id-in end x (subst (IsIn {X = Known} (record { id = end; name = x })) (known-all added) (front-name end x (first-below path.back k.id end (below k i) leads) h)))) ∙ g);
              }))
                where
                  id-in : (n : ℕ) (x : Name) → IsIn {X = Known} (record { id = n; name = x }) (known_in (payloads_of added)) → IsIn n (map (λ (q : Known). q.id) (known_in (payloads_of added)))
                  id-in n x i = go (known_in (payloads_of added)) i
                    where
                      go : (ks : List Known) → IsIn {X = Known} (record { id = n; name = x }) ks → IsIn n (map (λ (q : Known). q.id) ks)
                      go [] i = i
                      go (k ∷ ks) (inl e) = inl (ap (λ (z : Known). z.id) e)
                      go (k ∷ ks) (inr i) = inr (go ks i)
