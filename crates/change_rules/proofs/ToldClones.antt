-- The payload of clone data that break no rule may come first in a log, whoever told them.
use Rattle.std.proofs.Common.{◌≡◌, ◌≢◌, ◌≤◌, ◌<◌, ◌+◌, ◌-◌, ◌^◌, ◌&&◌, ◌||◌, ◌⊎◌, not, cond, ℕ, Bool, true, false, inl, inr, List, [], ◌∷◌, ◌++◌, length, map, filter, flat_map, nat_eq, refl, sym, ap, ap₂, subst, ◌∙◌, ⊎_elim, true≢false, arith, append-nil, zero-le, lit≤}
use Rattle.std.specs.List.{AllByRecursion, AllZip}
use Rattle.std.specs.List.Sorted.{IsStrictlyIncreasing}
use Rattle.std.proofs.lemmas.Bool.{lt-ltb, eq-eqb, eqb-false}
use Rattle.std.proofs.lemmas.Map.Views.{exact_unsigned_eq}
use Rattle.id_groups.specs.Lists.{IsIn, is_in, AreAllIn, AreDistinct}
use Rattle.id_groups.specs.Name.{Name, IsName}
use Rattle.commit_graph.specs.World.{World, IsNamedWorld}
use Rattle.commit_graph.proofs.Naming.{each, all-each}
use Rattle.commit_graph.proofs.Down.{in-left, in-right}
use Rattle.segment_codec.specs.Record.{Segment, IsSegment, HasLevelsParents}
use Rattle.segment_codec.specs.Table.{Follow}
use Rattle.segment_codec.specs.Turns.{StandInTurn, place_behind, is_only}
use Rattle.segment_codec.specs.Flat.{IsFlat}
use Rattle.segment_rules.specs.Flat.{flat_segments_of, parents_listed}
use Rattle.segment_rules.specs.NewLevels.{new_levels}
use Rattle.segment_levels.specs.Whole.{IsWholeTo}
use Rattle.segment_levels.proofs.Coming.{new-all}
use Rattle.change_rules.proofs.Again.{made-again}
use Rattle.change_rules.proofs.LevelSections.{whole-flats, every-level, all-ascend}
use Rattle.batch_codec.specs.Payload.{Known, known_ids, known_names}
use Rattle.batch_codec.specs.Grammar.{AreMaximal, IsPayload, head_names}
use Rattle.change_rules.specs.Lawful.{MayFollow}
use Rattle.batch_codec.specs.Grammar as grammar
use Rattle.batch_codec.proofs.Ascending.{ascend-increasing}
use Rattle.remote_rules.specs.CloneData.{CloneData, KnownName, head_ids}
use Rattle.remote_rules.specs.Lawful.{MayStandHere, NamesInTurn, HasName, IsLawfulClone}
use Rattle.remote_rules.specs.Known.{master_alone}
use Rattle.remote_rules.specs.Honest.{clone_data_of, master_segments}
use Rattle.change_rules.specs.Change.{AreFormed, told_change, clone_change}
use Rattle.change_rules.proofs.Cloned.{Rises, rises-in, rises-ascend, as_known, same-merge, all-in, not-there, follow, follow-rises}
use Rattle.change_rules.proofs.Honest.{same-ids, behind-all, rises-filter}
use Rattle.change_rules.proofs.Reached.{lowest}

stand-follow : (place : ℕ) (ss : List Segment) → StandInTurn MayStandHere place ss → Follow place (place_behind place ss) ss
stand-follow place [] h = refl
stand-follow place (s ∷ ss) h = (h.0.begins, (let b = h.0.begins in let o = h.0.order in omega (arith, b, o)), stand-follow (s.high + 1) ss h.1)

stand-each : (place : ℕ) (ss : List Segment) → StandInTurn MayStandHere place ss → (s : Segment) → IsIn s ss → (at : ℕ) × MayStandHere at s
stand-each place [] h s i = absurd i
stand-each place (t ∷ ss) h s (inl e) = (place, subst (MayStandHere place) (sym e) h.0)
stand-each place (t ∷ ss) h s (inr i) = stand-each (t.high + 1) ss h.1 s i

names-rise : (least end : ℕ) (before ks : List KnownName) → (least ≡ 0) ⊎ ((b : KnownName) × IsIn b before × (b.id + 1 ≡ least)) → NamesInTurn end before ks → Rises least end (map (λ (k : KnownName). k.id) ks)
names-rise least end before [] l h = tt
names-rise least end before (k ∷ ks) l h = (
  ⊎_elim (λ e. omega (arith, e)) (λ b. let lt = h.0.above b.0 b.1 in let e = b.2 in omega (arith, lt, e)) l,
  h.0.within,
  names-rise (k.id + 1) end (before ++ k ∷ []) ks (inr (k, in-right k before (k ∷ []) (inl refl), refl)) h.1,
)

turn-distinct : (end : ℕ) (before ks : List KnownName) → NamesInTurn end before ks → AreDistinct (map (λ (k : KnownName). k.name) ks) × ((x : Name) → IsIn x (map (λ (k : KnownName). k.name) ks) → (b : KnownName) → IsIn b before → b.name ≡ x → ⊥)
turn-distinct end before [] h = (tt, λ x i b j e. i)
turn-distinct end before (k ∷ ks) h =
    let r = turn-distinct end (before ++ k ∷ []) ks h.1 in (
      ((λ i. r.1 k.name i k (in-right k before (k ∷ []) (inl refl)) refl), r.0),
      λ x i b j e. ⊎_elim (λ f. h.0.new b j (e ∙ f)) (λ m. r.1 x m b (in-left b before (k ∷ []) j) e) i,
    )

-- which names are the heads'
in-filtered : (id : ℕ) (np : ℕ → Bool) (hs : List ℕ) → is_in nat_eq id (filter np hs) ≡ (is_in nat_eq id hs && np id)
in-filtered id np [] = refl
in-filtered id np (y ∷ hs) = by_test (np y) (nat_eq id y) refl refl (in-filtered id np hs)
  where
    by_test : (b c : Bool) → np y ≡ b → nat_eq id y ≡ c → is_in nat_eq id (filter np hs) ≡ (is_in nat_eq id hs && np id)
        → is_in nat_eq id (cond b (y ∷ filter np hs) (filter np hs)) ≡ ((c || is_in nat_eq id hs) && np id)
    by_test true true e f rec = ap (λ z. z || is_in nat_eq id (filter np hs)) f ∙ sym (ap np (exact_unsigned_eq id y f) ∙ e)
    by_test true false e f rec = ap (λ z. z || is_in nat_eq id (filter np hs)) f ∙ rec
    by_test false true e f rec = rec ∙ ap (λ z. is_in nat_eq id hs && z) (ap np (exact_unsigned_eq id y f) ∙ e) ∙ no-and (is_in nat_eq id hs) ∙ sym (ap np (exact_unsigned_eq id y f) ∙ e)
      where
        no-and : (z : Bool) → (z && false) ≡ false
        no-and true = refl
        no-and false = refl
    by_test false false e f rec = rec

filter-same : {X : Type 0} (f g : X → Bool) (xs : List X) → ((x : X) → IsIn x xs → f x ≡ g x) → filter f xs ≡ filter g xs
filter-same f g [] h = refl
filter-same f g (x ∷ xs) h = ap₂ (λ b l. cond b (x ∷ l) l) (h x (inl refl)) (filter-same f g xs (λ y i. h y (inr i)))

filter-none : (f : KnownName → Bool) (xs : List KnownName) → ((x : KnownName) → f x ≡ false) → filter f xs ≡ []
filter-none f [] h = refl
filter-none f (x ∷ xs) h = ap (λ b. cond b (x ∷ filter f xs) (filter f xs)) (h x) ∙ filter-none f xs h

eq-not : (a b : ℕ) → (a ≡ b → ⊥) → nat_eq a b ≡ false
eq-not a b f = by_test (nat_eq a b) refl
  where
    by_test : (c : Bool) → nat_eq a b ≡ c → c ≡ false
    by_test true e = absurd (f (exact_unsigned_eq a b e))
    by_test false e = refl

in-ids : (k : KnownName) (ks : List KnownName) → IsIn k ks → IsIn k.id (map (λ (k : KnownName). k.id) ks)
in-ids k [] i = i
in-ids k (c ∷ ks) (inl e) = inl (ap (λ (z : KnownName). z.id) e)
in-ids k (c ∷ ks) (inr i) = inr (in-ids k ks i)

zip-less : (k : KnownName) (ks : List KnownName) (hs : List ℕ) (heads : List Name) → ((h : ℕ) → IsIn h hs → k.id ≡ h → ⊥) → AllZip (HasName (k ∷ ks)) hs heads → AllZip (HasName ks) hs heads
zip-less k ks [] [] f z = tt
zip-less k ks [] (x ∷ heads) f z = absurd z
zip-less k ks (h ∷ hs) [] f z = absurd z
zip-less k ks (h ∷ hs) (x ∷ heads) f z = (
  (z.0.0, ⊎_elim (λ e. absurd (f h (inl refl) (ap (λ (c : KnownName). c.id) (sym e) ∙ z.0.2))) (λ i. i) z.0.1, z.0.2, z.0.3),
  zip-less k ks hs heads (λ h i. f h (inr i)) z.1,
)

abbrev named_by : List ℕ → List KnownName → List Name
named_by hs ks = map (λ (k : KnownName). k.name) (filter (λ (k : KnownName). is_in nat_eq k.id hs) ks)

picked : (least end : ℕ) (ks : List KnownName) (hs : List ℕ) (heads : List Name) → Rises least end (map (λ (k : KnownName). k.id) ks) → Rises least end hs → AllZip (HasName ks) hs heads → named_by hs ks ≡ heads
picked least end [] [] [] r s z = refl
picked least end [] [] (x ∷ heads) r s z = absurd z
picked least end [] (h ∷ hs) [] r s z = absurd z
picked least end [] (h ∷ hs) (x ∷ heads) r s z = absurd z.0.1
picked least end (k ∷ ks) [] [] r s z = ap (map (λ (k : KnownName). k.name)) (filter-none (λ (k : KnownName). is_in nat_eq k.id []) (k ∷ ks) (λ c. refl))
picked least end (k ∷ ks) [] (x ∷ heads) r s z = absurd z
picked least end (k ∷ ks) (h ∷ hs) [] r s z = absurd z
picked least end (k ∷ ks) (h ∷ hs) (x ∷ heads) r s z = by_test (nat_eq k.id h) refl (λ a b. picked (k.id + 1) end ks hs heads r.2 a b) (λ a b. picked (k.id + 1) end ks (h ∷ hs) (x ∷ heads) r.2 a b)
  where
    behind : (c : KnownName) → IsIn c ks → k.id < c.id
    behind c i = let l = (rises-in (k.id + 1) end (map (λ (k : KnownName). k.id) ks) r.2 c.id (in-ids c ks i)).0 in omega (arith, l)

    by_test : (b : Bool) → nat_eq k.id h ≡ b → (Rises (k.id + 1) end hs → AllZip (HasName ks) hs heads → named_by hs ks ≡ heads)
        → (Rises (k.id + 1) end (h ∷ hs) → AllZip (HasName ks) (h ∷ hs) (x ∷ heads) → named_by (h ∷ hs) ks ≡ x ∷ heads) → named_by (h ∷ hs) (k ∷ ks) ≡ x ∷ heads
    by_test true e same later =
        let at = exact_unsigned_eq k.id h e in
        let up : Rises (k.id + 1) end hs = subst (λ n. Rises (n + 1) end hs) (sym at) s.2 in
        let name : k.name ≡ x = ⊎_elim (λ f. ap (λ (c : KnownName). c.name) (sym f) ∙ z.0.3) (λ i. let l = behind z.0.0 i in let g = z.0.2 in absurd (omega (arith, l, g, at))) z.0.1 in
        let rest = same up (zip-less k ks hs heads (λ n i f. let l = (rises-in (k.id + 1) end hs up n i).0 in absurd (omega (arith, l, f))) z.1) in
        ap (λ b. map (λ (k : KnownName). k.name) (cond b (k ∷ filter (λ (c : KnownName). is_in nat_eq c.id (h ∷ hs)) ks) (filter (λ (c : KnownName). is_in nat_eq c.id (h ∷ hs)) ks))) (ap (λ b. b || is_in nat_eq k.id hs) e)
        ∙ ap₂ (λ (n : Name) (l : List Name). n ∷ l) name
        (ap (map (λ (k : KnownName). k.name)) (filter-same (λ (c : KnownName). is_in nat_eq c.id (h ∷ hs)) (λ (c : KnownName). is_in nat_eq c.id hs) ks
        (λ c i. ap (λ b. b || is_in nat_eq c.id hs) (eq-not c.id h (λ f. let l = behind c i in absurd (omega (arith, l, f, at)))))) ∙ rest)
    by_test false e same later =
        let there : IsIn z.0.0 ks = ⊎_elim (λ f. absurd (true≢false (sym (eq-eqb k.id h (ap (λ (c : KnownName). c.id) (sym f) ∙ z.0.2)) ∙ e))) (λ i. i) z.0.1 in
        let above = behind z.0.0 there in
        let at = z.0.2 in
        let up : Rises (k.id + 1) end (h ∷ hs) = ((omega (arith, above, at)), s.1, s.2) in
        ap (λ b. map (λ (k : KnownName). k.name) (cond b (k ∷ filter (λ (c : KnownName). is_in nat_eq c.id (h ∷ hs)) ks) (filter (λ (c : KnownName). is_in nat_eq c.id (h ∷ hs)) ks)))
        (not-there k.id (k.id + 1) end (h ∷ hs) (omega arith) up)
        ∙ later up (zip-less k ks (h ∷ hs) (x ∷ heads) (λ n i f. let l = (rises-in (k.id + 1) end (h ∷ hs) up n i).0 in absurd (omega (arith, l, f))) z)

filter-known : (f : ℕ → Bool) (ks : List KnownName) → map (λ (k : Known). k.name) (filter (λ (k : Known). f k.id) (as_known ks)) ≡ map (λ (k : KnownName). k.name) (filter (λ (k : KnownName). f k.id) ks)
filter-known f [] = refl
filter-known f (k ∷ ks) = by_test (f k.id) (filter-known f ks)
  where
    by_test : (b : Bool) → map (λ (k : Known). k.name) (filter (λ (k : Known). f k.id) (as_known ks)) ≡ map (λ (k : KnownName). k.name) (filter (λ (k : KnownName). f k.id) ks)
        → map (λ (k : Known). k.name) (cond b (record { id = k.id; name = k.name } ∷ filter (λ (k : Known). f k.id) (as_known ks)) (filter (λ (k : Known). f k.id) (as_known ks)))
        ≡ map (λ (k : KnownName). k.name) (cond b (k ∷ filter (λ (k : KnownName). f k.id) ks) (filter (λ (k : KnownName). f k.id) ks))
    by_test true e = ap (λ l. k.name ∷ l) e
    by_test false e = e

names-known : (ks : List KnownName) → map (λ (k : Known). k.name) (as_known ks) ≡ map (λ (k : KnownName). k.name) ks
names-known [] = refl
names-known (k ∷ ks) = ap (λ l. k.name ∷ l) (names-known ks)

all-names : (ks : List KnownName) → AllByRecursion (λ (k : KnownName). IsName k.name) ks → AllByRecursion IsName (map (λ (k : Known). k.name) (as_known ks))
all-names [] h = tt
all-names (k ∷ ks) h = (h.0, all-names ks h.1)

module _ (told : CloneData) (h : IsLawfulClone told) (formed : AreFormed told) (some : 0 < place_behind 0 told.segments) (fits : place_behind 0 told.segments ≤ 16777216) (few : length told.heads ≤ 65535) where
  abbrev end : ℕ
  end = place_behind 0 told.segments

  cover : Follow 0 end told.segments
  cover = stand-follow 0 told.segments h.segments

  rising : Rises 0 end (map (λ (k : KnownName). k.id) told.names)
  rising = names-rise 0 end [] told.names (inl refl) h.names

  ids-are : known_ids (told_change told) ≡ map (λ (k : KnownName). k.id) told.names
  ids-are = same-ids told.names

  segment : (s : Segment) → IsIn s told.segments → IsSegment s × (s.level ≡ 0)
  segment s i =
      let m = (stand-each 0 told.segments h.segments s i).1 in
      let l = lowest 0 end told.segments cover s i in
      let shape = each (λ (s : Segment). (s.level ≡ 0) × (length s.parents ≤ 8)) told.segments formed.segments s i in
      let k : 16777216 ≤ 2 ^ 56 = lit≤ tt in
      let order = l.1 in
      let bound = l.2 in
      let high : s.high < 2 ^ 56 = omega (arith, bound, fits, k) in
      let low : s.low < 2 ^ 56 = omega (arith, order, high) in (
        record {
          ascending = m.order;
          one_group = lt-ltb s.low (2 ^ 56) low ∙ sym (lt-ltb s.high (2 ^ 56) high);
          valid = (let k : 2 ^ 56 ≤ 2 ^ 57 = lit≤ tt in omega (arith, k, high));
          level = (let e = shape.0 in omega (arith, e));
          below = all-each (λ p. p < s.low) s.parents m.below;
          distinct = m.distinct;
          level_parents = subst (λ n. HasLevelsParents n s.parents) (sym shape.0) shape.1;
        },
        shape.0,
      )

  maximal : AreMaximal told.segments
  maximal = go told.segments (stand-each 0 told.segments h.segments)
    where
      go : (ss : List Segment) → ((s : Segment) → IsIn s ss → (at : ℕ) × MayStandHere at s) → AreMaximal ss
      go [] f = tt
      go (s ∷ ss) f = all-each (λ (s : Segment). s.parents ≢ (s.low - 1) ∷ []) ss (λ t i e. true≢false (sym (ap (is_only (t.low - 1)) e ∙ eq-eqb (t.low - 1) (t.low - 1) refl) ∙ (f t (inr i)).1.apart))

  levels-none : AllByRecursion (λ (s : Segment). s.level ≡ 0) told.segments
  levels-none = all-each (λ (s : Segment). s.level ≡ 0) told.segments (λ s i. (segment s i).1)

  heads-same : told.heads ≡ head_names (told_change told)
  heads-same =
      let highest = map (λ (s : Segment). s.high) told.segments in
      let free : ℕ → Bool = λ id. not (is_in nat_eq id (flat_map (λ (s : Segment). s.parents) told.segments)) in
      sym (filter-known (λ id. is_in nat_eq id highest && free id) told.names
      ∙ ap (map (λ (k : KnownName). k.name)) (filter-same (λ (k : KnownName). is_in nat_eq k.id highest && free k.id) (λ (k : KnownName). is_in nat_eq k.id (head_ids told.segments)) told.names (λ k i. sym (in-filtered k.id free highest)))
      ∙ picked 0 end told.names (head_ids told.segments) told.heads rising (rises-filter free 0 end highest (follow-rises 0 end told.segments cover)) h.heads)

  whole : IsWholeTo told.segments end
  whole = whole-flats end told.segments (all-each IsFlat told.segments (λ s i. let f = segment s i in record { segment = f.0; flat = f.1 })) cover
      (let k : 16777216 ≤ 2 ^ 56 = lit≤ tt in omega (arith, fits, k))

  payload : IsPayload (told_change told)
  payload = record {
    format = record { version = inr refl; no_levels = λ e. absurd (eqb-false 2 1 refl e) };
    levels = record { each = every-level told.segments end whole fits; ascend = all-ascend told.segments end whole fits };
    counts = record { grows = zero-le; master = fits; others = zero-le };
    cover = record { flat_master = all-each (λ (s : Segment). IsSegment s × (s.level ≡ 0)) told.segments segment; flat_others = tt; master = cover; others = refl };
    parents = record {
      master = all-each (λ (s : Segment). AllByRecursion (λ q. q < s.low) s.parents) told.segments (λ s i. (segment s i).0.below);
      others = tt;
    };
    maximal = record { master = maximal; others = tt };
    known = record {
      ascend = subst IsStrictlyIncreasing (sym ids-are) (ascend-increasing 0 end (map (λ (k : KnownName). k.id) told.names) (rises-ascend 0 end (map (λ (k : KnownName). k.id) told.names) rising));
      within = subst (AllByRecursion (λ id. (0 ≤ id) × (id < end))) (sym ids-are) (all-each (λ id. (0 ≤ id) × (id < end)) (map (λ (k : KnownName). k.id) told.names) (λ x i. rises-in 0 end (map (λ (k : KnownName). k.id) told.names) rising x i));
    };
    by_kind = inr (inl (record {
      kind = refl;
      cloned = refl;
      first = refl;
      something = some;
      no_others = refl;
      known = all-each (λ (s : Segment). IsIn s.high (known_ids (told_change told)) × AreAllIn (grammar.merge_parents s.parents) (known_ids (told_change told))) told.segments (λ s i. (
        subst (IsIn s.high) (sym ids-are) (h.needed s s.high i (inl refl)),
        all-in (grammar.merge_parents s.parents) (known_ids (told_change told)) (λ p j. subst (IsIn p) (sym ids-are) (h.needed s p i (inr (subst (IsIn p) (sym (same-merge s.parents)) j)))),
      ));
    }));
    heads_fit = (let k : 65536 ≤ 2 ^ 16 = lit≤ tt in omega (arith, few, k));
    names = all-names told.names formed.names;
    head_names = formed.heads;
    other_names = tt;
  }

  pub told-follows : MayFollow [] (told_change told)
  told-follows = record {
    whole = payload;
    count = refl;
    version = tt;
    clone_first = λ e. refl;
    clone_heads = λ e. heads-same;
    whole_first = λ e. refl;
    whole_heads = λ e. absurd (eqb-false 2 3 refl e);
    levels = λ _. sym (ap (new_levels []) (ap (flat_segments_of 0) (ap parents_listed (append-nil told.segments)) ∙ made-again 0 end told.segments cover levels-none maximal) ∙ new-all told.segments);
    distinct = subst AreDistinct (sym (append-nil (known_names (told_change told) ++ []) ∙ append-nil (known_names (told_change told)) ∙ names-known told.names)) (turn-distinct end [] told.names h.names).0;
  }

-- what an honest remote tells makes the payload of a clone
pub told-clone : (r : World Name) → IsNamedWorld (master_alone r) → told_change (clone_data_of r) ≡ clone_change r
told-clone r named = ap (λ n. record (clone_change r) { after = n; cloned = n }) (behind-all 0 (length r.master) (master_segments r) (follow r named))
