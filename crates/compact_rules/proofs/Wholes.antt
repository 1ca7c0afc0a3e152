-- The payload of a whole store is in the grammar, comes first, and holds the world.
use Rattle.std.proofs.Common.{◌≡◌, ◌≢◌, ◌≤◌, ◌<◌, ◌⊎◌, ◌^◌, ℕ, List, [], ◌∷◌, ◌++◌, length, map, flat_map, Some, None, slice_get, refl, sym, ap, ap₂, subst, ◌∙◌, inl, inr, ⊎_elim, arith, append-nil, length-append, zero-le}
use Rattle.std.specs.List.{AllByRecursion}
use Rattle.std.proofs.lemmas.Bool.{cases_lt, eqb-false}
use Rattle.std.proofs.lemmas.Grind.{flat_map-append}
use Rattle.std.proofs.lemmas.List.{map-append}
use Rattle.id_groups.specs.Lists.{IsIn, AreAllIn, AreDistinct}
use Rattle.id_groups.specs.Name.{Name, IsName, same_name}
use Rattle.commit_graph.specs.World.{World, empty_world, rows_of, names_of}
use Rattle.commit_graph.specs.Ids.{parent_ids}
use Rattle.commit_graph.proofs.Down.{in-left, in-right}
use Rattle.commit_graph.proofs.Naming.{each, all-each, name-of}
use Rattle.segment_codec.specs.Record.{Segment, IsSegment}
use Rattle.segment_codec.specs.Table.{Follow}
use Rattle.segment_rules.specs.Flat.{flat_segments_of, segment_parents, parents_listed}
use Rattle.segment_rules.specs.NewLevels.{new_levels}
use Rattle.segment_rules.proofs.Flats.{flat-keeps}
use Rattle.segment_levels.proofs.Coming.{new-all}
use Rattle.batch_codec.specs.Payload.{Payload, Known, known_ids, known_names}
use Rattle.batch_codec.specs.Grammar.{AscendByLevel, IsOfLevel, IsPayload, KnowsCloned, merge_parents, cut_below, heads_among, cloned_head_names}
use Rattle.batch_codec.proofs.Ascending.{ascend-increasing}
use Rattle.change_rules.specs.Change.{flush_change}
use Rattle.change_rules.specs.Holding.{HoldPayloads}
use Rattle.change_rules.specs.Lawful.{MayFollow, AreLawful}
use Rattle.change_rules.specs.Tables.{StandFor, known_in, remote_heads, cloned_count}
use Rattle.change_rules.proofs.Changes.{names-length}
use Rattle.change_rules.proofs.Cloned.{Rises, rises-in, rises-ascend}
use Rattle.change_rules.proofs.Lawful.{change-follows, distinct-join, distinct-parts, history-distinct}
use Rattle.compact_rules.specs.Whole.{whole_change}
use Rattle.compact_rules.proofs.Lists.{id-in, names-joined, named-in}
use Rattle.compact_rules.proofs.Cutting.{cut-same, ends-cut, ends-wider, heads-more}
use Rattle.compact_rules.proofs.Behind.{ids_of, Begins, begins, joined, all-whole, known-rise, names-distinct, later-known, later-heads, count-most, others-most, stores, stored}

module _ (p : Payload) (rest : List Payload) (w : World Name) (hold : HoldPayloads (p ∷ rest) w) where
  abbrev all : List Payload
  all = p ∷ rest

  abbrev flats : List Segment
  flats = flat_segments_of 0 (parent_ids same_name w w.master)

  abbrev whole : Payload
  whole = whole_change all w

  first : MayFollow [] p
  first = hold.lawful.0

  later : AreLawful (p ∷ []) rest
  later = hold.lawful.1

  begun : Begins p
  begun = begins p first

  -- ---- bounds

  fits : length w.master ≤ 16777216
  fits = subst (λ n. n ≤ 16777216) hold.stand.count (count-most 0 all zero-le (all-whole [] all hold.lawful))

  few : length (names_of w.others) ≤ 65536
  few = subst (λ l. length l ≤ 65536) hold.stand.names (others-most None all zero-le (all-whole [] all hold.lawful))

  something : (0 < length w.master) ⊎ (0 < length (names_of w.others))
  something = ⊎_elim
      (λ lt. inl (subst (λ n. 0 < n) hold.stand.count lt))
      (λ lt. inr (subst (λ l. 0 < length l) hold.stand.names lt))
      (stored p.after (Some p) rest (stores p first.whole) (all-whole (p ∷ []) rest later))

  pub some-rows : 0 < length (rows_of w)
  some-rows =
      let sum = length-append w.master w.others in
      let named = names-length w.others in
      ⊎_elim (λ lt. omega (arith, lt, sum)) (λ lt. omega (arith, lt, sum, named)) something

  -- ---- the ids of the first payload

  rising : (p.after ≤ length w.master) × Rises p.after (length w.master) (ids_of (known_in rest))
  rising = known-rise (p ∷ []) rest (length w.master) hold.stand.count later

  room : p.cloned ≤ length w.master
  room = let a = begun.cloned in let b = rising.0 in omega (arith, a, b)

  flat-first : AllByRecursion (λ (s : Segment). s.level ≡ 0) p.master
  flat-first = all-each (λ (s : Segment). s.level ≡ 0) p.master (λ s i. (each (λ (s : Segment). IsSegment s × (s.level ≡ 0)) p.master first.whole.cover.flat_master s i).1)

  same-cut : cut_below p.cloned flats ≡ cut_below p.cloned p.master
  same-cut =
      ap (λ l. cut_below p.cloned (flat_segments_of 0 l)) (sym hold.stand.master ∙ flat_map-append segment_parents p.master (flat_map (λ (q : Payload). q.master) rest))
      ∙ cut-same p.cloned p.after p.master (parents_listed (flat_map (λ (q : Payload). q.master) rest))
      (subst (λ n. Follow n p.after p.master) begun.first first.whole.cover.master) flat-first first.whole.maximal.master begun.cloned

  -- ---- known ids

  ids-rise : Rises 0 (length w.master) (known_ids whole)
  ids-rise = (known-rise [] all (length w.master) hold.stand.count hold.lawful).1

  ids-joined : known_ids whole ≡ known_ids p ++ ids_of (known_in rest)
  ids-joined = map-append (λ (k : Known). k.id) p.known (known_in rest)

  in-first : (id : ℕ) → IsIn id (known_ids p) → IsIn id (known_ids whole)
  in-first id i = subst (IsIn id) (sym ids-joined) (in-left id (known_ids p) (ids_of (known_in rest)) i)

  in-later : (id : ℕ) → IsIn id (ids_of (known_in rest)) → IsIn id (known_ids whole)
  in-later id i = subst (IsIn id) (sym ids-joined) (in-right id (known_ids p) (ids_of (known_in rest)) i)

  all-known : (id : ℕ) → p.cloned ≤ id → id < length w.master → IsIn id (known_ids whole)
  all-known id le lt = ⊎_elim
      (λ (b : id < p.after). in-first id (begun.all_known id le b))
      (λ (b : p.after ≤ id). in-later id (later-known (p ∷ []) rest (joined [] p) later id b (subst (λ n. id < n) (sym hold.stand.count) lt)))
      (cases_lt id p.after)

  cloned-known : AllByRecursion (KnowsCloned p.cloned (known_ids whole)) flats
  cloned-known = ends-cut p.cloned (known_ids whole) flats
      (ends-wider (known_ids p) (known_ids whole) in-first (cut_below p.cloned flats)
      (subst (λ ss. AllByRecursion (λ (s : Segment). IsIn s.high (known_ids p) × AreAllIn (merge_parents s.parents) (known_ids p)) ss) (sym same-cut) begun.known))

  -- ---- heads

  heads-first : remote_heads all ≡ p.heads
  heads-first = ap (λ l. p.heads ++ l) (later-heads (p ∷ []) rest (joined [] p) later) ∙ append-nil p.heads

  heads-same : remote_heads all ≡ cloned_head_names whole
  heads-same =
      heads-first ∙ begun.heads
      ∙ sym (ap (λ ss. heads_among ss (p.known ++ known_in rest)) same-cut
      ∙ heads-more p.cloned p.master p.known (known_in rest) (λ k i.
      let low = (rises-in p.after (length w.master) (ids_of (known_in rest)) rising.1 k.id (id-in k (known_in rest) i)).0 in
      let le = begun.cloned in omega (arith, low, le)))

  -- ---- names

  known-master : (x : Name) → IsIn x (map (λ (k : Known). k.name) (known_in all)) → IsIn x (names_of w.master)
  known-master = named-in (names_of w.master) (known_in all) hold.stand.known

  master-there : (x : Name) → IsIn x (names_of w.master) → IsIn x (names_of (rows_of w))
  master-there x i = subst (IsIn x) (sym (map-append (λ r. r.name) w.master w.others)) (in-left x (names_of w.master) (names_of w.others) i)

  parts : AreDistinct (names_of w.master) × AreDistinct (names_of w.others) × ((x : Name) → IsIn x (names_of w.master) → IsIn x (names_of w.others) → ⊥)
  parts = distinct-parts (names_of w.master) (names_of w.others)
      (subst AreDistinct (map-append (λ r. r.name) w.master w.others) (history-distinct [] (rows_of w) hold.world.world).0)

  distinct : AreDistinct (flat_map known_names (whole ∷ []) ++ names_of w.others)
  distinct =
      subst (λ l. AreDistinct (l ++ names_of w.others)) (sym (append-nil (known_names whole)))
      (distinct-join (known_names whole) (names_of w.others)
      (subst AreDistinct (sym (names-joined all)) (names-distinct [] all tt hold.lawful))
      parts.1 (λ x i j. parts.2 x (known-master x i) j))

  -- ---- the payload

  -- as for a flush of all rows over nothing
  like : IsPayload (flush_change empty_world w)
  like = (change-follows [] empty_world w tt (record { count = refl; master = refl; known = tt; others = refl; names = refl }) tt hold.world w.master refl fits
      (subst (λ n. n ≤ 65536) (names-length w.others) few) some-rows).whole

  payload : IsPayload whole
  payload = record {
    format = record { version = inr refl; no_levels = λ e. absurd (eqb-false 2 1 refl e) };
    levels = record {
      each = subst (AllByRecursion (IsOfLevel (length w.master))) (new-all flats) like.levels.each;
      ascend = subst AscendByLevel (new-all flats) like.levels.ascend;
    };
    counts = record { grows = zero-le; master = fits; others = few };
    cover = record { flat_master = like.cover.flat_master; flat_others = like.cover.flat_others; master = like.cover.master; others = like.cover.others };
    parents = record { master = like.parents.master; others = like.parents.others };
    maximal = record { master = like.maximal.master; others = like.maximal.others };
    known = record {
      ascend = ascend-increasing 0 (length w.master) (known_ids whole) (rises-ascend 0 (length w.master) (known_ids whole) ids-rise);
      within = all-each (λ id. (0 ≤ id) × (id < length w.master)) (known_ids whole) (rises-in 0 (length w.master) (known_ids whole) ids-rise);
    };
    by_kind = inr (inr (record {
      kind = refl;
      version = refl;
      cloned = room;
      first = refl;
      something = something;
      all_known = all-known;
      known = cloned-known;
    }));
    heads_fit = subst (λ l. length l < 2 ^ 16) (sym heads-first) first.whole.heads_fit;
    names = all-each IsName (known_names whole) (λ x i. name-of w hold.world x (master-there x (known-master x i)));
    head_names = subst (AllByRecursion IsName) (sym heads-first) first.whole.head_names;
    other_names = like.other_names;
  }

  again : parents_listed (flats ++ []) ≡ parent_ids same_name w w.master
  again = ap parents_listed (append-nil flats) ∙ flat-keeps 0 (parent_ids same_name w w.master)

  follows : MayFollow [] whole
  follows = record {
    whole = payload;
    count = refl;
    version = tt;
    clone_first = λ e. refl;
    clone_heads = λ e. absurd (eqb-false 3 2 refl e);
    whole_first = λ e. refl;
    whole_heads = λ e. heads-same;
    distinct = distinct;
    levels = λ _. sym (ap (new_levels []) (ap (flat_segments_of 0) again) ∙ new-all flats);
  }

  stands : StandFor (whole ∷ []) w
  stands = record {
    count = refl;
    master = again;
    known = subst (AllByRecursion (λ (k : Known). slice_get (names_of w.master) k.id ≡ Some k.name)) (sym (append-nil (known_in all))) hold.stand.known;
    others = flat-keeps (2 ^ 56) (parent_ids same_name w w.others);
    names = refl;
  }

  pub whole-first : HoldPayloads (whole ∷ []) w
  whole-first = record { lawful = (follows, tt); stand = stands; world = hold.world }

pub whole-held : (payloads : List Payload) (w : World Name) → HoldPayloads payloads w → 0 < length (rows_of w) → HoldPayloads (whole_change payloads w ∷ []) w
whole-held [] w hold some = absurd (
    let master = hold.stand.count in
    let others = ap length hold.stand.names ∙ names-length w.others in
    let sum = length-append w.master w.others in
    omega (arith, some, master, others, sum))
whole-held (p ∷ rest) w hold some = whole-first p rest w hold

pub held-some : (payloads : List Payload) (w : World Name) → HoldPayloads payloads w → payloads ≢ [] → 0 < length (rows_of w)
held-some [] w hold other = absurd (other refl)
held-some (p ∷ rest) w hold other = some-rows p rest w hold

pub whole-same : (payloads : List Payload) (w : World Name)
    → (known_in (whole_change payloads w ∷ []) ≡ known_in payloads)
    × (cloned_count (whole_change payloads w ∷ []) ≡ cloned_count payloads)
    × (remote_heads (whole_change payloads w ∷ []) ≡ remote_heads payloads)
whole-same payloads w = (append-nil (known_in payloads), refl, append-nil (remote_heads payloads))

pub whole-once : (payloads : List Payload) (w : World Name) → whole_change (whole_change payloads w ∷ []) w ≡ whole_change payloads w
whole-once payloads w = ap₂ {C = Payload} (λ ks hs. record (whole_change payloads w) { known = ks; heads = hs }) (append-nil (known_in payloads)) (append-nil (remote_heads payloads))
