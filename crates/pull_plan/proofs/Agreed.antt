-- Where what a remote told agrees with what is stored, its cloned rows are the world's.
use Rattle.std.proofs.Common.{◌≡◌, ◌<◌, ◌≤◌, ◌+◌, ◌-◌, ◌&&◌, ℕ, zero, suc, Bool, true, false, ◌⊎◌, inl, inr, List, [], ◌∷◌, ◌++◌, length, map, take, drop, flat_map, min, nat_eq, nat_lt, nat_le, Option, Some, None, slice_get, refl, sym, ap, ap₂, subst, ◌∙◌, ⊎_elim, if◌then◌else◌, arith, true≢false, append-nil}
use Rattle.std.specs.List.{AllByRecursion, cons_option}
use Rattle.std.specs.Cmp.Lexicographic.{pointwise}
use Rattle.std.proofs.lemmas.Bool.{ltb-true, ltb-false, le-ltb, leb-true}
use Rattle.std.proofs.lemmas.Map.Views.{exact_unsigned_eq}
use Rattle.id_groups.specs.Lists.{IsIn}
use Rattle.id_groups.specs.Name.{Name, same_name}
use Rattle.id_groups.proofs.Names.{same_name-exact, same_name-self}
use Rattle.id_groups.proofs.Listing.{and_true}
use Rattle.commit_graph.specs.World.{Row, World, IsWorld, IsHistory, names_of}
use Rattle.commit_graph.specs.Ids.{id_in}
use Rattle.commit_graph.proofs.Histories.{history-front, history-rest, in-all}
use Rattle.commit_graph.proofs.Places.{at-name, id-in-master}
use Rattle.segment_codec.specs.Record.{Segment}
use Rattle.segment_codec.specs.Table.{Follow}
use Rattle.segment_codec.specs.Turns.{place_behind}
use Rattle.segment_codec.proofs.Tables.{le_or_lt}
use Rattle.segment_rules.specs.Flat.{followers, segment_parents, flat_segments_of, parents_listed}
use Rattle.segment_rules.proofs.Flats.{flat-keeps}
use Rattle.batch_codec.specs.Payload.{Payload}
use Rattle.batch_codec.specs.Grammar.{cut_below}
use Rattle.remote_rules.specs.CloneData.{CloneData, first_broken, first_false, first_some}
use Rattle.mirror_set.specs.Fresh.{PlainFresh, count_from}
use Rattle.change_rules.specs.Tables.{StandFor, cloned_count}
use Rattle.change_rules.specs.Disagree.{same_segment, segments_agree, first_unlike}
use Rattle.change_rules.proofs.Spans.{flat_segments, same-segments}
use Rattle.change_rules.proofs.Lawful.{flat-cover, record-cover}
use Rattle.payload_tables.proofs.Lists.{get-front}
use Rattle.payload_tables.proofs.Rows.{get-below}
use Rattle.payload_tables.proofs.Joined.{get-map, followers-long}
use Rattle.pull_plan.specs.Pulling.{told_names, names_at_all, told_rows}
use Rattle.pull_plan.proofs.ToldRows.{no-some, some-is, take-get, take-long, row-with, follow}
use Rattle.rebase_pending.proofs.Stepping.{split-at, under}

-- ---- segments cut below an id

take-none : {X : Type 0} (n : ℕ) → ◌≡◌ {A = List X} (take n []) []
take-none zero = refl
take-none (suc n) = refl

take-join : {X : Type 0} (n : ℕ) (xs ys : List X) → length xs ≤ n → take n (xs ++ ys) ≡ xs ++ take (n - length xs) ys
take-join n [] ys le = ap (λ m. take m ys) (let z : n ≡ n - 0 = omega arith in z)
take-join zero (x ∷ xs) ys le = absurd (let z : ⊥ = omega (arith, le) in z)
take-join (suc n) (x ∷ xs) ys le = ap (λ l. x ∷ l) (take-join n xs ys (omega (arith, le)) ∙ ap (λ m. xs ++ take m ys) (let z : n - length xs ≡ suc n - length (x ∷ xs) = omega arith in z))

take-within : {X : Type 0} (n : ℕ) (xs ys : List X) → n ≤ length xs → take n (xs ++ ys) ≡ take n xs
take-within zero xs ys le = refl
take-within (suc n) [] ys le = absurd (let z : ⊥ = omega (arith, le) in z)
take-within (suc n) (x ∷ xs) ys le = ap (λ l. x ∷ l) (take-within n xs ys (omega (arith, le)))

take-followers : (n id m : ℕ) → n ≤ m → take n (followers id m) ≡ followers id n
take-followers zero id m le = refl
take-followers (suc n) id zero le = absurd (let z : ⊥ = omega (arith, le) in z)
take-followers (suc n) id (suc m) le = ap (λ l. (id ∷ []) ∷ l) (take-followers n (id + 1) m (omega (arith, le)))

cut-none : (below first end : ℕ) (ss : List Segment) → below ≤ first → Follow first end ss → cut_below below ss ≡ []
cut-none below first end [] le f = refl
cut-none below first end (s ∷ ss) le f =
    ap (λ b. if b then record s { high = min s.high (below - 1) } ∷ cut_below below ss else cut_below below ss) (le-ltb s.low below (let e = f.0 in omega (arith, e, le)))
    ∙ cut-none below (s.high + 1) end ss (let e = f.0 in let o = f.1 in omega (arith, e, o, le)) f.2

parents-cut : (below first end : ℕ) (ss : List Segment) → Follow first end ss → parents_listed (cut_below below ss) ≡ take (below - first) (parents_listed ss)
parents-cut below first end [] f = sym (take-none (below - first))
parents-cut below first end (s ∷ ss) f = by_test (parents-cut below (s.high + 1) end ss f.2) (nat_lt s.low below) refl
  where
    low : s.low ≡ first
    low = f.0

    long : length (segment_parents s) ≡ s.high + 1 - s.low
    long = let l = followers-long s.low (s.high - s.low) in let o = f.1 in let e = f.0 in omega (arith, l, o, e)

    by_end : parents_listed (cut_below below ss) ≡ take (below - (s.high + 1)) (parents_listed ss) → s.low < below → (s.high < below) ⊎ (below ≤ s.high) → parents_listed (record s { high = min s.high (below - 1) } ∷ cut_below below ss) ≡ take (below - first) (parents_listed (s ∷ ss))
    by_end rec lt (inl h) =
        ap₂ (λ n l. (s.parents ∷ followers s.low (n - s.low)) ++ l) (let z : min s.high (below - 1) ≡ s.high = omega (arith, h) in z) rec
        ∙ ap (λ n. segment_parents s ++ take n (parents_listed ss)) (let o = f.1 in let z : below - (s.high + 1) ≡ below - first - length (segment_parents s) = omega (arith, long, low, h, o) in z)
        ∙ sym (take-join (below - first) (segment_parents s) (parents_listed ss) (omega (arith, long, low, h)))
    by_end rec lt (inr h) =
        ap₂ (λ n l. (s.parents ∷ followers s.low (n - s.low)) ++ parents_listed l) (let z : min s.high (below - 1) ≡ below - 1 = omega (arith, h, lt) in z) (cut-none below (s.high + 1) end ss (omega (arith, h)) f.2)
        ∙ append-nil (s.parents ∷ followers s.low (below - 1 - s.low))
        ∙ ap (λ l. s.parents ∷ l) (sym (take-followers (below - 1 - s.low) s.low (s.high - s.low) (omega (arith, h))))
        ∙ ap (λ n. take n (segment_parents s)) (let z : suc (below - 1 - s.low) ≡ below - first = omega (arith, low, lt) in z)
        ∙ sym (take-within (below - first) (segment_parents s) (parents_listed ss) (omega (arith, long, low, h)))

    by_test : parents_listed (cut_below below ss) ≡ take (below - (s.high + 1)) (parents_listed ss) → (b : Bool) → nat_lt s.low below ≡ b → parents_listed (if nat_lt s.low below then record s { high = min s.high (below - 1) } ∷ cut_below below ss else cut_below below ss) ≡ take (below - first) (parents_listed (s ∷ ss))
    by_test rec true e =
        ap (λ b. parents_listed (if b then record s { high = min s.high (below - 1) } ∷ cut_below below ss else cut_below below ss)) e
        ∙ by_end rec (ltb-true s.low below e) (⊎_elim (λ h. inr h) (λ h. inl h) (le_or_lt below s.high))
    by_test rec false e =
        let le = ltb-false s.low below e in
        ap (λ b. parents_listed (if b then record s { high = min s.high (below - 1) } ∷ cut_below below ss else cut_below below ss)) e
        ∙ ap parents_listed (cut-none below (s.high + 1) end ss (let o = f.1 in omega (arith, le, o, low)) f.2)
        ∙ ap (λ n. take n (parents_listed (s ∷ ss))) (let z : 0 ≡ below - first = omega (arith, le, low) in z)

flat-follow : (first : ℕ) (ps : List (List ℕ)) → Follow first (first + length ps) (flat_segments_of first ps)
flat-follow first ps = subst (Follow first (first + length ps)) (sym (same-segments first ps)) (record-cover first (first + length ps) (flat_segments first ps) (flat-cover first (first + length ps) ps refl))

-- ---- segments that are found the same

neither : (a b : Option ℕ) → first_some a b ≡ None → (a ≡ None) × (b ≡ None)
neither None b e = (refl, e)
neither (Some n) b e = absurd (no-some n e)

pub all-true : (n : ℕ) (bs : List Bool) → first_false n bs ≡ None → AllByRecursion (λ b. b ≡ true) bs
all-true n [] e = tt
all-true n (b ∷ bs) e = by_test b e (λ f. all-true (n + 1) bs f)
  where
    by_test : (b : Bool) → (if b then first_false (n + 1) bs else Some n) ≡ None → (first_false (n + 1) bs ≡ None → AllByRecursion (λ c. c ≡ true) bs) → AllByRecursion (λ c. c ≡ true) (b ∷ bs)
    by_test true e rec = (refl, rec e)
    by_test false e rec = absurd (no-some n e)

numbers-same : (xs ys : List ℕ) → pointwise nat_eq xs ys ≡ true → xs ≡ ys
numbers-same [] [] e = refl
numbers-same [] (y ∷ ys) e = absurd (true≢false (sym e))
numbers-same (x ∷ xs) [] e = absurd (true≢false (sym e))
numbers-same (x ∷ xs) (y ∷ ys) e = let p = and_true (nat_eq x y) (pointwise nat_eq xs ys) e in ap₂ (λ a l. a ∷ l) (exact_unsigned_eq x y p.0) (numbers-same xs ys p.1)

segment-same : (s t : Segment) → same_segment s t ≡ true → segment_parents s ≡ segment_parents t
segment-same s t e =
    let a = and_true (nat_eq s.low t.low && nat_eq s.high t.high) (pointwise nat_eq s.parents t.parents) e in
    let b = and_true (nat_eq s.low t.low) (nat_eq s.high t.high) a.0 in
    ap₂ (λ ps l. ps ∷ l) (numbers-same s.parents t.parents a.1) (ap₂ (λ x y. followers x (y - x)) (exact_unsigned_eq s.low t.low b.0) (exact_unsigned_eq s.high t.high b.1))

agree-same : (told stored : List Segment) → AllByRecursion (λ b. b ≡ true) (segments_agree told stored) → length stored ≤ length told → parents_listed told ≡ parents_listed stored
agree-same [] [] h le = refl
agree-same [] (t ∷ stored) h le = absurd (let z : ⊥ = omega (arith, le) in z)
agree-same (s ∷ told) [] h le = absurd (true≢false (sym h.0))
agree-same (s ∷ told) (t ∷ stored) h le = ap₂ (λ a l. a ++ l) (segment-same s t h.0) (agree-same told stored h.1 (omega (arith, le)))

-- the parents of the cloned ids are those that are stored
parents-same : (payloads : List Payload) (told : CloneData) (end : ℕ) → Follow 0 end told.segments → first_unlike payloads (cloned_count payloads) told ≡ None
    → take (cloned_count payloads) (parents_listed told.segments) ≡ take (cloned_count payloads) (parents_listed (flat_map (λ p. p.master) payloads))
parents-same payloads told end f e =
    let c = cloned_count payloads in
    let ps = parents_listed (flat_map (λ (p : Payload). p.master) payloads) in
    let stored = cut_below c (flat_segments_of 0 ps) in
    let theirs = cut_below c told.segments in
    let a = neither (first_false 0 (segments_agree theirs stored)) _ e in
    let b = neither (first_false (length told.segments + length told.names + length told.heads) (nat_le (length stored) (length theirs) ∷ [])) _ a.1 in
    let long = leb-true (length stored) (length theirs) (all-true (length told.segments + length told.names + length told.heads) (nat_le (length stored) (length theirs) ∷ []) b.0).0 in
    ap (λ n. take n (parents_listed told.segments)) (let z : c ≡ c - 0 = omega arith in z)
    ∙ sym (parents-cut c 0 end told.segments f)
    ∙ agree-same theirs stored (all-true 0 (segments_agree theirs stored) a.0) long
    ∙ parents-cut c 0 (0 + length ps) (flat_segments_of 0 ps) (flat-follow 0 ps)
    ∙ ap (λ n. take n (parents_listed (flat_segments_of 0 ps))) (let z : c - 0 ≡ c = omega arith in z)
    ∙ ap (take c) (flat-keeps 0 ps)

-- ---- rows

takes-same : {X : Type 0} (n : ℕ) (xs ys : List X) → ((k : ℕ) → k < n → slice_get xs k ≡ slice_get ys k) → take n xs ≡ take n ys
takes-same zero xs ys f = refl
takes-same (suc n) [] [] f = refl
takes-same (suc n) [] (y ∷ ys) f = absurd (no-some y (sym (f 0 (omega arith))))
takes-same (suc n) (x ∷ xs) [] f = absurd (no-some x (f 0 (omega arith)))
takes-same (suc n) (x ∷ xs) (y ∷ ys) f = ap₂ (λ a l. a ∷ l) (some-is x y (f 0 (omega arith))) (takes-same n xs ys (λ k lt. f (suc k) (omega (arith, lt))))

named-again : (all : List Name) (f : Name → ℕ) (ps : List Name) → ((p : Name) → IsIn p ps → slice_get all (f p) ≡ Some p) → names_at_all all (map f ps) ≡ ps
named-again all f [] h = refl
named-again all f (p ∷ ps) h = ap₂ cons_option (h p (inl refl)) (named-again all f ps (λ q i. h q (inr i)))

module _ (payloads : List Payload) (w : World Name) (stand : StandFor payloads w) (hw : IsWorld w) (fresh : PlainFresh) (unbroken : first_broken fresh.cloned ≡ None)
    (count : length fresh.names ≡ count_from (cloned_count payloads) fresh.cloned) (few : cloned_count payloads ≤ length w.master) (like : first_unlike payloads (cloned_count payloads) fresh.cloned ≡ None) where
  abbrev c : ℕ
  c = cloned_count payloads

  abbrev all : List Name
  all = told_names w c fresh.names

  name-there : (k : ℕ) (r : Row Name) → k < c → slice_get w.master k ≡ Some r → slice_get all k ≡ Some r.name
  name-there k r lt e =
      get-front (take c (names_of w.master)) fresh.names k r.name (take-get (names_of w.master) c k lt ∙ get-map (λ (q : Row Name). q.name) w.master k r e)

  row-same : (k : ℕ) → k < c → slice_get (told_rows w c fresh) k ≡ slice_get w.master k
  row-same k lt =
      let t = get-below w.master k (omega (arith, lt, few)) in
      let r = t.0 in
      let h = (history-rest [] (take k w.master) (r ∷ drop (suc k) w.master) (subst (IsHistory []) (split-at w.master k r t.1) (history-front [] w.master w.others hw))).0.known in
      let listed : slice_get (parents_listed fresh.cloned.segments) k ≡ Some (map (id_in same_name w) r.parents) =
      sym (take-get (parents_listed fresh.cloned.segments) c k lt) ∙ ap (λ l. slice_get l k) (parents-same payloads fresh.cloned (place_behind 0 fresh.cloned.segments) (follow w c fresh unbroken count few) like)
      ∙ take-get (parents_listed (flat_map (λ (p : Payload). p.master) payloads)) c k lt ∙ ap (λ l. slice_get l k) stand.master ∙ get-map (λ (q : Row Name). map (id_in same_name w) q.parents) w.master k r t.1 in
      row-with all all (parents_listed fresh.cloned.segments) k r.name (map (id_in same_name w) r.parents) (name-there k r lt t.1) listed
      ∙ ap (λ ps. Some (record { name = r.name; parents = ps })) (named-again all (id_in same_name w) r.parents (λ p i. parent k lt p (in-all p r.parents (names_of (take k w.master)) i h)))
      ∙ sym t.1
    where
      parent : (k : ℕ) → k < c → (p : Name) → IsIn p (names_of (take k w.master)) → slice_get all (id_in same_name w p) ≡ Some p
      parent k lt p i =
          let q = at-name (take k w.master) p i in
          let below = under (take k w.master) q.0 q.1 q.2 in let n = take-long k w.master (omega (arith, lt, few)) in
          let at : slice_get w.master q.0 ≡ Some q.1 = sym (take-get w.master k q.0 (omega (arith, below, n))) ∙ q.2 in
          ap (slice_get all) (ap (id_in same_name w) (sym q.3) ∙ id-in-master same_name same_name-exact same_name-self w hw q.0 q.1 at)
          ∙ name-there q.0 q.1 (omega (arith, below, n, lt)) at ∙ ap Some q.3

  pub cloned-same : take c (told_rows w c fresh) ≡ take c w.master
  cloned-same = takes-same c (told_rows w c fresh) w.master row-same
