-- The heads of a remote that was cloned: they reach each commit without a stored name, and what they lead through has names.
use Rattle.std.proofs.Common.{◌≡◌, ◌≢◌, ◌<◌, ◌≤◌, ◌+◌, ◌-◌, ◌&&◌, not, ℕ, zero, suc, Bool, true, false, cond, inl, inr, ◌⊎◌, min, List, [], ◌∷◌, ◌++◌, length, map, filter, flat_map, nat_eq, nat_lt, Some, refl, sym, ap, ap₂, subst, ◌∙◌, ⊎_elim, arith, true≢false, zero-le, le_refl, append_assoc, append-nil, if◌then◌else◌}
use Rattle.std.specs.List.{AllByRecursion, range_with_len}
use Rattle.std.proofs.lemmas.Bool.{cases_lt, le-ltb, lt-ltb, ltb-true}
use Rattle.id_groups.specs.Lists.{IsIn, is_in, AreAllIn}
use Rattle.id_groups.specs.Name.{Name}
use Rattle.id_groups.proofs.Listing.{found, there, any-in, and_true}
use Rattle.commit_graph.specs.World.{World}
use Rattle.commit_graph.specs.Graph.{Graph, IsWalk, Reaches}
use Rattle.commit_graph.proofs.Histories.{in-append}
use Rattle.commit_graph.proofs.Naming.{each}
use Rattle.commit_graph.proofs.Walks.{reaches-self, reaches-parent, reaches-trans}
use Rattle.segment_codec.specs.Record.{Segment}
use Rattle.segment_codec.specs.Table.{Follow, IsInSegment, parents_at, parents_in, segment_at}
use Rattle.segment_codec.proofs.Tables.{follow-rising, follow-within, rising-at, le_or_lt}
use Rattle.ancestor_query.specs.Graph.{table_graph}
use Rattle.batch_codec.specs.Payload.{Payload, Known, known_ids}
use Rattle.batch_codec.specs.Grammar.{IsPayload, IsFlush, IsClone, IsWholePayload, KnowsCloned, count_after, cloned_head_names, cut_below, heads_among, merge_parents}
use Rattle.batch_codec.proofs.Cloned.{heads-cloned}
use Rattle.batch_codec.proofs.Meanings as meanings
use Rattle.change_rules.specs.Lawful.{AreLawful, MayFollow}
use Rattle.change_rules.specs.Lazy.{is_lazy, has_lazy}
use Rattle.change_rules.specs.Tables.{StandFor, known_in, remote_heads}
use Rattle.payload_tables.proofs.Lists.{count-last, same-self, same-exact}
use Rattle.lazy_names.specs.Standing.{HasName, IsHeadId, AreHeads}
use Rattle.lazy_names.specs.Fetching.{AreAnchored}

-- ---- segments in a row

pub segment-there : (first end : ℕ) (ss : List Segment) → Follow first end ss → (s : Segment) → IsIn s ss → (j : ℕ) → s.low ≤ j → j ≤ s.high → segment_at ss j ≡ Some s
segment-there first end ss f s i j low high = rising-at ss j s (follow-rising first end ss f) i (low, high)

pub segment-of : (first end : ℕ) (ss : List Segment) → Follow first end ss → (j : ℕ) → first ≤ j → j < end → (s : Segment) × IsIn s ss × (s.low ≤ j) × (j ≤ s.high)
segment-of first end [] f j le lt = absurd (omega (arith, f, le, lt))
segment-of first end (t ∷ ss) f j le lt = ⊎_elim
    (λ (h : j ≤ t.high). (t, inl refl, (let low = f.0 in omega (arith, low, le)), h))
    (λ (h : t.high < j). let r = segment-of (t.high + 1) end ss f.2 j (omega (arith, h)) lt in (r.0, inr r.1, r.2, r.3))
    (le_or_lt j t.high)

pub in-flat : {X Y : Type 0} (f : X → List Y) (xs : List X) (y : Y) → IsIn y (flat_map f xs) → (x : X) × IsIn x xs × IsIn y (f x)
in-flat f [] y i = absurd i
in-flat f (x ∷ xs) y i = ⊎_elim (λ j. (x, inl refl, j)) (λ j. let r = in-flat f xs y j in (r.0, inr r.1, r.2)) (in-append y (f x) (flat_map f xs) i)

pub known-of-id : (ks : List Known) (id : ℕ) → IsIn id (map (λ (k : Known). k.id) ks) → (k : Known) × IsIn k ks × (k.id ≡ id)
known-of-id [] id i = absurd i
known-of-id (k ∷ ks) id (inl e) = (k, inl refl, sym e)
known-of-id (k ∷ ks) id (inr i) = let r = known-of-id ks id i in (r.0, inr r.1, r.2)

map-into : {X Y : Type 0} (f : X → Y) (xs : List X) (x : X) → IsIn x xs → IsIn (f x) (map f xs)
map-into f [] x i = i
map-into f (y ∷ xs) x (inl e) = inl (ap f e)
map-into f (y ∷ xs) x (inr i) = inr (map-into f xs x i)

pub from-map : {X Y : Type 0} (f : X → Y) (xs : List X) (y : Y) → IsIn y (map f xs) → (x : X) × IsIn x xs × (y ≡ f x)
from-map f [] y i = absurd i
from-map f (x ∷ xs) y (inl e) = (x, inl refl, e)
from-map f (x ∷ xs) y (inr i) = let r = from-map f xs y i in (r.0, inr r.1, r.2)

all-in : {X : Type 0} (xs ys : List X) → AreAllIn xs ys → (x : X) → IsIn x xs → IsIn x ys
all-in [] ys h x i = absurd i
all-in (z ∷ xs) ys h x (inl e) = subst (λ q. IsIn q ys) (sym e) h.0
all-in (z ∷ xs) ys h x (inr i) = all-in xs ys h.1 x i

-- ---- payloads behind the first

some-first : {X : Type 0} (x : X) (xs : List X) → (x ∷ xs) ≢ []
some-first x xs e = cc

later-flush : (before : List Payload) (p : Payload) → before ≢ [] → MayFollow before p → IsFlush p
later-flush before p some m = ⊎_elim (λ f. f)
    (λ o. ⊎_elim (λ (c : IsClone p). absurd (some (m.clone_first c.kind))) (λ (w : IsWholePayload p). absurd (some (m.whole_first w.kind))) o) m.whole.by_kind

joined : {X : Type 0} (xs : List X) (x : X) → (xs ++ x ∷ []) ≢ []
joined [] x e = cc
joined (y ∷ xs) x e = cc

-- each new id of later payloads has a name
pub later-known : (before more : List Payload) → before ≢ [] → AreLawful before more → (id : ℕ) → count_after 0 before ≤ id → id < count_after 0 (before ++ more) → IsIn id (map (λ (k : Known). k.id) (known_in more))
later-known before [] some h id le lt = absurd (let e = ap (count_after 0) (append-nil before) in omega (arith, le, lt, e))
later-known before (p ∷ more) some h id le lt =
    let last = count-last 0 before p in
    let count = h.0.count in
    let f = later-flush before p some h.0 in
    ⊎_elim
    (λ (b : id < p.after). in-ids p.known (known_in more) id (inl (f.all_known id (omega (arith, count, le)) b)))
    (λ (b : p.after ≤ id). in-ids p.known (known_in more) id (inr (later-known (before ++ p ∷ []) more (joined before p) h.1 id (omega (arith, last, b)) (subst (λ l. id < count_after 0 l) (sym (append_assoc before (p ∷ []) more)) lt))))
    (⊎_elim (λ (a : p.after ≤ id). inr a) (λ (a : id < p.after). inl a) (le_or_lt p.after id))
  where
    in-ids : (xs ys : List Known) (n : ℕ) → IsIn n (map (λ (k : Known). k.id) xs) ⊎ IsIn n (map (λ (k : Known). k.id) ys) → IsIn n (map (λ (k : Known). k.id) (xs ++ ys))
    in-ids [] ys n (inl i) = absurd i
    in-ids [] ys n (inr i) = i
    in-ids (x ∷ xs) ys n (inl (inl e)) = inl e
    in-ids (x ∷ xs) ys n (inl (inr i)) = inr (in-ids xs ys n (inl i))
    in-ids (x ∷ xs) ys n (inr i) = inr (in-ids xs ys n (inr i))

pub later-heads : (before more : List Payload) → before ≢ [] → AreLawful before more → remote_heads more ≡ []
later-heads before [] some h = refl
later-heads before (p ∷ more) some h =
    let f = later-flush before p some h.0 in
    ap₂ (λ a b. a ++ b) f.no_heads (later-heads (before ++ p ∷ []) more (joined before p) h.1)

pub filtered : {X : Type 0} (f : X → Bool) (xs : List X) (x : X) → IsIn x (filter f xs) → IsIn x xs × (f x ≡ true)
filtered f [] x i = absurd i
filtered f (y ∷ xs) x i = by_test (f y) refl i (filtered f xs x)
  where
    by_test : (b : Bool) → f y ≡ b → IsIn x (if b then y ∷ filter f xs else filter f xs) → (IsIn x (filter f xs) → IsIn x xs × (f x ≡ true)) → IsIn x (y ∷ xs) × (f x ≡ true)
    by_test true e (inl g) rec = (inl g, ap f g ∙ e)
    by_test true e (inr j) rec = let r = rec j in (inr r.0, r.1)
    by_test false e j rec = let r = rec j in (inr r.0, r.1)

pub kept : {X : Type 0} (f : X → Bool) (xs : List X) (x : X) → IsIn x xs → f x ≡ true → IsIn x (filter f xs)
kept f [] x i e = i
kept f (y ∷ xs) x i e = by_test (f y) refl i (λ j. kept f xs x j e)
  where
    by_test : (b : Bool) → f y ≡ b → IsIn x (y ∷ xs) → (IsIn x xs → IsIn x (filter f xs)) → IsIn x (if b then y ∷ filter f xs else filter f xs)
    by_test true g (inl h) rec = inl h
    by_test true g (inr j) rec = inr (rec j)
    by_test false g (inl h) rec = absurd (true≢false (sym e ∙ ap f h ∙ g))
    by_test false g (inr j) rec = rec j

abbrev is_head : List Segment → Known → Bool
is_head ss k = is_in nat_eq k.id (map (λ (s : Segment). s.high) ss) && not (is_in nat_eq k.id (flat_map (λ (s : Segment). s.parents) ss))

-- ---- what a clone and a whole store have alike

-- a first payload, some of whose ids were cloned: of these it knows what a clone would, and each other one
pub record BeginsCloned (p : Payload) : Type 0 where
  pub first : p.before ≡ 0
  pub cloned : p.cloned ≤ p.after
  pub all_known : (id : ℕ) → p.cloned ≤ id → id < p.after → IsIn id (known_ids p)
  pub known : AllByRecursion (KnowsCloned p.cloned (known_ids p)) p.master

ends-known : (end : ℕ) (ids : List ℕ) (ss : List Segment) → AllByRecursion (λ (s : Segment). (s.low ≤ s.high) × (s.high < end)) ss
    → AllByRecursion (λ (s : Segment). IsIn s.high ids × AreAllIn (merge_parents s.parents) ids) ss → AllByRecursion (KnowsCloned end ids) ss
ends-known end ids [] w h = tt
ends-known end ids (s ∷ ss) w h =
    let under = w.0.1 in
    let least : s.high ≡ min s.high (end - 1) = omega (arith, under) in
    ((λ _. (subst (λ n. IsIn n ids) least h.0.0, h.0.1)), ends-known end ids ss w.1 h.1)

clone-begins : (p : Payload) → IsPayload p → IsClone p → BeginsCloned p
clone-begins p h c = record {
  first = c.first;
  cloned = (let e = c.cloned in omega (arith, e));
  all_known = λ id le lt. absurd (let e = c.cloned in omega (arith, e, le, lt));
  known = subst (λ n. AllByRecursion (KnowsCloned n (known_ids p)) p.master) (sym c.cloned)
      (ends-known p.after (known_ids p) p.master (meanings.follow-within p.before p.after p.master h.cover.master) c.known);
}

whole-begins : (p : Payload) → IsWholePayload p → BeginsCloned p
whole-begins p w = record { first = w.first; cloned = w.cloned; all_known = w.all_known; known = w.known }

-- ---- segments cut at an id

cut-gone : (end first last : ℕ) (ss : List Segment) → end ≤ first → Follow first last ss → cut_below end ss ≡ []
cut-gone end first last [] le f = refl
cut-gone end first last (s ∷ ss) le f =
    ap (λ b. cond b (record s { high = min s.high (end - 1) } ∷ cut_below end ss) (cut_below end ss)) (le-ltb s.low end (let e = f.0 in omega (arith, e, le)))
    ∙ cut-gone end (s.high + 1) last ss (let e = f.0 in let o = f.1 in omega (arith, e, o, le)) f.2

cut-row : (end first last : ℕ) (ss : List Segment) → first ≤ end → end ≤ last → Follow first last ss → Follow first end (cut_below end ss)
cut-row end first last [] le room f = (let e : first ≡ last = f in omega (arith, e, le, room))
cut-row end first last (s ∷ ss) le room f =
    let low = f.0 in
    ⊎_elim
    (λ (lt : s.low < end).
    subst (Follow first end) (sym (ap (λ b. cond b (record s { high = min s.high (end - 1) } ∷ cut_below end ss) (cut_below end ss)) (lt-ltb s.low end lt)))
    (⊎_elim
    (λ (under : s.high < end).
    let least : s.high ≡ min s.high (end - 1) = omega (arith, under) in
    subst (λ n. Follow first end (record s { high = n } ∷ cut_below end ss)) least (low, f.1, cut-row end (s.high + 1) last ss (omega (arith, under)) room f.2))
    (λ (over : end ≤ s.high).
    let least : end - 1 ≡ min s.high (end - 1) = omega (arith, over) in
    let next : end - 1 + 1 ≡ end = omega (arith, lt) in
    subst (λ n. Follow first end (record s { high = n } ∷ cut_below end ss)) least
    (low, omega (arith, low, lt), subst (Follow (end - 1 + 1) end) (sym (cut-gone end (s.high + 1) last ss (omega (arith, over)) f.2)) next))
    (cases_lt s.high end)))
    (λ (ge : end ≤ s.low).
    let at : first ≡ end = omega (arith, low, ge, le) in
    subst (Follow first end) (sym (cut-gone end first last (s ∷ ss) (omega (arith, at)) f)) at)
    (cases_lt s.low end)

cut-in : (end : ℕ) (ss : List Segment) (t : Segment) → IsIn t (cut_below end ss) → (s : Segment) × IsIn s ss × (s.low < end) × (t ≡ record s { high = min s.high (end - 1) })
cut-in end [] t i = absurd i
cut-in end (s ∷ ss) t i = by_test (nat_lt s.low end) refl i (cut-in end ss t)
  where
    by_test : (b : Bool) → nat_lt s.low end ≡ b → IsIn t (cond b (record s { high = min s.high (end - 1) } ∷ cut_below end ss) (cut_below end ss))
        → (IsIn t (cut_below end ss) → (q : Segment) × IsIn q ss × (q.low < end) × (t ≡ record q { high = min q.high (end - 1) }))
        → (q : Segment) × IsIn q (s ∷ ss) × (q.low < end) × (t ≡ record q { high = min q.high (end - 1) })
    by_test true e (inl g) rec = (s, inl refl, ltb-true s.low end e, g)
    by_test true e (inr j) rec = let r = rec j in (r.0, inr r.1, r.2, r.3)
    by_test false e j rec = let r = rec j in (r.0, inr r.1, r.2, r.3)

-- ---- the segments of the cloned ids

-- they are the first ids, so many; a table gives them the same parents; the highest of each segment is known, and the parents of merges
pub record AreCloned (flats : List Segment) (cloned : ℕ) (ids : List ℕ) (ss : List Segment) : Type 0 where
  pub row : Follow 0 cloned ss
  pub low : (s : Segment) → IsIn s ss → parents_at flats s.low ≡ s.parents
  pub inner : (s : Segment) → IsIn s ss → (x : ℕ) → s.low < x → x ≤ s.high → parents_at flats x ≡ (x - 1) ∷ []
  pub below : (s : Segment) → IsIn s ss → (q : ℕ) → IsIn q s.parents → q < s.low
  pub knows : (s : Segment) → IsIn s ss → IsIn s.high ids × AreAllIn (merge_parents s.parents) ids

-- of a first payload, and a table that gives its ids the same parents
module _ (p : Payload) (begins : BeginsCloned p) (whole : IsPayload p) (flats : List Segment) (same : (id : ℕ) → id < p.after → parents_at flats id ≡ parents_at p.master id) where
  all-row : Follow 0 p.after p.master
  all-row = subst (λ n. Follow n p.after p.master) begins.first whole.cover.master

  at-low : (s : Segment) → IsIn s p.master → parents_at flats s.low ≡ s.parents
  at-low s i =
      let w = follow-within 0 p.after p.master all-row s i in
      let order = w.1 in let high = w.2 in
      same s.low (omega (arith, order, high))
      ∙ ap (λ o. parents_in o s.low) (segment-there 0 p.after p.master all-row s i s.low (le_refl _) w.1)
      ∙ ap (λ b. if b then s.parents else (s.low - 1) ∷ []) (same-self s.low)

  at-inner : (s : Segment) → IsIn s p.master → (x : ℕ) → s.low < x → x ≤ s.high → parents_at flats x ≡ (x - 1) ∷ []
  at-inner s i x lt le =
      let w = follow-within 0 p.after p.master all-row s i in
      let high = w.2 in
      same x (omega (arith, le, high))
      ∙ ap (λ o. parents_in o x) (segment-there 0 p.after p.master all-row s i x (omega (arith, lt)) le)
      ∙ ap (λ b. if b then s.parents else (x - 1) ∷ []) (other (nat_eq x s.low) refl)
    where
      other : (b : Bool) → nat_eq x s.low ≡ b → b ≡ false
      other true e = absurd (let z = same-exact x s.low e in omega (arith, z, lt))
      other false e = refl

  cut-of : (t : Segment) → IsIn t (cut_below p.cloned p.master) → (s : Segment) × IsIn s p.master × (s.low < p.cloned) × (t ≡ record s { high = min s.high (p.cloned - 1) })
  cut-of = cut-in p.cloned p.master

  pub cloned-are : AreCloned flats p.cloned (known_ids p) (cut_below p.cloned p.master)
  cloned-are = record {
    row = cut-row p.cloned 0 p.after p.master zero-le begins.cloned all-row;
    low = λ t i. let (s, j, lt, e) = cut-of t i in subst (λ (t : Segment). parents_at flats t.low ≡ t.parents) (sym e) (at-low s j);
    inner = λ t i x lt le.
        let (s, j, under, e) = cut-of t i in
        let first = ap (λ (t : Segment). t.low) e in
        let last = ap (λ (t : Segment). t.high) e in
        let least : min s.high (p.cloned - 1) ≤ s.high = omega arith in
        at-inner s j x (omega (arith, first, lt)) (omega (arith, last, le, least));
    below = λ t i. let (s, j, lt, e) = cut-of t i in
        subst (λ (t : Segment). (q : ℕ) → IsIn q t.parents → q < t.low) (sym e)
        (λ q k. each (λ q. q < s.low) s.parents (each (λ (s : Segment). AllByRecursion (λ q. q < s.low) s.parents) p.master whole.parents.master s j) q k);
    knows = λ t i. let (s, j, lt, e) = cut-of t i in
        subst (λ (t : Segment). IsIn t.high (known_ids p) × AreAllIn (merge_parents t.parents) (known_ids p)) (sym e)
        (each (KnowsCloned p.cloned (known_ids p)) p.master begins.known s j lt);
  }

-- ---- the heads of cloned ids

module _ (flats : List Segment) (cloned : ℕ) (ks : List Known) (ss : List Segment) (c : AreCloned flats cloned (map (λ (k : Known). k.id) ks) ss) (bound : ℕ)
    (known : List Known) (own : (k : Known) → IsIn k ks → IsIn k known) (late : (id : ℕ) → cloned ≤ id → id < bound → IsIn id (map (λ (k : Known). k.id) known)) where
  abbrev g : Graph ℕ
  g = table_graph flats

  -- down a segment
  down : (s : Segment) → IsIn s ss → (n x j : ℕ) → x ≡ j + n → s.low ≤ j → x ≤ s.high → Reaches g x j
  down s i zero x j e low high = subst (λ z. Reaches g z j) (let f : j ≡ x = omega (arith, e) in f) (reaches-self g j)
  down s i (suc n) x j e low high =
      reaches-parent g x (x - 1) j (subst (IsIn (x - 1)) (sym (c.inner s i x (omega (arith, e, low)) high)) (inl refl)) (down s i n (x - 1) j (omega (arith, e)) low (omega (arith, high)))

  -- each parent lies below
  falls : (x q : ℕ) → x < cloned → IsIn q (parents_at flats x) → q < x
  falls x q lt i =
      let (s, j, low, high) = segment-of 0 cloned ss c.row x zero-le lt in
      by_place s j low high (le_or_lt x s.low)
    where
      by_place : (s : Segment) → IsIn s ss → s.low ≤ x → x ≤ s.high → (x ≤ s.low) ⊎ (s.low < x) → q < x
      by_place s j low high (inl le) =
          let e : x ≡ s.low = omega (arith, le, low) in
          let b = c.below s j q (subst (IsIn q) (ap (parents_at flats) e ∙ c.low s j) i) in omega (arith, b, e)
      by_place s j low high (inr gt) = ⊎_elim (λ e. omega (arith, e, gt)) (λ n. absurd n) (subst (IsIn q) (c.inner s j x gt high) i)

  walk-down : (walk : List ℕ) (x y : ℕ) → x < cloned → IsWalk g x walk y → y ≤ x
  walk-down [] x y lt w = omega (arith, w)
  walk-down (q ∷ more) x y lt w = let f = falls x q lt w.0 in let r = walk-down more q y (omega (arith, lt, f)) w.1 in omega (arith, f, r)

  -- ---- up to a head

  abbrev Head : ℕ → Type 0
  Head h = (k : Known) × IsIn k (filter (is_head ss) ks) × (k.id ≡ h)

  high-known : (s : Segment) → IsIn s ss → (k : Known) × IsIn k ks × (k.id ≡ s.high)
  high-known s i = known-of-id ks s.high (c.knows s i).0

  climb : (n id : ℕ) → id < cloned → cloned ≤ id + n → (h : ℕ) × Head h × Reaches g h id
  climb zero id lt le = absurd (omega (arith, lt, le))
  climb (suc n) id lt le =
      let (s, i, low, high) = segment-of 0 cloned ss c.row id zero-le lt in
      let w = follow-within 0 cloned ss c.row s i in
      by_test s i low high w.2 (is_in nat_eq s.high (flat_map (λ (s : Segment). s.parents) ss)) refl (λ j a b. climb n j a b)
    where
      by_test : (s : Segment) → IsIn s ss → s.low ≤ id → id ≤ s.high → s.high < cloned → (b : Bool) → is_in nat_eq s.high (flat_map (λ (s : Segment). s.parents) ss) ≡ b
          → ((j : ℕ) → j < cloned → cloned ≤ j + n → (h : ℕ) × Head h × Reaches g h j) → (h : ℕ) × Head h × Reaches g h id
      by_test s i low high top true e rec =
          let (t, j, q) = in-flat (λ (s : Segment). s.parents) ss s.high (found nat_eq same-exact same-self s.high (flat_map (λ (s : Segment). s.parents) ss) e) in
          let over = c.below t j s.high q in
          let w = follow-within 0 cloned ss c.row t j in
          let order = w.1 in let bound-t = w.2 in
          let r = rec t.low (omega (arith, order, bound-t)) (omega (arith, le, high, over)) in (
            r.0,
            r.1,
            reaches-trans g r.0 t.low id r.2
                (reaches-parent g t.low s.high id (subst (IsIn s.high) (sym (c.low t j)) q) (down s i (s.high - id) s.high id (omega (arith, high)) low (le_refl _))),
          )
      by_test s i low high top false e rec =
          let (k, j, is) = high-known s i in
          let at : is_in nat_eq k.id (map (λ (s : Segment). s.high) ss) ≡ true =
          there nat_eq same-exact same-self k.id (map (λ (s : Segment). s.high) ss) (subst (λ z. IsIn z (map (λ (s : Segment). s.high) ss)) (sym is) (map-into (λ (s : Segment). s.high) ss s i)) in
          let no : is_in nat_eq k.id (flat_map (λ (s : Segment). s.parents) ss) ≡ false = ap (λ z. is_in nat_eq z (flat_map (λ (s : Segment). s.parents) ss)) is ∙ e in
          (s.high, (k, kept (is_head ss) ks k j (ap₂ (λ a b. a && not b) at no), is), down s i (s.high - id) s.high id (omega (arith, high)) low (le_refl _))

  has : (k : Known) → IsIn k ks → HasName known k.id k.name
  has k i = own k i

  head-below : (k : Known) → is_head ss k ≡ true → k.id < cloned
  head-below k e =
      let high = (and_true (is_in nat_eq k.id (map (λ (s : Segment). s.high) ss)) (not (is_in nat_eq k.id (flat_map (λ (s : Segment). s.parents) ss))) e).0 in
      let (s, i, is) = from-map (λ (s : Segment). s.high) ss k.id (found nat_eq same-exact same-self k.id (map (λ (s : Segment). s.high) ss) high) in
      let top = (follow-within 0 cloned ss c.row s i).2 in
      omega (arith, is, top)

  pub heads-of : (heads : List Name) → heads ≡ heads_among ss ks → cloned ≤ bound → AreHeads flats known bound cloned heads
  heads-of heads e le = record {
    room = le;
    each = λ name i.
        let (k, j, n) = from-map (λ (k : Known). k.name) (filter (is_head ss) ks) name (subst (IsIn name) e i) in
        let f = filtered (is_head ss) ks k j in
        (k.id, subst (HasName known k.id) (sym n) (has k f.0), head-below k f.1);
    merges = λ head merge parent h r two i. merge-known head merge parent h.below r two i;
    reach = λ id lt none. reached id lt none;
  }
    where
      two-or-more : (ps : List ℕ) → 2 ≤ length ps → merge_parents ps ≡ ps
      two-or-more [] le = absurd (omega (arith, le))
      two-or-more (a ∷ []) le = absurd (omega (arith, le))
      two-or-more (a ∷ b ∷ ps) le = refl

      merge-known : (head merge parent : ℕ) → head < cloned → Reaches g head merge → 2 ≤ length (parents_at flats merge) → IsIn parent (parents_at flats merge) → (name : Name) × HasName known parent name
      merge-known head merge parent lt r two i =
          let fall = walk-down r.0 head merge lt r.1 in
          let (s, j, low, high) = segment-of 0 cloned ss c.row merge zero-le (omega (arith, fall, lt)) in
          by_place s j low high (le_or_lt merge s.low)
        where
          by_place : (s : Segment) → IsIn s ss → s.low ≤ merge → merge ≤ s.high → (merge ≤ s.low) ⊎ (s.low < merge) → (name : Name) × HasName known parent name
          by_place s j low high (inl b) =
              let at : merge ≡ s.low = omega (arith, b, low) in
              let are : parents_at flats merge ≡ s.parents = ap (parents_at flats) at ∙ c.low s j in
              let all = (c.knows s j).1 in
              let (k, l, is) = known-of-id ks parent (all-in (merge_parents s.parents) (map (λ (k : Known). k.id) ks) all parent
              (subst (IsIn parent) (sym (two-or-more s.parents (subst (λ z. 2 ≤ length z) are two))) (subst (IsIn parent) are i))) in
              (k.name, subst (λ z. HasName known z k.name) is (has k l))
          by_place s j low high (inr gt) = absurd (let one = ap (length {A = ℕ}) (c.inner s j merge gt high) in omega (arith, one, two))

      reached : (id : ℕ) → id < bound → ((name : Name) → HasName known id name → ⊥) → (head : ℕ) × IsHeadId known cloned heads head × Reaches g head id
      reached id lt none = ⊎_elim
          (λ (late-id : cloned ≤ id). let (k, i, is) = known-of-id known id (late id late-id lt) in absurd (none k.name (subst (λ z. HasName known z k.name) is i)))
          (λ (own-id : id < cloned).
          let r = climb cloned id own-id (omega arith) in
          let k = r.1.0 in
          let f = filtered (is_head ss) ks k r.1.1 in (
            r.0,
            record {
              name = k.name;
              head = subst (IsIn k.name) (sym e) (map-into (λ (k : Known). k.name) (filter (is_head ss) ks) k r.1.1);
              is_known = subst (λ z. HasName known z k.name) r.1.2 (has k f.0);
              below = (let b = head-below k f.1 in let is = r.1.2 in omega (arith, b, is));
            },
            r.2,
          ))
          (le_or_lt cloned id)

  -- an id without a name has one at or above it in its segment, where the table's segments go on as far as ids have no other parent
  pub anchored-of : cloned ≤ bound
      → ((id h : ℕ) → id ≤ h → h < bound → ((x : ℕ) → id < x → x ≤ h → parents_at flats x ≡ (x - 1) ∷ []) → (s : Segment) × IsIn s flats × IsInSegment id s × (h ≤ s.high))
      → AreAnchored flats known bound cloned
  anchored-of room reach id lazy = ⊎_elim
      (λ (late-id : cloned ≤ id). let (k, i, is) = known-of-id known id (late id late-id lazy.0) in absurd (lazy.1 k.name (subst (λ z. HasName known z k.name) is i)))
      (λ (own-id : id < cloned).
      let (s, i, low, high) = segment-of 0 cloned ss c.row id zero-le own-id in
      let w = follow-within 0 cloned ss c.row s i in
      let top = w.2 in
      let (k, j, is) = high-known s i in
      let (t, inside, holds, over) = reach id s.high high (omega (arith, top, room)) (λ x lt le. c.inner s i x (omega (arith, low, lt)) le) in
      record { segment = t; inside = inside; holds = holds; anchor = s.high; name = k.name; over = high; top = over; below = top; is_known = subst (λ z. HasName known z k.name) is (has k j) })
      (le_or_lt cloned id)

-- ---- payloads some of whose commits have no name

no-lazy : (ps : List Payload) (w : World Name) → ((id : ℕ) → id < length w.master → IsIn id (map (λ (k : Known). k.id) (known_in ps))) → has_lazy ps w ≡ true → ⊥
no-lazy ps w all h =
    let (id, i, e) = any-in (is_lazy ps w) (range_with_len 0 (length w.master)) h in
    let parts = and_true (nat_lt id (length w.master)) (not (is_in nat_eq id (map (λ (k : Known). k.id) (known_in ps)))) e in
    not-both (is_in nat_eq id (map (λ (k : Known). k.id) (known_in ps))) parts.1
    (there nat_eq same-exact same-self id (map (λ (k : Known). k.id) (known_in ps)) (all id (ltb-true id (length w.master) parts.0)))
  where
    not-both : (b : Bool) → not b ≡ true → b ≡ true → ⊥
    not-both true e f = true≢false (sym e)
    not-both false e f = true≢false (sym f)

in-both : (xs ys : List Known) (n : ℕ) → IsIn n (map (λ (k : Known). k.id) xs) ⊎ IsIn n (map (λ (k : Known). k.id) ys) → IsIn n (map (λ (k : Known). k.id) (xs ++ ys))
in-both [] ys n (inl i) = absurd i
in-both [] ys n (inr i) = i
in-both (x ∷ xs) ys n (inl (inl e)) = inl e
in-both (x ∷ xs) ys n (inl (inr i)) = inr (in-both xs ys n (inl i))
in-both (x ∷ xs) ys n (inr i) = inr (in-both xs ys n (inr i))

-- they begin with a clone, or with a whole store of which some ids were cloned
pub cloned-first : (ps : List Payload) (w : World Name) → AreLawful [] ps → StandFor ps w → has_lazy ps w ≡ true
    → (p : Payload) × (rest : List Payload) × (ps ≡ p ∷ rest) × BeginsCloned p × (p.heads ≡ cloned_head_names p)
cloned-first [] w h s lazy = absurd (no-lazy [] w (λ id lt. absurd (let c = s.count in omega (arith, c, lt))) lazy)
cloned-first (p ∷ rest) w h s lazy = ⊎_elim
    (λ (f : IsFlush p). absurd (no-lazy (p ∷ rest) w (λ id lt. in-both p.known (known_in rest) id (which f id lt)) lazy))
    (λ o. ⊎_elim
    (λ (c : IsClone p). (p, rest, refl, clone-begins p h.0.whole c, h.0.clone_heads c.kind ∙ sym (heads-cloned p h.0.whole c.kind)))
    (λ (w : IsWholePayload p). (p, rest, refl, whole-begins p w, h.0.whole_heads w.kind)) o)
    h.0.whole.by_kind
  where
    which : IsFlush p → (id : ℕ) → id < length w.master → IsIn id (map (λ (k : Known). k.id) p.known) ⊎ IsIn id (map (λ (k : Known). k.id) (known_in rest))
    which f id lt = ⊎_elim
        (λ (a : p.after ≤ id). inr (later-known (p ∷ []) rest (some-first p []) h.1 id a (let c = s.count in omega (arith, c, lt))))
        (λ (a : id < p.after). inl (f.all_known id (let b = h.0.count in omega (arith, b)) a))
        (le_or_lt p.after id)
