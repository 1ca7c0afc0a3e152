-- What a remote told, item by item: the records of its segments, and its names.
use Rattle.std.proofs.Common.{◌≡◌, ◌<◌, ◌≤◌, ◌+◌, ◌^◌, ◌++◌, inl, inr, ℕ, List, [], ◌∷◌, Some, None, length, refl, sym, ap, ap₂, subst, ◌∙◌, ⊎_elim, arith, lit≤}
use Rattle.std.specs.Prelude.{slice_get, Result, Ok, Err, IfOk}
use Rattle.std.specs.List.{AllByRecursion}
use Rattle.std.proofs.lemmas.Bool.{lt-ltb}
use Rattle.id_groups.specs.Lists.{IsIn}
use Rattle.commit_graph.proofs.Naming.{each, all-each}
use Rattle.commit_graph.proofs.Places.{item-at}
use Rattle.segment_codec.specs.Record.{Segment, IsSegment, HasLevelsParents}
use Rattle.segment_codec.specs.Turns.{StandInTurn, place_behind}
use Rattle.remote_rules.specs.CloneData.{CloneData, KnownName, first_broken}
use Rattle.remote_rules.specs.Lawful.{MayStandHere, NamesInTurn, IsLawfulClone}
use Rattle.remote_rules.proofs.Unbroken.{unbroken-is-lawful}
use Rattle.change_rules.specs.Lawful.{MayFollow}
use Rattle.change_rules.specs.Change.{AreFormed, told_change}
use Rattle.change_rules.proofs.ToldClones.{told-follows}

-- the segment at a place may stand there
pub stands-at : (place : ℕ) (ss : List Segment) → StandInTurn MayStandHere place ss → (i : ℕ) (s : Segment) → slice_get ss i ≡ Some s → MayStandHere s.low s
stands-at place ss h i s e = in-turn place ss h (item-at ss i s e)
  where
    in-turn : (place : ℕ) (ss : List Segment) → StandInTurn MayStandHere place ss → IsIn s ss → MayStandHere s.low s
    in-turn place [] h i = absurd i
    in-turn place (t ∷ ss) h (inl f) = subst (λ (z : Segment). MayStandHere z.low z) (sym f) (subst (λ n. MayStandHere n t) (sym h.0.begins) h.0)
    in-turn place (t ∷ ss) h (inr j) = in-turn (t.high + 1) ss h.1 j

-- each segment ends before the place behind the last
pub ends-before : (place : ℕ) (ss : List Segment) → StandInTurn MayStandHere place ss → (s : Segment) → IsIn s ss → s.high < place_behind place ss
ends-before place [] h s i = absurd i
ends-before place (t ∷ ss) h s i = ⊎_elim (λ e. let l = rises (t.high + 1) ss h.1 in let f = ap (λ (z : Segment). z.high) e in omega (arith, l, f)) (ends-before (t.high + 1) ss h.1 s) i
  where
    rises : (place : ℕ) (ss : List Segment) → StandInTurn MayStandHere place ss → place ≤ place_behind place ss
    rises place [] h = omega arith
    rises place (u ∷ ss) h = let l = rises (u.high + 1) ss h.1 in let b = h.0.begins in let o = h.0.order in omega (arith, l, b, o)

-- it is a flat record, where it is of level 0 and has no more parents than a row
pub record-of : (s : Segment) → MayStandHere s.low s → s.high < 2 ^ 56 → s.level ≡ 0 → length s.parents ≤ 8 → IsSegment s
record-of s m high flat few = record {
  ascending = m.order;
  one_group = (let o = m.order in lt-ltb s.low (2 ^ 56) (omega (arith, o, high)) ∙ sym (lt-ltb s.high (2 ^ 56) high));
  valid = (let k : 2 ^ 56 ≤ 2 ^ 57 = lit≤ tt in omega (arith, k, high));
  level = omega (arith, flat);
  below = all-each (λ p. p < s.low) s.parents m.below;
  distinct = m.distinct;
  level_parents = subst (λ n. HasLevelsParents n s.parents) (sym flat) few;
}

-- each name's id is below the segments' end
pub names-below : (end : ℕ) (before ks : List KnownName) → NamesInTurn end before ks → AllByRecursion (λ (k : KnownName). k.id < end) ks
names-below end before [] h = tt
names-below end before (k ∷ ks) h = (h.0.within, names-below end (before ++ k ∷ []) ks h.1)

-- a segment of level 0 with these ids and parents
pub segment-is : (s : Segment) (low high : ℕ) (parents : List ℕ) → low ≡ s.low → high ≡ s.high → 0 ≡ s.level → parents ≡ s.parents → record { low = low; high = high; level = 0; parents = parents } ≡ s
segment-is s low high parents a b l p =
    ap₂ {C = Segment} (λ x y. record { low = x; high = y; level = 0; parents = parents }) a b
    ∙ ap₂ {C = Segment} (λ x y. record { low = s.low; high = s.high; level = x; parents = y }) l p

-- the ids of its parents are master ids
pub parents-below : (s : Segment) → MayStandHere s.low s → s.high < 2 ^ 56 → AllByRecursion (λ p. p < 2 ^ 56) s.parents
parents-below s m high = all-each (λ p. p < 2 ^ 56) s.parents (λ p i. let b = m.below p i in let o = m.order in omega (arith, b, o, high))

-- no segment has no id
pub none-told : (ss : List Segment) → length ss ≡ 0 → 0 ≡ place_behind 0 ss
none-told [] e = refl
none-told (s ∷ ss) e = absurd (omega (arith, e))

-- what was told, as it is read: it keeps its rules, and its payload may come first where its items are formed as their types say
module _ (told cloned : CloneData) (is : told ≡ cloned) (unbroken : first_broken cloned ≡ None) (count : ℕ) (counted : count ≡ place_behind 0 cloned.segments) where
  pub read-lawful : IsLawfulClone told
  read-lawful = (unbroken-is-lawful told).0 (subst (λ t. first_broken t ≡ None) (sym is) unbroken)

  pub read-count : count ≡ place_behind 0 told.segments
  read-count = subst (λ (t : CloneData). count ≡ place_behind 0 t.segments) (sym is) counted

  pub read-high : count ≤ 16777216 → (s : Segment) → IsIn s told.segments → s.high < 2 ^ 56
  read-high few s i =
      let b = ends-before 0 told.segments read-lawful.segments s i in let n = read-count in let k : 16777216 ≤ 2 ^ 56 = lit≤ tt in
      omega (arith, b, n, few, k)

  pub read-ids : count ≤ 16777216 → AllByRecursion (λ (k : KnownName). k.id < 2 ^ 56) told.names
  read-ids few = all-each (λ (k : KnownName). k.id < 2 ^ 56) told.names (λ q i.
      let b = each (λ (k : KnownName). k.id < place_behind 0 told.segments) told.names (names-below (place_behind 0 told.segments) [] told.names read-lawful.names) q i in
      let n = read-count in let k : 16777216 ≤ 2 ^ 56 = lit≤ tt in omega (arith, b, n, few, k))

  pub read-follows : 0 < count → count ≤ 16777216 → length cloned.heads ≤ 65535 → AreFormed told → MayFollow [] (told_change told)
  read-follows some few heads formed =
      let n = read-count in
      told-follows told read-lawful formed (omega (arith, n, some)) (omega (arith, n, few)) (subst (λ (t : CloneData). length t.heads ≤ 65535) (sym is) heads)

-- what holds anyhow
pub on-ok : {X E : Type 0} (r : Result X E) {P : Type 0} → P → IfOk r (λ x. P)
on-ok (Ok x) p = p
on-ok (Err e) p = tt
