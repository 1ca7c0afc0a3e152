-- A pull's calls on one mirror, one behind the other.
use Rattle.std.proofs.Common.{◌≡◌, ℕ, zero, suc, ◌+◌, ◌-◌, ◌<◌, ◌≤◌, inl, inr, List, [], ◌∷◌, ◌++◌, Option, Some, None, Ok, Err, is_some, true, length, map, take, drop, refl, sym, ap, subst, ◌∙◌, arith, true≢false}
use Rattle.std.specs.Prelude.{⊤, slice_get, reverse, IfSome, IfErr, OnOk}
use Rattle.std.specs.Option.{option_to_list}
use Rattle.std.specs.declared.result.Result.{Result}
use Rattle.std.proofs.Math.Seq.{take-add}
use Rattle.std.proofs.lemmas.List.{drop-drop, length-map}
use Rattle.std.proofs.lemmas.Bool.{eq-eqb}
use Rattle.std.proofs.lemmas.Map.Views.{exact_unsigned_eq}
use Rattle.std.specs.Prelude.{nat_eq}
use Rattle.outside.specs.Counts.{Rose}
use Rattle.id_groups.specs.Lists.{IsIn}
use Rattle.id_groups.specs.Name.{Name}
use Rattle.id_groups.proofs.Listing.{there}
use Rattle.commit_graph.specs.World.{Row, names_of}
use Rattle.segment_codec.specs.Record.{Segment}
use Rattle.segment_codec.specs.Table.{Follow}
use Rattle.segment_codec.specs.Turns.{place_behind}
use Rattle.segment_codec.proofs.Turns.{turn-follow, follow-behind}
use Rattle.remote_rules.specs.CloneData.{CloneData, KnownName, names_at, first_broken}
use Rattle.remote_rules.specs.Lawful.{MayStandHere, IsLawfulClone}
use Rattle.remote_rules.specs.Clones.{IsCloneOf}
use Rattle.remote_rules.specs.Mirror.{Mirror}
use Rattle.remote_rules.proofs.Unbroken.{unbroken-is-lawful}
use Rattle.remote_trait.specs.Calls.{Refreshes, Fails, ToldSo, AreMaster}
use Rattle.remote_trait.specs.Honest.{AreNamesOf}
use Rattle.remote_trait.specs.declared.fault.RemoteFault.TheVariants as remote
use Rattle.remote_trait.proofs.Items.{named-is}
use Rattle.mirror_set.specs.Asking.{IsItsClone}
use Rattle.mirror_set.specs.Round.{Stays}
use Rattle.mirror_set.specs.Fresh.{IsPulledFrom, IsItsFresh, AsksOn, AsksLine, GaveLine, AreNamesBelow, names_between, count_from}
use Rattle.mirror_set.specs.declared.pulling.PartFault.{PartFault}
use Rattle.mirror_set.specs.declared.pulling.PartFault.TheVariants as part
use Rattle.mirror_set.proofs.Rounds.{stays, stays-then}
use Rattle.mirror_set.proofs.FlatNames.{given-line, never-few}

-- ---- segments of clone data that break no rule

pub lawful : (told : CloneData) → first_broken told ≡ None → IsLawfulClone told
lawful told e = (unbroken-is-lawful told).0 e

pub told-follow : (told : CloneData) → first_broken told ≡ None → Follow 0 (place_behind 0 told.segments) told.segments
told-follow told e = turn-follow MayStandHere (λ place s m. let b = m.begins in let o = m.order in (b, omega (arith, b, o))) 0 told.segments (lawful told e).segments

segment-in : (segments : List Segment) (k : ℕ) (s : Segment) → slice_get segments k ≡ Some s → IsIn s segments
segment-in [] k s e = cc
segment-in (t ∷ segments) zero s e = let is : t ≡ s = cc in inl (sym is)
segment-in (t ∷ segments) (suc k) s e = inr (segment-in segments k s e)

follow-grows : (first end : ℕ) (segments : List Segment) → Follow first end segments → first ≤ end
follow-grows first end [] f = omega (arith, f)
follow-grows first end (s ∷ more) f = let a = f.1 in let b = follow-grows (s.high + 1) end more f.2 in omega (arith, a, b)

-- where a segment stands, and how far those before it and with it go
pub record StandsAt (end place behind : ℕ) (s : Segment) : Type 0 where
  pub low : s.low ≡ place
  pub order : s.low ≤ s.high
  pub next : behind ≡ s.high + 1
  pub within : s.high < end

stands-at : (first end : ℕ) (segments : List Segment) → Follow first end segments → (k : ℕ) (s : Segment) → slice_get segments k ≡ Some s
    → StandsAt end (place_behind first (take k segments)) (place_behind first (take (suc k) segments)) s
stands-at first end [] f k s e = cc
stands-at first end (t ∷ more) f zero s e =
    let is : t ≡ s = cc in
    let a = f.0 in let b = f.1 in let c = follow-grows (t.high + 1) end more f.2 in
    subst (StandsAt end first (t.high + 1)) is (record { low = a; order = omega (arith, a, b); next = refl; within = omega (arith, c) })
stands-at first end (t ∷ more) f (suc k) s e = stands-at (t.high + 1) end more f.2 k s e

pub place-grows : (first end : ℕ) (segments : List Segment) → Follow first end segments → (k : ℕ) → (place_behind first (take k segments) ≤ end) × (first ≤ place_behind first (take k segments))
place-grows first end segments f zero = (follow-grows first end segments f, omega arith)
place-grows first end [] f (suc k) = (omega (arith, f), omega arith)
place-grows first end (s ∷ more) f (suc k) = let a = f.1 in let r = place-grows (s.high + 1) end more f.2 k in let b = r.1 in (r.0, omega (arith, a, b))

pub at-segment : (told : CloneData) → first_broken told ≡ None → (k : ℕ) (s : Segment) → slice_get told.segments k ≡ Some s
    → StandsAt (place_behind 0 told.segments) (place_behind 0 (take k told.segments)) (place_behind 0 (take (k + 1) told.segments)) s
at-segment told e k s at =
    let next : suc k ≡ k + 1 = omega arith in
    subst (λ n. StandsAt (place_behind 0 told.segments) (place_behind 0 (take k told.segments)) (place_behind 0 (take n told.segments)) s) next
    (stands-at 0 (place_behind 0 told.segments) told.segments (told-follow told e) k s at)

-- a world's clone data end where its master does
pub clone-ends : (rows : List (Row Name)) (told : CloneData) → IsCloneOf rows told → place_behind 0 told.segments ≡ length rows
clone-ends rows told c = follow-behind 0 _ told.segments c.segments.follow ∙ length-map rows _

-- the highest id of a segment has a name
pub high-named : (told : CloneData) → first_broken told ≡ None → (k : ℕ) (s : Segment) → slice_get told.segments k ≡ Some s → (found : Option Name) → names_at told.names s.high ≡ option_to_list found → is_some found ≡ true
high-named told e k s at found named =
    named-is told.names s.high found named
    ∙ there nat_eq exact_unsigned_eq (λ z. eq-eqb z z refl) s.high (map (λ (k : KnownName). k.id) told.names) ((lawful told e).needed s s.high (segment-in told.segments k s at) (inl refl))

pub never-unnamed : (told : CloneData) → first_broken told ≡ None → (k : ℕ) (s : Segment) → slice_get told.segments k ≡ Some s → names_at told.names s.high ≡ option_to_list None → ⊥
never-unnamed told e k s at named = true≢false (sym (high-named told e k s at None named))

-- ---- what calls leave

told-fewer : (a b c : Option ℕ) → ToldSo a b (λ m n. n ≤ m) → ToldSo b c (λ m n. n < m) → ToldSo a c (λ m n. n < m)
told-fewer None None None h g = tt
told-fewer None None (Some z) h g = g
told-fewer None (Some y) c h g = absurd h
told-fewer (Some x) None c h g = absurd h
told-fewer (Some x) (Some y) None h g = g
told-fewer (Some x) (Some y) (Some z) h g = omega (arith, h, g)

rose-behind : (a b c : ℕ) → a ≤ b → Rose b c → Rose a c
rose-behind a b c le r = omega (arith, le, r)

fails-behind : (a b c : Mirror) → a.faults ≤ b.faults → ToldSo a.to_come b.to_come (λ m n. n ≤ m) → Fails b c → Fails a c
fails-behind a b c le to f = record { faults = rose-behind a.faults b.faults c.faults le f.faults; to_come = told-fewer a.to_come b.to_come c.to_come to f.to_come }

-- asks behind others
pub asks-then : (told : CloneData) (first most limit : ℕ) → first + most ≤ limit → (a b c : Mirror) → Stays first a b → (fault : PartFault) → AsksOn told most b c (Err fault) → AsksOn told limit a c (Err fault)
asks-then told first most limit le a b c s part.Failed o = (stays-then first most limit le a b c s o.0, fails-behind a b c s.faults s.to_come o.1)
asks-then told first most limit le a b c s (part.BadClone at) o = o
asks-then told first most limit le a b c s (part.BadNames asked given) o = (stays-then first most limit le a b c s o.0, o.1)
asks-then told first most limit le a b c s part.Memory o = stays-then first most limit le a b c s o

pub asks-stay : (told : CloneData) (most : ℕ) (a b : Mirror) (fault : PartFault) → AsksOn told most a b (Err fault) → Stays most a b
asks-stay told most a b part.Failed o = o.0
asks-stay told most a b (part.BadClone at) o = absurd o
asks-stay told most a b (part.BadNames asked given) o = o.0
asks-stay told most a b part.Memory o = o

pub failed-on : {T : Type 0} (told : CloneData) (most : ℕ) (a b : Mirror) (r : Result T PartFault) (x fault : PartFault) → r ≡ Err x → x ≡ fault → AsksOn told most a b (Err fault)
    → IfErr r (λ f. AsksOn told most a b (Err f))
failed-on told most a b r x fault e same o = subst (λ q. IfErr q (λ f. AsksOn told most a b (Err f))) (sym e) (subst (λ f. AsksOn told most a b (Err f)) (sym same) o)

-- ---- one call for names

-- ---- names of ids below an end

between-none : (rows : List (Row Name)) (from n : ℕ) → n ≡ 0 → names_between rows from n ≡ []
between-none rows from n e = ap (λ k. take k (drop from (names_of rows))) e ∙ none (drop from (names_of rows))
  where
    none : (xs : List Name) → take 0 xs ≡ []
    none xs = refl

module _ (told : CloneData) (e : first_broken told ≡ None) (from k : ℕ) (s : Segment) (at : slice_get told.segments k ≡ Some s) where
  -- a segment below the first id that is asked for
  pub below-from : s.high < from → (m : Mirror) (names : List Name) → AreNamesBelow from (place_behind 0 (take k told.segments)) told m names → AreNamesBelow from (place_behind 0 (take (k + 1) told.segments)) told m names
  below-from lt m names a =
      let t = at-segment told e k s at in
      let low = t.low in let order = t.order in let next = t.next in
      let same : place_behind 0 (take k told.segments) - from ≡ place_behind 0 (take (k + 1) told.segments) - from = omega (arith, low, order, next, lt) in
      by_master m.master a same
    where
      by_master : (o : Option (List (Row Name))) → IfSome o (λ rows. AreMaster rows → IsCloneOf rows told → names ≡ names_between rows from (place_behind 0 (take k told.segments) - from))
          → place_behind 0 (take k told.segments) - from ≡ place_behind 0 (take (k + 1) told.segments) - from
          → IfSome o (λ rows. AreMaster rows → IsCloneOf rows told → names ≡ names_between rows from (place_behind 0 (take (k + 1) told.segments) - from))
      by_master None h same = tt
      by_master (Some rows) h same = λ w c. h w c ∙ ap (names_between rows from) same

  pub count-below : s.high < from → place_behind 0 (take (k + 1) told.segments) - from ≡ place_behind 0 (take k told.segments) - from
  count-below lt =
      let t = at-segment told e k s at in
      let low = t.low in let order = t.order in let next = t.next in
      omega (arith, low, order, next, lt)

  module _ (le : from ≤ s.high) (x : Name) (named : names_at told.names s.high ≡ x ∷ []) (count : ℕ) (size : count ≡ s.high - (s.low + (from - s.low)) + 1) (a b : Mirror) (names more : List Name)
      (held : length names ≡ place_behind 0 (take k told.segments) - from) where
    -- how many are asked for
    pub count-asked : place_behind 0 (take (k + 1) told.segments) - from - length names ≡ count
    count-asked =
        let t = at-segment told e k s at in
        let low = t.low in let order = t.order in let next = t.next in
        omega (arith, low, order, next, le, size, held)

    sizes : (count ≤ s.high + 1 - s.low) × (s.high + 1 - count ≡ from + (s.low - from)) × (place_behind 0 (take (k + 1) told.segments) - from ≡ place_behind 0 (take k told.segments) - from + count)
        × (place_behind 0 (take k told.segments) - from ≡ s.low - from)
    sizes =
        let t = at-segment told e k s at in
        let low = t.low in let order = t.order in let next = t.next in
        (omega (arith, order, le, size), omega (arith, order, le, size), omega (arith, low, order, next, le, size), omega (arith, low))

    -- a call for them, as one for the names of ids of the clone data
    pub asks-line : (result : Result ⊤ PartFault) → AsksLine x count names more a b result → AsksOn told (place_behind 0 (take (k + 1) told.segments) - from - length names) a b result
    asks-line result g = subst (λ n. AsksOn told n a b result) (sym count-asked) (by_result result g)
      where
        few : (given : ℕ) (o : Option (List (Row Name))) → given < count → IfSome o (λ rows. (got : List Name) × (length got ≡ given) × AreNamesOf rows x 0 count got × ⊤)
            → IfSome o (λ rows. AreMaster rows → IsCloneOf rows told → ⊥)
        few given None lt l = tt
        few given (Some rows) lt l = λ w c.
            let t = at-segment told e k s at in
            let under = t.within in
            let ends = clone-ends rows told c in
            let len = l.1 in
            never-few rows w told c s (segment-in told.segments k s at) (omega (arith, under, ends)) x named count sizes.0 l.0 l.2 (omega (arith, len, lt))

        by_result : (result : Result ⊤ PartFault) → AsksLine x count names more a b result → AsksOn told count a b result
        by_result (Ok done) g = g.0
        by_result (Err part.Failed) g = g
        by_result (Err (part.BadClone at)) g = g
        by_result (Err (part.BadNames asked given)) g = let is = g.1 in let lt = g.2 in (g.0, record { fewer = omega (arith, is, lt); untold = few given b.master g.2 g.3 })
        by_result (Err part.Memory) g = g

    -- with them the names are those of all ids up to the highest
    pub names-line : Stays count a b → GaveLine x count count b (λ got. more ≡ names ++ reverse got)
        → AreNamesBelow from (place_behind 0 (take k told.segments)) told a names → AreNamesBelow from (place_behind 0 (take (k + 1) told.segments)) told b more
    names-line st l h = by_master b.master l (subst (λ o. IfSome o (λ rows. AreMaster rows → IsCloneOf rows told → names ≡ names_between rows from (place_behind 0 (take k told.segments) - from))) (sym st.master) h)
      where
        by_master : (o : Option (List (Row Name))) → IfSome o (λ rows. (got : List Name) × (length got ≡ count) × AreNamesOf rows x 0 count got × (more ≡ names ++ reverse got))
            → IfSome o (λ rows. AreMaster rows → IsCloneOf rows told → names ≡ names_between rows from (place_behind 0 (take k told.segments) - from))
            → IfSome o (λ rows. AreMaster rows → IsCloneOf rows told → more ≡ names_between rows from (place_behind 0 (take (k + 1) told.segments) - from))
        by_master None l h = tt
        by_master (Some rows) l h = λ w c.
            let t = at-segment told e k s at in
            let under = t.within in
            let ends = clone-ends rows told c in
            let len = l.1 in
            let ns = names_of rows in
            let line = given-line rows w told c s (segment-in told.segments k s at) (omega (arith, under, ends)) x named count sizes.0 l.0 l.2 (omega (arith, len)) in
            let place = place_behind 0 (take k told.segments) - from in
            let whole : reverse l.0 ≡ take count (drop place (drop from ns)) =
            line ∙ ap (λ n. take n (drop (s.high + 1 - n) ns)) len ∙ ap (λ n. take count (drop n ns)) (sizes.1 ∙ ap (λ n. from + n) (sym sizes.3)) ∙ ap (take count) (sym (drop-drop place from ns)) in
            l.3 ∙ ap (λ z. z ++ reverse l.0) (h w c) ∙ ap (λ z. names_between rows from place ++ z) whole ∙ sym (take-add place count (drop from ns)) ∙ ap (names_between rows from) (sym sizes.2)

    pub count-line : (result : Result ⊤ PartFault) → AsksLine x count names more a b result → OnOk result (length more ≡ place_behind 0 (take (k + 1) told.segments) - from)
    count-line (Ok done) g = let size_now = g.1 in let sum = sizes.2 in omega (arith, size_now, sum, held)
    count-line (Err fault) g = tt

    pub named-line : (result : Result ⊤ PartFault) → AsksLine x count names more a b result
        → OnOk result (AreNamesBelow from (place_behind 0 (take k told.segments)) told a names → AreNamesBelow from (place_behind 0 (take (k + 1) told.segments)) told b more)
    named-line (Ok done) g = names-line g.0 g.2
    named-line (Err fault) g = tt

-- ---- segment by segment

place-next : (first end : ℕ) (segments : List Segment) → Follow first end segments → (k : ℕ) → place_behind first (take k segments) ≤ place_behind first (take (suc k) segments)
place-next first end [] f zero = omega arith
place-next first end [] f (suc k) = omega arith
place-next first end (s ∷ more) f zero = let a = f.1 in omega (arith, a)
place-next first end (s ∷ more) f (suc k) = place-next (s.high + 1) end more f.2 k

-- the names of the ids of the first segments, so many, were asked for
pub record SoFar (told : CloneData) (from k : ℕ) (before now : Mirror) (names : List Name) : Type 0 where
  pub stay : Stays (length names) before now
  pub count : length names ≡ place_behind 0 (take k told.segments) - from
  pub below : AreNamesBelow from (place_behind 0 (take k told.segments)) told now names

module _ (told : CloneData) (e : first_broken told ≡ None) (from k : ℕ) (before mid now : Mirror) (names more : List Name) (h : SoFar told from k before mid names) where
  reach : (place_behind 0 (take k told.segments) ≤ place_behind 0 (take (k + 1) told.segments)) × (place_behind 0 (take (k + 1) told.segments) ≤ place_behind 0 told.segments)
  reach =
      let f = told-follow told e in
      let next : suc k ≡ k + 1 = omega arith in (
        subst (λ n. place_behind 0 (take k told.segments) ≤ place_behind 0 (take n told.segments)) next (place-next 0 (place_behind 0 told.segments) told.segments f k),
        (place-grows 0 (place_behind 0 told.segments) told.segments f (k + 1)).0,
      )

  pub so-next : Stays (place_behind 0 (take (k + 1) told.segments) - from - length names) mid now → length more ≡ place_behind 0 (take (k + 1) told.segments) - from
      → (AreNamesBelow from (place_behind 0 (take k told.segments)) told mid names → AreNamesBelow from (place_behind 0 (take (k + 1) told.segments)) told now more) → SoFar told from (k + 1) before now more
  so-next s c n =
      let up = reach.0 in let was = h.count in
      record { stay = stays-then (length names) (place_behind 0 (take (k + 1) told.segments) - from - length names) (length more) (omega (arith, up, was, c)) before mid now h.stay s; count = c; below = n h.below }

  pub so-failed : (fault : PartFault) → AsksOn told (place_behind 0 (take (k + 1) told.segments) - from - length names) mid now (Err fault) → AsksOn told (count_from from told) before now (Err fault)
  so-failed fault o =
      let up = reach.0 in let most = reach.1 in let was = h.count in
      asks-then told (length names) (place_behind 0 (take (k + 1) told.segments) - from - length names) (count_from from told) (omega (arith, up, most, was)) before mid now h.stay fault o

-- ---- all calls on one mirror

module _ (from : ℕ) (told : CloneData) (before mid now : Mirror) (r : Refreshes before mid) (i : IsItsClone told mid) where
  pub pulled-part : (most : ℕ) → most ≤ count_from from told → Stays most mid now → IsPulledFrom from before now
  pulled-part most le s = record { mid = mid; refreshed = r; most = most; stays = s; few = by_master mid.master now.master s.master i.honest }
    where
      by_master : (o p : Option (List (Row Name))) → p ≡ o → IfSome o (λ rows. IsCloneOf rows told) → IfSome p (λ rows. most ≤ length rows - from)
      by_master None None e h = tt
      by_master None (Some rows) e h = absurd (true≢false (ap is_some e))
      by_master (Some rows) None e h = tt
      by_master (Some rows) (Some new) e h =
          let same : new ≡ rows = cc in
          let ends = clone-ends rows told h in
          subst (λ l. most ≤ length l - from) (sym same) (omega (arith, ends, le))

  its-clone : (most : ℕ) → Stays most mid now → IsItsClone told now
  its-clone most s = record {
    told = subst (λ o. IfSome o (λ t. told ≡ t)) (sym s.cloned) i.told;
    honest = subst (λ o. IfSome o (λ rows. IsCloneOf rows told)) (sym s.master) i.honest;
  }

  pub fresh-whole : first_broken told ≡ None → (most : ℕ) → Stays most mid now → (names : List Name) → length names ≡ count_from from told → AreNamesBelow from (place_behind 0 told.segments) told now names
      → IsItsFresh from (record { cloned = told; names = names }) now
  fresh-whole e most s names len h = record { clone = its-clone most s; unbroken = e; count = len; names = by_master now.master (its-clone most s).honest h }
    where
      by_master : (o : Option (List (Row Name))) → IfSome o (λ rows. IsCloneOf rows told) → IfSome o (λ rows. AreMaster rows → IsCloneOf rows told → names ≡ names_between rows from (place_behind 0 told.segments - from))
          → IfSome o (λ rows. AreMaster rows → names ≡ names_of (drop from rows))
      by_master None c h = tt
      by_master (Some rows) c h = λ w.
          let ends = clone-ends rows told c in
          let size : length (drop from (names_of rows)) ≤ place_behind 0 told.segments - from = subst (λ n. length (drop from (names_of rows)) ≤ n - from) (sym ends) (rest-length from rows) in
          h w c ∙ take_whole (place_behind 0 told.segments - from) (drop from (names_of rows)) size ∙ dropped from rows
        where
          rest-length : (n : ℕ) (rows : List (Row Name)) → length (drop n (names_of rows)) ≤ length rows - n
          rest-length zero [] = omega arith
          rest-length (suc n) [] = omega arith
          rest-length zero (row ∷ rows) = let r = rest-length zero rows in omega (arith, r)
          rest-length (suc n) (row ∷ rows) = let r = rest-length n rows in let same : suc (length rows) - suc n ≡ length rows - n = omega arith in omega (arith, r, same)

          take_whole : (n : ℕ) (xs : List Name) → length xs ≤ n → take n xs ≡ xs
          take_whole zero [] le = refl
          take_whole (suc n) [] le = refl
          take_whole zero (y ∷ xs) le = absurd (omega (arith, le))
          take_whole (suc n) (y ∷ xs) le = ap (λ l. y ∷ l) (take_whole n xs (omega (arith, le)))

          dropped : (n : ℕ) (rows : List (Row Name)) → drop n (names_of rows) ≡ names_of (drop n rows)
          dropped zero rows = refl
          dropped (suc n) [] = refl
          dropped (suc n) (row ∷ rows) = dropped n rows
