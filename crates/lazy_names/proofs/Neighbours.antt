-- Runs of neighbours, and how many there are.
use Rattle.std.proofs.Common.{◌≡◌, ℕ, zero, suc, ◌+◌, ◌-◌, ◌<◌, ◌≤◌, ◌&&◌, not, Bool, true, false, inl, List, [], ◌∷◌, length, drop, Some, None, Ok, Err, Vec, Global, refl, sym, ap, subst, ◌∙◌, arith, ⊎_elim, true≢false, nat_eq, nat_le, if◌then◌else◌}
use Rattle.std.specs.Prelude.{slice_get, filter, min, IfOk}
use Rattle.std.specs.declared.result.Result.{Result}
use Rattle.std.proofs.lemmas.Bool.{leb-true, le-leb, eq-eqb, false_from_ne_true}
use Rattle.std.proofs.lemmas.Map.Views.{exact_unsigned_eq}
use Rattle.id_groups.specs.Lists.{IsIn, is_in}
use Rattle.id_groups.specs.Name.{Name}
use Rattle.id_groups.proofs.Listing.{and_true, both_true, not_true}
use Rattle.segment_codec.specs.Record.{Segment}
use Rattle.segment_codec.specs.Table.{IsLawful, IsHeld, IsInSegment}
use Rattle.segment_codec.proofs.Tables.{lawful-at, segment-in, le_or_lt}
use Rattle.lazy_names.specs.Cache.{Entry, cached_ids}
use Rattle.remote_rules.specs.Mirror.{Mirror}
use Rattle.lazy_names.specs.declared.fault.LazyFault.{LazyFault}
use Rattle.lazy_names.specs.declared.fetched.FetchedName.{FetchedName}
use Rattle.lazy_names.specs.Fetching.{IsUncached, IsRun, IsRunAnswer, is_uncached, count_uncached, ids_fetched, items_of}
use Rattle.lazy_names.specs.Neighbours.{low_in, low_of, goes_down, count_runs}
use Rattle.lazy_names.proofs.Runs.{uncached-true, key-true, uncached-run}

uncached-fact : (entries : List Entry) (id : ℕ) → is_uncached entries id ≡ true → IsUncached entries id
uncached-fact entries id e = λ name i. not_true (is_in nat_eq id (cached_ids entries)) e (key-true entries id name i)

-- the flat segment of ids between one of them and where its segment begins
pub low-within : (flats : List Segment) → IsLawful flats → (s : Segment) → IsIn s flats → (first : ℕ) → IsInSegment first s → (id : ℕ) → s.low ≤ id → id ≤ first → low_of flats id ≡ s.low
low-within flats lawful s i first h id low top = let up = h.1 in ap (λ o. low_in o id) (lawful-at flats lawful id s i (low, omega (arith, top, up)))

pub low-same : (flats : List Segment) → IsLawful flats → (first low : ℕ) → IsHeld flats first → low ≡ low_of flats first → (id : ℕ) → low ≤ id → id ≤ first → low_of flats id ≡ low
low-same flats lawful first low held is id le top =
    let same : low ≡ held.0.low = is ∙ ap (λ o. low_in o first) held.1 in
    let in_it = segment-in flats first held.0 held.1 in
    low-within flats lawful held.0 in_it.0 first in_it.1 id (omega (arith, same, le)) top ∙ sym same

pub first-in : (ids : List ℕ) (first : ℕ) → slice_get ids 0 ≡ Some first → IsIn first ids
first-in [] first e = cc
first-in (id ∷ ids) first e = inl (cc)

module _ (flats : List Segment) (entries : List Entry) where
  pub run-cached : (id : ℕ) (more : List ℕ) → is_uncached entries id ≡ false → count_runs flats entries (id ∷ more) ≡ count_runs flats entries more
  run-cached id more e = ap (λ b. if b && not (goes_down flats entries id more) then 1 + count_runs flats entries more else count_runs flats entries more) e

  run-ends : (id : ℕ) (more : List ℕ) → is_uncached entries id ≡ true → goes_down flats entries id more ≡ false → count_runs flats entries (id ∷ more) ≡ 1 + count_runs flats entries more
  run-ends id more e f =
      ap (λ b. if b && not (goes_down flats entries id more) then 1 + count_runs flats entries more else count_runs flats entries more) e
      ∙ ap (λ b. if true && not b then 1 + count_runs flats entries more else count_runs flats entries more) f

  run-on : (id : ℕ) (more : List ℕ) → goes_down flats entries id more ≡ true → count_runs flats entries (id ∷ more) ≡ count_runs flats entries more
  run-on id more f = ap (λ b. if is_uncached entries id && not b then 1 + count_runs flats entries more else count_runs flats entries more) f ∙ by_test (is_uncached entries id)
    where
      by_test : (b : Bool) → (if b && not true then 1 + count_runs flats entries more else count_runs flats entries more) ≡ count_runs flats entries more
      by_test true = refl
      by_test false = refl

  -- an id without a name in the cache is in some run
  pub some-run : (ids : List ℕ) → 1 ≤ count_uncached entries ids → 1 ≤ count_runs flats entries ids
  some-run [] h = absurd (omega (arith, h))
  some-run (id ∷ more) h = by_test (is_uncached entries id) refl h (some-run more)
    where
      first-of : (more : List ℕ) → goes_down flats entries id more ≡ true → 1 ≤ count_uncached entries more
      first-of [] e = absurd (true≢false (sym e))
      first-of (next ∷ more) e =
          let un = (and_true (nat_eq (next + 1) id && nat_le (low_of flats id) next) (is_uncached entries next) e).1 in
          by_next (is_uncached entries next) un
        where
          by_next : (b : Bool) → b ≡ true → 1 ≤ length (if b then next ∷ filter (is_uncached entries) more else filter (is_uncached entries) more)
          by_next true e = omega arith
          by_next false e = absurd (true≢false (sym e))

      by_down : (b : Bool) → goes_down flats entries id more ≡ b → is_uncached entries id ≡ true → (1 ≤ count_uncached entries more → 1 ≤ count_runs flats entries more) → 1 ≤ count_runs flats entries (id ∷ more)
      by_down true e un rec = let on = run-on id more e in let some = rec (first-of more e) in omega (arith, on, some)
      by_down false e un rec = let end = run-ends id more un e in omega (arith, end)

      by_test : (b : Bool) → is_uncached entries id ≡ b → 1 ≤ length (if b then id ∷ filter (is_uncached entries) more else filter (is_uncached entries) more)
          → (1 ≤ count_uncached entries more → 1 ≤ count_runs flats entries more) → 1 ≤ count_runs flats entries (id ∷ more)
      by_test true e h rec = by_down (goes_down flats entries id more) refl e rec
      by_test false e h rec = let on = run-cached id more e in let some = rec h in omega (arith, on, some)

  pub few-run : (ids : List ℕ) → min 1 (count_uncached entries ids) ≤ count_runs flats entries ids
  few-run ids = ⊎_elim (λ le. let some = some-run ids le in omega (arith, le, some)) (λ lt. omega (arith, lt)) (le_or_lt 1 (count_uncached entries ids))

  -- the first id has a name in the cache
  pub cached-run : (ids : List ℕ) (first : ℕ) (name : Name) → slice_get ids 0 ≡ Some first → IsIn (first, name) entries → count_runs flats entries ids ≡ count_runs flats entries (drop 1 ids)
  cached-run [] first name e i = cc
  cached-run (id ∷ ids) first name e i = let is : id ≡ first = cc in run-cached id ids (ap not (subst (λ n. is_in nat_eq n (cached_ids entries) ≡ true) (sym is) (key-true entries first name i)))

  -- The first ids, so many, are a run, and the next one doesn't go on from it: behind them there is one run fewer.
  pub run-whole : (count : ℕ) (ids : List ℕ) (first low : ℕ) → ((id : ℕ) → low ≤ id → id ≤ first → low_of flats id ≡ low) → IsRun entries ids first low count → 0 < count
      → ((next : ℕ) → slice_get ids count ≡ Some next → next + count ≡ first → low ≤ next → IsUncached entries next → ⊥)
      → count_runs flats entries ids ≡ 1 + count_runs flats entries (drop count ids)
  run-whole zero ids first low same run some ends = absurd (omega (arith, some))
  run-whole (suc count) [] first low same run some ends = absurd (let at = (run 0 (omega arith)).0 in let bad : None ≡ Some (first - 0) = at in cc)
  run-whole (suc zero) (id ∷ ids) first low same run some ends =
      let here = run 0 (omega arith) in
      let is : id ≡ first = let at : Some id ≡ Some (first - 0) = here.0 in let e : id ≡ first - 0 = cc in omega (arith, e) in
      run-ends id ids (uncached-true entries id (subst (IsUncached entries) (let z : first - 0 ≡ id = omega (arith, is) in z) here.2))
      (false_from_ne_true (goes_down flats entries id ids) (by_ids ids is (λ next e. ends next e)))
    where
      by_ids : (more : List ℕ) → id ≡ first → ((next : ℕ) → slice_get more 0 ≡ Some next → next + 1 ≡ first → low ≤ next → IsUncached entries next → ⊥) → goes_down flats entries id more ≡ true → ⊥
      by_ids [] is ends e = true≢false (sym e)
      by_ids (next ∷ more) is ends e =
          let a = and_true (nat_eq (next + 1) id && nat_le (low_of flats id) next) (is_uncached entries next) e in
          let b = and_true (nat_eq (next + 1) id) (nat_le (low_of flats id) next) a.0 in
          let down = exact_unsigned_eq (next + 1) id b.0 in
          let within = (run 0 (omega arith)).1 in
          let low_is = same id (omega (arith, within, is)) (omega (arith, is)) in
          let le = leb-true (low_of flats id) next b.1 in
          ends next refl (omega (arith, down, is)) (omega (arith, le, low_is)) (uncached-fact entries next a.1)
  run-whole (suc (suc count)) (id ∷ ids) first low same run some ends =
      let here = run 0 (omega arith) in
      let is : id ≡ first = let at : Some id ≡ Some (first - 0) = here.0 in let e : id ≡ first - 0 = cc in omega (arith, e) in
      let next = run 1 (omega arith) in
      let within = next.1 in
      run-on id ids (by_ids ids is next.0 next.2 (omega (arith, within)))
      ∙ run-whole (suc count) ids (first - 1) low (λ n l t. same n l (omega (arith, t))) (later is within) (omega arith)
      (λ n e sum l u. ends n e (omega (arith, sum, within)) l u)
    where
      by_ids : (more : List ℕ) → id ≡ first → slice_get more 0 ≡ Some (first - 1) → IsUncached entries (first - 1) → 1 + low ≤ first → goes_down flats entries id more ≡ true
      by_ids [] is e un le = cc
      by_ids (n ∷ more) is e un le =
          let down : n ≡ first - 1 = cc in
          let low_is = same id (omega (arith, le, is)) (omega (arith, is)) in
          both_true (nat_eq (n + 1) id && nat_le (low_of flats id) n) (is_uncached entries n)
          (both_true (nat_eq (n + 1) id) (nat_le (low_of flats id) n) (eq-eqb (n + 1) id (omega (arith, down, is, le))) (le-leb (low_of flats id) n (omega (arith, low_is, down, le))))
          (uncached-true entries n (subst (IsUncached entries) (sym down) un))

      later : id ≡ first → 1 + low ≤ first → IsRun entries ids (first - 1) low (suc count)
      later is le = λ k lt.
          let r = run (suc k) (omega (arith, lt)) in
          let one : first - suc k ≡ first - 1 - k = omega arith in
          let below = r.1 in
          (subst (λ n. slice_get ids k ≡ Some n) one r.0, omega (arith, below), subst (IsUncached entries) one r.2)

-- what asking for the names of a run gives
pub runs-answer : (flats : List Segment) (entries : List Entry) (ids : List ℕ) (first low count : ℕ) → IsRun entries ids first low count → 0 < count → count ≤ length ids
    → count_runs flats entries ids ≡ 1 + count_runs flats entries (drop count ids)
    → (x : Name) (back : ℕ) (before now : List Mirror) (result : Result (Vec FetchedName Global) LazyFault) → IsRunAnswer x back ids count before now (items_of result)
    → IfOk result (λ part. count_runs flats entries ids ≡ min 1 (count_uncached entries (ids_fetched part.items)) + count_runs flats entries (drop (length part.items) ids))
runs-answer flats entries ids first low count run some few fewer x back before now (Ok part) h =
    let all : count_uncached entries (ids_fetched part.items) ≡ count = ap (count_uncached entries) h.0 ∙ uncached-run entries ids first low count run few in
    let behind = ap (λ n. count_runs flats entries (drop n ids)) h.1 in
    omega (arith, all, behind, some, fewer)
runs-answer flats entries ids first low count run some few fewer x back before now (Err fault) h = tt
