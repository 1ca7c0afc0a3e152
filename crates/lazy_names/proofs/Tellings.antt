-- Runs that are told ahead are those that are asked.
use Rattle.std.proofs.Common.{◌≡◌, true, false, true≢false, ℕ, ◌+◌, ◌-◌, ◌<◌, ◌≤◌, inl, inr, List, [], ◌∷◌, ◌++◌, length, drop, take, Option, Some, None, Ok, Err, refl, sym, ap, subst, ◌∙◌, arith, ⊎_elim, append-nil, append_assoc}
use Rattle.std.specs.Prelude.{slice_get}
use Rattle.std.specs.Option.{is_some}
use Rattle.std.specs.declared.result.Result.{Result}
use Rattle.std.proofs.lemmas.List.{length-append}
use Rattle.id_groups.specs.Lists.{IsIn}
use Rattle.id_groups.specs.Name.{Name}
use Rattle.batch_codec.specs.Payload.{Known}
use Rattle.segment_codec.specs.Record.{Segment}
use Rattle.segment_codec.specs.Table.{IsLawful}
use Rattle.segment_codec.proofs.Tables.{lawful-at, le_or_lt}
use Rattle.remote_rules.specs.Asking.{total}
use Rattle.remote_rules.specs.Mirror.{Mirror}
use Rattle.remote_trait.specs.Runs.{Run}
use Rattle.lazy_names.specs.declared.fault.LazyFault.{LazyFault}
use Rattle.lazy_names.specs.declared.fetched.FetchedName.{FetchedName}
use Rattle.lazy_names.specs.Cache.{Entry}
use Rattle.lazy_names.specs.Standing.{HasName}
use Rattle.lazy_names.specs.Fetching.{IsAnchor, IsCached, IsUncached, IsRunAnswer, count_uncached, names_fetched}
use Rattle.lazy_names.specs.Neighbours.{count_runs}
use Rattle.lazy_names.specs.Ahead.{IsFirstRun, IsFirstCached, Turn, IsTurn, AreTurns, AreAhead, AddsTurn, AreTold, IsRunAsked, AreRunsAsked, AsksTurn, TakesTurn, EndsTurns, GathersBy, size_of, asks_of, sizes_of, runs_of, counts_of, AreOnce}
use Rattle.lazy_names.proofs.Runs.{uncached-run, cached-alone}
use Rattle.lazy_names.proofs.Neighbours.{low-within, run-whole, cached-run}
use Rattle.lazy_names.proofs.Gathering.{drop-more, whole-front}

sizes-append : (turns : List Turn) (turn : Turn) → sizes_of (turns ++ turn ∷ []) ≡ sizes_of turns + size_of turn
sizes-append [] turn = omega arith
sizes-append (t ∷ more) turn = let r = sizes-append more turn in omega (arith, r)

runs-append : (turns : List Turn) (turn : Turn) → runs_of (turns ++ turn ∷ []) ≡ runs_of turns ++ asks_of turn
runs-append [] turn = append-nil (asks_of turn)
runs-append (t ∷ more) turn = ap (λ l. asks_of t ++ l) (runs-append more turn) ∙ sym (append_assoc (asks_of t) (runs_of more) (asks_of turn))

pub some-cached : (entries : List Entry) (id : ℕ) (found : Option Name) → true ≡ is_some found → IsCached entries id found → (name : Name) × IsIn (id, name) entries
some-cached entries id (Some name) e h = (name, h)
some-cached entries id None e h = absurd (true≢false e)

pub none-cached : (entries : List Entry) (id : ℕ) (found : Option Name) → false ≡ is_some found → IsCached entries id found → IsUncached entries id
none-cached entries id None e h = h
none-cached entries id (Some name) e h = absurd (true≢false (sym e))

module _ (flats : List Segment) (known : List Known) (entries : List Entry) where
  pub turns-then : (ids : List ℕ) (turns : List Turn) (turn : Turn) → AreTurns flats known entries ids turns → IsTurn flats known entries (drop (sizes_of turns) ids) turn
      → AreTurns flats known entries ids (turns ++ turn ∷ [])
  turns-then ids [] turn h g = (g, tt)
  turns-then ids (t ∷ more) turn h g =
      (h.0, turns-then (drop (size_of t) ids) more turn h.1 (subst (λ l. IsTurn flats known entries l turn) (drop-more (size_of t) (sizes_of more) ids) g))

  pub ahead-none : (ids : List ℕ) (runs : List Run) → runs ≡ [] → AreAhead flats known entries ids runs 0
  ahead-none ids runs e = record { turns = []; are = tt; runs_are = e; counted = refl }

  pub ahead-then : (ids : List ℕ) (runs : List Run) (at : ℕ) → AreAhead flats known entries ids runs at → (count : ℕ) (now : List Run) → AddsTurn flats known entries (drop at ids) count runs now
      → AreAhead flats known entries ids now (at + count)
  ahead-then ids runs at h count now a =
      let at_is = h.counted in let count_is = a.counted in let sum = sizes-append h.turns a.turn in
      record {
        turns = h.turns ++ a.turn ∷ [];
        are = turns-then ids h.turns a.turn h.are (subst (λ n. IsTurn flats known entries (drop n ids) a.turn) h.counted a.is);
        runs_are = a.added ∙ ap (λ l. l ++ asks_of a.turn) h.runs_are ∙ sym (runs-append h.turns a.turn);
        counted = omega (arith, at_is, count_is, sum);
      }

  pub adds-cached : (ids : List ℕ) (first : ℕ) (name : Name) (runs : List Run) → slice_get ids 0 ≡ Some first → IsIn (first, name) entries → AddsTurn flats known entries ids 1 runs runs
  adds-cached ids first name runs e i = record { turn = None; is = record { first = first; name = name; at = e; cached = i }; counted = refl; added = sym (append-nil runs) }

  pub adds-run : (ids : List ℕ) (run : Run) (count : ℕ) (before now : List Run) → count ≡ run.count → IsFirstRun flats known entries ids run → now ≡ before ++ run ∷ []
      → AddsTurn flats known entries ids count before now
  adds-run ids run count before now e is added = record { turn = Some run; is = is; counted = e; added = added }

  -- ---- what is asked first is one and the same

  one-low : IsLawful flats → (id : ℕ) (x y : Name) (a b low least : ℕ) → IsAnchor flats known id x a low → IsAnchor flats known id y b least → low ≡ least
  one-low lawful id x y a b low least h g =
      let same : Some h.segment ≡ Some g.segment = sym (lawful-at flats lawful id h.segment h.inside h.holds) ∙ lawful-at flats lawful id g.segment g.inside g.holds in
      let one : h.segment ≡ g.segment = cc in
      h.lowest ∙ ap (λ (s : Segment). s.low) one ∙ sym g.lowest

  no-nearer : (id : ℕ) (x y : Name) (a b low least : ℕ) → IsAnchor flats known id x a low → IsAnchor flats known id y b least → a < b → ⊥
  no-nearer id x y a b low least h g lt = g.least (id + a) (omega arith) (omega (arith, lt)) x h.is_known

  one-back : (id : ℕ) (x y : Name) (a b low least : ℕ) → IsAnchor flats known id x a low → IsAnchor flats known id y b least → a ≡ b
  one-back id x y a b low least h g = ⊎_elim
      (λ le. ⊎_elim (λ ge. omega (arith, le, ge)) (λ lt. absurd (no-nearer id x y a b low least h g lt)) (le_or_lt b a))
      (λ lt. absurd (no-nearer id y x b a least low g h lt))
      (le_or_lt a b)

  no-shorter : (ids : List ℕ) (a b : Run) (h : IsFirstRun flats known entries ids a) (g : IsFirstRun flats known entries ids b) → h.first ≡ g.first → h.low ≡ g.low → a.count < b.count → ⊥
  no-shorter ids a b h g first low lt =
      let r = g.goes a.count lt in let within = r.1 in
      h.ends (g.first - a.count) r.0 (omega (arith, first, within)) (omega (arith, low, within)) r.2

  one-run : IsLawful flats → AreOnce known → (ids : List ℕ) (a b : Run) → IsFirstRun flats known entries ids a → IsFirstRun flats known entries ids b → a ≡ b
  one-run lawful once ids a b h g =
      let firsts : Some h.first ≡ Some g.first = sym h.at ∙ g.at in
      let first : h.first ≡ g.first = cc in
      let anchor : IsAnchor flats known g.first a.from a.back h.low = subst (λ n. IsAnchor flats known n a.from a.back h.low) first h.anchor in
      let low = one-low lawful g.first a.from b.from a.back b.back h.low g.low anchor g.anchor in
      let back = one-back g.first a.from b.from a.back b.back h.low g.low anchor g.anchor in
      let from : a.from ≡ b.from = once (g.first + b.back) a.from b.from (subst (λ n. HasName known (g.first + n) a.from) back anchor.is_known) g.anchor.is_known in
      let count : a.count ≡ b.count = ⊎_elim
      (λ le. ⊎_elim (λ ge. omega (arith, le, ge)) (λ lt. absurd (no-shorter ids a b h g first low lt)) (le_or_lt b.count a.count))
      (λ lt. absurd (no-shorter ids b a g h (sym first) (sym low) lt))
      (le_or_lt a.count b.count) in
      let made : Name → ℕ → ℕ → Run = λ x n m. record { from = x; back = n; count = m } in
      let one : made a.from a.back a.count ≡ made b.from b.back b.count = ap (λ x. made x a.back a.count) from ∙ ap (λ n. made b.from n a.count) back ∙ ap (λ n. made b.from b.back n) count in
      one

  not-both : (ids : List ℕ) (run : Run) → IsFirstCached entries ids → IsFirstRun flats known entries ids run → ⊥
  not-both ids run h g =
      let firsts : Some h.first ≡ Some g.first = sym h.at ∙ g.at in
      let first : h.first ≡ g.first = cc in
      g.uncached h.name (subst (λ n. IsIn (n, h.name) entries) first h.cached)

  pub one-turn : IsLawful flats → AreOnce known → (ids : List ℕ) (t u : Turn) → IsTurn flats known entries ids t → IsTurn flats known entries ids u → t ≡ u
  one-turn lawful once ids None None h g = refl
  one-turn lawful once ids None (Some b) h g = absurd (not-both ids b h g)
  one-turn lawful once ids (Some a) None h g = absurd (not-both ids a g h)
  one-turn lawful once ids (Some a) (Some b) h g = ap (λ r. Some r) (one-run lawful once ids a b h g)

  -- turns for the same ids: the fewer are a front of the others
  pub turns-front : IsLawful flats → AreOnce known → (ids : List ℕ) (xs ys : List Turn) → AreTurns flats known entries ids xs → AreTurns flats known entries ids ys → length xs ≤ length ys
      → (rest : List Turn) × (ys ≡ xs ++ rest)
  turns-front lawful once ids [] ys h g le = (ys, refl)
  turns-front lawful once ids (x ∷ xs) [] h g le = absurd (omega (arith, le))
  turns-front lawful once ids (x ∷ xs) (y ∷ ys) h g le =
      let one = one-turn lawful once ids x y h.0 g.0 in
      let r = turns-front lawful once (drop (size_of x) ids) xs ys h.1 (subst (λ t. AreTurns flats known entries (drop (size_of t) ids) ys) (sym one) g.1) (omega (arith, le)) in
      (r.0, ap (λ t. t ∷ ys) (sym one) ∙ ap (λ l. x ∷ l) r.1)

  -- ---- how many runs they are, and for how many names

  turn-runs : IsLawful flats → (ids : List ℕ) (turn : Turn) → IsTurn flats known entries ids turn → count_runs flats entries ids ≡ length (asks_of turn) + count_runs flats entries (drop (size_of turn) ids)
  turn-runs lawful ids None h = cached-run flats entries ids h.first h.name h.at h.cached ∙ omega arith
  turn-runs lawful ids (Some run) h =
      run-whole flats entries run.count ids h.first h.low
      (λ id le top. let lowest = h.anchor.lowest in low-within flats lawful h.anchor.segment h.anchor.inside h.first h.anchor.holds id (omega (arith, le, lowest)) top ∙ sym h.anchor.lowest)
      h.goes h.some h.ends

  pub turns-runs : IsLawful flats → (ids : List ℕ) (turns : List Turn) → AreTurns flats known entries ids turns
      → count_runs flats entries ids ≡ length (runs_of turns) + count_runs flats entries (drop (sizes_of turns) ids)
  turns-runs lawful ids [] h = omega arith
  turns-runs lawful ids (t ∷ more) h =
      let one = turn-runs lawful ids t h.0 in let rest = turns-runs lawful (drop (size_of t) ids) more h.1 in
      let sum = length-append (asks_of t) (runs_of more) in
      let behind = ap (count_runs flats entries) (drop-more (size_of t) (sizes_of more) ids) in
      omega (arith, one, rest, sum, behind)

  turn-names : (ids : List ℕ) (turn : Turn) → IsTurn flats known entries ids turn → count_uncached entries (take (size_of turn) ids) ≡ total (counts_of (asks_of turn))
  turn-names ids None h = cached-alone entries ids h.first h.name h.at h.cached
  turn-names ids (Some run) h = uncached-run entries ids h.first h.low run.count h.goes h.few ∙ omega arith

  pub sum-of : (xs ys : List Run) → total (counts_of (xs ++ ys)) ≡ total (counts_of xs) + total (counts_of ys)
  sum-of [] ys = omega arith
  sum-of (x ∷ xs) ys = let r = sum-of xs ys in omega (arith, r)

  pub turns-names : (ids : List ℕ) (turns : List Turn) → AreTurns flats known entries ids turns
      → count_uncached entries ids ≡ total (counts_of (runs_of turns)) + count_uncached entries (drop (sizes_of turns) ids)
  turns-names ids [] h = omega arith
  turns-names ids (t ∷ more) h =
      let one = turn-names ids t h.0 in let whole = whole-front entries (size_of t) ids in let rest = turns-names (drop (size_of t) ids) more h.1 in
      let sum = sum-of (asks_of t) (runs_of more) in
      let behind = ap (count_uncached entries) (drop-more (size_of t) (sizes_of more) ids) in
      omega (arith, one, whole, rest, sum, behind)

  -- ---- what is told, turn by turn

  same-size : IsLawful flats → (ids : List ℕ) (t u : Turn) → IsTurn flats known entries ids t → IsTurn flats known entries ids u → size_of t ≡ size_of u
  same-size lawful ids None None h g = refl
  same-size lawful ids None (Some b) h g = absurd (not-both ids b h g)
  same-size lawful ids (Some a) None h g = absurd (not-both ids a g h)
  same-size lawful ids (Some a) (Some b) h g =
      let firsts : Some h.first ≡ Some g.first = sym h.at ∙ g.at in
      let first : h.first ≡ g.first = cc in
      let anchor : IsAnchor flats known g.first a.from a.back h.low = subst (λ n. IsAnchor flats known n a.from a.back h.low) first h.anchor in
      let low = one-low lawful g.first a.from b.from a.back b.back h.low g.low anchor g.anchor in
      ⊎_elim
      (λ le. ⊎_elim (λ ge. omega (arith, le, ge)) (λ lt. absurd (no-shorter ids a b h g first low lt)) (le_or_lt b.count a.count))
      (λ lt. absurd (no-shorter ids b a g h (sym first) (sym low) lt))
      (le_or_lt a.count b.count)

  pub told-next : IsLawful flats → (ids : List ℕ) (told : ℕ) → AreTold flats known entries ids told → (turn : Turn) → IsTurn flats known entries ids turn
      → (left : ℕ) → left ≡ told - size_of turn → AreTold flats known entries (drop (size_of turn) ids) left
  told-next lawful ids told (runs, h) turn is left e = by_turns h.turns h.are h.counted
    where
      by_turns : (turns : List Turn) → AreTurns flats known entries ids turns → told ≡ sizes_of turns → AreTold flats known entries (drop (size_of turn) ids) left
      by_turns [] are counted = let none : 0 ≡ left = omega (arith, counted, e) in ([], subst (AreAhead flats known entries (drop (size_of turn) ids) []) none (ahead-none (drop (size_of turn) ids) [] refl))
      by_turns (t ∷ more) are counted =
          let same = same-size lawful ids t turn are.0 is in
          (runs_of more, record { turns = more; are = subst (λ n. AreTurns flats known entries (drop n ids) more) same are.1; runs_are = refl; counted = omega (arith, counted, e, same) })

  pub told-part : IsLawful flats → (ids : List ℕ) (done part new : List FetchedName) → new ≡ done ++ part → (a b : List Mirror) → TakesTurn flats known entries (drop (length done) ids) a b (Ok part)
      → (told : ℕ) → AreTold flats known entries (drop (length done) ids) told → (left : ℕ) → left ≡ told - length part → AreTold flats known entries (drop (length new) ids) left
  told-part lawful ids done part new e a b (turn, is, size, asks) told h left f =
      let behind : drop (length new) ids ≡ drop (size_of turn) (drop (length done) ids) =
      ap (λ n. drop n ids) (ap length e ∙ length-append done part ∙ ap (λ n. length done + n) size) ∙ drop-more (length done) (size_of turn) ids in
      subst (λ l. AreTold flats known entries l left) (sym behind)
      (told-next lawful (drop (length done) ids) told h turn is left (f ∙ ap (λ n. told - n) size))

  -- ---- what is asked, turn by turn

  pub run-takes : (ids : List ℕ) (run : Run) → IsFirstRun flats known entries ids run → (before now : List Mirror) (result : Result (List FetchedName) LazyFault)
      → IsRunAnswer run.from run.back ids run.count before now result → TakesTurn flats known entries ids before now result
  run-takes ids run is before now (Ok part) h = (Some run, is, h.1, (names_fetched part, h.2))
  run-takes ids run is before now (Err fault) h = inr (run, is, h)

  -- turns whose names were gathered, so far
  pub record GoesBy (ids : List ℕ) (before now : List Mirror) (done : List FetchedName) : Type 0 where
    pub turns : List Turn
    pub are : AreTurns flats known entries ids turns
    pub sized : sizes_of turns ≡ length done
    pub asked : AreRunsAsked (runs_of turns) before now

  pub by-none : (ids : List ℕ) (ms : List Mirror) (done : List FetchedName) → done ≡ [] → GoesBy ids ms ms done
  by-none ids ms done e = record { turns = []; are = tt; sized = sym (ap length e); asked = refl }

  asked-then : (runs : List Run) (turn : Turn) (a b c : List Mirror) → AreRunsAsked runs a b → AsksTurn turn b c → AreRunsAsked (runs ++ asks_of turn) a c
  asked-then [] None a b c h g = g ∙ h
  asked-then [] (Some run) a b c h g = (c, subst (λ ms. IsRunAsked run ms c) h g, refl)
  asked-then (r ∷ more) turn a b c h g = (h.0, h.1, asked-then more turn h.0 b c h.2 g)

  pub by-then : (ids : List ℕ) (before between now : List Mirror) (done part new : List FetchedName) → GoesBy ids before between done → new ≡ done ++ part
      → (turn : Turn) → IsTurn flats known entries (drop (length done) ids) turn → length part ≡ size_of turn → AsksTurn turn between now → GoesBy ids before now new
  by-then ids before between now done part new h e turn is size asks =
      let sized = h.sized in let sum = sizes-append h.turns turn in let len = ap length e ∙ length-append done part in
      record {
        turns = h.turns ++ turn ∷ [];
        are = turns-then ids h.turns turn h.are (subst (λ n. IsTurn flats known entries (drop n ids) turn) (sym h.sized) is);
        sized = omega (arith, sized, sum, len, size);
        asked = subst (λ l. AreRunsAsked l before now) (sym (runs-append h.turns turn)) (asked-then (runs_of h.turns) turn before between now h.asked asks);
      }

  -- nothing was asked, and it ended with a fault
  pub by-nothing : (ids : List ℕ) (ms : List Mirror) (done : List FetchedName) (fault : LazyFault) → done ≡ [] → GathersBy flats known entries ids ms ms done (Some fault)
  by-nothing ids ms done fault e = record { turns = []; are = tt; sized = sym (ap length e); between = ms; asked = refl; ends = inl refl }

  pub by-end : (ids : List ℕ) (before now : List Mirror) (done : List FetchedName) → GoesBy ids before now done → GathersBy flats known entries ids before now done None
  by-end ids before now done h = record { turns = h.turns; are = h.are; sized = h.sized; between = now; asked = h.asked; ends = refl }

  pub by-fault : (ids : List ℕ) (before between now : List Mirror) (done : List FetchedName) (fault : LazyFault) → GoesBy ids before between done
      → TakesTurn flats known entries (drop (length done) ids) between now (Err fault) → GathersBy flats known entries ids before now done (Some fault)
  by-fault ids before between now done fault h t = record {
    turns = h.turns;
    are = h.are;
    sized = h.sized;
    between = between;
    asked = h.asked;
    ends = ⊎_elim (λ e. inl e) (λ r. inr (r.0, r.1, inr r.2)) t;
  }

  unkept : (ids : List ℕ) (between now : List Mirror) (fault : LazyFault) (turn : Turn) → IsTurn flats known entries ids turn → AsksTurn turn between now → EndsTurns flats known entries ids between now (Some fault)
  unkept ids between now fault None is e = inl e
  unkept ids between now fault (Some run) is a = inr (run, is, inl a)

  -- names came, and there was no memory to put them behind the others
  pub by-unkept : (ids : List ℕ) (before between now : List Mirror) (done part : List FetchedName) (fault : LazyFault) → GoesBy ids before between done
      → TakesTurn flats known entries (drop (length done) ids) between now (Ok part) → GathersBy flats known entries ids before now done (Some fault)
  by-unkept ids before between now done part fault h t = record {
    turns = h.turns;
    are = h.are;
    sized = h.sized;
    between = between;
    asked = h.asked;
    ends = unkept (drop (length done) ids) between now fault t.0 t.1 t.3;
  }

  -- ---- the law

  runs-split : (xs ys : List Turn) → runs_of (xs ++ ys) ≡ runs_of xs ++ runs_of ys
  runs-split [] ys = refl
  runs-split (x ∷ xs) ys = ap (λ l. asks_of x ++ l) (runs-split xs ys) ∙ sym (append_assoc (asks_of x) (runs_of xs) (runs_of ys))

  pub runs-front : (ids : List ℕ) (told asked : List Turn) → IsLawful flats → AreOnce known → AreTurns flats known entries ids told → AreTurns flats known entries ids asked → length told ≤ length asked
      → (later : List Run) × (runs_of asked ≡ runs_of told ++ later)
  runs-front ids told asked lawful once h g le = let r = turns-front lawful once ids told asked h g le in (runs_of r.0, ap runs_of r.1 ∙ runs-split told r.0)

  pub ahead-runs : (ids : List ℕ) (runs : List Run) (count : ℕ) → IsLawful flats → AreAhead flats known entries ids runs count
      → count_runs flats entries ids ≡ length runs + count_runs flats entries (drop count ids)
  ahead-runs ids runs count lawful h =
      let all = turns-runs lawful ids h.turns h.are in let size = ap length h.runs_are in let behind = ap (λ n. count_runs flats entries (drop n ids)) h.counted in
      omega (arith, all, size, behind)

  pub ahead-names : (ids : List ℕ) (runs : List Run) (count : ℕ) → AreAhead flats known entries ids runs count
      → count_uncached entries ids ≡ total (counts_of runs) + count_uncached entries (drop count ids)
  ahead-names ids runs count h =
      let all = turns-names ids h.turns h.are in let sum = ap (λ l. total (counts_of l)) h.runs_are in let behind = ap (λ n. count_uncached entries (drop n ids)) h.counted in
      omega (arith, all, sum, behind)

  -- ---- what was asked for and what is told

  some-size : (ids : List ℕ) (turn : Turn) → IsTurn flats known entries ids turn → 1 ≤ size_of turn
  some-size ids None h = omega arith
  some-size ids (Some run) h = h.some

  -- runs for none of the ids are none
  pub ahead-zero : (ids : List ℕ) (runs : List Run) → AreAhead flats known entries ids runs 0 → runs ≡ []
  ahead-zero ids runs h = h.runs_are ∙ by_turns h.turns h.are h.counted
    where
      by_turns : (turns : List Turn) → AreTurns flats known entries ids turns → 0 ≡ sizes_of turns → runs_of turns ≡ []
      by_turns [] are e = refl
      by_turns (t ∷ more) are e = let some = some-size ids t are.0 in absurd (omega (arith, some, e))

  turns-join : (ids : List ℕ) (xs ys : List Turn) → AreTurns flats known entries ids xs → AreTurns flats known entries (drop (sizes_of xs) ids) ys → AreTurns flats known entries ids (xs ++ ys)
  turns-join ids [] ys h g = g
  turns-join ids (x ∷ xs) ys h g =
      (h.0, turns-join (drop (size_of x) ids) xs ys h.1 (subst (λ l. AreTurns flats known entries l ys) (drop-more (size_of x) (sizes_of xs) ids) g))

  sizes-join : (xs ys : List Turn) → sizes_of (xs ++ ys) ≡ sizes_of xs + sizes_of ys
  sizes-join [] ys = omega arith
  sizes-join (x ∷ xs) ys = let r = sizes-join xs ys in omega (arith, r)

  -- behind the runs that were asked for, those that are told
  pub ahead-join : (ids : List ℕ) (asked : List Turn) (told : List Run) (count : ℕ) → AreTurns flats known entries ids asked → AreAhead flats known entries (drop (sizes_of asked) ids) told count
      → AreAhead flats known entries ids (runs_of asked ++ told) (sizes_of asked + count)
  ahead-join ids asked told count h g =
      let size = sizes-join asked g.turns in let is = g.counted in
      record {
        turns = asked ++ g.turns;
        are = turns-join ids asked g.turns h g.are;
        runs_are = ap (λ l. runs_of asked ++ l) g.runs_are ∙ sym (runs-split asked g.turns);
        counted = omega (arith, size, is);
      }
