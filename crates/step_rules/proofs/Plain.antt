-- Where the log has each name, nothing is asked.
use Rattle.std.proofs.Common.{◌≡◌, ◌≤◌, ◌<◌, ◌⊎◌, ◌&&◌, not, ℕ, zero, suc, ◌+◌, Bool, true, false, inl, inr, List, [], ◌∷◌, ◌++◌, length, map, filter, min, ◌-◌, nat_lt, Option, Some, None, refl, sym, ap, ap₂, ◌∙◌, subst, subst₂, arith, ⊎_elim, MatchOption, true≢false, is_some, if◌then◌else◌, le_refl, zero-le, eq-or-lt_of_le}
use Rattle.std.specs.List.{AllByRecursion, range_with_len}
use Rattle.std.proofs.lemmas.Bool.{ltb-true}
use Rattle.id_groups.specs.Lists.{IsIn, is_in}
use Rattle.id_groups.proofs.Listing.{and_true, in-any}
use Rattle.id_groups.specs.Name.{Name, same_name}
use Rattle.commit_graph.specs.World.{Row, World, names_of, with_pending}
use Rattle.commit_graph.specs.Ids.{id_in}
use Rattle.set_expr.specs.Expr.{Expr, commits_in}
use Rattle.change_rules.specs.declared.Limits.{Limits}
use Rattle.change_rules.specs.Lazy.{is_lazy, has_lazy}
use Rattle.remote_rules.specs.CloneData.{KnownName}
use Rattle.remote_rules.specs.Mirror.{Mirror}
use Rattle.remote_rules.specs.Asking.{AsksForNames}
use Rattle.remote_rules.proofs.Asks.{idle}
use Rattle.step_rules.specs.declared.Refusal.{Refusal}
use Rattle.step_rules.specs.declared.Refusal.TheVariants as why
use Rattle.step_rules.specs.State.{State, Stored, Outside, pending_of, base_of, view_of}
use Rattle.step_rules.specs.Verb.{Verb, Add, Flush, Reload, Discard, Query, Count, IdOf, Status, Levels, Clone, Pull, Strip, CountMirrors, Drop}
use Rattle.step_rules.specs.Reply.{Reply, Listed}
use Rattle.step_rules.specs.Asked.{is_unnamed, is_asked, found_as, lazy_among, is_cached, is_found}
use Rattle.step_rules.specs.Tests.{Test, named, looked_up, unknown, pending_test, rebase_tests, is_on_newest, not_strippable, first_some, refused_first, refuse_if, tests}
use Rattle.step_rules.specs.Asking.{refused_by, Tries, TriesAll, CacheGoesOn}
use Rattle.step_rules.specs.Step.{Lists, Answers, CommandStep, IsRefused, GoesOutside, MayWantMemory, printing_test, answer_tests}
use Rattle.step_rules.specs.Plain.{HasAllNames, IsInside, PlainAnswers, PlainStep}
use Rattle.step_rules.proofs.Trying.{IsPlain}

no-more : {X : Type 0} (xs : List X) → length xs ≤ 0 → xs ≡ []
no-more [] h = refl
no-more (x ∷ xs) h = absurd (omega (arith, h))

-- a test for which nothing is asked
pub plain-tried : (old new : List Mirror) (test : Test) (verdict : Option Refusal) (gained : List KnownName) → IsPlain test → Tries old test verdict new gained
    → (new ≡ old) × (gained ≡ []) × (verdict ≡ test.refusal)
plain-tried old new test verdict gained p h =
    let still = idle h.0 h.1 old new (subst₂ (λ a b. AsksForNames a b h.0 old h.1 new) p.0 p.1 h.2) in (
      still.1,
      no-more gained (subst (λ n. length gained ≤ n) still.2 h.3.0),
      h.4 ∙ ap (λ e. refused_by e test.refusal) still.0,
    )

pub plain-tries : (old : List Mirror) (test : Test) → IsPlain test → Tries old test test.refusal old []
plain-tries old test p = (0, None, subst₂ (λ a b. AsksForNames a b 0 old None old) (sym p.0) (sym p.1) ([], tt, le_refl _, (λ le. absurd (omega (arith, le))), (refl, refl, refl)), (zero-le, λ k i. absurd i), refl)

pub all-tries : (W : Type 0) (old : List Mirror) (tests : List Test) → AllByRecursion IsPlain tests → TriesAll W old tests (refused_first tests) old []
all-tries W old [] p = (refl, refl, inl refl)
all-tries W old (test ∷ more) p = inr (test.refusal, old, [], plain-tries old test p.0, behind test.refusal (all-tries W old more p.1))
  where
    behind : (first : Option Refusal) → TriesAll W old more (refused_first more) old [] → MatchOption first ((b : List KnownName) × (◌≡◌ {A = List KnownName} [] ([] ++ b)) × TriesAll W old more (first_some (first ∷ map (λ t. t.refusal) more)) old b)
        (λ refusal. (first_some (first ∷ map (λ t. t.refusal) more) ≡ Some refusal) × (old ≡ old) × (◌≡◌ {A = List KnownName} [] []))
    behind None rec = ([], refl, rec)
    behind (Some r) rec = (refl, refl, refl)

pub all-memory : (W : Type 0) (old : List Mirror) (tests : List Test) → W → TriesAll W old tests (Some why.Memory) old []
all-memory W old [] w = (refl, refl, inr (w, refl))
all-memory W old (test ∷ more) w = inl (refl, refl, w, refl)

pub all-tried : (W : Type 0) (old new : List Mirror) (tests : List Test) (verdict : Option Refusal) (gained : List KnownName) → AllByRecursion IsPlain tests → TriesAll W old tests verdict new gained
    → (new ≡ old) × (gained ≡ []) × ((verdict ≡ refused_first tests) ⊎ (W × (verdict ≡ Some why.Memory)))
all-tried W old new [] verdict gained p h = h
all-tried W old new (test ∷ more) verdict gained p (inl h) = (h.0, h.1, inr (h.2, h.3))
all-tried W old new (test ∷ more) verdict gained p (inr h) =
    let t = plain-tried old h.1 test h.0 h.2 p.0 h.3 in
    behind h.0 h.4 t.0 t.1 t.2
    (λ b g. all-tried W h.1 new more verdict b p.1 g)
  where
    behind : (first : Option Refusal)
        → MatchOption first ((b : List KnownName) × (gained ≡ h.2 ++ b) × TriesAll W h.1 more verdict new b) (λ refusal. (verdict ≡ Some refusal) × (new ≡ h.1) × (gained ≡ h.2))
        → h.1 ≡ old → h.2 ≡ [] → first ≡ test.refusal
        → ((b : List KnownName) → TriesAll W h.1 more verdict new b → (new ≡ h.1) × (b ≡ []) × ((verdict ≡ refused_first more) ⊎ (W × (verdict ≡ Some why.Memory))))
        → (new ≡ old) × (gained ≡ []) × ((verdict ≡ refused_first (test ∷ more)) ⊎ (W × (verdict ≡ Some why.Memory)))
    behind None g m e f rec =
        let r = rec g.0 g.2 in (
          r.0 ∙ m,
          g.1 ∙ ap₂ (λ a b. a ++ b) e r.1,
          ⊎_elim (λ a. inl (a ∙ ap (λ o. first_some (o ∷ map (λ t. t.refusal) more)) f)) (λ b. inr b) r.2,
        )
    behind (Some r) g m e f rec = (g.1 ∙ m, g.2 ∙ e, inl (g.0 ∙ ap (λ o. first_some (o ∷ map (λ t. t.refusal) more)) f))

all-joined : (xs ys : List Test) → AllByRecursion IsPlain xs → AllByRecursion IsPlain ys → AllByRecursion IsPlain (xs ++ ys)
all-joined [] ys h k = k
all-joined (x ∷ xs) ys h k = (h.0, all-joined xs ys h.1 k)

-- a name that hasn't to be asked
not-asked : (asked : Bool) (finds : List KnownName) (refusal : Option Refusal) → asked ≡ false → IsPlain (named asked finds refusal)
not-asked true finds refusal e = absurd (true≢false e)
not-asked false finds refusal e = (refl, refl)

and-false : (a b : Bool) → a ≡ false → (a && b) ≡ false
and-false true b e = absurd (true≢false e)
and-false false b e = refl

false-and : (a b : Bool) → b ≡ false → (a && b) ≡ false
false-and true b e = e
false-and false b e = refl

module _ (st : Stored) (s : ℕ) where
  unasked : (w : World Name) → has_lazy st.payloads w ≡ false → (name : Name) → is_asked st s w name ≡ false
  unasked w h name = and-false (is_unnamed st w name) _ (and-false (has_lazy st.payloads w) _ h)

  all-unasked : (w : World Name) → has_lazy st.payloads w ≡ false → (refuse : Name → Option Refusal) (names : List Name) → AllByRecursion IsPlain (map (looked_up st s w refuse) names)
  all-unasked w h refuse [] = tt
  all-unasked w h refuse (name ∷ names) = (not-asked (is_asked st s w name) (found_as st w name) (refuse name) (unasked w h name), all-unasked w h refuse names)

  pending-unasked : has_lazy st.payloads st.stored ≡ false → (rows : List (Row Name)) → AllByRecursion IsPlain (map (pending_test st s) rows)
  pending-unasked h [] = tt
  pending-unasked h (row ∷ rows) = (
    not-asked (not (is_on_newest st s) && is_unnamed st st.stored row.name) (found_as st st.stored row.name) None
        (false-and (not (is_on_newest st s)) (is_unnamed st st.stored row.name) (and-false (has_lazy st.payloads st.stored) _ h)),
    pending-unasked h rows,
  )

  rebase-unasked : has_lazy st.payloads st.stored ≡ false → AllByRecursion IsPlain (rebase_tests st s)
  rebase-unasked h = all-joined (map (pending_test st s) (pending_of st s)) _ (pending-unasked h (pending_of st s)) ((refl, refl), ((refl, refl), tt))

  -- where each name is stored no test asks for one
  pub tests-plain : (limits : Limits) (verb : Verb) → HasAllNames st s → AllByRecursion IsPlain (tests limits st s verb)
  tests-plain limits (Add name parents) h = (
    not-asked (is_asked st s (base_of st s) name) (found_as st (base_of st s) name) None (unasked (base_of st s) h.base name),
    all-joined (map (looked_up st s (base_of st s) (unknown (view_of st s))) parents) _ (all-unasked (base_of st s) h.base (unknown (view_of st s)) parents)
        ((refl, refl), ((refl, refl), ((refl, refl), tt))),
  )
  tests-plain limits (Flush heads) h =
      all-joined (map (looked_up st s st.stored (unknown (with_pending st.stored (pending_of st s)))) heads ++ rebase_tests st s) _
      (all-joined (map (looked_up st s st.stored (unknown (with_pending st.stored (pending_of st s)))) heads) (rebase_tests st s)
      (all-unasked st.stored h.stored (unknown (with_pending st.stored (pending_of st s))) heads) (rebase-unasked h.stored))
      ((refl, refl), ((refl, refl), ((refl, refl), tt)))
  tests-plain limits Reload h = rebase-unasked h.stored
  tests-plain limits (Query e) h = all-unasked (base_of st s) h.base (unknown (view_of st s)) (commits_in e)
  tests-plain limits (Count e) h = all-unasked (base_of st s) h.base (unknown (view_of st s)) (commits_in e)
  tests-plain limits (IdOf name) h = (not-asked (is_asked st s (base_of st s) name) (found_as st (base_of st s) name) (unknown (view_of st s) name) (unasked (base_of st s) h.base name), tt)
  tests-plain limits (Strip names) h = (
    (refl, refl),
    all-joined (map (looked_up st s st.stored (not_strippable st.stored)) names) _
        (all-unasked st.stored h.stored (not_strippable st.stored) names) ((refl, refl), ((refl, refl), tt)),
  )
  tests-plain limits Clone h = ((refl, refl), ((refl, refl), tt))
  tests-plain limits Pull h = ((refl, refl), tt)
  tests-plain limits Discard h = tt
  tests-plain limits Status h = tt
  tests-plain limits Levels h = tt
  tests-plain limits CountMirrors h = tt
  tests-plain limits (Drop k) h = tt

abbrev none-known : List KnownName
none-known = []

in-range : (a n id : ℕ) → a ≤ id → id < a + n → IsIn id (range_with_len a n)
in-range a zero id low high = absurd (omega (arith, low, high))
in-range a (suc n) id low high = ⊎_elim (λ e. inl (sym e)) (λ lt. inr (in-range (a + 1) n id (omega (arith, lt)) (omega (arith, high)))) (eq-or-lt_of_le low)

-- where some commit has no stored name, the world has such a commit
module _ (st : Stored) (w : World Name) (none : has_lazy st.payloads w ≡ false) where
  not-lazy : (id : ℕ) → is_lazy st.payloads w id ≡ true → ⊥
  not-lazy id e =
      let below = ltb-true id (length w.master) (and_true (nat_lt id (length w.master)) _ e).0 in
      true≢false (sym (in-any (is_lazy st.payloads w) (range_with_len 0 (length w.master)) id (in-range 0 (length w.master) id zero-le (omega (arith, below))) e) ∙ none)

  finds-none : (name : Name) → found_as st w name ≡ []
  finds-none name = by_test (is_in same_name name (names_of w.master) && is_lazy st.payloads w (id_in same_name w name)) refl
    where
      by_test : (b : Bool) → (is_in same_name name (names_of w.master) && is_lazy st.payloads w (id_in same_name w name)) ≡ b
          → (if b then record { id = id_in same_name w name; name = name } ∷ [] else []) ≡ none-known
      by_test true e = absurd (not-lazy (id_in same_name w name) (and_true (is_in same_name name (names_of w.master)) _ e).1)
      by_test false e = refl

  pub lazy-none : (names : List Name) → lazy_among st w names ≡ []
  lazy-none [] = refl
  lazy-none (name ∷ names) = ap₂ (λ a b. a ++ b) (finds-none name) (lazy-none names)

outside-is : (a b : Outside) → a.cache ≡ b.cache → a.room ≡ b.room → a.mirrors ≡ b.mirrors → a ≡ b
outside-is a b e f g = ap₂ {C = Outside} (λ c (m : List Mirror). record { cache = c; room = a.room; mirrors = m }) e g ∙ ap (λ n. record { cache = b.cache; room = n; mirrors = b.mirrors }) f

pub outside-same : (st : State) (now : Stored) → GoesOutside st.outside st.outside.mirrors [] st.outside
outside-same st now = record { mirrors_are = refl; room = refl; cache = refl }

-- the state with this stored part
abbrev pub storing : State → Stored → State
storing st now = record { store = now; outside = st.outside }

-- the test of a query's names, where each is stored
printing-plain : (st : State) (s : ℕ) (names : List Name) → HasAllNames st.store s → IsPlain (printing_test st s [] names)
printing-plain st s names h = (
  ap (λ l. length (filter (λ k. not (is_found [] k)) (filter (λ k. not (is_cached st.outside.cache k)) l))) none,
  ap (λ l. let absent = filter (λ k. not (is_cached st.outside.cache k)) l in (length absent - length (filter (λ k. not (is_found [] k)) absent)) + min 0 (length l - length absent)) none,
)
  where
    none : lazy_among st.store (base_of st.store s) names ≡ []
    none = lazy-none st.store (base_of st.store s) h.base names

module _ (limits : Limits) (st : State) (s : ℕ) (h : HasAllNames st.store s) where
  answer-plain : (names : List Name) → AllByRecursion IsPlain (answer_tests limits st s [] names)
  answer-plain names = ((refl, refl), (printing-plain st s names h, tt))

  lists-from : (e : Expr Name) (reply : Reply) (now : Stored) → PlainAnswers limits st.store s (Query e) reply now → Lists limits st s e st.outside.mirrors [] reply (storing st now)
  lists-from e reply now a = ⊎_elim
      (λ g. (a.0, a.1, refused_first (answer_tests limits st s [] a.0), st.outside.mirrors, [], all-tries (Unit {0}) st.outside.mirrors (answer_tests limits st s [] a.0) (answer-plain a.0), outside-same st now, by_test (refuse_if (nat_lt limits.answer (length a.0)) (why.Answer (length a.0))) g))
      (λ m. (a.0, a.1, Some why.Memory, st.outside.mirrors, [], all-memory (Unit {0}) st.outside.mirrors (answer_tests limits st s [] a.0) tt, outside-same st now, m))
      a.2
    where
      by_test : (o : Option Refusal) → MatchOption (first_some (o ∷ [])) ((reply ≡ Listed a.0) × (now ≡ st.store)) (λ refusal. IsRefused st.store refusal reply now)
          → MatchOption (first_some (o ∷ None ∷ [])) ((reply ≡ Listed a.0) × (now ≡ st.store)) (λ refusal. IsRefused st.store refusal reply now)
      by_test None g = g
      by_test (Some r) g = g

  answers-from : (verb : Verb) (reply : Reply) (now : Stored) → IsInside verb → PlainAnswers limits st.store s verb reply now → Answers limits st s verb st.outside.mirrors [] reply (storing st now)
  answers-from (Add name parents) reply now i a = (a, outside-same st now)
  answers-from (Flush heads) reply now i a = (a, outside-same st now)
  answers-from Reload reply now i a = (a, outside-same st now)
  answers-from Discard reply now i a = (a, outside-same st now)
  answers-from (Query e) reply now i a = lists-from e reply now a
  answers-from (Count e) reply now i a = (a, outside-same st now)
  answers-from (IdOf name) reply now i a = (a, outside-same st now)
  answers-from Status reply now i a = (a, outside-same st now)
  answers-from Levels reply now i a = (a, outside-same st now)
  answers-from (Strip names) reply now i a = (a, outside-same st now)
  answers-from Clone reply now i a = absurd i
  answers-from Pull reply now i a = absurd i
  answers-from CountMirrors reply now i a = absurd i
  answers-from (Drop k) reply now i a = absurd i

  pub command-from : (verb : Verb) (reply : Reply) (now : Stored) → IsInside verb → PlainStep limits st.store s verb reply now → CommandStep limits st s verb reply (storing st now)
  command-from verb reply now i (inl step) = (
    refused_first (tests limits st.store s verb),
    st.outside.mirrors,
    [],
    all-tries (MayWantMemory verb) st.outside.mirrors (tests limits st.store s verb) (tests-plain st.store s limits verb h),
    by_test (refused_first (tests limits st.store s verb)) step,
  )
    where
      by_test : (o : Option Refusal) → MatchOption o (PlainAnswers limits st.store s verb reply now) (λ refusal. IsRefused st.store refusal reply now)
          → MatchOption o (Answers limits st s verb st.outside.mirrors [] reply (storing st now)) (λ refusal. IsRefused st.store refusal reply now × GoesOutside st.outside st.outside.mirrors [] st.outside)
      by_test None a = answers-from verb reply now i a
      by_test (Some r) a = (a, outside-same st now)
  command-from verb reply now i (inr m) =
      (Some why.Memory, st.outside.mirrors, [], all-memory (MayWantMemory verb) st.outside.mirrors (tests limits st.store s verb) m.0, (m.1, outside-same st now))

  -- the other way
  outside-back : (mirrors : List Mirror) (found : List KnownName) (new : State) → mirrors ≡ st.outside.mirrors → found ≡ [] → GoesOutside st.outside mirrors found new.outside → new.outside ≡ st.outside
  outside-back mirrors found new e f g =
      let cache : CacheGoesOn st.outside.room [] st.outside.cache new.outside.cache = subst (λ l. CacheGoesOn st.outside.room l st.outside.cache new.outside.cache) f g.cache in
      outside-is new.outside st.outside cache g.room (g.mirrors_are ∙ e)

  first-one : (o : Option Refusal) → first_some (o ∷ None ∷ []) ≡ first_some (o ∷ [])
  first-one None = refl
  first-one (Some r) = refl

  lists-back : (e : Expr Name) (reply : Reply) (new : State) → Lists limits st s e st.outside.mirrors [] reply new → PlainAnswers limits st.store s (Query e) reply new.store × (new.outside ≡ st.outside)
  lists-back e reply new (names, is, verdict, mirrors, fetched, tries, out, ends) =
      let t = all-tried (Unit {0}) st.outside.mirrors mirrors (answer_tests limits st s [] names) verdict fetched (answer-plain names) tries in (
        (
          names,
          is,
          ⊎_elim
              (λ v. inl (subst (λ o. MatchOption o ((reply ≡ Listed names) × (new.store ≡ st.store)) (λ refusal. IsRefused st.store refusal reply new.store))
              (v ∙ first-one (refuse_if (nat_lt limits.answer (length names)) (why.Answer (length names)))) ends))
              (λ m. inr (subst (λ o. MatchOption o ((reply ≡ Listed names) × (new.store ≡ st.store)) (λ refusal. IsRefused st.store refusal reply new.store)) m.1 ends))
              t.2,
        ),
        outside-back mirrors fetched new t.0 t.1 out,
      )

  answers-back : (verb : Verb) (reply : Reply) (new : State) → IsInside verb → Answers limits st s verb st.outside.mirrors [] reply new → PlainAnswers limits st.store s verb reply new.store × (new.outside ≡ st.outside)
  answers-back (Add name parents) reply new i a = (a.0, outside-back st.outside.mirrors [] new refl refl a.1)
  answers-back (Flush heads) reply new i a = (a.0, outside-back st.outside.mirrors [] new refl refl a.1)
  answers-back Reload reply new i a = (a.0, outside-back st.outside.mirrors [] new refl refl a.1)
  answers-back Discard reply new i a = (a.0, outside-back st.outside.mirrors [] new refl refl a.1)
  answers-back (Query e) reply new i a = lists-back e reply new a
  answers-back (Count e) reply new i a = (a.0, outside-back st.outside.mirrors [] new refl refl a.1)
  answers-back (IdOf name) reply new i a = (a.0, outside-back st.outside.mirrors [] new refl refl a.1)
  answers-back Status reply new i a = (a.0, outside-back st.outside.mirrors [] new refl refl a.1)
  answers-back Levels reply new i a = (a.0, outside-back st.outside.mirrors [] new refl refl a.1)
  answers-back (Strip names) reply new i a = (a.0, outside-back st.outside.mirrors [] new refl refl a.1)
  answers-back Clone reply new i a = absurd i
  answers-back Pull reply new i a = absurd i
  answers-back CountMirrors reply new i a = absurd i
  answers-back (Drop k) reply new i a = absurd i

  pub command-back : (verb : Verb) (reply : Reply) (new : State) → IsInside verb → CommandStep limits st s verb reply new → PlainStep limits st.store s verb reply new.store × (new.outside ≡ st.outside)
  command-back verb reply new i (verdict, mirrors, found, tries, ends) =
      let t = all-tried (MayWantMemory verb) st.outside.mirrors mirrors (tests limits st.store s verb) verdict found (tests-plain st.store s limits verb h) tries in
      by_test verdict mirrors found t.0 t.1 t.2 ends
    where
      by_test : (o : Option Refusal) (m : List Mirror) (f : List KnownName) → m ≡ st.outside.mirrors → f ≡ []
          → ((o ≡ refused_first (tests limits st.store s verb)) ⊎ (MayWantMemory verb × (o ≡ Some why.Memory)))
          → MatchOption o (Answers limits st s verb m f reply new) (λ refusal. IsRefused st.store refusal reply new.store × GoesOutside st.outside m f new.outside)
          → PlainStep limits st.store s verb reply new.store × (new.outside ≡ st.outside)
      by_test None m f e g (inl v) a =
          let b = answers-back verb reply new i (subst₂ (λ x y. Answers limits st s verb x y reply new) e g a) in
          (inl (subst (λ o. MatchOption o (PlainAnswers limits st.store s verb reply new.store) (λ refusal. IsRefused st.store refusal reply new.store)) v b.0), b.1)
      by_test (Some r) m f e g (inl v) a =
          (inl (subst (λ o. MatchOption o (PlainAnswers limits st.store s verb reply new.store) (λ refusal. IsRefused st.store refusal reply new.store)) v a.0), outside-back m f new e g a.1)
      by_test None m f e g (inr w) a = absurd (true≢false (sym (ap is_some w.1)))
      by_test (Some r) m f e g (inr w) a =
          (inr (w.0, subst (λ o. MatchOption o ⊥ (λ refusal. IsRefused st.store refusal reply new.store)) w.1 a.0), outside-back m f new e g a.1)
