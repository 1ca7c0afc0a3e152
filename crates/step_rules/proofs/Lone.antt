-- Where there are no mirrors, what has to be asked is refused.
use Rattle.std.proofs.Common.{◌≡◌, not, ℕ, zero, suc, Bool, true, inl, inr, List, [], ◌∷◌, ◌++◌, length, map, filter, nat_lt, Option, Some, None, refl, sym, ap, ◌∙◌, subst, arith, ⊎_elim, MatchOption, is_some, if◌then◌else◌, zero-le, le_refl}
use Rattle.std.proofs.lemmas.Bool.{lt-ltb}
use Rattle.id_groups.specs.Name.{Name}
use Rattle.set_expr.specs.Expr.{Expr}
use Rattle.change_rules.specs.declared.Limits.{Limits}
use Rattle.remote_rules.specs.CloneData.{KnownName}
use Rattle.remote_rules.specs.Mirror.{Mirror}
use Rattle.remote_rules.specs.declared.MirrorFault.TheVariants as fault
use Rattle.step_rules.specs.declared.Refusal.{Refusal}
use Rattle.step_rules.specs.declared.Refusal.TheVariants as why
use Rattle.step_rules.specs.State.{State, Stored, base_of}
use Rattle.step_rules.specs.Verb.{Verb, Add, Flush, Reload, Discard, Query, Count, IdOf, Status, Levels, Clone, Pull, Strip, CountMirrors, Drop}
use Rattle.step_rules.specs.Reply.{Reply, Listed}
use Rattle.step_rules.specs.Asked.{lazy_among, is_cached, is_found}
use Rattle.step_rules.specs.Tests.{Test, first_some, refuse_if, tests}
use Rattle.step_rules.specs.Asking.{Tries, TriesAll}
use Rattle.step_rules.specs.Step.{Lists, Answers, CommandStep, IsRefused, GoesOutside, MayWantMemory, answer_tests, uncached}
use Rattle.step_rules.specs.Plain.{IsInside}
use Rattle.step_rules.specs.Lone.{lone, lone_answer_refusals, LoneAnswers, LoneStep}
use Rattle.step_rules.proofs.Plain.{all-memory, outside-same, storing}

abbrev no-mirror : List Mirror
no-mirror = []

abbrev none-known : List KnownName
none-known = []

-- a test, where there is no mirror to ask
lone-tries : (test : Test) → Tries no-mirror test (lone test) no-mirror none-known
lone-tries test = by_must test.must refl
  where
    by_must : (n : ℕ) → test.must ≡ n → Tries no-mirror test (lone test) no-mirror none-known
    by_must zero e = (
      0,
      None,
      ([], tt, zero-le, (λ le. absurd (omega (arith, e, le))), (refl, refl, refl)),
      (zero-le, λ k i. absurd i),
      ap (λ m. if nat_lt 0 m then Some why.NoRemote else test.refusal) e,
    )
    by_must (suc n) e = (
      0,
      Some fault.NoRemote,
      (1 ∷ [], (le_refl _, tt), omega (arith, e), (λ le same. absurd (let l : 1 ≡ 0 = ap length same in omega (arith, l))), inl (fault.NoRemote, refl, refl, ([], [], [], refl, tt, (refl, refl)))),
      (zero-le, λ k i. absurd i),
      ap (λ b. if b then Some why.NoRemote else test.refusal) (lt-ltb 0 test.must (omega (arith, e))),
    )

-- tests in turn
all-lone : (W : Type 0) (tests : List Test) → TriesAll W no-mirror tests (first_some (map lone tests)) no-mirror none-known
all-lone W [] = (refl, refl, inl refl)
all-lone W (test ∷ more) = inr (lone test, no-mirror, none-known, lone-tries test, behind (lone test) (all-lone W more))
  where
    behind : (first : Option Refusal) → TriesAll W no-mirror more (first_some (map lone more)) no-mirror none-known
        → MatchOption first ((b : List KnownName) × (none-known ≡ none-known ++ b) × TriesAll W no-mirror more (first_some (first ∷ map lone more)) no-mirror b)
        (λ refusal. (first_some (first ∷ map lone more) ≡ Some refusal) × (no-mirror ≡ no-mirror) × (none-known ≡ none-known))
    behind None rec = ([], refl, rec)
    behind (Some r) rec = (refl, refl, refl)

all-stay : (p : KnownName → Bool) (ks : List KnownName) → ((k : KnownName) → p k ≡ true) → filter p ks ≡ ks
all-stay p [] h = refl
all-stay p (k ∷ ks) h = ap (λ b. if b then k ∷ filter p ks else filter p ks) (h k) ∙ ap (λ l. k ∷ l) (all-stay p ks h)

module _ (limits : Limits) (st : State) (s : ℕ) (none : st.outside.mirrors ≡ []) (empty : (id : ℕ) → st.outside.cache id ≡ None) where
  lone-mirrors : (W : Type 0) (tests : List Test) → TriesAll W st.outside.mirrors tests (first_some (map lone tests)) st.outside.mirrors none-known
  lone-mirrors W tests = subst (λ m. TriesAll W m tests (first_some (map lone tests)) m none-known) (sym none) (all-lone W tests)

  -- each name that isn't stored has to be asked
  all-wanted : (names : List Name) → filter (λ k. not (is_found none-known k)) (uncached st s names) ≡ lazy_among st.store (base_of st.store s) names
  all-wanted names =
      all-stay (λ k. not (is_found none-known k)) (uncached st s names) (λ k. refl)
      ∙ all-stay (λ k. not (is_cached st.outside.cache k)) (lazy_among st.store (base_of st.store s) names) (λ k. ap (λ o. not (is_some o)) (empty k.id))

  answer-refusals : (names : List Name) → map lone (answer_tests limits st s none-known names) ≡ lone_answer_refusals limits st.store s names
  answer-refusals names = ap (λ (l : List KnownName). refuse_if (nat_lt limits.answer (length names)) (why.Answer (length names)) ∷ refuse_if (nat_lt 0 (length l)) why.NoRemote ∷ []) (all-wanted names)

  lists-from : (e : Expr Name) (reply : Reply) (now : Stored) → LoneAnswers limits st.store s (Query e) reply now → Lists limits st s e st.outside.mirrors none-known reply (storing st now)
  lists-from e reply now (names, is, ends) = ⊎_elim
      (λ g. (
        names,
        is,
        first_some (map lone (answer_tests limits st s none-known names)),
        st.outside.mirrors,
        none-known,
        lone-mirrors (Unit {0}) (answer_tests limits st s none-known names),
        outside-same st now,
        subst (λ l. MatchOption (first_some l) ((reply ≡ Listed names) × (now ≡ st.store)) (λ refusal. IsRefused st.store refusal reply now)) (sym (answer-refusals names)) g,
      ))
      (λ m. (names, is, Some why.Memory, st.outside.mirrors, none-known, all-memory (Unit {0}) st.outside.mirrors (answer_tests limits st s none-known names) tt, outside-same st now, m))
      ends

  answers-from : (verb : Verb) (reply : Reply) (now : Stored) → IsInside verb → LoneAnswers limits st.store s verb reply now → Answers limits st s verb st.outside.mirrors none-known reply (storing st now)
  answers-from (Add name parents) reply now i a = (a, outside-same st now)
  answers-from (Flush heads) reply now i a = (a, outside-same st now)
  answers-from Reload reply now i a = (a, outside-same st now)
  answers-from Discard reply now i a = (a, outside-same st now)
  answers-from (Query e) reply now i a = lists-from e reply now a
  answers-from (Count e) reply now i a = (a, outside-same st now)
  answers-from (IdOf name) reply now i a = (a, outside-same st now)
  answers-from Status reply now i a = (a, outside-same st now)
  answers-from Levels reply now i a = (a, outside-same st now)
  answers-from (Strip names) reply now i a = (a, outside-same st now)
  answers-from Clone reply now i a = absurd i
  answers-from Pull reply now i a = absurd i
  answers-from CountMirrors reply now i a = absurd i
  answers-from (Drop k) reply now i a = absurd i

  pub lone-from : (verb : Verb) (reply : Reply) (now : Stored) → IsInside verb → LoneStep limits st.store s verb reply now → CommandStep limits st s verb reply (storing st now)
  lone-from verb reply now i (inl step) = (
    first_some (map lone (tests limits st.store s verb)),
    st.outside.mirrors,
    none-known,
    lone-mirrors (MayWantMemory verb) (tests limits st.store s verb),
    by_test (first_some (map lone (tests limits st.store s verb))) step,
  )
    where
      by_test : (o : Option Refusal) → MatchOption o (LoneAnswers limits st.store s verb reply now) (λ refusal. IsRefused st.store refusal reply now)
          → MatchOption o (Answers limits st s verb st.outside.mirrors none-known reply (storing st now)) (λ refusal. IsRefused st.store refusal reply now × GoesOutside st.outside st.outside.mirrors none-known st.outside)
      by_test None a = answers-from verb reply now i a
      by_test (Some r) a = (a, outside-same st now)
  lone-from verb reply now i (inr m) =
      (Some why.Memory, st.outside.mirrors, none-known, all-memory (MayWantMemory verb) st.outside.mirrors (tests limits st.store s verb) m.0, (m.1, outside-same st now))
