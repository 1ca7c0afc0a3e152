-- Where no core has a mirror all have the same outside, and the one store is a state of the definition.
use Rattle.std.proofs.Common.{◌≡◌, ◌≤◌, ℕ, Bool, true, false, inl, inr, List, [], ◌∷◌, ◌++◌, length, nat_lt, Option, Some, None, is_some, refl, sym, ap, ap₂, ◌∙◌, subst, arith, ⊎_elim, MatchOption, true≢false}
use Rattle.std.specs.Bool.{MatchBool}
use Rattle.std.specs.List.{AllZip}
use Rattle.std.proofs.lemmas.Bool.{cases_eq, ltb-true}
use Rattle.id_groups.specs.Name.{Name}
use Rattle.commit_graph.specs.World.{World}
use Rattle.set_expr.specs.Expr.{Expr}
use Rattle.batch_codec.specs.Payload.{Payload}
use Rattle.change_rules.specs.declared.Limits.{Limits}
use Rattle.change_rules.specs.Tables.{cloned_count}
use Rattle.remote_rules.specs.CloneData.{KnownName}
use Rattle.remote_rules.specs.Mirror.{Mirror}
use Rattle.remote_rules.specs.Calls.{IsAskedFor, IsCloned, IsPulled}
use Rattle.remote_rules.specs.Asking.{AsksInTurn, IsOneAsk}
use Rattle.remote_rules.specs.declared.MirrorFault.{MirrorFault}
use Rattle.remote_rules.proofs.Asks.{asks-none}
use Rattle.step_rules.specs.declared.Refusal.{Refusal}
use Rattle.step_rules.specs.declared.Refusal.TheVariants as why
use Rattle.step_rules.specs.State.{State, Stored, Outside}
use Rattle.step_rules.specs.Verb.{Verb, Add, Flush, Reload, Discard, Query, Count, IdOf, Status, Levels, Clone, Pull, Strip, CountMirrors, Drop}
use Rattle.step_rules.specs.Reply.{Reply, Dropped, Refused}
use Rattle.step_rules.specs.Tests.{Test, tests}
use Rattle.step_rules.specs.Asking.{Tries, TriesAll, CacheGoesOn}
use Rattle.step_rules.specs.Step.{Lists, TakesFrom, Clones, Pulls, Answers as TellsAnswer, CommandStep, GoesOutside, IsRefused, MayWantMemory, answer_tests, without}
use Rattle.step_rules.specs.Turns.{AreTurns, Turn}
use Rattle.core_rules.specs.Cores.{Line}
use Rattle.core_rules.specs.Joint.{Answers, IsTurnOf, Joint, Runs, joint_start, number, state_of}

no-more : {X : Type 0} (xs : List X) → length xs ≤ 0 → xs ≡ []
no-more [] h = refl
no-more (x ∷ xs) h = absurd (omega (arith, h))

-- ---- nothing is asked and nothing found

none-turn : (answered : ℕ) (counts : List ℕ) (end : Option MirrorFault) (new : List Mirror) → AsksInTurn answered counts [] end new → (answered ≡ 0) × (new ≡ [])
none-turn answered [] end new turn = (turn.0, turn.2)
none-turn answered (count ∷ counts) end new (inl stop) = (stop.2, (asks-none (IsAskedFor count) (Some stop.0) new stop.3).1)
none-turn answered (count ∷ counts) end new (inr on) = absurd (true≢false (sym (ap is_some (asks-none (IsAskedFor count) None on.0 on.3).0)))

none-tried : (test : Test) (verdict : Option Refusal) (new : List Mirror) (gained : List KnownName) → Tries [] test verdict new gained → (new ≡ []) × (gained ≡ [])
none-tried test verdict new gained h =
    let t = none-turn h.0 h.2.0 h.1 new h.2.4 in
    (t.1, no-more gained (subst (λ n. length gained ≤ n) t.0 h.3.0))

none-all : (W : Type 0) (tests : List Test) (verdict : Option Refusal) (new : List Mirror) (gained : List KnownName) → TriesAll W [] tests verdict new gained → (new ≡ []) × (gained ≡ [])
none-all W [] verdict new gained h = (h.0, h.1)
none-all W (test ∷ more) verdict new gained (inl h) = (h.0, h.1)
none-all W (test ∷ more) verdict new gained (inr h) =
    behind h.0 h.4 (none-tried test h.0 h.1 h.2 h.3) (λ b g. none-all W more verdict new b g)
  where
    behind : (first : Option Refusal)
        → MatchOption first ((b : List KnownName) × (gained ≡ h.2 ++ b) × TriesAll W h.1 more verdict new b) (λ refusal. (verdict ≡ Some refusal) × (new ≡ h.1) × (gained ≡ h.2))
        → (h.1 ≡ []) × (h.2 ≡ []) → ((b : List KnownName) → TriesAll W [] more verdict new b → (new ≡ []) × (b ≡ [])) → (new ≡ []) × (gained ≡ [])
    behind None g t rec =
        let r = rec g.0 (subst (λ (m : List Mirror). TriesAll W m more verdict new g.0) t.0 g.2) in
        (r.0, g.1 ∙ ap₂ (λ (a b : List KnownName). a ++ b) t.1 r.1)
    behind (Some r) g t rec = (g.1 ∙ t.0, g.2 ∙ t.1)

-- ---- what is outside stays

outside-is : (a b : Outside) → a.cache ≡ b.cache → a.room ≡ b.room → a.mirrors ≡ b.mirrors → a ≡ b
outside-is a b e f g = ap₂ {C = Outside} (λ c (m : List Mirror). record { cache = c; room = a.room; mirrors = m }) e g ∙ ap (λ n. record { cache = b.cache; room = n; mirrors = b.mirrors }) f

goes-back : (old new : Outside) (mirrors : List Mirror) (found : List KnownName) → old.mirrors ≡ [] → mirrors ≡ [] → found ≡ [] → GoesOutside old mirrors found new → new ≡ old
goes-back old new mirrors found none e f g =
    outside-is new old (subst (λ (ks : List KnownName). CacheGoesOn old.room ks old.cache new.cache) f g.cache) g.room (g.mirrors_are ∙ e ∙ sym none)

module _ (limits : Limits) (st : State) (s : ℕ) (none : st.outside.mirrors ≡ []) where
  abbrev Stays : State → Type 0
  Stays now = now.outside ≡ st.outside

  lists-stay : (q : Expr Name) (mirrors : List Mirror) (found : List KnownName) (reply : Reply) (now : State) → mirrors ≡ [] → found ≡ [] → Lists limits st s q mirrors found reply now → Stays now
  lists-stay q mirrors found reply now e f (names, is, verdict, new, fetched, tries, out, ends) =
      let t = none-all (Unit {0}) (answer_tests limits st s found names) verdict new fetched
      (subst (λ (m : List Mirror). TriesAll (Unit {0}) m (answer_tests limits st s found names) verdict new fetched) e tries) in
      goes-back st.outside now.outside new (found ++ fetched) none t.0 (ap₂ (λ (a b : List KnownName). a ++ b) f t.1) out

  takes-stay : (Asks : Mirror → Mirror → Type 0) (Makes : World Name → Reply → Stored → Type 0) (mirrors : List Mirror) (found : List KnownName) (reply : Reply) (now : State) → mirrors ≡ [] → found ≡ []
      → TakesFrom Asks Makes st mirrors found reply now → Stays now
  takes-stay Asks Makes mirrors found reply now e f (end, new, asked, out, ends) =
      goes-back st.outside now.outside new found none (asks-none Asks end new (subst (λ (m : List Mirror). IsOneAsk Asks m end new) e asked)).1 f out

  answers-stay : (verb : Verb) (mirrors : List Mirror) (found : List KnownName) (reply : Reply) (now : State) → mirrors ≡ [] → found ≡ [] → TellsAnswer limits st s verb mirrors found reply now → Stays now
  answers-stay (Add name parents) mirrors found reply now e f a = goes-back st.outside now.outside mirrors found none e f a.1
  answers-stay (Flush heads) mirrors found reply now e f a = goes-back st.outside now.outside mirrors found none e f a.1
  answers-stay (Strip names) mirrors found reply now e f a = goes-back st.outside now.outside mirrors found none e f a.1
  answers-stay Reload mirrors found reply now e f a = goes-back st.outside now.outside mirrors found none e f a.1
  answers-stay Discard mirrors found reply now e f a = goes-back st.outside now.outside mirrors found none e f a.1
  answers-stay (Count q) mirrors found reply now e f a = goes-back st.outside now.outside mirrors found none e f a.1
  answers-stay (IdOf name) mirrors found reply now e f a = goes-back st.outside now.outside mirrors found none e f a.1
  answers-stay Status mirrors found reply now e f a = goes-back st.outside now.outside mirrors found none e f a.1
  answers-stay Levels mirrors found reply now e f a = goes-back st.outside now.outside mirrors found none e f a.1
  answers-stay (Query q) mirrors found reply now e f a = lists-stay q mirrors found reply now e f a
  answers-stay Clone mirrors found reply now e f a = takes-stay IsCloned (Clones limits st.store s) mirrors found reply now e f a
  answers-stay Pull mirrors found reply now e f a = takes-stay (IsPulled (cloned_count st.store.payloads)) (Pulls limits st.store s) mirrors found reply now e f a
  answers-stay CountMirrors mirrors found reply now e f a = ap (λ (z : State). z.outside) a.1
  answers-stay (Drop k) mirrors found reply now e f a = by_test (nat_lt k (length mirrors)) refl a
    where
      by_test : (b : Bool) → nat_lt k (length mirrors) ≡ b
          → MatchBool b ((reply ≡ Dropped (length (without k mirrors))) × (now ≡ record st { outside = record st.outside { mirrors = without k mirrors } })) ((reply ≡ Refused why.NoRemote) × (now ≡ st))
          → now.outside ≡ st.outside
      by_test true t g = absurd (let l : length mirrors ≡ 0 = ap length e in let lt = ltb-true k (length mirrors) t in omega (arith, l, lt))
      by_test false t g = ap (λ (z : State). z.outside) g.1

  pub step-stays : (verb : Verb) (reply : Reply) (now : State) → CommandStep limits st s verb reply now → now.outside ≡ st.outside
  step-stays verb reply now (verdict, mirrors, found, tries, ends) =
      let t = none-all (MayWantMemory verb) (tests limits st.store s verb) verdict mirrors found (subst (λ (m : List Mirror). TriesAll (MayWantMemory verb) m (tests limits st.store s verb) verdict mirrors found) none tries) in
      by_test verdict t.0 t.1 ends
    where
      by_test : (o : Option Refusal) → mirrors ≡ [] → found ≡ []
          → MatchOption o (TellsAnswer limits st s verb mirrors found reply now) (λ refusal. IsRefused st.store refusal reply now.store × GoesOutside st.outside mirrors found now.outside) → now.outside ≡ st.outside
      by_test None e f a = answers-stay verb mirrors found reply now e f a
      by_test (Some r) e f a = goes-back st.outside now.outside mirrors found none e f a.1

-- ---- a run of the definition

turns-from : (limits : Limits) (out : Outside) (none : out.mirrors ≡ []) (lines : List Line) (old new : Joint) → ((i : ℕ) → old.outside i ≡ out) → Runs (Answers limits) old lines new
    → (turns : List Turn) × AreTurns limits (record { store = old.store; outside = out }) turns × AllZip IsTurnOf lines turns
turns-from limits out none [] old new same r = ([], tt, tt)
turns-from limits out none (line ∷ lines) old new same (mid, one, rest) =
    let i = line.core in
    let t = number line.core line.session in
    let stays : mid.outside i ≡ old.outside i = step-stays limits (state_of old line.core) t (ap (λ (o : Outside). o.mirrors) (same i) ∙ none) line.verb line.reply (state_of mid line.core) one.step in
    let after : (k : ℕ) → mid.outside k ≡ out = λ k. ⊎_elim (λ e. subst (λ z. mid.outside z ≡ out) (sym e) (stays ∙ same i)) (λ ne. one.others k ne ∙ same k) (cases_eq k line.core) in
    let more = turns-from limits out none lines mid new after rest in
    let turn : Turn = record { session = t; verb = line.verb; reply = line.reply; before = record { store = old.store; outside = out }; after = record { store = mid.store; outside = out } } in (
      turn ∷ more.0,
      (
        refl,
        subst (λ (o : Outside). CommandStep limits (record { store = old.store; outside = o }) t line.verb line.reply (record { store = mid.store; outside = out })) (same i)
            (subst (λ (o : Outside). CommandStep limits (record { store = old.store; outside = old.outside line.core }) t line.verb line.reply (record { store = mid.store; outside = o })) (after i) one.step),
        more.1,
      ),
      ((refl, refl, refl), more.2),
    )

pub mirrorless : (limits : Limits) (n : ℕ) (w : World Name) (payloads : List Payload) (out : Outside) (lines : List Line) (joint : Joint) → out.mirrors ≡ []
    → Runs (Answers limits) (joint_start n w payloads (λ i. out)) lines joint
    → (turns : List Turn) × AreTurns limits (state_of (joint_start n w payloads (λ i. out)) 0) turns × AllZip IsTurnOf lines turns
mirrorless limits n w payloads out lines joint none r = turns-from limits out none lines (joint_start n w payloads (λ i. out)) joint (λ i. refl) r
