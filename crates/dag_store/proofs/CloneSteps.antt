-- From what was planned of a clone, and how it ended, to the step of a state and to what the mirrors told.
use Rattle.std.proofs.Common.{◌≡◌, ◌<◌, ◌≤◌, inl, inr, ℕ, zero, suc, true, false, List, [], ◌∷◌, ◌++◌, length, map, set, Option, Some, None, Ok, Err, MatchOption, refl, sym, ap, ap₂, subst, ◌∙◌, arith, true≢false, if◌then◌else◌}
use Rattle.std.specs.Prelude.{Result, MatchResult, ⊤}
use Rattle.std.specs.Option.{option_map}
use Rattle.std.proofs.lemmas.Bool.{lt-ltb}
use Rattle.id_groups.specs.Name.{Name}
use Rattle.commit_graph.specs.World.{Row, World, empty_world, rows_of, names_of}
use Rattle.disk_trait.specs.Images.{Told}
use Rattle.disk_trait.specs.Calls.{Goes}
use Rattle.gated_log.specs.Held.{Held, log_bytes}
use Rattle.gated_log.specs.Log.{log_length}
use Rattle.gated_log.proofs.Places.{length-log}
use Rattle.batch_codec.specs.Grammar.{count_after}
use Rattle.name_map.specs.Added.{payloads_of}
use Rattle.remote_rules.specs.CloneData.{CloneData}
use Rattle.remote_rules.specs.Mirror.{Mirror}
use Rattle.remote_rules.specs.Known.{master_world}
use Rattle.remote_rules.specs.Honest.{heads_of}
use Rattle.remote_rules.specs.Calls.{IsCloned}
use Rattle.remote_rules.specs.declared.MirrorFault.{MirrorFault}
use Rattle.remote_trait.specs.Calls.{Refreshes}
use Rattle.mirror_set.specs.Asking.{Asks, IsItsClone}
use Rattle.mirror_set.proofs.Ruled.{clone-ruled}
use Rattle.change_rules.specs.declared.Limits.{Limits}
use Rattle.change_rules.specs.Standard.{AreLimits}
use Rattle.change_rules.specs.Change.{clone_change, text_of}
use Rattle.change_rules.specs.Holding.{HoldPayloads}
use Rattle.change_rules.specs.Tables.{cloned_count, newest, other_names_in}
use Rattle.change_rules.proofs.Cloned.{clone-held}
use Rattle.payload_tables.specs.Kept.{PlainTables}
use Rattle.payload_tables.proofs.Following.{none-added}
use Rattle.change_parts.specs.declared.change.Change.{Change}
use Rattle.clone_plan.specs.Cloning.{told_count, told_refusal, IsToldPlan, clone_refusal, IsToldBy}
use Rattle.clone_plan.proofs.ToldPlans.{count-is, refusal-is, plan-is, clone-fits}
use Rattle.step_rules.specs.declared.Refusal.{Refusal}
use Rattle.step_rules.specs.State.{State, Stored, with_stored, on_newest}
use Rattle.step_rules.specs.Verb.{Clone}
use Rattle.step_rules.specs.Reply.{Reply, Cloned, Refused}
use Rattle.step_rules.specs.Worlds.{same_world}
use Rattle.step_rules.specs.Tests.{first_some, refused_first, tests}
use Rattle.step_rules.specs.Served.{IsServed}
use Rattle.step_rules.specs.Asking.{TriesAll}
use Rattle.step_rules.specs.Step.{CommandStep, AnsweredFirst, Clones, TakesFrom, GoesOutside, IsRefused, clone_tests}
use Rattle.step_rules.proofs.Kept.{step-state}
use Rattle.step_rules.proofs.Plain.{all-tries}
use Rattle.store_plans.specs.declared.changing.Next.{Next}
use Rattle.dag_store.specs.declared.replies.Changed.{Changed as Ended}
use Rattle.dag_store.specs.declared.replies.Changed.TheVariants as ends
use Rattle.store_plans.specs.Sessions.{PlainSession}
use Rattle.dag_store.specs.Kept.{PlainStore, IsKept, sixteen}
use Rattle.dag_store.specs.Stands.{IsOutsideOf, Stands, StandsBeside}
use Rattle.store_plans.specs.Changes.{HasRoom, IsPrepared, refusal_of}
use Rattle.dag_store.specs.Changes.{ChangeLeaves}
use Rattle.dag_store.specs.Finishes.{FinishesAs, Finishes, payload_in}
use Rattle.dag_store.specs.Clones.{clone_end, StoresCloneBy, beside, CloneStep, CloneAnswers}
use Rattle.store_plans.specs.ClonePlans.{RefusesAsked, RefusesClone, TakesTold, PlansClone}
use Rattle.store_plans.proofs.Counts.{others-many}
use Rattle.dag_store.proofs.FlushStored.{on-of, stands-room}
use Rattle.store_plans.proofs.CloneTold.{told-by, passed-empty, tests-told}
use Rattle.dag_store.proofs.StandsChanged.{stands-as-before, stands-changed}

-- ---- steps

-- what is outside afterwards
goes : (st : State) (now : Stored) (left : List Mirror) → GoesOutside st.outside left [] (beside st now left).outside
goes st now left = record { mirrors_are = refl; room = refl; cache = refl }

none-told : {X : Type 0} (xs : List X) → length xs ≡ 0 → xs ≡ []
none-told [] e = refl
none-told (x ∷ xs) e = absurd (omega (arith, e))

above-none : (n : ℕ) → (n ≡ 0 → ⊥) → 0 < n
above-none zero f = absurd (f refl)
above-none (suc n) f = omega arith

differs : (rows : List (Row Name)) → 0 < length rows → same_world (master_world rows) empty_world ≡ false
differs [] lt = absurd (omega (arith, lt))
differs (row ∷ rows) lt = refl

-- where no test of what is stored refuses, the world is empty, and the log has its first gate alone
abbrev HasNothing : Limits → Stored → ℕ → ℕ → Type 0
HasNothing limits st s log = refused_first (tests limits st s Clone) ≡ None → (st.stored ≡ empty_world) × (st.payloads ≡ []) × (log ≡ 1)

module _ (limits : Limits) (fair : AreLimits limits) (st : State) (s log : ℕ) (served : length (rows_of st.store.stored) ≡ 0 → IsServed st) (nothing : HasNothing limits st.store s log) where
  -- the mirrors serve where the ask is made
  served-now : refused_first (tests limits st.store s Clone) ≡ None → IsServed st
  served-now e = served (ap (λ w. length (rows_of w)) (nothing e).0)

  -- the tests of what is stored, none of which asks
  tried : (o : Option Refusal) → refused_first (tests limits st.store s Clone) ≡ o → TriesAll ⊤ st.outside.mirrors (tests limits st.store s Clone) o st.outside.mirrors []
  tried o e = subst (λ v. TriesAll ⊤ st.outside.mirrors (tests limits st.store s Clone) v st.outside.mirrors []) e (all-tries ⊤ st.outside.mirrors (tests limits st.store s Clone) ((refl, refl), ((refl, refl), tt)))

  -- behind these tests, the ask
  pub taken : (reply : Reply) (now : Stored) (left : List Mirror) → refused_first (tests limits st.store s Clone) ≡ None → TakesFrom IsCloned (Clones limits st.store s) st st.outside.mirrors [] reply (beside st now left)
      → CommandStep limits st s Clone reply (beside st now left)
  taken reply now left e t = (None, st.outside.mirrors, [], tried None e, t)

  refused-told : (left : List Mirror) (told : CloneData) (refusal : Refusal) → refused_first (tests limits st.store s Clone) ≡ None → Asks Refreshes IsItsClone st.outside.mirrors left (Ok told) → RefusesAsked limits log (Ok told) refusal
      → TakesFrom IsCloned (Clones limits st.store s) st st.outside.mirrors [] (Refused refusal) (beside st st.store left)
  refused-told left told refusal e a r =
      let by = told-by (cloned_count st.store.payloads) st.store.stored st.outside.mirrors left told (served-now e).mirrors.each a in
      (None, left, clone-ruled st.outside.mirrors left (Ok told) a, goes st st.store left, (by.0, by.1, makes by.0 by.2 r))
    where
      makes : (rows : List (Row Name)) → IsToldBy rows told → RefusesAsked limits log (Ok told) refusal → Clones limits st.store s (master_world rows) (Refused refusal) st.store
      makes rows by (inl m) = inr (ap Refused m, refl)
      makes rows by (inr f) =
          let n = nothing e in
          let same : first_some (clone_tests limits st.store (master_world rows)) ≡ Some refusal =
          tests-told limits fair st.store n.0 n.1 rows ∙ ap (option_map refusal_of) (sym (refusal-is rows by.world limits 1) ∙ ap₂ (told_refusal limits) (sym n.2) (sym by.told_is)) ∙ f in
          inl (subst (λ o. MatchOption o ((Refused refusal ≡ Cloned (length rows)) × (st.store ≡ clone_end st.store s rows)) (λ q. IsRefused st.store q (Refused refusal) st.store)) (sym same) (refl, refl))

  pub refused-step : (left : List Mirror) (refusal : Refusal) → RefusesClone limits st.store s log st.outside.mirrors left refusal → CommandStep limits st s Clone (Refused refusal) (beside st st.store left)
  refused-step left refusal r = by_test (refused_first (tests limits st.store s Clone)) refl r
    where
      asked-step : refused_first (tests limits st.store s Clone) ≡ None → (asked : Result CloneData MirrorFault) → Asks Refreshes IsItsClone st.outside.mirrors left asked → RefusesAsked limits log asked refusal
          → CommandStep limits st s Clone (Refused refusal) (beside st st.store left)
      asked-step e (Ok told) a q = taken (Refused refusal) st.store left e (refused-told left told refusal e a q)
      asked-step e (Err fault) a q = taken (Refused refusal) st.store left e (Some fault, left, clone-ruled st.outside.mirrors left (Err fault) a, goes st st.store left, (ap Refused q, refl))

      by_test : (o : Option Refusal) → refused_first (tests limits st.store s Clone) ≡ o
          → MatchOption o ((asked : Result CloneData MirrorFault) × Asks Refreshes IsItsClone st.outside.mirrors left asked × RefusesAsked limits log asked refusal) (λ q. (left ≡ st.outside.mirrors) × (refusal ≡ q))
          → CommandStep limits st s Clone (Refused refusal) (beside st st.store left)
      by_test None e q = asked-step e q.0 q.1 q.2
      by_test (Some why_not) e q = (Some why_not, st.outside.mirrors, [], tried (Some why_not) e, ((ap Refused q.1, refl), record { mirrors_are = q.0; room = refl; cache = refl }))

  pub told-step : (left : List Mirror) (told : CloneData) → TakesTold limits st.store s log st.outside.mirrors left told → (n : ℕ) → n ≡ told_count told
      → (rows : List (Row Name)) × AnsweredFirst left rows × IsToldBy rows told × CommandStep limits st s Clone (Cloned n) (beside st (clone_end st.store s rows) left)
  told-step left told t n count =
      let by = told-by (cloned_count st.store.payloads) st.store.stored st.outside.mirrors left told (served-now t.passed).mirrors.each t.asks in
      let nothing_there = nothing t.passed in
      let rows = by.0 in
      let same : first_some (clone_tests limits st.store (master_world rows)) ≡ None =
      tests-told limits fair st.store nothing_there.0 nothing_there.1 rows ∙ ap (option_map refusal_of) (sym (refusal-is rows by.2.world limits 1) ∙ ap₂ (told_refusal limits) (sym nothing_there.2) (sym by.2.told_is) ∙ t.fits) in (
        rows,
        by.1,
        by.2,
        taken (Cloned n) (clone_end st.store s rows) left t.passed (
          None,
          left,
          clone-ruled st.outside.mirrors left (Ok told) t.asks,
          goes st (clone_end st.store s rows) left,
          (
            rows,
            by.1,
            inl (subst (λ o. MatchOption o ((Cloned n ≡ Cloned (length rows)) × (clone_end st.store s rows ≡ clone_end st.store s rows)) (λ q. IsRefused st.store q (Cloned n) (clone_end st.store s rows))) (sym same)
                (ap Cloned (count ∙ ap told_count by.2.told_is ∙ count-is rows by.2.world), refl)),
          ),
        ),
      )

-- ---- how it ends

-- what was planned is what is answered by what the mirrors told
module _ (kept : PlainStore) (s log : ℕ) (first left : List Mirror) where
  abbrev limits : Limits
  limits = kept.limits

  finished-answers : (st : Stored) (reserved : Held) (sessions : List PlainSession) (change : Change) → PlansClone limits st s log first left change → (end : Ended) → Finishes reserved sessions limits kept.cache change end
      → CloneAnswers limits st s log first left change.payload end
  finished-answers st reserved sessions change p (ends.Done store counts None) f = (p.0, p.1, p.2.payload_is, f.2.0 ∙ p.2.master)
  finished-answers st reserved sessions change p (ends.Done store counts (Some clock)) f = (p.0, p.1, p.2.payload_is, f.3.0 ∙ p.2.master)
  finished-answers st reserved sessions change p (ends.Refused same refusal) f = absurd f
  finished-answers st reserved sessions change p (ends.Disk fault) f = (p.0, p.1, p.2.payload_is)

module _ (began : ℕ) (kept : PlainStore) (tables : PlainTables) (k : IsKept kept.log tables kept.sessions kept.limits) (first : List Mirror) (st : State) (h : StandsBeside began kept first st) (s : ℕ) (small : s < sixteen)
    (log : ℕ) (served : length (rows_of st.store.stored) ≡ 0 → IsServed st) (nothing : HasNothing kept.limits st.store s log) (left : List Mirror) where
  -- a store that stands for what is stored after the step stands for the state, since the names that are kept stay
  after : (new : PlainStore) (reply : Reply) (now : Stored) → new.cache ≡ kept.cache → Stands began new now → CommandStep kept.limits st s Clone reply (beside st now left) → StandsBeside began new left (beside st now left)
  after new reply now is stands step =
      let state = step-state kept.limits st s (record { store = h.stored.state; outside = h.outside_of.outside }) Clone reply (beside st now left) tt step in
      record {
        stored = stands;
        outside_of = subst (λ c. IsOutsideOf c left (beside st now left)) (sym is) (record {
          has = h.outside_of.has;
          once = h.outside_of.once;
          fits = h.outside_of.fits;
          room = h.outside_of.room;
          mirrors_are = refl;
          outside = state.outside;
        });
      }

  pub clone-refused : (reserved : Held) → HasRoom kept.log reserved → (same : PlainStore) → same ≡ record { log = reserved; sessions = kept.sessions; limits = kept.limits; cache = kept.cache } → (payload : List ℕ) (refusal : Refusal)
      → RefusesClone kept.limits st.store s log st.outside.mirrors left refusal → CloneStep began kept left st s payload (ends.Refused same refusal)
  clone-refused reserved room same is payload refusal r =
      let step = refused-step kept.limits k.limits_fit st s log served nothing left refusal r in (
        step,
        after same (Refused refusal) st.store (ap (λ (v : PlainStore). v.cache) is)
            (subst (λ v. Stands began v st.store) (sym is) (stands-room began kept.log reserved kept.sessions kept.limits st.store (ap (λ (l : Held). l.payloads) room) h.stored)) step,
      )

  module _ (reserved : Held) (later : PlainTables) (change : Change) (x : PlainSession) (p : IsPrepared kept.limits kept.log reserved tables later k.added change x) (room : HasRoom kept.log reserved)
      (plan : PlansClone kept.limits st.store s log st.outside.mirrors left change) where
    abbrev told : CloneData
    told = plan.0

    there : (n : ℕ) → n ≡ told_count told → (rows : List (Row Name)) × AnsweredFirst left rows × IsToldBy rows told × CommandStep kept.limits st s Clone (Cloned n) (beside st (clone_end st.store s rows) left)
    there n e = told-step kept.limits k.limits_fit st s log served nothing left told plan.1 n e

    nothing_there : (st.store.stored ≡ empty_world) × (st.store.payloads ≡ []) × (log ≡ 1)
    nothing_there = nothing plan.1.passed

    module _ (rows : List (Row Name)) (by : IsToldBy rows told) where
      abbrev r : World Name
      r = master_world rows

      count : told_count told ≡ length rows
      count = ap told_count by.told_is ∙ count-is rows by.world

      none-refused : clone_refusal kept.limits 1 r ≡ None
      none-refused = sym (refusal-is rows by.world kept.limits 1) ∙ ap₂ (told_refusal kept.limits) (sym nothing_there.2) (sym by.told_is) ∙ plan.1.fits

      -- nothing is stored
      module _ (same : change.same ≡ true) where
        no-rows : rows ≡ []
        no-rows = none-told rows (sym count ∙ plan.2.same.0 same)

        end-same : clone_end st.store s rows ≡ on_newest st.store s []
        end-same = ap (clone_end st.store s) no-rows ∙ ap (λ w. if same_world empty_world w then on_newest st.store s [] else on_newest (with_stored st.store empty_world (clone_change empty_world)) s []) nothing_there.0

        stands-same : Stands began (record { log = reserved; sessions = set kept.sessions s x; limits = kept.limits; cache = kept.cache }) (clone_end st.store s rows)
        stands-same = subst (Stands began (record { log = reserved; sessions = set kept.sessions s x; limits = kept.limits; cache = kept.cache })) (sym end-same) (stands-as-before began kept tables k st.store h.stored s small reserved later change x p room same)

      -- the payload is stored
      module _ (changes : change.same ≡ false) where
        some : 0 < length rows
        some = above-none (length rows) (λ z. true≢false (sym (plan.2.same.1 (count ∙ z)) ∙ changes))

        is-new : same_world r st.store.stored ≡ false
        is-new = ap (same_world r) nothing_there.0 ∙ differs rows some

        end-new : clone_end st.store s rows ≡ on_newest (with_stored st.store r (clone_change r)) s []
        end-new = ap (λ b. if b then on_newest st.store s [] else on_newest (with_stored st.store r (clone_change r)) s []) is-new

        text-is : change.payload ≡ text_of (clone_change r)
        text-is = (plan-is rows by.world change (subst (IsToldPlan change) by.told_is plan.2)).payload_is ∙ ap (λ b. if b then text_of (clone_change r) else []) (lt-ltb 0 (length rows) some)

        stores : StoresCloneBy st.store s rows change.payload
        stores = record {
          past = ap (λ (z : Stored). z.past) end-new;
          payloads = ap (λ (z : Stored). z.payloads) end-new;
          text = text-is;
        }

        parts : (length (heads_of r) ≤ 65535) × (length rows ≤ kept.limits.master)
        parts = clone-fits kept.limits 1 r none-refused

        holds : HoldPayloads (st.store.payloads ++ clone_change r ∷ []) r
        holds =
            let m = parts.1 in let f = k.limits_fit.master.1 in
            subst (λ l. HoldPayloads (l ++ clone_change r ∷ []) r) (sym nothing_there.1) (clone-held r by.world some (omega (arith, m, f)) parts.0)

        stands-new : (new : Held) → new.payloads ≡ reserved.payloads ++ change.payload ∷ [] → Stands began (record { log = new; sessions = set kept.sessions s x; limits = kept.limits; cache = kept.cache }) (clone_end st.store s rows)
        stands-new new is =
            subst (Stands began (record { log = new; sessions = set kept.sessions s x; limits = kept.limits; cache = kept.cache })) (sym end-new)
            (stands-changed began kept tables k st.store h.stored s small reserved later change x p room r (clone_change r) changes text-is by.world
            (rows, ap (λ (w : World Name). w.master ++ rows) (sym nothing_there.0)) holds new is)

    pub clone-finished : (end : Ended) → Finishes reserved (set kept.sessions s x) kept.limits kept.cache change end → CloneStep began kept left st s change.payload end
    clone-finished (ends.Done store counts None) f =
        let t = there counts.master (f.2.0 ∙ plan.2.master) in (
          t.0,
          t.1,
          t.3,
          after store (Cloned counts.master) (clone_end st.store s t.0) (ap (λ (v : PlainStore). v.cache) f.1) (subst (λ v. Stands began v (clone_end st.store s t.0)) (sym f.1) (stands-same t.0 t.2 f.0)) t.3,
          f.2.1 ∙ plan.2.others,
          (ap (λ (z : Stored). z.past) (end-same t.0 t.2 f.0), ap (λ (z : Stored). z.payloads) (end-same t.0 t.2 f.0)),
        )
    clone-finished (ends.Done store counts (Some clock)) f =
        let t = there counts.master (f.3.0 ∙ plan.2.master) in (
          t.0,
          t.1,
          t.3,
          after store (Cloned counts.master) (clone_end st.store s t.0) (ap (λ (v : PlainStore). v.cache) f.1) (subst (λ v. Stands began v (clone_end st.store s t.0)) (sym f.1) (stands-new t.0 t.2 f.0 store.log f.2)) t.3,
          f.3.1 ∙ plan.2.others,
          stores t.0 t.2 f.0,
        )
    clone-finished (ends.Refused same why_not) f = absurd f
    clone-finished (ends.Disk fault) f =
        let t = there (told_count told) refl in (
          t.0,
          t.1,
          subst (λ n. CommandStep kept.limits st s Clone (Cloned n) (beside st (clone_end st.store s t.0) left)) (count t.0 t.2) t.3,
          stores t.0 t.2 f,
        )

-- ---- a store that has nothing

pub nothing-kept : (began : ℕ) (kept : PlainStore) (tables : PlainTables) (k : IsKept kept.log tables kept.sessions kept.limits) (st : Stored) → Stands began kept st → (s : ℕ) → s < sixteen
    → HasNothing kept.limits st s (length (log_bytes kept.log))
nothing-kept began kept tables k st h s small passed =
    let o = on-of kept.log tables kept.sessions kept.limits k began st h s small in
    let empty = passed-empty kept.limits st s passed in
    let stand = o.hold.stand in
    let masters : tables.names.masters ≡ 0 = k.tables_of.names.masters ∙ ap (count_after 0) o.payloads ∙ stand.count ∙ ap (λ (w : World Name). length w.master) empty in
    let others : tables.others.count ≡ 0 = others-many tables.others k.added k.tables_of.others ∙ ap (λ l. length (other_names_in (newest l))) o.payloads ∙ ap (length {A = Name}) stand.names ∙ ap (λ (w : World Name). length (names_of w.others)) empty in
    let none = none-added tables k.added k.tables_of masters others in (
      empty,
      sym o.payloads ∙ ap payloads_of none,
      length-log kept.log.payloads kept.log.gate ∙ ap log_length (k.texts ∙ ap (λ l. map text_of (payloads_of l)) none),
    )

-- ---- what the call answers

abbrev Answers : PlainStore → ℕ → List Mirror → List Mirror → Ended → Option Told → Option Told → Type 0
Answers q s first left end a b =
    (payload : List ℕ) × Goes (ChangeLeaves q payload end) a b
    × ((began : ℕ) (st : State) → StandsBeside began q first st → (length (rows_of st.store.stored) ≡ 0 → IsServed st) → CloneStep began q left st s payload end)
    × ((began : ℕ) (st : Stored) → Stands began q st → CloneAnswers q.limits st s (length (log_bytes q.log)) first left payload end)

module _ (kept q : PlainStore) (is : kept ≡ q) (tables : PlainTables) (k : IsKept kept.log tables kept.sessions kept.limits) (s : ℕ) (small : s < sixteen) (first left : List Mirror)
    (reserved : Held) (room : HasRoom kept.log reserved) (a b : Option Told) where
  clone-done : (after : PlainTables) (ready : Next) → IsPrepared kept.limits kept.log reserved tables after k.added ready.change ready.session
      → ((began : ℕ) (st : Stored) → Stands began kept st → PlansClone kept.limits st s (length (log_bytes kept.log)) first left ready.change)
      → (end : Ended) → Finishes reserved (set kept.sessions s ready.session) kept.limits kept.cache ready.change end → Goes (ChangeLeaves kept ready.change.payload end) a b → Answers q s first left end a b
  clone-done after ready p asks end f goes_so = subst (λ v. Answers v s first left end a b) is (
    ready.change.payload,
    goes_so,
    λ began st h served.
        clone-finished began kept tables k first st h s small (length (log_bytes kept.log)) served (nothing-kept began kept tables k st.store h.stored s small) left reserved after ready.change ready.session p room
        (subst (λ l. PlansClone kept.limits st.store s (length (log_bytes kept.log)) l left ready.change) (sym h.outside_of.mirrors_are) (asks began st.store h.stored)) end f,
    λ began st h. finished-answers kept s (length (log_bytes kept.log)) first left st reserved (set kept.sessions s ready.session) ready.change (asks began st h) end f,
  )

  clone-not-done : (same : PlainStore) → same ≡ record { log = reserved; sessions = kept.sessions; limits = kept.limits; cache = kept.cache } → (refusal : Refusal)
      → ((began : ℕ) (st : Stored) → Stands began kept st → RefusesClone kept.limits st s (length (log_bytes kept.log)) first left refusal) → Goes (ChangeLeaves kept [] (ends.Refused same refusal)) a b
      → Answers q s first left (ends.Refused same refusal) a b
  clone-not-done same same_is refusal asks goes_so = subst (λ v. Answers v s first left (ends.Refused same refusal) a b) is (
    [],
    goes_so,
    λ began st h served.
        clone-refused began kept tables k first st h s small (length (log_bytes kept.log)) served (nothing-kept began kept tables k st.store h.stored s small) left reserved room same same_is [] refusal
        (subst (λ l. RefusesClone kept.limits st.store s (length (log_bytes kept.log)) l left refusal) (sym h.outside_of.mirrors_are) (asks began st.store h.stored)),
    λ began st h. asks began st h,
  )

  pub clone-ends : (after : PlainTables) (next : Result Next Refusal) → MatchResult next (λ ready. IsPrepared kept.limits kept.log reserved tables after k.added ready.change ready.session) (λ refusal. after ≡ tables)
      → ((began : ℕ) (st : Stored) → Stands began kept st → MatchResult next
      (λ ready. PlansClone kept.limits st s (length (log_bytes kept.log)) first left ready.change) (RefusesClone kept.limits st s (length (log_bytes kept.log)) first left))
      → (at : ℕ) → at ≡ s → (end : Ended) → FinishesAs reserved kept.sessions kept.limits kept.cache at next end → Goes (ChangeLeaves kept (payload_in next) end) a b
      → (payload : List ℕ) × Goes (ChangeLeaves q payload end) a b
      × ((began : ℕ) (st : State) → StandsBeside began q first st → (length (rows_of st.store.stored) ≡ 0 → IsServed st) → CloneStep began q left st s payload end)
      × ((began : ℕ) (st : Stored) → Stands began q st → CloneAnswers q.limits st s (length (log_bytes q.log)) first left payload end)
  clone-ends after (Ok ready) p asks at same end e goes_so = clone-done after ready p asks end (subst (λ n. Finishes reserved (set kept.sessions n ready.session) kept.limits kept.cache ready.change end) same e) goes_so
  clone-ends after (Err refusal) p asks at same end e goes_so =
      let handed : PlainStore = record { log = reserved; sessions = kept.sessions; limits = kept.limits; cache = kept.cache } in
      subst (λ z. Answers q s first left z a b) (sym e) (clone-not-done handed refl refusal asks (subst (λ z. Goes (ChangeLeaves kept [] z) a b) e goes_so))
