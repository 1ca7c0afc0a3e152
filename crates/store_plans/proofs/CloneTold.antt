-- A clone's tests, and what an honest mirror told.
use Rattle.std.proofs.Common.{◌≡◌, ◌<◌, ◌≤◌, ◌+◌, inl, ℕ, zero, suc, Bool, true, false, List, [], ◌∷◌, ◌++◌, length, map, nat_lt, Option, Some, None, Ok, MatchOption, refl, sym, ap, ap₂, subst, ◌∙◌, arith, length-append, if◌then◌else◌}
use Rattle.std.specs.Prelude.{IfSome, ⊤}
use Rattle.std.specs.Option.{option_map}
use Rattle.std.specs.List.{AllByRecursion}
use Rattle.std.proofs.lemmas.Bool.{lt-ltb, ltb-true}
use Rattle.id_groups.specs.Lists.{IsIn}
use Rattle.id_groups.specs.Name.{Name}
use Rattle.commit_graph.specs.World.{Row, World, empty_world, rows_of}
use Rattle.commit_graph.proofs.Naming.{each}
use Rattle.batch_codec.specs.Payload.{Payload}
use Rattle.gated_log.specs.Log.{log_length}
use Rattle.high_segments.proofs.Groups.{in-drop}
use Rattle.remote_rules.specs.CloneData.{CloneData}
use Rattle.remote_rules.specs.Mirror.{Mirror}
use Rattle.remote_rules.specs.Known.{master_world}
use Rattle.remote_rules.specs.Honest.{IsHonest, IsSoundMirror, heads_of}
use Rattle.remote_rules.specs.Clones.{IsCloneOf}
use Rattle.remote_rules.specs.Serving.{IsServing}
use Rattle.remote_trait.specs.Calls.{Refreshes, ToldSo, AreGrown}
use Rattle.mirror_set.specs.Asking.{Asks, IsItsClone}
use Rattle.change_rules.specs.declared.Limits.{Limits}
use Rattle.change_rules.specs.declared.Limit.{Limit}
use Rattle.change_rules.specs.declared.Limit.TheVariants.{Heads, Master, Log}
use Rattle.change_rules.specs.Standard.{AreLimits, most_heads}
use Rattle.change_rules.specs.Change.{clone_change, text_of}
use Rattle.change_rules.proofs.Relation.{clones-are}
use Rattle.change_parts.specs.declared.fault.PlanFault.{PlanFault}
use Rattle.change_parts.specs.declared.fault.PlanFault.TheVariants as faults
use Rattle.change_parts.specs.Plans.{over, first_fault, length_with}
use Rattle.clone_plan.specs.Cloning.{clone_payload, clone_refusal, IsToldBy}
use Rattle.change_parts.proofs.Refusals.{written, has-bytes}
use Rattle.step_rules.specs.declared.Refusal.{Refusal}
use Rattle.step_rules.specs.declared.Refusal.TheVariants as why
use Rattle.step_rules.specs.State.{Stored, pending_of}
use Rattle.step_rules.specs.Verb.{Clone}
use Rattle.step_rules.specs.Worlds.{same_world, log_after}
use Rattle.step_rules.specs.Tests.{first_some, refuse_if, refused_first, full, has_pending, tests}
use Rattle.step_rules.specs.Step.{AnsweredFirst, clone_tests}
use Rattle.step_rules.proofs.Steps.{some-none, first-none-cons}
use Rattle.store_plans.specs.Changes.{refusal_of}

-- ---- an honest mirror

still-told : {X : Type 0} (P : X → X → Type 0) (before now : Option X) (x : X) → ToldSo before now P → before ≡ Some x → (y : X) × (now ≡ Some y)
still-told P None None x h e = absurd (some-none x (sym e))
still-told P None (Some y) x h e = absurd h
still-told P (Some b) None x h e = absurd h
still-told P (Some b) (Some y) x h e = (y, refl)

-- the mirror that answered tells master rows, and what it told is the clone of these
pub told-by : (cloned : ℕ) (w : World Name) (first left : List Mirror) (told : CloneData) → AllByRecursion (IsServing cloned w) first → Asks Refreshes IsItsClone first left (Ok told)
    → (rows : List (Row Name)) × AnsweredFirst left rows × IsToldBy rows told
told-by cloned w first left told served a =
    let there : IsIn a.first first = in-drop a.count first a.first (subst (IsIn a.first) (sym a.was) (inl refl)) in
    let s = each (IsServing cloned w) first served a.first there in
    let before : IsSoundMirror a.first = subst (λ o. MatchOption o ⊤ (IsHonest a.first.cloned)) (sym s.1) s.2 in
    let now = still-told AreGrown a.first.master a.next.master s.0 a.left.master s.1 in
    let honest : IsHonest a.next.cloned now.0 = subst (λ o. MatchOption o ⊤ (IsHonest a.next.cloned)) now.1 (a.left.sound before) in
    let clone : IsCloneOf now.0 told = subst (λ o. IfSome o (λ rows. IsCloneOf rows told)) now.1 a.right.honest in (
      now.0,
      subst (λ (l : List Mirror). AnsweredFirst l now.0) (sym a.is) now.1,
      record { world = honest.world; told_is = (clones-are now.0 honest.world told).0 clone },
    )

-- ---- the tests of what is stored

few : (n : ℕ) (r : Refusal) → refuse_if (nat_lt 0 n) r ≡ None → n ≡ 0
few zero r e = refl
few (suc n) r e = absurd (some-none r (sym (ap (λ b. refuse_if b r) (lt-ltb 0 (suc n) (omega arith))) ∙ e))

many : (n : ℕ) (r : Refusal) → 0 < n → refuse_if (nat_lt 0 n) r ≡ Some r
many n r lt = ap (λ b. refuse_if b r) (lt-ltb 0 n lt)

none-more : {X : Type 0} (xs : List X) → length xs ≡ 0 → xs ≡ []
none-more [] e = refl
none-more (x ∷ xs) e = absurd (omega (arith, e))

pub world-empty : (w : World Name) → length w.master ≡ 0 → length w.others ≡ 0 → w ≡ empty_world
world-empty w m o = ap₂ {C = World Name} (λ a b. record { master = a; others = b }) (none-more w.master m) (none-more w.others o)

pub passed-empty : (limits : Limits) (st : Stored) (s : ℕ) → refused_first (tests limits st s Clone) ≡ None → st.stored ≡ empty_world
passed-empty limits st s e =
    let n = few (length (rows_of st.stored)) (why.NotEmpty (length st.stored.master) (length st.stored.others)) (first-none-cons (refuse_if (nat_lt 0 (length (rows_of st.stored))) (why.NotEmpty (length st.stored.master) (length st.stored.others))) (has_pending st s ∷ []) e).0 in
    let l = length-append st.stored.master st.stored.others in
    world-empty st.stored (omega (arith, n, l)) (omega (arith, n, l))

-- something is stored
pub refused-rows : (limits : Limits) (st : Stored) (s : ℕ) → 0 < length st.stored.master + length st.stored.others → refused_first (tests limits st s Clone) ≡ Some (why.NotEmpty (length st.stored.master) (length st.stored.others))
refused-rows limits st s lt =
    let l = length-append st.stored.master st.stored.others in
    ap (λ (x : Option Refusal). first_some (x ∷ has_pending st s ∷ [])) (many (length (rows_of st.stored)) (why.NotEmpty (length st.stored.master) (length st.stored.others)) (omega (arith, lt, l)))

no-rows : (limits : Limits) (st : Stored) (s : ℕ) → length st.stored.master ≡ 0 → length st.stored.others ≡ 0 → refused_first (tests limits st s Clone) ≡ first_some (has_pending st s ∷ [])
no-rows limits st s m o =
    let l = length-append st.stored.master st.stored.others in
    let z : length (rows_of st.stored) ≡ 0 = omega (arith, l, m, o) in
    ap (λ n. first_some (refuse_if (nat_lt 0 n) (why.NotEmpty (length st.stored.master) (length st.stored.others)) ∷ has_pending st s ∷ [])) z

-- the session has rows
pub refused-pending : (limits : Limits) (st : Stored) (s : ℕ) → length st.stored.master ≡ 0 → length st.stored.others ≡ 0 → 0 < length (pending_of st s) → refused_first (tests limits st s Clone) ≡ Some (why.Pending (length (pending_of st s)))
refused-pending limits st s m o lt = no-rows limits st s m o ∙ ap (λ (x : Option Refusal). first_some (x ∷ [])) (many (length (pending_of st s)) (why.Pending (length (pending_of st s))) lt)

-- neither
pub none-refused : (limits : Limits) (st : Stored) (s : ℕ) → length st.stored.master ≡ 0 → length st.stored.others ≡ 0 → length (pending_of st s) ≡ 0 → refused_first (tests limits st s Clone) ≡ None
none-refused limits st s m o p = no-rows limits st s m o ∙ ap (λ n. first_some (refuse_if (nat_lt 0 n) (why.Pending (length (pending_of st s))) ∷ [])) p

-- ---- the tests of what was told

over-full : (what : Limit) (limit n : ℕ) → full what limit n ≡ option_map refusal_of (over limit n what)
over-full what limit n = by_test (nat_lt limit n)
  where
    by_test : (b : Bool) → refuse_if b (why.Full what limit) ≡ option_map refusal_of (if b then Some (faults.Full what limit) else None)
    by_test true = refl
    by_test false = refl

first-mapped : (x y z : Option PlanFault) → first_some (option_map refusal_of x ∷ option_map refusal_of y ∷ option_map refusal_of z ∷ []) ≡ option_map refusal_of (first_fault x (first_fault y z))
first-mapped (Some f) y z = refl
first-mapped None (Some f) z = refl
first-mapped None None (Some f) = refl
first-mapped None None None = refl

never-over : (limit n : ℕ) → n ≤ limit → over limit n Log ≡ None
never-over limit n le = by_test (nat_lt limit n) refl
  where
    by_test : (b : Bool) → nat_lt limit n ≡ b → over limit n Log ≡ None
    by_test true e = absurd (let l = ltb-true limit n e in omega (arith, l, le))
    by_test false e = ap (λ b. if b then Some (faults.Full Log limit) else None) e

-- how long the log becomes, over a log that has nothing
abbrev length_over : World Name → List Payload → World Name → ℕ
length_over stored payloads r = if same_world r stored then log_length (map text_of payloads) else log_length (map text_of (payloads ++ clone_change r ∷ []))

log-same : (limits : Limits) → 98 ≤ limits.log → (rows : List (Row Name)) → over limits.log (length_over empty_world [] (master_world rows)) Log ≡ over limits.log (length_with 1 (clone_payload (master_world rows))) Log
log-same limits fair [] = never-over limits.log 1 (omega (arith, fair)) ∙ sym (never-over limits.log 0 (omega (arith, fair)))
log-same limits fair (row ∷ rows) =
    let r = master_world (row ∷ rows) in
    let t = text_of (clone_change r) in
    let w = written 1 t (has-bytes (clone_change r)) in
    let size : log_length (t ∷ []) ≡ length_with 1 t = omega (arith, w) in
    ap (λ n. over limits.log n Log) (size ∙ sym (ap (λ b. length_with 1 (if b then t else [])) (lt-ltb 0 (length (row ∷ rows)) (omega arith))))

pub tests-told : (limits : Limits) → AreLimits limits → (st : Stored) → st.stored ≡ empty_world → st.payloads ≡ [] → (rows : List (Row Name))
    → first_some (clone_tests limits st (master_world rows)) ≡ option_map refusal_of (clone_refusal limits 1 (master_world rows))
tests-told limits fair st empty none rows =
    let r = master_world rows in
    let log : over limits.log (log_after st r (clone_change r)) Log ≡ over limits.log (length_with 1 (clone_payload r)) Log =
    ap₂ (λ w l. over limits.log (length_over w l r) Log) empty none ∙ log-same limits fair.log.0 rows in
    ap₂ (λ a b. first_some (a ∷ b ∷ full Log limits.log (log_after st r (clone_change r)) ∷ [])) (over-full Heads most_heads (length (heads_of r))) (over-full Master limits.master (length rows))
    ∙ ap (λ c. first_some (option_map refusal_of (over most_heads (length (heads_of r)) Heads) ∷ option_map refusal_of (over limits.master (length rows) Master) ∷ c ∷ [])) (over-full Log limits.log (log_after st r (clone_change r)) ∙ ap (option_map refusal_of) log)
    ∙ first-mapped (over most_heads (length (heads_of r)) Heads) (over limits.master (length rows) Master) (over limits.log (length_with 1 (clone_payload r)) Log)
