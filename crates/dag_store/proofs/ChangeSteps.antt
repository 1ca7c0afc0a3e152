-- From a change that was prepared, and how it ended, to the step of a state, whichever command makes the new world.
use Rattle.std.proofs.Common.{◌≡◌, ◌<◌, ⊎_elim, ℕ, Bool, true, false, List, [], ◌∷◌, ◌++◌, length, set, Option, Some, None, Result, Ok, Err, refl, sym, ap, subst, ◌∙◌, true≢false, if◌then◌else◌}
use Rattle.std.specs.Prelude.{MatchResult}
use Rattle.id_groups.specs.Name.{Name}
use Rattle.commit_graph.specs.World.{World, IsNamedWorld, GrowsMaster}
use Rattle.gated_log.specs.Held.{Held}
use Rattle.batch_codec.specs.Payload.{Payload}
use Rattle.change_rules.specs.declared.Limits.{Limits}
use Rattle.change_rules.specs.Change.{text_of, flush_change}
use Rattle.change_rules.specs.Holding.{HoldPayloads}
use Rattle.remote_rules.specs.CloneData.{KnownName}
use Rattle.remote_rules.specs.Mirror.{Mirror}
use Rattle.lazy_names.specs.Cache.{PlainCache}
use Rattle.payload_tables.specs.Kept.{PlainTables}
use Rattle.step_rules.specs.declared.Refusal.{Refusal}
use Rattle.step_rules.specs.State.{State, Stored, with_stored, on_newest}
use Rattle.step_rules.specs.Verb.{Verb, IsVerb}
use Rattle.step_rules.specs.Reply.{Reply, Refused}
use Rattle.step_rules.specs.Worlds.{after_flush, same_world}
use Rattle.step_rules.specs.Tests.{refused_first, tests}
use Rattle.step_rules.specs.Asking.{TriesAll}
use Rattle.step_rules.specs.Step.{CommandStep, GoesOutside}
use Rattle.step_rules.proofs.Trying.{tried-all}
use Rattle.store_plans.specs.declared.changing.Next.{Next}
use Rattle.dag_store.specs.declared.replies.Changed.{Changed as Ended}
use Rattle.dag_store.specs.declared.replies.Changed.TheVariants as ends
use Rattle.store_plans.specs.Sessions.{PlainSession}
use Rattle.dag_store.specs.Kept.{PlainStore, IsKept, sixteen}
use Rattle.dag_store.specs.Stands.{Stands, StandsBeside}
use Rattle.store_plans.specs.Looking.{AreRight, IsSoundCache, Tried, refusal_in}
use Rattle.dag_store.specs.Steps.{Leads}
use Rattle.dag_store.specs.Changes.{ChangeStep, StoresBy, refused_flush}
use Rattle.store_plans.specs.Changes.{HasRoom, IsPlanTo, IsPrepared, PreparesChange}
use Rattle.dag_store.specs.Finishes.{FinishesAs, Finishes, payload_in}
use Rattle.dag_store.proofs.Leading.{leads-to, next-goes, outside_next}
use Rattle.store_plans.proofs.ChangeSizes.{worlds-decided}
use Rattle.dag_store.proofs.FlushStored.{stands-room}
use Rattle.dag_store.proofs.StandsChanged.{stands-as-before, stands-changed}

-- What is known of a command that makes the stored world this one: which steps it takes behind its tests; and where none of these
-- refuses it, that this is a world that the payloads hold with that of the change.
pub record MakesWorld (limits : Limits) (st : State) (s : ℕ) (verb : Verb) (sizes : ℕ → ℕ → Reply) (new : World Name) : Type 0 where
  pub is_verb : IsVerb verb
  pub refuses : (left : List Mirror) (found : List KnownName) (refusal : Refusal) (next : State) → TriesAll (Unit {0}) st.outside.mirrors (tests limits st.store s verb) (Some refusal) left found
      → next.store ≡ st.store → GoesOutside st.outside left found next.outside → CommandStep limits st s verb (Refused refusal) next
  pub makes : (left : List Mirror) (found : List KnownName) (m o : ℕ) (next : State) → TriesAll (Unit {0}) st.outside.mirrors (tests limits st.store s verb) None left found
      → m ≡ length new.master → o ≡ length new.others → next.store ≡ after_flush st.store s new → GoesOutside st.outside left found next.outside → CommandStep limits st s verb (sizes m o) next
  pub named : refused_first (tests limits st.store s verb) ≡ None → IsNamedWorld new
  pub grows : refused_first (tests limits st.store s verb) ≡ None → GrowsMaster st.store.stored new
  pub holds : refused_first (tests limits st.store s verb) ≡ None → same_world new st.store.stored ≡ false → HoldPayloads (st.store.payloads ++ flush_change st.store.stored new ∷ []) new

module _ (began : ℕ) (kept : PlainStore) (tables : PlainTables) (k : IsKept kept.log tables kept.sessions kept.limits) (st : State) (old left : List Mirror) (b : PlainCache) (h : StandsBeside began kept old st)
    (s : ℕ) (small : s < sixteen) (right : AreRight st.store.payloads st.store.stored old) (sound : IsSoundCache b) (verb : Verb) (sizes : ℕ → ℕ → Reply) (new : World Name) (can : MakesWorld kept.limits st s verb sizes new) where
  tries : (verdict : Option Refusal) (t : Tried st.store.payloads st.store.stored (tests kept.limits st.store s verb) old left kept.cache b verdict)
      → TriesAll (Unit {0}) st.outside.mirrors (tests kept.limits st.store s verb) verdict left t.gained
  tries verdict t = subst (λ m. TriesAll (Unit {0}) m (tests kept.limits st.store s verb) verdict left t.gained) (sym h.outside_of.mirrors_are) (t.serving right)

  refused : (reserved : Held) → HasRoom kept.log reserved → (same : PlainStore) → same ≡ record { log = reserved; sessions = kept.sessions; limits = kept.limits; cache = b } → (payload : List ℕ) (refusal : Refusal)
      → PreparesChange kept.limits st.store s verb new old left kept.cache b (Err refusal) → ChangeStep began kept st s verb sizes new left payload (ends.Refused same refusal)
  refused reserved room same is payload refusal p =
      leads-to kept.limits began kept st s verb old left b h sound can.is_verb (Refused refusal) p.tried.gained st.store same (ap (λ (v : PlainStore). v.cache) is)
      (subst (λ v. Stands began v st.store) (sym is) (stands-room began kept.log reserved kept.sessions kept.limits st.store (ap (λ (l : Held). l.payloads) room) h.stored)) p.tried.keeps
      (can.refuses left p.tried.gained refusal (record { store = st.store; outside = outside_next st.outside left p.tried.gained b }) (tries (Some refusal) p.tried) refl
      (next-goes kept.cache b old left st h.outside_of sound p.tried.gained p.tried.keeps))

  module _ (reserved : Held) (after : PlainTables) (ready : Next) (p : IsPrepared kept.limits kept.log reserved tables after k.added ready.change ready.session) (room : HasRoom kept.log reserved)
      (made : PreparesChange kept.limits st.store s verb new old left kept.cache b (Ok ready)) where
    plan : IsPlanTo st.store new ready.change
    plan = made.right right

    passed : refused_first (tests kept.limits st.store s verb) ≡ None
    passed = ⊎_elim (λ e. sym e) (λ n. absurd n) (tried-all (Unit {0}) old left (tests kept.limits st.store s verb) None made.tried.gained (made.tried.serving right))

    abbrev end_state : State
    end_state = record { store = after_flush st.store s new; outside = outside_next st.outside left made.tried.gained b }

    step : (m o : ℕ) → m ≡ ready.change.master → o ≡ ready.change.others → CommandStep kept.limits st s verb (sizes m o) end_state
    step m o em eo =
        can.makes left made.tried.gained m o end_state (tries None made.tried) (em ∙ plan.plan.master) (eo ∙ plan.plan.others) refl
        (next-goes kept.cache b old left st h.outside_of sound made.tried.gained made.tried.keeps)

    leads : (m o : ℕ) → m ≡ ready.change.master → o ≡ ready.change.others → (store : PlainStore) → store.cache ≡ b → Stands began store (after_flush st.store s new) → Leads began kept.limits st s verb (sizes m o) store left
    leads m o em eo store is stands =
        leads-to kept.limits began kept st s verb old left b h sound can.is_verb (sizes m o) made.tried.gained (after_flush st.store s new) store is stands made.tried.keeps (step m o em eo)

    abbrev new_payload : Payload
    new_payload = flush_change st.store.stored new

    choice : (c : Bool) → same_world new st.store.stored ≡ c → after_flush st.store s new ≡ (if c then on_newest st.store s [] else on_newest (with_stored st.store new (flush_change st.store.stored new)) s [])
    choice c e = ap (λ (t : Bool). if t then on_newest st.store s [] else on_newest (with_stored st.store new (flush_change st.store.stored new)) s []) e

    -- nothing is stored
    module _ (same : ready.change.same ≡ true) where
      end-same : after_flush st.store s new ≡ on_newest st.store s []
      end-same = choice true ((worlds-decided new st.store.stored).1 (plan.plan.same.0 same))

      stands-same : Stands began (record { log = reserved; sessions = set kept.sessions s ready.session; limits = kept.limits; cache = b }) (after_flush st.store s new)
      stands-same = subst (Stands began (record { log = reserved; sessions = set kept.sessions s ready.session; limits = kept.limits; cache = b })) (sym end-same)
          (stands-as-before began kept tables k st.store h.stored s small reserved after ready.change ready.session p room same)

    -- the payload is stored
    module _ (changes : ready.change.same ≡ false) where
      differs : new ≡ st.store.stored → ⊥
      differs e = true≢false (sym (plan.plan.same.1 e) ∙ changes)

      is-new : same_world new st.store.stored ≡ false
      is-new = by_test (same_world new st.store.stored) refl
        where
          by_test : (c : Bool) → same_world new st.store.stored ≡ c → same_world new st.store.stored ≡ false
          by_test true e = absurd (differs ((worlds-decided new st.store.stored).0 e))
          by_test false e = e

      text-is : ready.change.payload ≡ text_of new_payload
      text-is = plan.plan.payload_is ∙ plan.change_of.some differs

      end-new : after_flush st.store s new ≡ on_newest (with_stored st.store new new_payload) s []
      end-new = choice false is-new

      stores : StoresBy st.store s new ready.change.payload
      stores = record {
        past = ap (λ (z : Stored). z.past) end-new;
        payloads = ap (λ (z : Stored). z.payloads) end-new;
        text = text-is;
      }

      stands-new : (log : Held) → log.payloads ≡ reserved.payloads ++ ready.change.payload ∷ []
          → Stands began (record { log = log; sessions = set kept.sessions s ready.session; limits = kept.limits; cache = b }) (after_flush st.store s new)
      stands-new log is =
          subst (Stands began (record { log = log; sessions = set kept.sessions s ready.session; limits = kept.limits; cache = b })) (sym end-new)
          (stands-changed began kept tables k st.store h.stored s small reserved after ready.change ready.session p room new new_payload changes text-is
          (can.named passed) (can.grows passed) (can.holds passed is-new) log is)

    finished : (end : Ended) → Finishes reserved (set kept.sessions s ready.session) kept.limits b ready.change end → ChangeStep began kept st s verb sizes new left ready.change.payload end
    finished (ends.Done store counts None) f = (
      leads counts.master counts.others f.2.0 f.2.1 store (ap (λ (v : PlainStore). v.cache) f.1) (subst (λ v. Stands began v (after_flush st.store s new)) (sym f.1) (stands-same f.0)),
      subst (λ v. Stands began v (after_flush st.store s new)) (sym f.1) (stands-same f.0),
      (ap (λ (z : Stored). z.past) (end-same f.0), ap (λ (z : Stored). z.payloads) (end-same f.0)),
    )
    finished (ends.Done store counts (Some clock)) f = (
      leads counts.master counts.others f.3.0 f.3.1 store (ap (λ (v : PlainStore). v.cache) f.1) (subst (λ v. Stands began v (after_flush st.store s new)) (sym f.1) (stands-new f.0 store.log f.2)),
      subst (λ v. Stands began v (after_flush st.store s new)) (sym f.1) (stands-new f.0 store.log f.2),
      stores f.0,
    )
    finished (ends.Refused same refusal) f = absurd f
    finished (ends.Disk fault) f = (end_state, step (length new.master) (length new.others) (sym plan.plan.master) (sym plan.plan.others), refl, refl, stores f)

  -- what was prepared, or refused, ends in the step
  pub change-ends : (reserved : Held) → HasRoom kept.log reserved → (after : PlainTables) (next : Result Next Refusal)
      → MatchResult next (λ ready. IsPrepared kept.limits kept.log reserved tables after k.added ready.change ready.session) (λ refusal. after ≡ tables)
      → PreparesChange kept.limits st.store s verb new old left kept.cache b next → (end : Ended) → FinishesAs reserved kept.sessions kept.limits b s next end → ChangeStep began kept st s verb sizes new left (payload_in next) end
  change-ends reserved room after (Ok ready) p made end e = finished reserved after ready p room made end e
  change-ends reserved room after (Err refusal) p made end e =
      subst (ChangeStep began kept st s verb sizes new left []) (sym e)
      (refused reserved room (record { log = reserved; sessions = kept.sessions; limits = kept.limits; cache = b }) refl [] refusal made)

-- it is refused where what was prepared is
pub ends-refused : (log : Held) (sessions : List PlainSession) (limits : Limits) (b : PlainCache) (at : ℕ) (next : Result Next Refusal) (end : Ended) → FinishesAs log sessions limits b at next end → refused_flush end ≡ refusal_in next
ends-refused log sessions limits b at (Ok ready) (ends.Done store counts clock) e = refl
ends-refused log sessions limits b at (Ok ready) (ends.Refused same refusal) e = absurd e
ends-refused log sessions limits b at (Ok ready) (ends.Disk fault) e = refl
ends-refused log sessions limits b at (Err refusal) end e = ap refused_flush e
