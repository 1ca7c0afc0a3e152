-- From what was prepared of what is asked, and how it ended, to what a change answers: by cases of the command.
use Rattle.std.proofs.Common.{◌≡◌, ◌<◌, ℕ, List, length, Option, Result, sym, subst}
use Rattle.std.specs.Prelude.{MatchResult}
use Rattle.id_groups.specs.Name.{Name}
use Rattle.disk_trait.specs.Images.{Told}
use Rattle.disk_trait.specs.Calls.{Goes}
use Rattle.gated_log.specs.Held.{Held, log_bytes}
use Rattle.change_rules.specs.declared.Limits.{Limits}
use Rattle.remote_rules.specs.Mirror.{Mirror}
use Rattle.lazy_names.specs.Cache.{PlainCache}
use Rattle.payload_tables.specs.Kept.{PlainTables}
use Rattle.step_rules.specs.declared.Refusal.{Refusal}
use Rattle.step_rules.specs.State.{State, Stored}
use Rattle.step_rules.specs.Verb.{Verb, Flush, Strip}
use Rattle.step_rules.specs.Reply.{Flushed as IsFlushed, Stripped as IsStripped}
use Rattle.step_rules.specs.Worlds.{flush_of}
use Rattle.store_plans.specs.declared.changing.Next.{Next}
use Rattle.dag_store.specs.declared.asks.Ask.{Ask}
use Rattle.dag_store.specs.declared.asks.Ask.TheVariants as asks
use Rattle.dag_store.specs.declared.replies.Changed.{Changed}
use Rattle.store_plans.specs.Sessions.{PlainSession}
use Rattle.store_plans.specs.Looking.{IsSoundCache}
use Rattle.store_plans.specs.Changes.{HasRoom, IsOn, IsPrepared, strip_of}
use Rattle.dag_store.specs.Kept.{PlainStore, IsKept, session_at, sixteen}
use Rattle.dag_store.specs.Stands.{Stands, StandsBeside}
use Rattle.dag_store.specs.Changes.{ChangeLeaves}
use Rattle.dag_store.specs.Finishes.{FinishesAs, payload_in}
use Rattle.dag_store.specs.Asks.{verb_of, MayBeAsked, HasNames, KeepsCache, PreparesAsk, MayChange, AskStep, AskAnswers}
use Rattle.dag_store.proofs.FlushStored.{on-of}
use Rattle.dag_store.proofs.ChangeSteps.{ends-refused}
use Rattle.dag_store.proofs.FlushSteps.{flush-makes}
use Rattle.dag_store.proofs.StripSteps.{strip-makes}
use Rattle.dag_store.proofs.FlushLeading.{change-asks-at, change-ends-at}
use Rattle.dag_store.proofs.CloneSteps.{clone-ends}
use Rattle.dag_store.proofs.PullAgrees.{agrees}
use Rattle.dag_store.proofs.PullSteps.{pull-ends}

module _ (log : Held) (tables : PlainTables) (sessions : List PlainSession) (limits : Limits) (k : IsKept log tables sessions limits) (s : ℕ) (small : s < sixteen) (a b : PlainCache) (first left : List Mirror)
    (q : PlainStore) (view : record { log = log; sessions = sessions; limits = limits; cache = a } ≡ q) (x : PlainSession) (there : x ≡ session_at sessions s) (reserved : Held) (room : HasRoom log reserved) (told then : Option Told)
    (sound : IsSoundCache a → IsSoundCache b) (after : PlainTables) (next : Result Next Refusal)
    (made : MatchResult next (λ ready. IsPrepared limits log reserved tables after k.added ready.change ready.session) (λ refusal. after ≡ tables)) (at : ℕ) (is : at ≡ s) (end : Changed)
    (ends : FinishesAs reserved sessions limits b at next end) (leaves : Goes (ChangeLeaves (record { log = log; sessions = sessions; limits = limits; cache = a }) (payload_in next) end) told then) where
  abbrev kept : PlainStore
  kept = record { log = log; sessions = sessions; limits = limits; cache = a }

  on : (began : ℕ) (st : Stored) → Stands began kept st → IsOn began k.added x st s
  on began st h = subst (λ (y : PlainSession). IsOn began k.added y st s) (sym there) (on-of log tables sessions limits k began st h s small)

  abbrev pub Answers : Verb → Type 0
  Answers verb =
      (payload : List ℕ) × Goes (ChangeLeaves q payload end) told then
      × ((began : ℕ) (st : State) → StandsBeside began q first st → MayChange verb st first → AskStep began q left st s verb payload end)
      × ((began : ℕ) (st : Stored) → Stands began q st → AskAnswers q.limits st s (length (log_bytes q.log)) verb first left payload end)

  abbrev pub Prepared : Verb → Type 0
  Prepared verb = (began : ℕ) (st : Stored) → IsOn began k.added x st s → PreparesAsk limits st s (length (log_bytes log)) verb first left a b next

  -- the end of what found no name
  still : b ≡ a → FinishesAs reserved sessions limits a at next end
  still same = subst (λ c. FinishesAs reserved sessions limits c at next end) same ends

  flush-answers : (heads : List Name) → HasNames (Flush heads) → Prepared (Flush heads) → Answers (Flush heads)
  flush-answers heads named f =
      let e = change-ends-at log tables sessions limits k s small a b first left q view x there (Flush heads) (λ m n. IsFlushed m n) (λ (st : Stored). flush_of st s heads)
      (λ began st o. flush-makes limits k.limits_fit began k.added x st s o heads named) reserved room told then sound after next made f at is end ends leaves in
      (e.0, e.1, e.2, change-asks-at log tables sessions limits k s small a b first left q view x there (Flush heads) (λ (st : Stored). flush_of st s heads) next f _ (ends-refused reserved sessions limits b at next end ends))

  strip-answers : (names : List Name) → MayBeAsked (Strip names) → Prepared (Strip names) → Answers (Strip names)
  strip-answers names some f =
      let e = change-ends-at log tables sessions limits k s small a b first left q view x there (Strip names) (λ m n. IsStripped m n) (λ (st : Stored). strip_of st names)
      (λ began st o. strip-makes limits began k.added x st s o names some) reserved room told then sound after next made f at is end ends leaves in
      (e.0, e.1, e.2, change-asks-at log tables sessions limits k s small a b first left q view x there (Strip names) (λ (st : Stored). strip_of st names) next f _ (ends-refused reserved sessions limits b at next end ends))

  pub ask-answers : (ask : Ask) → MayBeAsked (verb_of ask) → HasNames (verb_of ask) → KeepsCache (verb_of ask) a b → Prepared (verb_of ask) → Answers (verb_of ask)
  ask-answers (asks.Flush heads) some named keeps f = flush-answers heads.now named f
  ask-answers (asks.Strip names) some named keeps f = strip-answers names.now some f
  ask-answers asks.Clone some named keeps f =
      clone-ends kept q view tables k s small first left reserved room told then after next made (λ began st h. f began st (on began st h)) at is end (still keeps) leaves
  ask-answers asks.Pull some named keeps f =
      pull-ends kept q view tables k s small first left (λ began st h. let o = on-of log tables sessions limits k began st h s small in agrees k.added st o.payloads o.hold) reserved room told then after next made
      (λ began st h. f began st (on began st h)) at is end (still keeps) leaves
