-- A store beside mirrors.
use Rattle.std.proofs.Common.{◌≡◌, inl, inr, ◌+◌, ℕ, List, [], None, Ok, length, map, take, refl, sym, subst}
use Rattle.id_groups.specs.Name.{Name}
use Rattle.span_set.specs.Members.{ids_of}
use Rattle.set_expr.specs.Expr.{Expr}
use Rattle.set_query.specs.declared.evaluation.Answer.{Answer}
use Rattle.remote_rules.specs.Mirror.{Mirror}
use Rattle.step_rules.specs.State.{State, Stored, base_of, session}
use Rattle.step_rules.specs.Tests.{tests}
use Rattle.step_rules.specs.declared.Refusal.{Refusal}
use Rattle.std.specs.declared.result.Result.{Result}
use Rattle.batch_codec.specs.Payload.{Payload}
use Rattle.commit_graph.specs.World.{World}
use Rattle.store_plans.specs.Looking.{AsksAlike}
use Rattle.store_queries.specs.Querying.{AsksQuery}
use Rattle.step_rules.specs.Verb.{Verb, IsVerb, Count, Query}
use Rattle.step_rules.specs.Reply.{Reply, Counted, Listed, Refused}
use Rattle.step_rules.specs.declared.Refusal.TheVariants as why
use Rattle.step_rules.specs.Step.{CommandStep}
use Rattle.dag_store.specs.Kept.{PlainStore}
use Rattle.store_queries.specs.declared.query.Found.{Found}
use Rattle.dag_store.specs.Stands.{Stands, StandsBeside, IsAnswerable}
use Rattle.dag_store.specs.Steps.{AreIdsOf, CountStep, KeepsAll, Leads, QueryStep}
use Rattle.store_queries.specs.Names.{known_name}
use Rattle.dag_run.proofs.Doing.{same-outside}
use Rattle.segdag_c.specs.Does.{AsksFor, Does, StaysBut}
use Rattle.segdag_c.proofs.Wanting.{wants-memory}

pub counts : (first left : List Mirror) (old new : PlainStore) (s : ℕ) (e : Expr Name) (answer : Answer) (count : ℕ) → KeepsAll old new → AsksFor first old s (Count e) (Counted count) left → count ≡ length (ids_of answer.set)
    → ((began : ℕ) (st : State) → StandsBeside began old first st → IsAnswerable st → CountStep began old.limits st s e (Ok answer) new left) → Does first old s (Count e) (Counted count) new left
counts first left old new s e answer count kept asks same step = (
  kept,
  λ began st stands answerable. subst (λ n. Leads began old.limits st s (Count e) (Counted n) new left) (sym same) (step began st stands answerable).1,
  asks,
)

-- how a query asks
abbrev pub AsksThis : List Mirror → List Mirror → PlainStore → ℕ → Expr Name → Result Found Refusal → Type 0
AsksThis first left old s e r =
    (began : ℕ) (st : Stored) → Stands began old st
    → AsksQuery old.limits.answer (take (began + (session st s).base) st.payloads) (base_of st s) (tests old.limits st s (Query e)) first left r

-- a query, of which these names are told that are found in each state
pub lists : (first left : List Mirror) (old new : PlainStore) (s : ℕ) (e : Expr Name) (found : Found) (listed : List Name) → KeepsAll old new → AsksThis first left old s e (Ok found)
    → ((began : ℕ) (st : Stored) (names : List Name) → Stands began new st → AreIdsOf st s (ids_of found.answer.set) (map known_name found.fetched) names → listed ≡ names)
    → ((began : ℕ) (st : State) → StandsBeside began old first st → IsAnswerable st → QueryStep began old.limits st s e (Ok found) new left) → Does first old s (Query e) (Listed listed) new left
lists first left old new s e found listed kept asks finds step = (
  kept,
  λ began st stands answerable.
      (let q = step began st stands answerable in
      let same : listed ≡ q.0 = finds began st.store q.0 (subst (λ (n : PlainStore). Stands began n st.store) (sym kept) stands.stored) q.2 in
      subst (λ names. Leads began old.limits st s (Query e) (Listed names) new left) (sym same) q.1),
  (Ok found, inl refl, asks),
)

-- one whose names there is no memory for
pub lists-none : (first left : List Mirror) (old new : PlainStore) (s : ℕ) (e : Expr Name) (found : Found) → KeepsAll old new → AsksThis first left old s e (Ok found)
    → ((began : ℕ) (st : State) → StandsBeside began old first st → IsAnswerable st → QueryStep began old.limits st s e (Ok found) new left) → Does first old s (Query e) (Refused why.Memory) new left
lists-none first left old new s e found kept asks step = (
  kept,
  λ began st stands answerable.
      (let q = step began st stands answerable in (q.1.0, wants-memory old.limits st s e q.0 q.1.0 q.1.1, q.1.2)),
  (Ok found, inr refl, asks),
)

-- where nothing is tested no mirror is asked
pub none-asked : (payloads : List Payload) (w : World Name) (mirrors : List Mirror) → AsksAlike payloads w [] mirrors mirrors None
none-asked payloads w mirrors = ([], record { front = []; rest = []; parts = refl; whole = λ none. refl; told = []; alike = tt; tries = (refl, refl, inl refl) })

-- a command that asks no mirror and changes nothing
pub tells : (mirrors : List Mirror) (kept : PlainStore) (s : ℕ) (verb : Verb) (reply : Reply) → StaysBut s reply kept kept → AsksFor mirrors kept s verb reply mirrors
    → ((began : ℕ) (st : State) → Stands began kept st.store → CommandStep kept.limits st s verb reply st) → Does mirrors kept s verb reply kept mirrors
tells mirrors kept s verb reply stays asks step = (stays, λ began st stands answerable. (st, step began st stands.stored, stands), asks)

-- one that asks none, and keeps the names that are kept
pub changes : (mirrors : List Mirror) (old new : PlainStore) (s : ℕ) (verb : Verb) (reply : Reply) → StaysBut s reply old new → AsksFor mirrors old s verb reply mirrors → IsVerb verb → new.cache ≡ old.cache
    → ((began : ℕ) (st : State) → Stands began old st.store → (now : Stored) × CommandStep old.limits st s verb reply (record st { store = now }) × Stands began new now)
    → Does mirrors old s verb reply new mirrors
changes mirrors old new s verb reply stays asks is cache does = (
  stays,
  λ began st stands answerable.
      (let d = does began st stands.stored in
      (record st { store = d.0 }, d.1, same-outside old.limits began old new mirrors st s verb reply d.0 is stands cache d.1 d.2)),
  asks,
)
