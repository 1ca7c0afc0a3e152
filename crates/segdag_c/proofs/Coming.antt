-- What comes of typed calls.
use Rattle.std.proofs.Common.{◌≡◌, ℕ, List, Option, Some, Ok, Err, MatchResult, IfErr, IfOk, sym, subst}
use Rattle.std.specs.Prelude.{MatchOption}
use Rattle.std.specs.declared.result.Result.{Result}
use Rattle.store_queries.specs.declared.adding.Added.{Added}
use Rattle.store_queries.specs.declared.adding.Added.TheVariants.{New, Old}
use Rattle.id_groups.specs.Name.{Name}
use Rattle.remote_rules.specs.Mirror.{Mirror}
use Rattle.step_rules.specs.Reply.{Reply, Added as IsAdded}
use Rattle.step_rules.specs.Verb.{Verb, Add}
use Rattle.dag_store.specs.Kept.{PlainStore}
use Rattle.dag_store.specs.Steps.{ChangesOnly, add_reply}
use Rattle.segdag_c.specs.Does.{AsksFor, Does, StaysBut}

-- of an add
pub stays-added : (s : ℕ) (added : Added) (old new : PlainStore) → ChangesOnly s old new → StaysBut s (add_reply (Ok added)) old new
stays-added s (New id) old new only = only
stays-added s (Old id) old new only = only

-- a result by what is known of both its cases
pub known : {X E : Type 0} (r : Result X E) (P Q : X → Type 0) (F G : E → Type 0) → ((x : X) → P x → Q x) → ((e : E) → F e → G e) → IfOk r P → IfErr r F → MatchResult r Q G
known (Ok x) P Q F G more why p f = more x p
known (Err e) P Q F G more why p f = why e f

-- a store that is there before and behind
pub store-does : (before after : Option PlainStore) (old new : PlainStore) (first left : List Mirror) (s : ℕ) (verb : Verb) (reply : Reply) → before ≡ Some old → after ≡ Some new → Does first old s verb reply new left
    → MatchOption before ⊥ (λ p. MatchOption after ⊥ (λ q. Does first p s verb reply q left))
store-does before after old new first left s verb reply was is does =
    subst (λ o. MatchOption o ⊥ (λ p. MatchOption after ⊥ (λ q. Does first p s verb reply q left))) (sym was)
    (subst (λ o. MatchOption o ⊥ (λ q. Does first old s verb reply q left)) (sym is) does)

-- an add that is answered is not refused
pub asks-added : (first left : List Mirror) (old : PlainStore) (s : ℕ) (name : Name) (parents : List Name) (added : Added) → AsksFor first old s (Add name parents) (IsAdded 0) left
    → AsksFor first old s (Add name parents) (add_reply (Ok added)) left
asks-added first left old s name parents (New id) asks = asks
asks-added first left old s name parents (Old id) asks = asks
