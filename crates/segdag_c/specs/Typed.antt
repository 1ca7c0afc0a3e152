-- The replies that the answers of typed calls are.
use Rattle.std.specs.Prelude.{ℕ, ⊤, Option, Some, None, Result, Ok, Err}
use Rattle.step_rules.specs.declared.Refusal.{Refusal}
use Rattle.step_rules.specs.Reply.{Reply, Counted, Reloaded, Refused as IsRefused}
use Rattle.store_queries.specs.declared.adding.Added.{Added}
use Rattle.store_queries.specs.declared.adding.Added.TheVariants.{New, Old}
use Rattle.dag_store.specs.Steps.{add_reply, id_reply as reply_of_id}
use Rattle.segdag_c.specs.declared.codes.Failure.{Failure}
use Rattle.segdag_c.specs.declared.codes.Failure.TheVariants.{Refused}

-- the reply that an answer of the store is; none where the store wasn't asked
abbrev pub reply_of : {X : Type 0} → (X → Reply) → Result X Failure → Option Reply
reply_of told (Ok x) = Some (told x)
reply_of told (Err (Refused refusal)) = Some (IsRefused refusal)
reply_of told (Err _) = None

-- of an add, of a command for an id, of a count, of a reload
abbrev pub added_reply : Result Added Failure → Option Reply
added_reply result = reply_of (λ added. add_reply (Ok added)) result

abbrev pub id_reply : Result ℕ Failure → Option Reply
id_reply result = reply_of (λ id. reply_of_id (Ok id)) result

abbrev pub counted_reply : Result ℕ Failure → Option Reply
counted_reply result = reply_of Counted result

abbrev pub reloaded_reply : Result ℕ Failure → Option Reply
reloaded_reply result = reply_of Reloaded result

-- the refusal that a failure is; none where the store wasn't asked
abbrev pub refusal_in : Failure → Option Refusal
refusal_in (Refused refusal) = Some refusal
refusal_in failure = None

-- the store wasn't asked
abbrev pub IsNoRefusal : Failure → Type 0
IsNoRefusal (Refused refusal) = ⊥
IsNoRefusal failure = ⊤

-- the id of a commit that was added, or was there
abbrev pub id_told : Added → ℕ
id_told (New id) = id
id_told (Old id) = id
