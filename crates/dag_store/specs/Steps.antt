-- What the calls of a session answer, for each state that the store stands for.
use Rattle.std.specs.Prelude.{◌≡◌, ℕ, List, length, map, Result, Ok, Err, slice_set}
use Rattle.id_groups.specs.Lists.{AreAllIn}
use Rattle.id_groups.specs.Name.{Name, same_name}
use Rattle.commit_graph.specs.World.{names_of, rows_of}
use Rattle.commit_graph.specs.Ids.{id_in}
use Rattle.set_expr.specs.Expr.{Expr}
use Rattle.set_expr.specs.Meaning.{IsAnswer}
use Rattle.span_set.specs.Members.{ids_of}
use Rattle.set_query.specs.declared.evaluation.Answer.{Answer}
use Rattle.change_rules.specs.declared.Limits.{Limits}
use Rattle.remote_rules.specs.CloneData.{KnownName}
use Rattle.remote_rules.specs.Mirror.{Mirror}
use Rattle.step_rules.specs.declared.Refusal.{Refusal}
use Rattle.step_rules.specs.State.{State, Stored, base_of, view_of, seen_by}
use Rattle.step_rules.specs.Verb.{Verb, Query, Count}
use Rattle.step_rules.specs.Reply.{Reply, Added as IsAdded, Old as IsOld, Reloaded, Identified, Listed, Counted, Refused}
use Rattle.step_rules.specs.Asked.{lazy_among}
use Rattle.step_rules.specs.Step.{CommandStep}
use Rattle.store_queries.specs.declared.adding.Added.{Added}
use Rattle.store_queries.specs.declared.adding.Added.TheVariants.{New, Old}
use Rattle.store_plans.specs.Sessions.{PlainSession}
use Rattle.dag_store.specs.Kept.{PlainStore}
use Rattle.dag_store.specs.Stands.{StandsBeside}
use Rattle.store_queries.specs.Names.{known_name}
use Rattle.store_queries.specs.declared.query.Found.{Found}

-- only the session changes, and names that are kept
abbrev pub ChangesOnly : ℕ → PlainStore → PlainStore → Type 0
ChangesOnly s old new = (x : PlainSession) × (new ≡ record { log = old.log; sessions = slice_set old.sessions s x; limits = old.limits; cache = new.cache })

-- nothing changes but the names that are kept
abbrev pub KeepsAll : PlainStore → PlainStore → Type 0
KeepsAll old new = new ≡ record { log = old.log; sessions = old.sessions; limits = old.limits; cache = new.cache }

-- The command's step with this reply, to a state for which the store stands afterwards, beside the mirrors that are left.
abbrev pub Leads : ℕ → Limits → State → ℕ → Verb → Reply → PlainStore → List Mirror → Type 0
Leads began limits st s verb reply new left = (next : State) × CommandStep limits st s verb reply next × StandsBeside began new left next

-- the replies of calls
abbrev pub add_reply : Result Added Refusal → Reply
add_reply (Ok (New id)) = IsAdded id
add_reply (Ok (Old id)) = IsOld id
add_reply (Err refusal) = Refused refusal

abbrev pub reload_reply : Result ℕ Refusal → Reply
reload_reply (Ok left) = Reloaded left
reload_reply (Err refusal) = Refused refusal

abbrev pub id_reply : Result ℕ Refusal → Reply
id_reply (Ok id) = Identified id
id_reply (Err refusal) = Refused refusal

-- The ids are those of these names of the session's view; those of them that aren't stored were fetched, or were in the cache.
pub record AreIdsOf (st : Stored) (s : ℕ) (ids : List ℕ) (fetched : List KnownName) (names : List Name) : Type 0 where
  pub seen : AreAllIn names (names_of (rows_of (view_of st s)))
  pub ids_are : ids ≡ map (id_in same_name (view_of st s)) names
  pub lazy : fetched ≡ lazy_among st (base_of st s) names

-- the members of an expression: their names, by their ids
abbrev pub QueryStep : ℕ → Limits → State → ℕ → Expr Name → Result Found Refusal → PlainStore → List Mirror → Type 0
QueryStep began limits st s e (Ok found) new left =
    (names : List Name) × Leads began limits st s (Query e) (Listed names) new left × AreIdsOf st.store s (ids_of found.answer.set) (map known_name found.fetched) names
QueryStep began limits st s e (Err refusal) new left = Leads began limits st s (Query e) (Refused refusal) new left

-- how many they are: the answer's members, by their ids
abbrev pub CountStep : ℕ → Limits → State → ℕ → Expr Name → Result Answer Refusal → PlainStore → List Mirror → Type 0
CountStep began limits st s e (Ok answer) new left =
    (names : List Name) × Leads began limits st s (Count e) (Counted (length (ids_of answer.set))) new left × IsAnswer (seen_by st.store s) e names
    × (ids_of answer.set ≡ map (id_in same_name (view_of st.store s)) names)
CountStep began limits st s e (Err refusal) new left = Leads began limits st s (Count e) (Refused refusal) new left
