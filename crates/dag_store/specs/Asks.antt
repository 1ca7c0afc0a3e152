-- What is asked of a store that may change what is stored, by its command, and what a change answers: one relation by cases of that.
use Rattle.std.specs.Prelude.{◌≡◌, ◌≢◌, ℕ, List, [], Result, MatchResult, length, ⊤}
use Rattle.std.specs.List.{AllByRecursion}
use Rattle.id_groups.specs.Name.{IsName}
use Rattle.commit_graph.specs.World.{rows_of}
use Rattle.remote_rules.specs.Mirror.{Mirror}
use Rattle.lazy_names.specs.Cache.{PlainCache}
use Rattle.change_rules.specs.declared.Limits.{Limits}
use Rattle.step_rules.specs.declared.Refusal.{Refusal}
use Rattle.step_rules.specs.State.{State, Stored}
use Rattle.step_rules.specs.Verb.{Verb, Flush, Strip, Clone, Pull}
use Rattle.step_rules.specs.Tests.{tests}
use Rattle.step_rules.specs.Served.{IsServed}
use Rattle.store_plans.specs.declared.changing.Next.{Next}
use Rattle.store_plans.specs.Looking.{AsksAlike}
use Rattle.store_plans.specs.Changes.{PreparesFlush}
use Rattle.store_plans.specs.Strips.{PreparesStrip}
use Rattle.store_plans.specs.ClonePlans.{PlansClone, RefusesClone}
use Rattle.store_plans.specs.PullPlans.{PlansPull, RefusesPull}
use Rattle.dag_store.specs.declared.asks.Ask.{Ask}
use Rattle.dag_store.specs.declared.asks.Ask.TheVariants as asks
use Rattle.dag_store.specs.declared.replies.Changed.{Changed}
use Rattle.dag_store.specs.Kept.{PlainStore}
use Rattle.dag_store.specs.Stands.{IsAnswerable}
use Rattle.dag_store.specs.Changes.{FlushStep, StripStep, refused_flush}
use Rattle.dag_store.specs.Clones.{CloneStep, CloneAnswers}
use Rattle.dag_store.specs.Pulls.{AllBeginWith, PullStep, PullAnswers}

-- the command
abbrev pub verb_of : Ask → Verb
verb_of (asks.Flush heads) = Flush heads.now
verb_of (asks.Strip names) = Strip names.now
verb_of asks.Clone = Clone
verb_of asks.Pull = Pull

-- something is to be stripped
abbrev pub MayBeAsked : Verb → Type 0
MayBeAsked (Strip names) = names ≢ []
MayBeAsked _ = ⊤

-- ---- what is prepared

-- heads have 20 bytes
abbrev pub HasNames : Verb → Type 0
HasNames (Flush heads) = AllByRecursion IsName heads
HasNames _ = ⊤

-- a clone and a pull find no name
abbrev pub KeepsCache : Verb → PlainCache → PlainCache → Type 0
KeepsCache Clone before now = now ≡ before
KeepsCache Pull before now = now ≡ before
KeepsCache _ before now = ⊤

-- what was prepared, over a log of so many bytes, or why it was refused
abbrev pub PreparesAsk : Limits → Stored → ℕ → ℕ → Verb → List Mirror → List Mirror → PlainCache → PlainCache → Result Next Refusal → Type 0
PreparesAsk limits st s log (Flush heads) first left before now next = PreparesFlush limits st s heads first left before now next
PreparesAsk limits st s log (Strip names) first left before now next = PreparesStrip limits st s names first left before now next
PreparesAsk limits st s log Clone first left before now next =
    MatchResult next (λ ready. PlansClone limits st s log first left ready.change) (RefusesClone limits st s log first left)
PreparesAsk limits st s log Pull first left before now next =
    MatchResult next (λ ready. PlansPull limits st s first left ready.change) (RefusesPull limits st s first left)
PreparesAsk limits st s log _ first left before now next = ⊥

-- ---- what is answered

-- What the step of a change rests on. Of a flush and a strip: each commit of the stored world has a stored name, or the mirrors serve
-- that world. Of a clone: where nothing is stored the mirrors serve. Of a pull: each mirror's master begins with the cloned commits.
abbrev pub MayChange : Verb → State → List Mirror → Type 0
MayChange (Flush heads) st mirrors = IsAnswerable st
MayChange (Strip names) st mirrors = IsAnswerable st
MayChange Clone st mirrors = length (rows_of st.store.stored) ≡ 0 → IsServed st
MayChange Pull st mirrors = AllBeginWith st.store mirrors
MayChange _ st mirrors = ⊥

-- what a change answers for a state that the store stands for
abbrev pub AskStep : ℕ → PlainStore → List Mirror → State → ℕ → Verb → List ℕ → Changed → Type 0
AskStep began old left st s (Flush heads) payload end = FlushStep began old st s heads left payload end
AskStep began old left st s (Strip names) payload end = StripStep began old st s names left payload end
AskStep began old left st s Clone payload end = CloneStep began old left st s payload end
AskStep began old left st s Pull payload end = PullStep began old left st s payload end
AskStep began old left st s _ payload end = ⊥

-- what it asks the mirrors and answers by what they tell, whoever they are, over a log of so many bytes
abbrev pub AskAnswers : Limits → Stored → ℕ → ℕ → Verb → List Mirror → List Mirror → List ℕ → Changed → Type 0
AskAnswers limits st s log (Flush heads) first left payload end = AsksAlike st.payloads st.stored (tests limits st s (Flush heads)) first left (refused_flush end)
AskAnswers limits st s log (Strip names) first left payload end = AsksAlike st.payloads st.stored (tests limits st s (Strip names)) first left (refused_flush end)
AskAnswers limits st s log Clone first left payload end = CloneAnswers limits st s log first left payload end
AskAnswers limits st s log Pull first left payload end = PullAnswers limits st s first left payload end
AskAnswers limits st s log _ first left payload end = ⊥
