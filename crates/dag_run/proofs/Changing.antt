-- What a change leads to, by cases of what is asked: its step, what it changes, and for which state the store stands afterwards.
use Rattle.std.proofs.Common.{◌≡◌, ℕ, List, Option, None, refl, sym, subst}
use Rattle.id_groups.specs.Name.{same_name}
use Rattle.change_rules.specs.Strip.{stripped}
use Rattle.remote_rules.specs.Mirror.{Mirror}
use Rattle.step_rules.specs.declared.Refusal.{Refusal}
use Rattle.step_rules.specs.State.{State}
use Rattle.step_rules.specs.Verb.{Flush, Strip}
use Rattle.step_rules.specs.Reply.{Reply, Flushed, Stripped, Cloned, Pulled, Refused}
use Rattle.step_rules.specs.Worlds.{flush_of}
use Rattle.step_rules.specs.Step.{CommandStep, MayWantMemory}
use Rattle.store_plans.specs.PullPlans.{pull_of}
use Rattle.dag_store.specs.declared.asks.Ask.{Ask}
use Rattle.dag_store.specs.declared.asks.Ask.TheVariants as asks
use Rattle.dag_store.specs.declared.replies.Counts.{Counts}
use Rattle.dag_store.specs.declared.replies.Changed.{Changed as Ended}
use Rattle.dag_store.specs.declared.replies.Changed.TheVariants as ends
use Rattle.disk_trait.specs.declared.DiskFault.{DiskFault}
use Rattle.dag_store.specs.Kept.{PlainStore}
use Rattle.dag_store.specs.Stands.{StandsBeside}
use Rattle.dag_store.specs.Asks.{verb_of, MayChange, AskStep}
use Rattle.dag_store.specs.Clones.{beside, clone_end}
use Rattle.dag_store.specs.Pulls.{AllBeginWith, pull_end}
use Rattle.dag_run.specs.Enough.{IsEnoughFor}
use Rattle.dag_run.specs.Lines.{Changes, HasChanged}
use Rattle.dag_run.specs.Replies.{reply_of_change}
use Rattle.dag_run.proofs.Doing.{flush-next, strip-next, flush-changes, change-of, refused-changes, clone-changes, clone-change}

-- each may want memory
pub may-want : (ask : Ask) → MayWantMemory (verb_of ask)
may-want (asks.Flush heads) = tt
may-want (asks.Strip names) = tt
may-want asks.Clone = tt
may-want asks.Pull = tt

module _ (first left : List Mirror) (old : PlainStore) (s : ℕ) (payload : List ℕ) where
  abbrev pub Does : Ask → Ended → Type 0
  Does ask end = (began : ℕ) (st : State) → StandsBeside began old first st → MayChange (verb_of ask) st first → AskStep began old left st s (verb_of ask) payload end

  begin : (began : ℕ) (st : State) → StandsBeside began old first st → IsEnoughFor (verb_of asks.Pull) st → AllBeginWith st.store first
  begin began st h enough = subst (AllBeginWith st.store) h.outside_of.mirrors_are (enough.2 refl)

  -- it is done
  pub change-done : (ask : Ask) (new : PlainStore) (counts : Counts) (clock : Option ℕ) → Does ask (ends.Done new counts clock) → (began : ℕ) (st : State) → StandsBeside began old first st → IsEnoughFor (verb_of ask) st
      → (next : State) × CommandStep old.limits st s (verb_of ask) (reply_of_change ask counts) next × Changes clock st.store next.store payload × StandsBeside began new left next
  change-done (asks.Flush heads) new counts clock does began st h enough =
      let f = does began st h enough.0 in
      (f.0.0, f.0.1, flush-changes clock st.store s (flush_of st.store s heads.now) payload f.0.0.store (flush-next old.limits st s heads.now counts.master counts.others f.0.0 f.0.1) f.2, f.0.2)
  change-done (asks.Strip names) new counts clock does began st h enough =
      let f = does began st h enough.0 in
      (f.0.0, f.0.1, flush-changes clock st.store s (stripped same_name st.store.stored names.now) payload f.0.0.store (strip-next old.limits st s names.now counts.master counts.others f.0.0 f.0.1) f.2, f.0.2)
  change-done asks.Clone new counts clock does began st h enough =
      let f = does began st h enough.1 in
      (beside st (clone_end st.store s f.0) left, f.2, clone-changes clock st.store s f.0 payload f.5, f.3)
  change-done asks.Pull new counts clock does began st h enough =
      let f = does began st h (begin began st h enough) in
      (beside st (pull_end st.store s f.0) left, f.2, flush-changes clock st.store s (pull_of st.store f.0) payload (pull_end st.store s f.0) refl f.4, f.3)

  -- it is refused
  pub change-refused : (ask : Ask) (new : PlainStore) (refusal : Refusal) → Does ask (ends.Refused new refusal) → (began : ℕ) (st : State) → StandsBeside began old first st → IsEnoughFor (verb_of ask) st
      → (next : State) × CommandStep old.limits st s (verb_of ask) (Refused refusal) next × Changes None st.store next.store payload × StandsBeside began new left next
  change-refused (asks.Flush heads) new refusal does began st h enough =
      let f = does began st h enough.0 in (f.0, f.1, refused-changes old.limits st s (Flush heads.now) refusal f.0 f.1, f.2)
  change-refused (asks.Strip names) new refusal does began st h enough =
      let f = does began st h enough.0 in (f.0, f.1, refused-changes old.limits st s (Strip names.now) refusal f.0 f.1, f.2)
  change-refused asks.Clone new refusal does began st h enough =
      let f = does began st h enough.1 in (beside st st.store left, f.0, (refl, refl), f.1)
  change-refused asks.Pull new refusal does began st h enough =
      let f = does began st h (begin began st h enough) in (beside st st.store left, f.0, (refl, refl), f.1)

  -- the disk failed in it
  pub change-short : (ask : Ask) (fault : DiskFault) → Does ask (ends.Disk fault) → (began : ℕ) (st : State) → StandsBeside began old first st → IsEnoughFor (verb_of ask) st
      → (reply : Reply) × (next : State) × CommandStep old.limits st s (verb_of ask) reply next × HasChanged st.store next.store payload × (left ≡ next.outside.mirrors)
  change-short (asks.Flush heads) fault does began st h enough =
      let f = does began st h enough.0 in
      (Flushed _ _, f.0, f.1, change-of st.store s (flush_of st.store s heads.now) payload f.0.store f.2 f.4, sym f.3)
  change-short (asks.Strip names) fault does began st h enough =
      let f = does began st h enough.0 in
      (Stripped _ _, f.0, f.1, change-of st.store s (stripped same_name st.store.stored names.now) payload f.0.store f.2 f.4, sym f.3)
  change-short asks.Clone fault does began st h enough =
      let f = does began st h enough.1 in
      (Cloned _, beside st (clone_end st.store s f.0) left, f.2, clone-change st.store s f.0 payload f.3, refl)
  change-short asks.Pull fault does began st h enough =
      let f = does began st h (begin began st h enough) in
      (Pulled _ _, beside st (pull_end st.store s f.0) left, f.2, change-of st.store s (pull_of st.store f.0) payload (pull_end st.store s f.0) refl f.3, refl)
