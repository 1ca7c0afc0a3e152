-- What executing a command does.
use Rattle.std.proofs.Common.{◌≡◌, ◌<◌, ◌≤◌, inl, inr, ℕ, Bool, true, false, not, List, [], length, Option, Some, None, Ok, Err, IfOk, IfErr, MatchOption, refl, sym, ap, subst, subst₂, ◌∙◌, arith, nat_lt}
use Rattle.std.specs.Bool.{MatchBool}
use Rattle.std.specs.Prelude.{◌&&◌, OnOk, OnErr}
use Rattle.std.specs.declared.result.Result.{Result}
use Rattle.std.proofs.lemmas.Bool.{ltb-true, lt-ltb}
use Rattle.std.proofs.lemmas.List.{length-map}
use Rattle.outside.specs.Told.{WhereTold}
use Rattle.outside.proofs.ToldLemmas.{WhereTold-map}
use Rattle.id_groups.specs.Name.{Name, same_name}
use Rattle.commit_graph.specs.World.{Row, World}
use Rattle.commit_graph.specs.Ids.{id_in}
use Rattle.disk_trait.specs.Images.{Told as Disk}
use Rattle.disk_trait.specs.Calls.{Goes}
use Rattle.disk_trait.specs.declared.DiskFault.{DiskFault}
use Rattle.disk_trait.proofs.Telling.{goes-map, goes-same}
use Rattle.line_io.specs.Lines.{is_silent, is_too_long, is_empty_or_comment}
use Rattle.gated_log.specs.Holding.{IsOnDisk}
use Rattle.gated_log.specs.Held.{Held}
use Rattle.set_expr.specs.Expr.{Expr}
use Rattle.set_query.specs.declared.evaluation.Answer.{Answer}
use Rattle.change_rules.specs.declared.Limits.{Limits}
use Rattle.change_rules.specs.Change.{flush_change, clone_change as clone_payload}
use Rattle.change_rules.specs.Strip.{stripped}
use Rattle.remote_rules.specs.CloneData.{KnownName}
use Rattle.remote_rules.specs.Known.{master_world}
use Rattle.remote_rules.specs.Mirror.{Mirror}
use Rattle.step_rules.specs.declared.Refusal.{Refusal}
use Rattle.step_rules.specs.declared.Refusal.TheVariants as why
use Rattle.step_rules.specs.State.{State, Stored, view_of}
use Rattle.step_rules.specs.Verb.{Verb, IsVerb, Add, Flush, Reload, Discard, Query, Count, IdOf, Status, Levels, Clone, Pull, Strip, CountMirrors, Drop}
use Rattle.step_rules.specs.Reply.{Reply, Counted, Dropped, Flushed, Stripped, Listed, Refused, reply_text}
use Rattle.step_rules.specs.Tests.{tests}
use Rattle.step_rules.specs.Worlds.{has, with_added, after_flush}
use Rattle.step_rules.specs.Step.{IsTold, Answers, CommandStep, GoesOutside, IsRefused, MayWantMemory, without}
use Rattle.step_rules.proofs.Kept.{step-state}
use Rattle.step_rules.proofs.Plain.{all-memory, outside-same}
use Rattle.step_rules.proofs.Refused.{refused-kept}
use Rattle.run_rules.specs.Grammar.{SpellsCommand}
use Rattle.run_rules.specs.Run.{Step}
use Rattle.command_lines.specs.Sending.{listed_text}
use Rattle.dag_store.specs.Kept.{PlainStore}
use Rattle.dag_store.specs.Stands.{Stands, StandsBeside, IsOutsideOf, IsAnswerable}
use Rattle.dag_store.specs.Steps.{AreIdsOf, CountStep, ChangesOnly, KeepsAll, Leads}
use Rattle.store_plans.specs.Changes.{HasRoom}
use Rattle.dag_store.specs.Changes.{HasStored, Stores, StoresBy, ChangeLeaves, LeavesStore, flush_end}
use Rattle.dag_store.specs.Clones.{StoresClone, StoresCloneBy, clone_end}
use Rattle.dag_store.specs.declared.replies.Counts.{Counts}
use Rattle.dag_store.specs.declared.replies.Changed.TheVariants as flushes
use Rattle.dag_run.specs.Enough.{IsEnoughFor}
use Rattle.dag_run.specs.Lines.{Changes, HasChanged, IsBrief, PutsReply, IsLimited, Replies, CommandReplies, DoesBeside, DropsAt, LineReplies, LineLeaves}
use Rattle.dag_run.specs.Replies.{reply_of_count}
use Rattle.dag_run.specs.declared.stops.Stop.{Stop}
use Rattle.dag_run.specs.declared.stops.Stop.TheVariants as stops
use Rattle.dag_run.proofs.Mirrors.{counts-same, drops-same}
use Rattle.dag_run.proofs.Solo.{command-step}

-- ---- the disk
module _ (kept store : PlainStore) (payload : List ℕ) where
  -- nothing was called
  still-leaves : (r : Result PlainStore Stop) (a : Disk) → IfOk r (λ next. next ≡ store) → IfErr r (λ stop. stop ≡ stops.Sink) → HasRoom kept.log store.log → LineLeaves kept payload None r a a
  still-leaves (Ok next) a same stop room = (refl, subst (λ (n : PlainStore). HasRoom kept.log n.log) (sym same) room)
  still-leaves (Err s) a same stop room = subst (λ t. LineLeaves kept payload None (Err t) a a) (sym stop) refl

  pub still-goes : (r : Result PlainStore Stop) (d : Option Disk) → IfOk r (λ next. next ≡ store) → IfErr r (λ stop. stop ≡ stops.Sink) → HasRoom kept.log store.log → Goes (LineLeaves kept payload None r) d d
  still-goes r d same stop room = goes-same (LineLeaves kept payload None r) d (λ t. still-leaves r t same stop room)

  -- a change was stored
  stored-leaves : (r : Result PlainStore Stop) (clock : ℕ) (a b : Disk) → IfOk r (λ next. next ≡ store) → IfErr r (λ stop. stop ≡ stops.Sink) → IsLimited kept → HasStored kept payload store clock a b
      → LineLeaves kept payload (Some clock) r a b
  stored-leaves (Ok next) clock a b same stop limited has = (limited, subst (λ n. HasStored kept payload n clock a b) (sym same) has)
  stored-leaves (Err s) clock a b same stop limited has = subst (λ t. LineLeaves kept payload (Some clock) (Err t) a b) (sym stop) (limited, store, has)

  flush-leaves : (r : Result PlainStore Stop) (s : ℕ) (counts : Counts) (clock : Option ℕ) (a b : Disk) → IfOk r (λ next. next ≡ store) → IfErr r (λ stop. stop ≡ stops.Sink) → IsLimited kept
      → LeavesStore kept s (flushes.Done store counts clock) → ChangeLeaves kept payload (flushes.Done store counts clock) a b → LineLeaves kept payload clock r a b
  flush-leaves r s counts None a b same stop limited left h = subst (λ t. LineLeaves kept payload None r a t) (sym h) (still-leaves r a same stop left.1)
  flush-leaves r s counts (Some clock) a b same stop limited left h = stored-leaves r clock a b same stop limited h

  pub flush-goes : (r : Result PlainStore Stop) (s : ℕ) (counts : Counts) (clock : Option ℕ) (d e : Option Disk) → IfOk r (λ next. next ≡ store) → IfErr r (λ stop. stop ≡ stops.Sink) → IsLimited kept
      → LeavesStore kept s (flushes.Done store counts clock) → Goes (ChangeLeaves kept payload (flushes.Done store counts clock)) d e → Goes (LineLeaves kept payload clock r) d e
  flush-goes r s counts clock d e same stop limited left h =
      goes-map (ChangeLeaves kept payload (flushes.Done store counts clock)) (LineLeaves kept payload clock r) d e (λ a b f. flush-leaves r s counts clock a b same stop limited left f) h

pub refused-goes : (kept store : PlainStore) (payload : List ℕ) (r : Result PlainStore Stop) (refusal : Refusal) (d e : Option Disk) → IfOk r (λ next. next ≡ store) → IfErr r (λ stop. stop ≡ stops.Sink) → HasRoom kept.log store.log
    → Goes (ChangeLeaves kept payload (flushes.Refused store refusal)) d e → Goes (LineLeaves kept payload None r) d e
refused-goes kept store payload r refusal d e same stop room h =
    goes-map (ChangeLeaves kept payload (flushes.Refused store refusal)) (LineLeaves kept payload None r) d e (λ a b f. subst (λ t. LineLeaves kept payload None r a t) (sym f) (still-leaves kept store payload r a same stop room)) h

pub short-goes : (kept : PlainStore) (payload : List ℕ) (clock : Option ℕ) (fault : DiskFault) (d e : Option Disk) → IsLimited kept → Goes (ChangeLeaves kept payload (flushes.Disk fault)) d e → Goes (LineLeaves kept payload clock (Err stops.NotStored)) d e
short-goes kept payload None fault d e limited h = goes-map (ChangeLeaves kept payload (flushes.Disk fault)) (LineLeaves kept payload None (Err stops.NotStored)) d e (λ a b f. (limited, f)) h
short-goes kept payload (Some clock) fault d e limited h = goes-map (ChangeLeaves kept payload (flushes.Disk fault)) (LineLeaves kept payload (Some clock) (Err stops.NotStored)) d e (λ a b f. (limited, f)) h

pub limit-of : (kept : PlainStore) (limit : ℕ) → limit ≡ kept.limits.log → limit ≡ kept.log.limit → IsLimited kept
limit-of kept limit e f = sym f ∙ e

-- ---- what a command leaves of what is stored
told-changes : (st : Stored) (s : ℕ) (verb : Verb) (reply : Reply) (now : Stored) → IsBrief verb → IsTold st s verb reply now → Changes None st now []
told-changes st s (Add name parents) reply now brief t = by_test (has (view_of st s) name) _ _ t
  where
    by_test : (b : Bool) (P Q : Type 0) → MatchBool b (P × (now ≡ st)) (Q × (now ≡ with_added st s name parents)) → Changes None st now []
    by_test true P Q t = (ap (λ (z : Stored). z.past) t.1, ap (λ (z : Stored). z.payloads) t.1)
    by_test false P Q t = (ap (λ (z : Stored). z.past) t.1, ap (λ (z : Stored). z.payloads) t.1)
told-changes st s Reload reply now brief t = (ap (λ (z : Stored). z.past) t.1, ap (λ (z : Stored). z.payloads) t.1)
told-changes st s Discard reply now brief t = (ap (λ (z : Stored). z.past) t.1, ap (λ (z : Stored). z.payloads) t.1)
told-changes st s (Count e) reply now brief t = (ap (λ (z : Stored). z.past) t.3, ap (λ (z : Stored). z.payloads) t.3)
told-changes st s (IdOf name) reply now brief t = (ap (λ (z : Stored). z.past) t.1, ap (λ (z : Stored). z.payloads) t.1)
told-changes st s Status reply now brief t = (ap (λ (z : Stored). z.past) t.1, ap (λ (z : Stored). z.payloads) t.1)
told-changes st s Levels reply now brief t = (ap (λ (z : Stored). z.past) t.1, ap (λ (z : Stored). z.payloads) t.1)
told-changes st s (Flush heads) reply now brief t = absurd brief
told-changes st s (Query e) reply now brief t = absurd brief
told-changes st s Clone reply now brief t = absurd brief
told-changes st s (Strip names) reply now brief t = absurd brief
told-changes st s Pull reply now brief t = absurd brief
told-changes st s CountMirrors reply now brief t = absurd t
told-changes st s (Drop k) reply now brief t = absurd t

same-changes : (st now : Stored) → now ≡ st → Changes None st now []
same-changes st now e = (ap (λ (z : Stored). z.past) e, ap (λ (z : Stored). z.payloads) e)

module _ (limits : Limits) (st : State) (s : ℕ) where
  -- what is told of no test is told of what is stored alone
  by_told : (verb : Verb) (reply : Reply) (st' : State) → IsBrief verb → ((mirrors : List Mirror) (found : List KnownName) → Answers limits st s verb mirrors found reply st' → IsTold st.store s verb reply st'.store)
      → CommandStep limits st s verb reply st' → Changes None st.store st'.store []
  by_told verb reply st' brief told (verdict, mirrors, found, tries, ends) = by_verdict verdict ends
    where
      by_verdict : (o : Option Refusal) → MatchOption o (Answers limits st s verb mirrors found reply st') (λ refusal. IsRefused st.store refusal reply st'.store × GoesOutside st.outside mirrors found st'.outside) → Changes None st.store st'.store []
      by_verdict None a = told-changes st.store s verb reply st'.store brief (told mirrors found a)
      by_verdict (Some refusal) a = same-changes st.store st'.store a.0.1

  pub brief-changes : (verb : Verb) (reply : Reply) (st' : State) → IsBrief verb → CommandStep limits st s verb reply st' → Changes None st.store st'.store []
  brief-changes (Add name parents) reply st' brief step = by_told (Add name parents) reply st' brief (λ mirrors found a. a.0) step
  brief-changes Reload reply st' brief step = by_told Reload reply st' brief (λ mirrors found a. a.0) step
  brief-changes Discard reply st' brief step = by_told Discard reply st' brief (λ mirrors found a. a.0) step
  brief-changes (Count e) reply st' brief step = by_told (Count e) reply st' brief (λ mirrors found a. a.0) step
  brief-changes (IdOf name) reply st' brief step = by_told (IdOf name) reply st' brief (λ mirrors found a. a.0) step
  brief-changes Status reply st' brief step = by_told Status reply st' brief (λ mirrors found a. a.0) step
  brief-changes Levels reply st' brief step = by_told Levels reply st' brief (λ mirrors found a. a.0) step
  brief-changes CountMirrors reply st' brief step = same-changes st.store st'.store (counts-same limits st s reply st' step)
  brief-changes (Drop k) reply st' brief step = same-changes st.store st'.store (drops-same limits st s k reply st' step)
  brief-changes (Flush heads) reply st' brief step = absurd brief
  brief-changes (Query e) reply st' brief step = absurd brief
  brief-changes Clone reply st' brief step = absurd brief
  brief-changes (Strip names) reply st' brief step = absurd brief
  brief-changes Pull reply st' brief step = absurd brief

  -- a refusal leaves it
  pub refused-changes : (verb : Verb) (refusal : Refusal) (st' : State) → CommandStep limits st s verb (Refused refusal) st' → Changes None st.store st'.store []
  refused-changes verb refusal st' step = same-changes st.store st'.store (refused-kept limits st s (Refused refusal) refl verb st' step)

  -- and so does an answer of names
  pub query-same : (e : Expr Name) (names : List Name) (st' : State) → CommandStep limits st s (Query e) (Listed names) st' → st'.store ≡ st.store
  query-same e names st' (verdict, mirrors, found, tries, ends) = by_verdict verdict ends
    where
      listed : (o : Option Refusal) (mid : Stored) (P : Type 0) → MatchOption o (P × (mid ≡ st.store)) (λ refusal. IsRefused st.store refusal (Listed names) mid) → mid ≡ st.store
      listed None mid P a = a.1
      listed (Some refusal) mid P a = a.1

      by_verdict : (o : Option Refusal) → MatchOption o (Answers limits st s (Query e) mirrors found (Listed names) st') (λ refusal. IsRefused st.store refusal (Listed names) st'.store × GoesOutside st.outside mirrors found st'.outside) → st'.store ≡ st.store
      by_verdict None a = listed a.2 st'.store _ a.7
      by_verdict (Some refusal) a = a.0.1

  -- a flush that was done stored this
  pub flush-next : (heads : List Name) (m o : ℕ) (st' : State) → CommandStep limits st s (Flush heads) (Flushed m o) st' → st'.store ≡ flush_end st.store s heads
  flush-next heads m o st' (verdict, mirrors, found, tries, ends) = by_verdict verdict ends
    where
      by_verdict : (v : Option Refusal) → MatchOption v (Answers limits st s (Flush heads) mirrors found (Flushed m o) st') (λ refusal. IsRefused st.store refusal (Flushed m o) st'.store × GoesOutside st.outside mirrors found st'.outside) → st'.store ≡ flush_end st.store s heads
      by_verdict None a = a.0.1
      by_verdict (Some refusal) a = cc a.0.0

  -- and a strip this
  pub strip-next : (names : List Name) (m o : ℕ) (st' : State) → CommandStep limits st s (Strip names) (Stripped m o) st' → st'.store ≡ after_flush st.store s (stripped same_name st.store.stored names)
  strip-next names m o st' (verdict, mirrors, found, tries, ends) = by_verdict verdict ends
    where
      by_verdict : (v : Option Refusal) → MatchOption v (Answers limits st s (Strip names) mirrors found (Stripped m o) st') (λ refusal. IsRefused st.store refusal (Stripped m o) st'.store × GoesOutside st.outside mirrors found st'.outside)
          → st'.store ≡ after_flush st.store s (stripped same_name st.store.stored names)
      by_verdict None a = a.0.1
      by_verdict (Some refusal) a = cc a.0.0

  -- there is no memory
  pub memory-step : (verb : Verb) → MayWantMemory verb → CommandStep limits st s verb (Refused why.Memory) st
  memory-step verb may =
      (Some why.Memory, st.outside.mirrors, [], all-memory (MayWantMemory verb) st.outside.mirrors (tests limits st.store s verb) may, ((refl, refl), outside-same st st.store))

-- ---- what a flush, a strip and a clone change
pub change-of : (st : Stored) (s : ℕ) (new : World Name) (payload : List ℕ) (now : Stored) → now ≡ after_flush st s new → StoresBy st s new payload → HasChanged st now payload
change-of st s new payload now e h = subst (λ n. HasChanged st n payload) (sym e) (record { change = flush_change st.stored new; past = h.past; payloads = h.payloads; text = h.text })

pub flush-changes : (clock : Option ℕ) (st : Stored) (s : ℕ) (new : World Name) (payload : List ℕ) (now : Stored) → now ≡ after_flush st s new → Stores clock st s new payload → Changes clock st now payload
flush-changes None st s new payload now e h = subst (λ n. Changes None st n payload) (sym e) h
flush-changes (Some clock) st s new payload now e h = change-of st s new payload now e h

pub clone-change : (st : Stored) (s : ℕ) (rows : List (Row Name)) (payload : List ℕ) → StoresCloneBy st s rows payload → HasChanged st (clone_end st s rows) payload
clone-change st s rows payload h = record { change = clone_payload (master_world rows); past = h.past; payloads = h.payloads; text = h.text }

pub clone-changes : (clock : Option ℕ) (st : Stored) (s : ℕ) (rows : List (Row Name)) (payload : List ℕ) → StoresClone clock st s rows payload → Changes clock st (clone_end st s rows) payload
clone-changes None st s rows payload h = h
clone-changes (Some clock) st s rows payload h = clone-change st s rows payload h

-- ---- the sink
module _ (SinkFailed : Type 0) (began : ℕ) (left : List Mirror) (st : State) (Does : Reply → State → Type 0) (payload : List ℕ) (clock : Option ℕ) where
  pub told-replies : (r : Result PlainStore Stop) (reply : Reply) (next : State) (store : PlainStore) (before now : List ℕ)
      → PutsReply store reply r before now → Does reply next → Changes clock st.store next.store payload → StandsBeside began store left next → Replies SinkFailed began left st Does payload clock r before now
  told-replies (Ok kept) reply next store before now put does changed stands = (reply, next, does, changed, subst (λ k. StandsBeside began k left next) (sym put.0) stands, put.1)
  told-replies (Err stops.Sink) reply next store before now put does changed stands = (reply, next, does, changed, sym stands.outside_of.mirrors_are, put)
  told-replies (Err stops.Memory) reply next store before now put does changed stands = absurd put
  told-replies (Err stops.NoLog) reply next store before now put does changed stands = absurd put
  told-replies (Err stops.NotLoaded) reply next store before now put does changed stands = absurd put
  told-replies (Err stops.NotStored) reply next store before now put does changed stands = absurd put
  told-replies (Err stops.Source) reply next store before now put does changed stands = absurd put
  told-replies (Err stops.Limit) reply next store before now put does changed stands = absurd put

  -- replies of a command are those of its line
  pub replies-map : (Makes : Reply → State → Type 0) (r : Result PlainStore Stop) (before now : List ℕ)
      → ((reply : Reply) (next : State) → Does reply next → Makes reply next) → Replies SinkFailed began left st Does payload clock r before now → Replies SinkFailed began left st Makes payload clock r before now
  replies-map Makes (Ok kept) before now f h = (h.0, h.1, f h.0 h.1 h.2, h.3, h.4, h.5)
  replies-map Makes (Err stops.Sink) before now f h = (h.0, h.1, f h.0 h.1 h.2, h.3, h.4, h.5)
  replies-map Makes (Err stops.NotStored) before now f h = (h.0, h.1, f h.0 h.1 h.2, h.3, h.4, h.5, h.6)
  replies-map Makes (Err stops.Memory) before now f h = absurd h
  replies-map Makes (Err stops.NoLog) before now f h = absurd h
  replies-map Makes (Err stops.NotLoaded) before now f h = absurd h
  replies-map Makes (Err stops.Source) before now f h = absurd h
  replies-map Makes (Err stops.Limit) before now f h = absurd h

-- the reply of a command
pub command-told : (first left : List Mirror) (SinkFailed : Type 0) (kept store : PlainStore) (s : ℕ) (verb : Verb) (payload : List ℕ) (clock : Option ℕ) (r : Result PlainStore Stop) (reply : Reply) (o p : Option (List ℕ))
    → ((began : ℕ) (st : State) → StandsBeside began kept first st → IsEnoughFor verb st → (next : State) × CommandStep kept.limits st s verb reply next × Changes clock st.store next.store payload × StandsBeside began store left next)
    → WhereTold o p (PutsReply store reply r) → WhereTold o p (CommandReplies first left SinkFailed kept s verb payload clock r)
command-told first left SinkFailed kept store s verb payload clock r reply o p does h =
    WhereTold-map o p (PutsReply store reply r) (CommandReplies first left SinkFailed kept s verb payload clock r)
    (λ before now put began st stands enough.
    let d = does began st stands enough in
    told-replies SinkFailed began left st (CommandStep kept.limits st s verb) payload clock r reply d.0 store before now put d.1 d.2 d.3) h

-- ---- lines
-- a line that is lent isn't too long, and silent where it is empty or a comment
pub record IsShort (text line : List ℕ) : Type 0 where
  pub is : line ≡ text
  pub short : is_too_long line ≡ false

pub text-short : (text line : List ℕ) → (line ≡ text) × (length text ≤ 16384) → IsShort text line
text-short text line h = record { is = h.0; short = by_test (is_too_long line) refl }
  where
    by_test : (b : Bool) → is_too_long line ≡ b → b ≡ false
    by_test true e = absurd (let lt = ltb-true 16384 (length line) e in omega (arith, lt, ap length h.0, h.1))
    by_test false e = refl

pub short-silent : (text line : List ℕ) (b : Bool) → IsShort text line → is_empty_or_comment text ≡ b → is_silent line ≡ b
short-silent text line b h e = ap (λ b. not b && is_empty_or_comment line) h.short ∙ ap is_empty_or_comment h.is ∙ e

pub long-line : (line : List ℕ) → 16384 < length line → is_too_long line ≡ true
long-line line lt = lt-ltb 16384 (length line) lt

pub long-not-silent : (line : List ℕ) → is_too_long line ≡ true → is_silent line ≡ false
long-not-silent line e = ap (λ b. not b && is_empty_or_comment line) e

-- the log may be written to after a line as before
pub room-on-disk : (old new : Held) (a : Disk) → HasRoom old new → IsOnDisk old a → IsOnDisk new a
room-on-disk old new a same h = subst (λ l. IsOnDisk l a) (sym same) h'
  where
    h' : IsOnDisk (record old { room = new.room }) a
    h' = h

pub ready-line : (kept next : PlainStore) (payload : List ℕ) (clock : Option ℕ) (a b : Disk) → LineLeaves kept payload clock (Ok next) a b → IsOnDisk kept.log a → IsOnDisk next.log b
ready-line kept next payload None a b h on = subst (λ t. IsOnDisk next.log t) (sym h.0) (room-on-disk kept.log next.log a h.1 on)
ready-line kept next payload (Some clock) a b h on = h.1.on_disk

-- ---- what each command does
-- a store of which the names that are kept stay, beside the same mirrors
pub same-outside : (limits : Limits) (began : ℕ) (old new : PlainStore) (first : List Mirror) (st : State) (s : ℕ) (verb : Verb) (reply : Reply) (now : Stored) → IsVerb verb → StandsBeside began old first st → new.cache ≡ old.cache
    → CommandStep limits st s verb reply (record st { store = now }) → Stands began new now → StandsBeside began new first (record st { store = now })
same-outside limits began old new first st s verb reply now is h cache step stands =
    let out = h.outside_of in
    let state = step-state limits st s (record { store = h.stored.state; outside = out.outside }) verb reply (record st { store = now }) is step in
    record {
      stored = stands;
      outside_of = subst (λ c. IsOutsideOf c first (record st { store = now })) (sym cache) (record {
        has = out.has;
        once = out.once;
        fits = out.fits;
        room = out.room;
        mirrors_are = out.mirrors_are;
        outside = state.outside;
      });
    }

-- one whose call tells the step and the store's state behind it
pub leads-does : (first left : List Mirror) (old new : PlainStore) (s : ℕ) (verb asked : Verb) (reply given : Reply) → asked ≡ verb → IsBrief verb → given ≡ reply
    → ((began : ℕ) (st : State) → StandsBeside began old first st → IsAnswerable st → Leads began old.limits st s verb reply new left) → DoesBeside first left old new s asked given
leads-does first left old new s verb asked reply given e brief same leads =
    subst₂ (λ v r. DoesBeside first left old new s v r) (sym e) (sym same)
    (λ began st h enough. let l = leads began st h enough.0 in (l.0, l.1, brief-changes old.limits st s verb reply l.0 brief l.1, l.2))

pub count-leads : (began : ℕ) (limits : Limits) (st : State) (s : ℕ) (e : Expr Name) (answer : Result Answer Refusal) (new : PlainStore) (left : List Mirror) → CountStep began limits st s e answer new left → Leads began limits st s (Count e) (reply_of_count answer) new left
count-leads began limits st s e (Ok answer) new left h = h.1
count-leads began limits st s e (Err refusal) new left h = h

-- one that asks no mirror
pub alone-does : (first : List Mirror) (old new : PlainStore) (s : ℕ) (verb asked : Verb) (reply : Reply) → asked ≡ verb → IsBrief verb → IsVerb verb → new.cache ≡ old.cache
    → ((began : ℕ) (st : State) → Stands began old st.store → (now : Stored) × CommandStep old.limits st s verb reply (record st { store = now }) × Stands began new now) → DoesBeside first first old new s asked reply
alone-does first old new s verb asked reply e brief is cache does =
    subst (λ v. DoesBeside first first old new s v reply) (sym e)
    (λ began st h enough.
    let d = does began st h.stored in
    (record st { store = d.0 }, d.1, brief-changes old.limits st s verb reply (record st { store = d.0 }) brief d.1, same-outside old.limits began old new first st s verb reply d.0 is h cache d.1 d.2))

-- where the session alone changes, or nothing, the log stays
pub room-same : (old new : PlainStore) → new.log ≡ old.log → HasRoom old.log new.log
room-same old new e = subst (λ l. HasRoom old.log l) (sym e) refl

pub room-on : {T : Type 0} (old new : PlainStore) (s : ℕ) (answer : Result T Refusal) → OnOk answer (ChangesOnly s old new) → OnErr answer (KeepsAll old new) → HasRoom old.log new.log
room-on old new s (Ok x) done refused = room-same old new (ap (λ (n : PlainStore). n.log) done.1)
room-on old new s (Err x) done refused = room-same old new (ap (λ (n : PlainStore). n.log) refused)

pub room-kept : (old new : PlainStore) → KeepsAll old new → HasRoom old.log new.log
room-kept old new kept = room-same old new (ap (λ (n : PlainStore). n.log) kept)

-- the commands on the mirrors
counts-step : (limits : Limits) (st : State) (s : ℕ) → CommandStep limits st s CountMirrors (Counted (length st.outside.mirrors)) st
counts-step limits st s = (None, st.outside.mirrors, [], (refl, refl, inl refl), (refl, refl))

pub counts-does : (first : List Mirror) (count : ℕ) (kept : PlainStore) (s : ℕ) (asked : Verb) → asked ≡ CountMirrors → count ≡ length first → DoesBeside first first kept kept s asked (Counted count)
counts-does first count kept s asked e is =
    subst (λ v. DoesBeside first first kept kept s v (Counted count)) (sym e)
    (λ began st h enough. (
      st,
      subst (λ n. CommandStep kept.limits st s CountMirrors (Counted n) st) (ap length h.outside_of.mirrors_are ∙ sym is) (counts-step kept.limits st s),
      (refl, refl),
      h,
    ))

-- the state without one of its mirrors
abbrev dropped : ℕ → State → State
dropped k st = record st { outside = record st.outside { mirrors = without k st.outside.mirrors } }

drops-step : (limits : Limits) (st : State) (s k : ℕ) → nat_lt k (length st.outside.mirrors) ≡ true → CommandStep limits st s (Drop k) (Dropped (length (without k st.outside.mirrors))) (dropped k st)
drops-step limits st s k lt = (None, st.outside.mirrors, [], (refl, refl, inl refl), rw lt (refl, refl))

misses-step : (limits : Limits) (st : State) (s k : ℕ) → nat_lt k (length st.outside.mirrors) ≡ false → CommandStep limits st s (Drop k) (Refused why.NoRemote) st
misses-step limits st s k lt = (None, st.outside.mirrors, [], (refl, refl, inl refl), rw lt (refl, refl))

pub drops-does : (first left : List Mirror) (k : ℕ) (reply : Reply) (kept : PlainStore) (s : ℕ) (asked : Verb) → asked ≡ Drop k → DropsAt k first left reply → DoesBeside first left kept kept s asked reply
drops-does first left k reply kept s asked e drops =
    subst (λ v. DoesBeside first left kept kept s v reply) (sym e)
    (λ began st h enough. by_test began st h (nat_lt k (length st.outside.mirrors)) refl (subst (λ ms. DropsAt k ms left reply) (sym h.outside_of.mirrors_are) drops))
  where
    by_test : (began : ℕ) (st : State) → StandsBeside began kept first st → (b : Bool) → nat_lt k (length st.outside.mirrors) ≡ b
        → MatchBool b ((reply ≡ Dropped (length (without k st.outside.mirrors))) × (left ≡ without k st.outside.mirrors)) ((reply ≡ Refused why.NoRemote) × (left ≡ st.outside.mirrors))
        → (next : State) × CommandStep kept.limits st s (Drop k) reply next × Changes None st.store next.store [] × StandsBeside began kept left next
    by_test began st h true t d =
        let step = drops-step kept.limits st s k t in
        let out = h.outside_of in
        let state = step-state kept.limits st s (record { store = h.stored.state; outside = out.outside }) (Drop k) (Dropped (length (without k st.outside.mirrors))) (dropped k st) tt step in (
          dropped k st,
          subst (λ r. CommandStep kept.limits st s (Drop k) r (dropped k st)) (sym d.0) step,
          (refl, refl),
          record {
            stored = h.stored;
            outside_of = record { has = out.has; once = out.once; fits = out.fits; room = out.room; mirrors_are = sym d.1; outside = state.outside };
          },
        )
    by_test began st h false t d = (
      st,
      subst (λ r. CommandStep kept.limits st s (Drop k) r st) (sym d.0) (misses-step kept.limits st s k t),
      (refl, refl),
      subst (λ ms. StandsBeside began kept ms st) (sym (h.outside_of.mirrors_are) ∙ sym d.1) h,
    )

-- its one line is put
pub brief-told : (first left : List Mirror) (SinkFailed : Type 0) (old new : PlainStore) (s : ℕ) (verb : Verb) (r : Result PlainStore Stop) (reply : Reply) (o p : Option (List ℕ)) → DoesBeside first left old new s verb reply
    → WhereTold o p (PutsReply new reply r) → WhereTold o p (CommandReplies first left SinkFailed old s verb [] None r)
brief-told first left SinkFailed old new s verb r reply o p does put = command-told first left SinkFailed old new s verb [] None r reply o p (λ began st h enough. does began st h (enough.0, enough.1)) put

-- ---- what each line does
pub line-of-command : (first left : List Mirror) (SinkFailed : Type 0) (kept : PlainStore) (s : ℕ) (verb : Verb) (line payload : List ℕ) (clock : Option ℕ) (r : Result PlainStore Stop) (before now : List ℕ) → SpellsCommand line s verb → is_too_long line ≡ false → is_silent line ≡ false
    → CommandReplies first left SinkFailed kept s verb payload clock r before now → LineReplies first left SinkFailed kept line payload clock r before now
line-of-command first left SinkFailed kept s verb line payload clock r before now spells short silent h began st stands enough =
    inr (
      silent,
      replies-map SinkFailed began left st (CommandStep kept.limits st s verb) payload clock (Step kept.limits st line) r before now
          (λ reply next. command-step kept.limits st line s verb reply next spells short)
          (h began st stands (enough.0, enough.1, λ e. enough.2 s (subst (SpellsCommand line s) e spells))),
    )

-- a line that changes nothing
pub line-told : (first : List Mirror) (SinkFailed : Type 0) (kept : PlainStore) (line : List ℕ) (r : Result PlainStore Stop) (reply : Reply) (before now : List ℕ) → is_silent line ≡ false → ((st : State) → Step kept.limits st line reply st)
    → PutsReply kept reply r before now → LineReplies first first SinkFailed kept line [] None r before now
line-told first SinkFailed kept line r reply before now silent step put began st stands enough =
    inr (silent, told-replies SinkFailed began first st (Step kept.limits st line) [] None r reply st kept before now put (step st) (refl, refl) stands)

pub line-passed : (first : List Mirror) (SinkFailed : Type 0) (kept : PlainStore) (line before : List ℕ) → is_silent line ≡ true → LineReplies first first SinkFailed kept line [] None (Ok kept) before before
line-passed first SinkFailed kept line before silent began st stands enough = inl (silent, refl, stands, refl)

-- of one text, and of a line that is the same
pub line-as : (first left : List Mirror) (SinkFailed : Type 0) (kept : PlainStore) (text line payload : List ℕ) (clock : Option ℕ) (r : Result PlainStore Stop) (before now : List ℕ) → line ≡ text
    → LineReplies first left SinkFailed kept text payload clock r before now → LineReplies first left SinkFailed kept line payload clock r before now
line-as first left SinkFailed kept text line payload clock r before now e h = subst (λ l. LineReplies first left SinkFailed kept l payload clock r before now) (sym e) h

-- the text of an answer's names and of their number
pub listed-is : (st : Stored) (s : ℕ) (ids : List ℕ) (fetched : List KnownName) (names told : List Name) (count : ℕ) → AreIdsOf st s ids fetched names → told ≡ names → count ≡ length ids → listed_text told count ≡ reply_text (Listed names)
listed-is st s ids fetched names told count are same is =
    ap (λ ns. listed_text ns count) same
    ∙ ap (λ n. listed_text names n) (is ∙ ap length are.ids_are ∙ length-map names (id_in same_name (view_of st s)))

-- the names of an answer are put, of a state whose store stays
pub listed-replies : (SinkFailed : Type 0) (began : ℕ) (old new : PlainStore) (left : List Mirror) (st : State) (s : ℕ) (e : Expr Name) (ids : List ℕ) (fetched : List KnownName) (r : Result PlainStore Stop) (before now : List ℕ)
    → ((st : Stored) (names : List Name) → Stands began new st → AreIdsOf st s ids fetched names → PutsReply new (Listed names) r before now)
    → (names : List Name) × Leads began old.limits st s (Query e) (Listed names) new left × AreIdsOf st.store s ids fetched names
    → Replies SinkFailed began left st (CommandStep old.limits st s (Query e)) [] None r before now
listed-replies SinkFailed began old new left st s e ids fetched r before now put (names, (next, step, stands), are) =
    let same = query-same old.limits st s e names next step in
    told-replies SinkFailed began left st (CommandStep old.limits st s (Query e)) [] None r (Listed names) next new before now
    (put next.store names stands.stored (subst (λ z. AreIdsOf z s ids fetched names) (sym same) are)) step (same-changes st.store next.store same) stands

-- the same command by another name
pub told-as : (first left : List Mirror) (SinkFailed : Type 0) (kept : PlainStore) (s : ℕ) (verb asked : Verb) (payload : List ℕ) (clock : Option ℕ) (r : Result PlainStore Stop) (o p : Option (List ℕ)) → asked ≡ verb
    → WhereTold o p (CommandReplies first left SinkFailed kept s verb payload clock r) → WhereTold o p (CommandReplies first left SinkFailed kept s asked payload clock r)
told-as first left SinkFailed kept s verb asked payload clock r o p e h = subst (λ v. WhereTold o p (CommandReplies first left SinkFailed kept s v payload clock r)) (sym e) h

-- no disk was called, and nothing changed but the names that are kept
kept-leaves : (old : PlainStore) (payload : List ℕ) (r : Result PlainStore Stop) (a : Disk) → IfOk r (KeepsAll old) → IfErr r (λ stop. stop ≡ stops.Sink) → LineLeaves old payload None r a a
kept-leaves old payload (Ok next) a kept stop = (refl, room-kept old next kept)
kept-leaves old payload (Err s) a kept stop = subst (λ t. LineLeaves old payload None (Err t) a a) (sym stop) refl

pub kept-goes : (old : PlainStore) (payload : List ℕ) (r : Result PlainStore Stop) (d : Option Disk) → IfOk r (KeepsAll old) → IfErr r (λ stop. stop ≡ stops.Sink) → Goes (LineLeaves old payload None r) d d
kept-goes old payload r d kept stop = goes-same (LineLeaves old payload None r) d (λ t. kept-leaves old payload r t kept stop)

-- no disk was called, and the log kept what it had
room-leaves : (old : PlainStore) (payload : List ℕ) (r : Result PlainStore Stop) (a : Disk) → IfOk r (λ next. HasRoom old.log next.log) → IfErr r (λ stop. stop ≡ stops.Sink) → LineLeaves old payload None r a a
room-leaves old payload (Ok next) a room stop = (refl, room)
room-leaves old payload (Err s) a room stop = subst (λ t. LineLeaves old payload None (Err t) a a) (sym stop) refl

pub room-goes : (old : PlainStore) (payload : List ℕ) (r : Result PlainStore Stop) (d : Option Disk) → IfOk r (λ next. HasRoom old.log next.log) → IfErr r (λ stop. stop ≡ stops.Sink) → Goes (LineLeaves old payload None r) d d
room-goes old payload r d room stop = goes-same (LineLeaves old payload None r) d (λ t. room-leaves old payload r t room stop)
