-- One command of one session: which replies it may get, and the state after each.
use Rattle.std.specs.Prelude.{◌≡◌, ◌⊎◌, ◌+◌, ◌-◌, ℕ, suc, List, [], ◌∷◌, ◌++◌, Option, Some, None, ⊤, length, filter, not, nat_lt, min, take, drop, MatchOption}
use Rattle.std.specs.Bool.{MatchBool}
use Rattle.std.specs.Option.{option_map}
use Rattle.id_groups.specs.Name.{Name, same_name}
use Rattle.commit_graph.specs.World.{Row, World}
use Rattle.commit_graph.specs.Ids.{id_in, parent_ids}
use Rattle.segment_rules.specs.Levels.{level_counts_of}
use Rattle.set_expr.specs.Expr.{Expr}
use Rattle.set_expr.specs.Meaning.{IsAnswer}
use Rattle.change_rules.specs.declared.Limits.{Limits}
use Rattle.change_rules.specs.declared.Limit.TheVariants as limit
use Rattle.change_rules.specs.Standard.{most_heads}
use Rattle.change_rules.specs.Rebase.{left_of, first_conflict}
use Rattle.change_rules.specs.Strip.{stripped}
use Rattle.change_rules.specs.Pull.{pulled}
use Rattle.change_rules.specs.Tables.{cloned_count}
use Rattle.change_rules.specs.Change.{flush_change, clone_change}
use Rattle.remote_rules.specs.CloneData.{KnownName}
use Rattle.remote_rules.specs.Mirror.{Mirror}
use Rattle.remote_rules.specs.Known.{master_alone, master_world}
use Rattle.remote_rules.specs.Honest.{heads_of}
use Rattle.remote_rules.specs.Calls.{IsCloned, IsPulled}
use Rattle.remote_rules.specs.declared.MirrorFault.{MirrorFault}
use Rattle.remote_rules.specs.Asking.{IsOneAsk}
use Rattle.step_rules.specs.declared.Refusal.{Refusal}
use Rattle.step_rules.specs.declared.Refusal.TheVariants as why
use Rattle.step_rules.specs.State.{State, Stored, Outside, pending_of, base_of, view_of, seen_by, with_pending_rows, on_newest}
use Rattle.step_rules.specs.Verb.{Verb, Add, Flush, Reload, Discard, Query, Count, IdOf, Status, Levels, Clone, Pull, Strip, CountMirrors, Drop}
use Rattle.step_rules.specs.Reply.{Reply, Added, Old, Flushed, Pulled, Stripped, Cloned, Reloaded, Discarded, Listed, Counted, Identified, Sizes, LevelSizes, Dropped, Refused}
use Rattle.step_rules.specs.Asked.{lazy_among, is_cached, is_found}
use Rattle.step_rules.specs.Worlds.{has, flush_of, after_flush, after_change, log_after, with_added}
use Rattle.step_rules.specs.Tests.{Test, plain, refuse_if, full, first_some, tests}
use Rattle.step_rules.specs.Asking.{refusal_for, TriesAll, CacheGoesOn}

-- which commands may find no memory
abbrev pub MayWantMemory : Verb → Type 0
MayWantMemory Status = ⊥
MayWantMemory Levels = ⊥
MayWantMemory Discard = ⊥
MayWantMemory CountMirrors = ⊥
MayWantMemory (Drop k) = ⊥
MayWantMemory _ = ⊤

-- the mirrors are these afterwards, and the cache has room for what was found
pub record GoesOutside (old : Outside) (mirrors : List Mirror) (found : List KnownName) (new : Outside) : Type 0 where
  pub mirrors_are : new.mirrors ≡ mirrors
  pub room : new.room ≡ old.room
  pub cache : CacheGoesOn old.room found old.cache new.cache

-- the command is refused, and what is stored stays
abbrev pub IsRefused : Stored → Refusal → Reply → Stored → Type 0
IsRefused st refusal reply st' = (reply ≡ Refused refusal) × (st' ≡ st)

-- the first of these that refuses does, or there is no memory; or else it goes so
abbrev pub UnlessRefused : List (Option Refusal) → Stored → (Reply → Stored → Type 0) → Reply → Stored → Type 0
UnlessRefused refusals st Goes reply st' =
    MatchOption (first_some refusals) (Goes reply st') (λ refusal. IsRefused st refusal reply st')
    ⊎ IsRefused st why.Memory reply st'

-- What a command is told that asks nothing more, and what it makes of what is stored.
abbrev pub IsTold : Stored → ℕ → Verb → Reply → Stored → Type 0
IsTold st s (Add name parents) reply st' =
    MatchBool (has (view_of st s) name)
    ((reply ≡ Old (id_in same_name (view_of st s) name)) × (st' ≡ st))
    ((reply ≡ Added (id_in same_name (view_of (with_added st s name parents) s) name)) × (st' ≡ with_added st s name parents))
IsTold st s (Flush heads) reply st' =
    let new = flush_of st s heads in
    (reply ≡ Flushed (length new.master) (length new.others)) × (st' ≡ after_flush st s new)
IsTold st s (Strip names) reply st' =
    let new = stripped same_name st.stored names in
    (reply ≡ Stripped (length new.master) (length new.others)) × (st' ≡ after_flush st s new)
IsTold st s Reload reply st' =
    let rows = left_of same_name st.stored (pending_of st s) in
    (reply ≡ Reloaded (length rows)) × (st' ≡ on_newest st s rows)
IsTold st s Discard reply st' = (reply ≡ Discarded (length (pending_of st s))) × (st' ≡ with_pending_rows st s [])
IsTold st s (Count e) reply st' =
    (names : List Name) × IsAnswer (seen_by st s) e names × (reply ≡ Counted (length names)) × (st' ≡ st)
IsTold st s (IdOf name) reply st' = (reply ≡ Identified (id_in same_name (view_of st s) name)) × (st' ≡ st)
IsTold st s Status reply st' =
    (reply ≡ Sizes (length (base_of st s).master) (length (base_of st s).others) (length (pending_of st s))) × (st' ≡ st)
IsTold st s Levels reply st' =
    (reply ≡ LevelSizes (level_counts_of (parent_ids same_name st.stored st.stored.master))) × (st' ≡ st)
IsTold st s _ reply st' = ⊥

-- the commits among these that have no stored name, and none in the cache
abbrev pub uncached : State → ℕ → List Name → List KnownName
uncached st s names = filter (λ k. not (is_cached st.outside.cache k)) (lazy_among st.store (base_of st.store s) names)

-- The names that a query prints: those that aren't stored have to be asked, unless they are in the cache at the start of the
-- line or were found in it. One that was found may have found no place in the cache, and each may have pushed one out: these
-- may be asked too.
abbrev pub printing_test : State → ℕ → List KnownName → List Name → Test
printing_test st s found names =
    let lazy = lazy_among st.store (base_of st.store s) names in
    let absent = uncached st s names in
    let wanted = filter (λ k. not (is_found found k)) absent in
    record {
      must = length wanted;
      may = (length absent - length wanted) + min (length found) (length lazy - length absent);
      finds = absent;
      refusal = None;
    }

-- the tests of a query's answer: it isn't too long, and its names are there
abbrev pub answer_tests : Limits → State → ℕ → List KnownName → List Name → List Test
answer_tests limits st s found names =
    plain (refuse_if (nat_lt limits.answer (length names)) (why.Answer (length names))) ∷ printing_test st s found names ∷ []

-- a query's answer: the members
abbrev pub Lists : Limits → State → ℕ → Expr Name → List Mirror → List KnownName → Reply → State → Type 0
Lists limits st s e mirrors found reply st' =
    (names : List Name) × IsAnswer (seen_by st.store s) e names
    × (verdict : Option Refusal) × (new : List Mirror) × (fetched : List KnownName)
    × TriesAll ⊤ mirrors (answer_tests limits st s found names) verdict new fetched
    × GoesOutside st.outside new (found ++ fetched) st'.outside
    × MatchOption verdict ((reply ≡ Listed names) × (st'.store ≡ st.store)) (λ refusal. IsRefused st.store refusal reply st'.store)

-- the master rows that the mirror tells which answered: it stands first
abbrev pub AnsweredFirst : List Mirror → List (Row Name) → Type 0
AnsweredFirst [] rows = ⊥
AnsweredFirst (m ∷ more) rows = m.master ≡ Some rows

-- what a clone is refused for, by the remote's world
abbrev pub clone_tests : Limits → Stored → World Name → List (Option Refusal)
clone_tests limits st r =
    full limit.Heads most_heads (length (heads_of r))
    ∷ full limit.Master limits.master (length r.master)
    ∷ full limit.Log limits.log (log_after st (master_alone r) (clone_change r))
    ∷ []

-- what a clone makes of its master rows
abbrev pub Clones : Limits → Stored → ℕ → World Name → Reply → Stored → Type 0
Clones limits st s r =
    UnlessRefused (clone_tests limits st r) st
    (λ reply st'. (reply ≡ Cloned (length r.master)) × (st' ≡ after_change st s (master_alone r) (clone_change r)))

-- what a pull is refused for
abbrev pub pull_tests : Limits → Stored → World Name → List (Option Refusal)
pull_tests limits st r =
    let new = pulled same_name st.stored r in
    option_map why.Conflict (first_conflict same_name st.stored r.master)
    ∷ full limit.Master limits.master (length new.master)
    ∷ full limit.Log limits.log (log_after st new (flush_change st.stored new))
    ∷ []

-- what a pull makes of them
abbrev pub Pulls : Limits → Stored → ℕ → World Name → Reply → Stored → Type 0
Pulls limits st s r =
    let new = pulled same_name st.stored r in
    UnlessRefused (pull_tests limits st r) st
    (λ reply st'. (reply ≡ Pulled (length new.master) (length new.others)) × (st' ≡ after_flush st s new))

-- one mirror is asked for its master, and the command does so with what it has; or none answers
abbrev pub TakesFrom : (Mirror → Mirror → Type 0) → (World Name → Reply → Stored → Type 0) → State → List Mirror → List KnownName → Reply → State → Type 0
TakesFrom Does Makes st mirrors found reply st' =
    (end : Option MirrorFault) × (new : List Mirror) × IsOneAsk Does mirrors end new × GoesOutside st.outside new found st'.outside
    × MatchOption end
    ((rows : List (Row Name)) × AnsweredFirst new rows × Makes (master_world rows) reply st'.store)
    (λ fault. IsRefused st.store (refusal_for fault) reply st'.store)

-- the mirrors without the one at this place
abbrev pub without : ℕ → List Mirror → List Mirror
without k mirrors = take k mirrors ++ drop (suc k) mirrors

-- What a command is told that no test refused, where its asks left the mirrors so and found these names.
abbrev pub Answers : Limits → State → ℕ → Verb → List Mirror → List KnownName → Reply → State → Type 0
Answers limits st s (Query e) mirrors found reply st' = Lists limits st s e mirrors found reply st'
Answers limits st s Clone mirrors found reply st' = TakesFrom IsCloned (Clones limits st.store s) st mirrors found reply st'
Answers limits st s Pull mirrors found reply st' =
    TakesFrom (IsPulled (cloned_count st.store.payloads)) (Pulls limits st.store s) st mirrors found reply st'
Answers limits st s CountMirrors mirrors found reply st' = (reply ≡ Counted (length mirrors)) × (st' ≡ st)
Answers limits st s (Drop k) mirrors found reply st' =
    MatchBool (nat_lt k (length mirrors))
    ((reply ≡ Dropped (length (without k mirrors))) × (st' ≡ record st { outside = record st.outside { mirrors = without k mirrors } }))
    ((reply ≡ Refused why.NoRemote) × (st' ≡ st))
Answers limits st s verb mirrors found reply st' =
    IsTold st.store s verb reply st'.store × GoesOutside st.outside mirrors found st'.outside

-- The session's command may get this reply and lead to this state: its tests are tried with their asks, and the first that
-- refuses decides, or else its answer.
abbrev pub CommandStep : Limits → State → ℕ → Verb → Reply → State → Type 0
CommandStep limits st s verb reply st' =
    (verdict : Option Refusal) × (mirrors : List Mirror) × (found : List KnownName)
    × TriesAll (MayWantMemory verb) st.outside.mirrors (tests limits st.store s verb) verdict mirrors found
    × MatchOption verdict
    (Answers limits st s verb mirrors found reply st')
    (λ refusal. IsRefused st.store refusal reply st'.store × GoesOutside st.outside mirrors found st'.outside)
