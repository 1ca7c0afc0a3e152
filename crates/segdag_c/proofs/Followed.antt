-- An open log that took what another process has stored.
use Rattle.std.proofs.Common.{◌≡◌, inl, inr, ℕ, List, Some, Err, sym, subst}
use Rattle.std.specs.Prelude.{MatchOption}
use Rattle.std.specs.declared.result.Result.{Result}
use Rattle.gated_log.specs.Log.{IsLog}
use Rattle.remote_rules.specs.Mirror.{Mirror}
use Rattle.step_rules.specs.State.{State}
use Rattle.dag_store.specs.Following.{FollowsTo, GoOn, Takes, Written, texts_of}
use Rattle.dag_store.specs.Kept.{PlainStore}
use Rattle.dag_store.specs.Stands.{StandsBeside}
use Rattle.dag_store.specs.declared.following.Followed.{Followed}
use Rattle.segdag_c.specs.declared.codes.Failure.{Failure}
use Rattle.segdag_c.specs.declared.codes.Failure.TheVariants.{Disk, NoLog, Reply, Memory, Closed, AlreadyOpen, Argument, Syntax, Refused}
use Rattle.segdag_c.specs.declared.held.Held.{Held}
use Rattle.segdag_c.specs.Following.{HeldFollows, IsNoMore, IsUnread, MoreCame, followed_answer, followed_count, followed_store}
use Rattle.segdag_c.specs.Handles.{IsSame}
use Rattle.segdag_c.specs.Mirrors.{shown_all}

-- what was taken by a store that is there
pub more-taken : (before after : Held) (old : PlainStore) (bytes : List ℕ) (count : ℕ) (answer : Result (Unit {0}) Failure) (texts : List (List ℕ)) (followed : Followed)
    → before.store ≡ Some old → IsLog bytes texts → Takes old texts followed
    → ((began : ℕ) (mirrors : List Mirror) (st : State) (changes : List Written) → StandsBeside began old mirrors st → texts ≡ texts_of changes → GoOn st changes → FollowsTo began mirrors st changes followed)
    → after.store ≡ Some (followed_store followed) → count ≡ followed_count texts followed → answer ≡ followed_answer followed
    → after.log ≡ before.log → after.mirrors ≡ before.mirrors → after.reply ≡ before.reply → after.names ≡ before.names → MoreCame bytes count before after answer
more-taken before after old bytes count answer texts followed was is_log takes stands is counted told log mirrors reply names =
    inr (subst (λ o. MatchOption o ⊥ (λ p. HeldFollows before p bytes count after answer)) (sym was) (
      texts,
      followed,
      (is_log, takes, λ began st changes beside same on. stands began (shown_all before.mirrors.list.items) st changes beside same on),
      is,
      counted,
      told,
      log,
      mirrors,
      reply,
      names,
    ))

-- what wasn't read
unread : (before : Held) (bytes : List ℕ) (f : Failure) → IsNoMore bytes f → IsUnread before bytes (Err f)
unread before bytes Disk i = absurd i
unread before bytes NoLog i = i
unread before bytes Reply i = i
unread before bytes Memory i = i
unread before bytes Closed i = i
unread before bytes AlreadyOpen i = i
unread before bytes Argument i = i
unread before bytes Syntax i = i
unread before bytes (Refused refusal) i = i

pub more-unread : (before after : Held) (bytes : List ℕ) (count : ℕ) (f : Failure) → IsNoMore bytes f → count ≡ 0 → IsSame before after → MoreCame bytes count before after (Err f)
more-unread before after bytes count f none zero same = inl (unread before bytes f none, zero, same)
