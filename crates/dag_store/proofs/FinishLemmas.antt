-- What was prepared meets what a commit asks for.
use Rattle.std.proofs.Common.{◌≡◌, ◌≤◌, true, false, ℕ, List, set, Option, Result, Ok, Err, refl, sym, ap, subst, ◌∙◌}
use Rattle.std.specs.Prelude.{MatchResult}
use Rattle.disk_trait.specs.Images.{Told}
use Rattle.disk_trait.specs.Calls.{Goes}
use Rattle.gated_log.specs.Held.{Held, longer}
use Rattle.change_rules.specs.declared.Limits.{Limits}
use Rattle.payload_tables.specs.Kept.{PlainTables}
use Rattle.lazy_names.specs.Cache.{PlainCache}
use Rattle.step_rules.specs.declared.Refusal.{Refusal}
use Rattle.store_plans.specs.declared.changing.Next.{Next}
use Rattle.dag_store.specs.declared.replies.Changed.{Changed}
use Rattle.store_plans.specs.Sessions.{PlainSession}
use Rattle.dag_store.specs.Kept.{PlainStore, IsKept}
use Rattle.store_plans.specs.Changes.{IsPrepared}
use Rattle.dag_store.specs.Changes.{ChangeLeaves}
use Rattle.dag_store.specs.Finishes.{IsBehind, IsToFinish, payload_in}
use Rattle.dag_store.proofs.FlushStored.{kept-room, newest-kept, stored-kept}
use Rattle.dag_store.proofs.FlushDisk.{leaves-room}

module _ (old log : Held) (before after : PlainTables) (sessions : List PlainSession) (limits : Limits) (at : ℕ) (next : Result Next Refusal) (m : IsToFinish old log before after sessions limits at next) where
  pub finish-limit : log.limit ≡ limits.log
  finish-limit = ap (λ (l : Held). l.limit) m.room ∙ m.kept.limit

  -- it was prepared
  module _ (ready : Next) (is : next ≡ Ok ready) where
    prepared : IsPrepared limits old log before after m.kept.added ready.change ready.session
    prepared = subst (λ r. MatchResult r (λ (n : Next). IsPrepared limits old log before after m.kept.added n.change n.session) (λ refusal. after ≡ before)) is m.made

    pub finish-same : ready.change.same ≡ true → IsKept log after (set sessions at ready.session) limits
    finish-same same =
        let p = prepared.same same in
        kept-room old log after (set sessions at ready.session) limits m.room
        (subst (λ t. IsKept old t (set sessions at ready.session) limits) (sym p.0) (newest-kept old before sessions limits m.kept at m.place ready.session p.1.0))

    pub finish-room : ready.change.same ≡ false → (longer log ready.change.payload ≤ log.limit) × (longer log ready.change.payload ≤ log.room)
    finish-room changes = let r = prepared.ready changes in (r.fits, r.enough)

    pub finish-stored : (new : Held) → ready.change.same ≡ false → IsBehind log ready.change.payload new → IsKept new after (set sessions at ready.session) limits
    finish-stored new changes behind = stored-kept old before sessions limits m.kept at m.place log after ready.change ready.session (prepared.ready changes) new behind

  -- it was refused
  pub finish-refused : (refusal : Refusal) → next ≡ Err refusal → IsKept log after sessions limits
  finish-refused refusal is =
      let stays = subst (λ r. MatchResult r (λ (n : Next). IsPrepared limits old log before after m.kept.added n.change n.session) (λ refusal. after ≡ before)) is m.made in
      kept-room old log after sessions limits m.room (subst (λ t. IsKept old t sessions limits) (sym stays) m.kept)

-- a disk is left as the commit leaves it, whichever sessions the store has then
pub finish-leaves : (log : Held) (sessions later : List PlainSession) (limits : Limits) (cache : PlainCache) (next : Result Next Refusal) (ready : Next) → next ≡ Ok ready → (end : Changed) (a b : Option Told)
    → Goes (ChangeLeaves (record { log = log; sessions = later; limits = limits; cache = cache }) ready.change.payload end) a b
    → Goes (ChangeLeaves (record { log = log; sessions = sessions; limits = limits; cache = cache }) (payload_in next) end) a b
finish-leaves log sessions later limits cache next ready is end a b h =
    let kept : PlainStore = record { log = log; sessions = sessions; limits = limits; cache = cache } in
    subst (λ n. Goes (ChangeLeaves (record { log = log; sessions = sessions; limits = limits; cache = cache }) (payload_in n) end) a b) (sym is)
    (leaves-room kept log refl later cache ready.change.payload end a b h)
