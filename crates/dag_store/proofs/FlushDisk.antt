-- What a flush leaves of the disk and of the store.
use Rattle.std.proofs.Common.{◌≡◌, ℕ, List, [], ◌∷◌, ◌++◌, set, Option, Some, None, Result, Ok, Err, IfOk, refl, sym, ap, ap₂, subst, ◌∙◌}
use Rattle.std.specs.Prelude.{OnErr, MatchResult}
use Rattle.disk_trait.specs.Images.{Told}
use Rattle.disk_trait.specs.Calls.{Goes}
use Rattle.disk_trait.proofs.Telling.{goes-both, goes-map}
use Rattle.gated_log.specs.Held.{Held}
use Rattle.gated_log.specs.Holding.{HasPayloads, KeepsOldOrNew, HasNew}
use Rattle.lazy_names.specs.Cache.{PlainCache}
use Rattle.change_parts.specs.declared.change.Change.{Change}
use Rattle.step_rules.specs.declared.Refusal.{Refusal}
use Rattle.store_plans.specs.declared.changing.Next.{Next}
use Rattle.dag_store.specs.declared.replies.Changed.{Changed}
use Rattle.dag_store.specs.declared.replies.Changed.TheVariants.{Done, Refused, Disk}
use Rattle.store_plans.specs.Sessions.{PlainSession}
use Rattle.dag_store.specs.Kept.{PlainStore}
use Rattle.store_plans.specs.Changes.{HasRoom}
use Rattle.dag_store.specs.Changes.{HasStored, ChangeLeaves, LeavesStore}
use Rattle.dag_store.specs.Finishes.{FinishesAs, Finishes}

-- the payload is stored
pub leaves-stored : (kept after : PlainStore) (payload : List ℕ) (clock : ℕ) (a b : Option Told) → kept.log.limit ≡ kept.limits.log → after.log.payloads ≡ kept.log.payloads ++ payload ∷ [] → after.log.limit ≡ kept.log.limit
    → Goes (KeepsOldOrNew kept.log payload) a b → Goes (HasNew after.log clock) a b → Goes (HasStored kept payload after clock) a b
leaves-stored kept after payload clock a b most payloads limit h n =
    goes-both (KeepsOldOrNew kept.log payload) (HasNew after.log clock) (HasStored kept payload after clock) a b
    (λ x y r s. record {
      now = s.now;
      calls = s.calls;
      since = r;
      payloads = subst (λ m. HasPayloads m y (kept.log.payloads ++ payload ∷ [])) (limit ∙ most) (subst (λ l. HasPayloads after.log.limit y l) payloads s.payloads);
      on_disk = s.on_disk;
    }) h n

-- the same of a store whose log has other room, and that keeps other names
module _ (kept : PlainStore) (reserved : Held) (room : HasRoom kept.log reserved) (sessions : List PlainSession) (cache : PlainCache) where
  abbrev other : PlainStore
  other = record { log = reserved; sessions = sessions; limits = kept.limits; cache = cache }

  since : (payload : List ℕ) (a b : Told) → KeepsOldOrNew reserved payload a b → KeepsOldOrNew kept.log payload a b
  since payload a b h = subst (λ l. KeepsOldOrNew l payload a b) room h

  leaves : (payload : List ℕ) (end : Changed) (a b : Told) → ChangeLeaves other payload end a b → ChangeLeaves kept payload end a b
  leaves payload (Done new counts (Some clock)) a b h = record {
    now = h.now;
    calls = h.calls;
    since = since payload a b h.since;
    payloads = subst (λ l. HasPayloads kept.limits.log b (l ++ payload ∷ [])) (ap (λ (l : Held). l.payloads) room) h.payloads;
    on_disk = h.on_disk;
  }
  leaves payload (Done new counts None) a b h = h
  leaves payload (Refused same refusal) a b h = h
  leaves payload (Disk fault) a b h = record { calls = h.calls; since = since payload a b h.since }

  pub leaves-room : (payload : List ℕ) (end : Changed) (a b : Option Told) → Goes (ChangeLeaves other payload end) a b → Goes (ChangeLeaves kept payload end) a b
  leaves-room payload end a b h = goes-map (ChangeLeaves other payload end) (ChangeLeaves kept payload end) a b (leaves payload end) h

  pub leaves-store : (s : ℕ) (x : PlainSession) (change : Change) (end : Changed) → sessions ≡ set kept.sessions s x → Finishes reserved sessions kept.limits cache change end → LeavesStore kept s end
  leaves-store s x change (Done new counts (Some clock)) e f =
      let names : cache ≡ new.cache = sym (ap (λ (v : PlainStore). v.cache) f.1) in
      ((x, f.1 ∙ ap₂ (λ (l : List PlainSession) (n : PlainCache). record { log = new.log; sessions = l; limits = kept.limits; cache = n }) e names), f.3.2)
  leaves-store s x change (Done new counts None) e f =
      let log : new.log ≡ reserved = ap (λ (v : PlainStore). v.log) f.1 in
      let names : cache ≡ new.cache = sym (ap (λ (v : PlainStore). v.cache) f.1) in (
        (
          x,
          f.1 ∙ ap₂ (λ (l : List PlainSession) (n : PlainCache). record { log = reserved; sessions = l; limits = kept.limits; cache = n }) e names
              ∙ ap (λ (g : Held). record { log = g; sessions = set kept.sessions s x; limits = kept.limits; cache = new.cache }) (sym log),
        ),
        log ∙ room ∙ ap (λ (g : Held). record kept.log { room = g.room }) (sym log),
        f.2.2,
      )
  leaves-store s x change (Refused same refusal) e f = absurd f
  leaves-store s x change (Disk fault) e f = tt

-- the same of what was prepared or refused
pub leaves-ends : (kept : PlainStore) (reserved : Held) (room : HasRoom kept.log reserved) (cache : PlainCache) (s at : ℕ) → at ≡ s → (next : Result Next Refusal) (end : Changed) → FinishesAs reserved kept.sessions kept.limits cache at next end → LeavesStore kept s end
leaves-ends kept reserved room cache s at is (Ok ready) end e =
    leaves-store kept reserved room (set kept.sessions at ready.session) cache s ready.session ready.change end (ap (λ n. set kept.sessions n ready.session) is) e
leaves-ends kept reserved room cache s at is (Err refusal) end e =
    subst (LeavesStore kept s) (sym e) (refl, room)

-- what the tables tell of what was prepared or refused
pub made-of : (next : Result Next Refusal) (Ready : Next → Type 0) (Stays : Type 0) → IfOk next Ready → OnErr next Stays → MatchResult next Ready (λ refusal. Stays)
made-of (Ok ready) Ready Stays r o = r
made-of (Err refusal) Ready Stays r o = o
