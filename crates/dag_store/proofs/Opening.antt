-- What a loaded store is, and what a crash leaves while it is loaded.
use Rattle.std.proofs.Common.{◌≡◌, ◌≤◌, ◌<◌, ◌+◌, ◌⊎◌, inl, inr, ⊎_elim, ℕ, zero, suc, List, [], ◌∷◌, length, map, take, refl, sym, ap, subst, ◌∙◌, Option, Some, None, IfSome, Ok, Err, arith}
use Rattle.std.specs.List.{AllByRecursion}
use Rattle.std.proofs.lemmas.List.{take_all}
use Rattle.id_groups.specs.Name.{Name}
use Rattle.commit_graph.specs.World.{World}
use Rattle.payload_tables.proofs.Lists.{names-length}
use Rattle.disk_trait.specs.Images.{Told, IsImage, IsSound}
use Rattle.disk_trait.specs.Calls.{Goes}
use Rattle.disk_trait.proofs.Loss.{last-append}
use Rattle.disk_trait.proofs.Moments.{weakened}
use Rattle.disk_trait.proofs.Telling.{goes-map, goes-from}
use Rattle.gated_log.specs.Held.{Held, log_bytes}
use Rattle.gated_log.specs.Holding.{HasPayloads}
use Rattle.gated_log.specs.Load.{Loads, IsLogOf, IsLoaded, LeavesOldOrFresh}
use Rattle.gated_log.specs.declared.LoadLog.{LoadLog}
use Rattle.gated_log.specs.declared.LoadLog.TheVariants as logs
use Rattle.gated_log.proofs.Reading.{one-log}
use Rattle.batch_codec.specs.Payload.{Payload}
use Rattle.name_map.specs.Added.{Placed, payloads_of, AllStand}
use Rattle.change_rules.specs.declared.Limits.{Limits}
use Rattle.change_rules.specs.Standard.{AreLimits}
use Rattle.change_rules.specs.Change.{text_of}
use Rattle.change_rules.specs.Tables.{newest, other_names_in}
use Rattle.change_rules.specs.Holding.{AreSpelled, HoldPayloads, HoldAs, HoldBytes, HoldsNow, KeepsHolding}
use Rattle.change_rules.specs.Unlawful.{IsFirstUnlawful}
use Rattle.change_rules.proofs.Refusals.{held-is-log}
use Rattle.payload_tables.specs.Kept.{PlainTables, AreTablesOf}
use Rattle.step_rules.specs.State.{new_session, start, world_at}
use Rattle.step_rules.proofs.Sessions.{copies}
use Rattle.step_rules.proofs.States.{start-state, alone}
use Rattle.dag_store.specs.declared.replies.LoadFault.{LoadFault}
use Rattle.dag_store.specs.declared.replies.LoadFault.TheVariants.{Frame, TooLarge, Batch, Disk, Memory}
use Rattle.store_plans.specs.Sessions.{PlainSession, base_added, IsSessionFor, IsOnNewest}
use Rattle.log_tables.specs.Within.{EndsWithin}
use Rattle.dag_store.specs.Kept.{PlainStore, IsKept, session_at, sixteen}
use Rattle.dag_store.specs.Stands.{Stands}
use Rattle.dag_store.specs.Loading.{fault_of, LoadAnswers, Opens, IsLoadedStore}
use Rattle.dag_store.proofs.Sees.{once}

-- each of the sixteen sessions is on all payloads that were added
abbrev pub EachOnNewest : List Placed → List PlainSession → Type 0
EachOnNewest added sessions = (s : ℕ) → s < sixteen → IsOnNewest added (session_at sessions s)

pub loaded-kept : (log : Held) (tables : PlainTables) (sessions : List PlainSession) (limits : Limits) (added : List Placed) → AreTablesOf tables added → AllStand (log_bytes log) added → log.payloads ≡ map text_of (payloads_of added)
    → AllByRecursion (EndsWithin log) added → length sessions ≡ sixteen → EachOnNewest added sessions → AreLimits limits → log.limit ≡ limits.log → IsKept log tables sessions limits
loaded-kept log tables sessions limits added t stand texts within count each fair most = record {
  added = added;
  tables_of = t;
  stand = stand;
  within = within;
  texts = texts;
  count = count;
  each = λ s small. (each s small).0;
  limits_fit = fair;
  limit = most;
}

spelled-are : (texts : List (List ℕ)) (payloads : List Payload) → AreSpelled texts payloads → texts ≡ map text_of payloads
spelled-are [] [] h = refl
spelled-are [] (p ∷ payloads) h = absurd h
spelled-are (t ∷ texts) [] h = absurd h
spelled-are (t ∷ texts) (p ∷ payloads) h = ap (λ x. x ∷ texts) h.0 ∙ ap (λ l. text_of p ∷ l) (spelled-are texts payloads h.1)

-- a store on payloads that hold a world stands for the start of a run over it
module _ (store : PlainStore) (added : List Placed) (payloads : List Payload) (w : World Name) (hold : HoldPayloads payloads w) (are : payloads_of added ≡ payloads)
    (texts : store.log.payloads ≡ map text_of payloads) (each : EachOnNewest added store.sessions) where
  abbrev as-many : length added ≡ length payloads
  as-many = sym (length-payloads added) ∙ ap (length {A = Payload}) are
    where
      length-payloads : (added : List Placed) → length (payloads_of added) ≡ length added
      length-payloads [] = refl
      length-payloads (a ∷ added) = ap suc (length-payloads added)

  session-stands : (x : PlainSession) → IsOnNewest added x → IsSessionFor (length payloads) (start w payloads) x new_session
  session-stands x on =
      let all : base_added added x ≡ added = take_all x.payloads added (let e = on.1 in omega (arith, e)) in
      record {
        payloads = (let e = on.1 in let s = as-many in omega (arith, e, s));
        pending = record {
          first = on.0.pending.first ∙ ap (λ l. length (other_names_in (newest (payloads_of l)))) all ∙ ap (λ l. length (other_names_in (newest l))) are
              ∙ ap (length {A = Name}) hold.stand.names ∙ names-length w.others;
          held = on.2;
          view = (alone w hold.world).world;
        };
      }

  abbrev worlds-are : (i : ℕ) → i ≤ 0 → HoldPayloads (take (length payloads + i) payloads) (world_at (start w payloads) i)
  worlds-are zero le = subst (λ l. HoldPayloads l w) (sym (take_all (length payloads + 0) payloads (omega arith))) hold
  worlds-are (suc i) le = absurd (omega (arith, le))

  pub loaded-stands : Stands (length payloads) store (start w payloads)
  loaded-stands = record {
    state = start-state w payloads hold.world;
    texts = texts;
    count = omega arith;
    worlds = worlds-are;
    sessions = λ s small. subst (IsSessionFor (length payloads) (start w payloads) (session_at store.sessions s)) (sym (copies 16 s new_session)) (session-stands (session_at store.sessions s) (each s small));
  }

-- bytes that hold the world open a store that stands for it
pub opened : (limits : Limits) (store : PlainStore) (tables : PlainTables) (added : List Placed) (payloads : List Payload) (w : World Name) (bytes : List ℕ) → IsLogOf limits.log bytes store.log → AreTablesOf tables added
    → store.log.payloads ≡ map text_of (payloads_of added) → EachOnNewest added store.sessions → HoldAs limits.log bytes payloads w → Opens limits payloads w (Ok store)
opened limits store tables added payloads w bytes log t texts each h =
    let same : store.log.payloads ≡ map text_of payloads = one-log bytes store.log.payloads h.texts log.is_log h.log ∙ spelled-are h.texts payloads h.spelled in
    loaded-stands store added payloads w h.hold (once [] [] (payloads_of added) payloads t.lawful h.hold.lawful (sym texts ∙ same)) same each

-- what is refused holds no world
pub refused : (limits : Limits) (payloads : List Payload) (w : World Name) (bytes : List ℕ) (fault : LoadFault) → LoadAnswers limits bytes (Err fault) → HoldAs limits.log bytes payloads w → Opens limits payloads w (Err fault)
refused limits payloads w bytes (Frame at) a h = held-is-log limits.log bytes payloads w h (inr (inl (at, a.1)))
refused limits payloads w bytes (TooLarge size) a h = held-is-log limits.log bytes payloads w h (inl a.0)
refused limits payloads w bytes (Batch k) a h = held-is-log limits.log bytes payloads w h (inr (inr (a.0, k, a.1.1, a.2)))
refused limits payloads w bytes (Disk fault) a h = tt
refused limits payloads w bytes Memory a h = tt

-- the log's refusals are the store's
pub log-refused : (limits : Limits) (bytes : List ℕ) (fault : LoadLog) → Loads limits.log bytes (Err fault) → LoadAnswers limits bytes (Err (fault_of fault))
log-refused limits bytes (logs.Damaged at) h = h
log-refused limits bytes (logs.TooLarge size) h = h
log-refused limits bytes (logs.Disk fault) h = tt
log-refused limits bytes logs.Memory h = tt

-- payloads that aren't lawful
pub tables-refused : (limits : Limits) (bytes : List ℕ) (log : Held) (fault : LoadFault) → IsLogOf limits.log bytes log → (fault ≡ Memory) ⊎ ((k : ℕ) × (fault ≡ Batch k) × IsFirstUnlawful [] log.payloads k) → LoadAnswers limits bytes (Err fault)
tables-refused limits bytes log fault l (inl e) = subst (λ f. LoadAnswers limits bytes (Err f)) (sym e) tt
tables-refused limits bytes log fault l (inr (k, e, u)) = subst (λ f. LoadAnswers limits bytes (Err f)) (sym e) (log.payloads, (l.fits, l.is_log), u)

pub if-some : (F G : List ℕ → Type 0) (a : Option (List ℕ)) → ((bytes : List ℕ) → F bytes → G bytes) → IfSome a F → IfSome a G
if-some F G None f h = tt
if-some F G (Some bytes) f h = f bytes h

-- ---- the disk

-- what each image now has, the bytes have
bytes-hold : (limit : ℕ) (w : World Name) (t : Told) → IsSound t → HoldsNow limit t w → HoldBytes limit t.bytes w
bytes-hold limit w t s h = h t.bytes (subst (λ u. IsImage u t.bytes) (sym (last-append t.past t.now t.now)) s.image)

-- a fresh file holds what another one does
fresh-holds : (limit : ℕ) (w : World Name) (old image : List ℕ) → 1 ≤ limit → HoldBytes limit old w → length old ≤ 1 → length image ≤ 1 → HoldBytes limit image w
fresh-holds limit w old image least (payloads, h) short here =
    let none : h.texts ≡ [] = one-log old h.texts [] h.log (inl (short, refl)) in
    (payloads, record { within = omega (arith, least, here); texts = []; log = inl (here, refl); spelled = subst (λ l. AreSpelled l payloads) none h.spelled; hold = h.hold })

keeps : (limit : ℕ) (w : World Name) (a b : Told) → 1 ≤ limit → IsSound a → LeavesOldOrFresh a b → KeepsHolding limit w a b
keeps limit w a b least s f h = weakened _ (λ moment image. HoldBytes limit image w) a b
    (λ moment image p. ⊎_elim
    (λ old. h image (subst (λ u. IsImage u image) (sym (last-append a.past a.now a.now)) old))
    (λ fresh. fresh-holds limit w a.bytes image least (bytes-hold limit w a s h) fresh.0 fresh.1) p) f

pub load-keeps : (limits : Limits) (w : World Name) (a b : Option Told) → AreLimits limits → IfSome a IsSound → Goes LeavesOldOrFresh a b → Goes (KeepsHolding limits.log w) a b
load-keeps limits w a b fair s f = goes-from LeavesOldOrFresh (KeepsHolding limits.log w) IsSound a b (λ x y i r. keeps limits.log w x y (let l = fair.log.0 in omega (arith, l)) i r) s f

pub load-done : (limits : Limits) (store : PlainStore) (a b : Option Told) → store.limits ≡ limits → store.log.limit ≡ limits.log → Goes (IsLoaded store.log) a b → Goes (IsLoadedStore store) a b
load-done limits store a b same most h = goes-map (IsLoaded store.log) (IsLoadedStore store) a b
    (λ x y l. record {
      fresh = λ short. (l.fresh short).0;
      other = l.other;
      payloads = subst (λ m. HasPayloads m y store.log.payloads) (most ∙ sym (ap (λ (k : Limits). k.log) same)) l.payloads;
      on_disk = l.on_disk;
    }) h
