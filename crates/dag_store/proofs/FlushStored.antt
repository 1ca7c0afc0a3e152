-- What is kept after a change, and for which state it stands.
use Rattle.std.proofs.Common.{◌≡◌, ◌≤◌, ◌<◌, ◌+◌, ⊎_elim, ℕ, List, [], ◌∷◌, ◌++◌, length, map, take, drop, set, sym, ap, subst, ◌∙◌, arith, length-append, length-set, le_refl, eq-or-lt_of_le, append_assoc, append-nil}
use Rattle.std.specs.List.{AllByRecursion}
use Rattle.std.proofs.lemmas.List.{get_or-set_same, get_or-set_other, take-append-le, take_all, map-append, length-map, drop-append-le}
use Rattle.std.proofs.lemmas.Bool.{cases_eq}
use Rattle.id_groups.specs.Name.{Name}
use Rattle.commit_graph.specs.World.{Row, World, IsNamedWorld, GrowsMaster, with_pending}
use Rattle.gated_log.specs.Log.{batches, batch, log_length}
use Rattle.gated_log.specs.Held.{Held, log_bytes}
use Rattle.gated_log.proofs.Places.{length-log}
use Rattle.batch_codec.specs.Payload.{Payload}
use Rattle.name_map.specs.Added.{Placed, payloads_of, AllStand, StandsAt}
use Rattle.change_rules.specs.declared.Limits.{Limits}
use Rattle.change_rules.specs.Change.{text_of}
use Rattle.change_rules.specs.Holding.{HoldPayloads}
use Rattle.payload_tables.specs.Kept.{PlainTables, AreTablesOf}
use Rattle.payload_tables.specs.Bases.{ArePending}
use Rattle.change_rules.specs.Tables.{newest, other_names_in}
use Rattle.std.proofs.lemmas.List.{length-drop}
use Rattle.payload_tables.proofs.Lists.{all-append, names-length}
use Rattle.change_parts.specs.declared.change.Change.{Change}
use Rattle.step_rules.specs.State.{Stored, session, world_at, base_of, with_stored, on_newest}
use Rattle.step_rules.proofs.States.{alone, with_stored-state, at-newest}
use Rattle.step_rules.proofs.Sessions.{newest-now, world_at-stored}
use Rattle.store_plans.specs.Sessions.{PlainSession, IsSessionOf, base_added, IsOnNewest}
use Rattle.log_tables.specs.Within.{EndsWithin}
use Rattle.dag_store.specs.Kept.{PlainStore, IsKept, no_cache, session_at, no_session, sixteen}
use Rattle.dag_store.specs.Stands.{Stands}
use Rattle.store_plans.specs.Changes.{HasRoom, AreOver, IsOn, IsReady, added_behind, next_place}
use Rattle.dag_store.specs.Finishes.{IsBehind}
use Rattle.dag_store.proofs.Sees.{added-are, all-hold, base-holds}
use Rattle.dag_store.proofs.Standing.{kept-with, stands-with}
use Rattle.store_plans.proofs.FlushSessions.{older-session}

-- ---- what a store says of its parts

pub over-of : (log : Held) (tables : PlainTables) (sessions : List PlainSession) (limits : Limits) (k : IsKept log tables sessions limits) → AreOver log tables k.added
over-of log tables sessions limits k = record { tables_of = k.tables_of; stand = k.stand; texts = k.texts }

pub on-of : (log : Held) (tables : PlainTables) (sessions : List PlainSession) (limits : Limits) (k : IsKept log tables sessions limits) (began : ℕ) (st : Stored)
    (h : Stands began (record { log = log; sessions = sessions; limits = limits; cache = no_cache }) st) (s : ℕ) → s < sixteen → IsOn began k.added (session_at sessions s) st s
on-of log tables sessions limits k began st h s small = record {
  state = h.state;
  payloads = added-are log tables sessions limits k began st h;
  count = h.count;
  hold = subst (λ l. HoldPayloads l st.stored) (added-are log tables sessions limits k began st h) (all-hold log tables sessions limits k began st h);
  base = base-holds log tables sessions limits k began st h s small;
  grows = subst (λ w. GrowsMaster (base_of st s) w) (newest-now st) (h.state.grows (session st s).base (length st.past) (h.state.sessions s).base (le_refl _));
  session = h.sessions s small;
}

-- the same log with other room
pub kept-room : (log new : Held) (tables : PlainTables) (sessions : List PlainSession) (limits : Limits) → HasRoom log new → IsKept log tables sessions limits → IsKept new tables sessions limits
kept-room log new tables sessions limits room k = subst (λ l. IsKept l tables sessions limits) (sym room) (record {
  added = k.added;
  tables_of = k.tables_of;
  stand = k.stand;
  within = k.within;
  texts = k.texts;
  count = k.count;
  each = k.each;
  limits_fit = k.limits_fit;
  limit = k.limit;
})

pub stands-room : (began : ℕ) (log new : Held) (sessions : List PlainSession) (limits : Limits) (st : Stored) → new.payloads ≡ log.payloads
    → Stands began (record { log = log; sessions = sessions; limits = limits; cache = no_cache }) st → Stands began (record { log = new; sessions = sessions; limits = limits; cache = no_cache }) st
stands-room began log new sessions limits st same h = record { state = h.state; texts = same ∙ h.texts; count = h.count; worlds = h.worlds; sessions = h.sessions }

-- ---- the session on the newest payloads

module _ (log : Held) (tables : PlainTables) (sessions : List PlainSession) (limits : Limits) (k : IsKept log tables sessions limits) (s : ℕ) (small : s < sixteen) (x : PlainSession) where
  pub newest-kept : IsSessionOf k.added x → IsKept log tables (set sessions s x) limits
  newest-kept of = kept-with log tables sessions limits k s x small of

  pub newest-stands : (began : ℕ) (st : Stored) → Stands began (record { log = log; sessions = sessions; limits = limits; cache = no_cache }) st → x.payloads ≡ length k.added → (rows : List (Row Name)) → ArePending st.stored x.pending rows
      → IsNamedWorld (with_pending st.stored rows) → Stands began (record { log = log; sessions = set sessions s x; limits = limits; cache = no_cache }) (on_newest st s rows)
  newest-stands began st h n rows p named =
      let o = on-of log tables sessions limits k began st h s small in
      stands-with began (record { log = log; sessions = sessions; limits = limits; cache = no_cache }) st s x (record { base = length st.past; pending = rows }) small k.count h
      (record { base = le_refl _; view = subst (λ w. IsNamedWorld (with_pending w rows)) (sym (newest-now st)) named })
      (record {
        payloads = (let e = ap length o.payloads in let l = length-map k.added (λ (a : Placed). a.payload) in let c = o.count in omega (arith, n, e, l, c));
        pending = subst (λ w. ArePending w x.pending rows) (sym (newest-now st)) p;
      })

-- a session without rows on payloads that hold a world
pub none-pending : (added : List Placed) (x : PlainSession) (w : World Name) → IsOnNewest added x → HoldPayloads (payloads_of added) w → ArePending w x.pending []
none-pending added x w on hold =
    let all : base_added added x ≡ added = take_all x.payloads added (let n = on.1 in omega (arith, n)) in
    record {
      first = on.0.pending.first ∙ ap (λ l. length (other_names_in (newest (payloads_of l)))) all ∙ ap (length {A = Name}) hold.stand.names ∙ names-length w.others;
      held = on.2;
      view = (alone w hold.world).world;
    }

-- ---- the log with the payload

stand-front : (X Y Z : List ℕ) (a : Placed) → a.at + length (text_of a.payload) ≤ length X → StandsAt (X ++ Y) a → StandsAt (X ++ Z) a
stand-front X Y Z a le h =
    let n = length (text_of a.payload) in
    front X Z a le ∙ sym (front X Y a le) ∙ h
  where
    front : (X Y : List ℕ) (a : Placed) → a.at + length (text_of a.payload) ≤ length X → take (length (text_of a.payload)) (drop a.at (X ++ Y)) ≡ take (length (text_of a.payload)) (drop a.at X)
    front X Y a le =
        ap (take (length (text_of a.payload))) (drop-append-le a.at X Y (omega (arith, le)))
        ∙ take-append-le (length (text_of a.payload)) (drop a.at X) Y (let l = length-drop a.at X in omega (arith, le, l))

all-front : (X Y Z : List ℕ) (size : ℕ) (added : List Placed) → size ≡ length X + 1 → AllByRecursion (λ (a : Placed). a.at + length (text_of a.payload) < size) added → AllStand (X ++ Y) added → AllStand (X ++ Z) added
all-front X Y Z size [] e w h = tt
all-front X Y Z size (a ∷ added) e w h = (stand-front X Y Z a (let lt = w.0 in omega (arith, lt, e)) h.0, all-front X Y Z size added e w.1 h.1)

more-within : (size next : ℕ) (added : List Placed) → size ≤ next → AllByRecursion (λ (a : Placed). a.at + length (text_of a.payload) < size) added → AllByRecursion (λ (a : Placed). a.at + length (text_of a.payload) < next) added
more-within size next [] le h = tt
more-within size next (a ∷ added) le h = (let x = h.0 in omega (arith, le, x), more-within size next added le h.1)

stand-more : (bytes : List ℕ) (added : List Placed) (a : Placed) → AllStand bytes added → StandsAt bytes a → AllStand bytes (added ++ a ∷ [])
stand-more bytes [] a h s = (s, tt)
stand-more bytes (b ∷ added) a h s = (h.0, stand-more bytes added a h.1 s)

batches-push : (ps : List (List ℕ)) (p : List ℕ) → batches (ps ++ p ∷ []) ≡ batches ps ++ batch p
batches-push [] p = append-nil (batch p)
batches-push (q ∷ ps) p = ap (λ l. batch q ++ l) (batches-push ps p) ∙ sym (append_assoc (batch q) (batches ps) (batch p))

length-push : (ps : List (List ℕ)) (p : List ℕ) → log_length (ps ++ p ∷ []) ≡ log_length ps + 9 + length p
length-push [] p = omega arith
length-push (q ∷ ps) p = let e = length-push ps p in omega (arith, e)

module _ (log : Held) (tables : PlainTables) (sessions : List PlainSession) (limits : Limits) (k : IsKept log tables sessions limits) (reserved : Held) (room : HasRoom log reserved) (after : PlainTables)
    (text : List ℕ) (last : Payload) (spelled : text ≡ text_of last) (tables_of : AreTablesOf after (added_behind log k.added last)) (new : Held) (b : IsBehind reserved text new) where
  abbrev a : Placed
  a = record { at = next_place log; payload = last }

  same-payloads : reserved.payloads ≡ log.payloads
  same-payloads = ap (λ (l : Held). l.payloads) room

  same-bytes : log_bytes reserved ≡ log_bytes log
  same-bytes = ap log_bytes room

  new-payloads : new.payloads ≡ log.payloads ++ text ∷ []
  new-payloads = b.payloads ∙ ap (λ l. l ++ text ∷ []) same-payloads

  new-bytes : log_bytes new ≡ batches log.payloads ++ (batch text ++ new.gate ∷ [])
  new-bytes = ap (λ l. batches l ++ new.gate ∷ []) new-payloads ∙ ap (λ l. l ++ new.gate ∷ []) (batches-push log.payloads text) ∙ append_assoc (batches log.payloads) (batch text) (new.gate ∷ [])

  old-size : length (log_bytes log) ≡ length (batches log.payloads) + 1
  old-size = length-append (batches log.payloads) (log.gate ∷ [])

  new-size : length (log_bytes new) ≡ length (log_bytes log) + 9 + length text
  new-size = length-log new.payloads new.gate ∙ ap log_length new-payloads ∙ length-push log.payloads text ∙ ap (λ n. n + 9 + length text) (sym (length-log log.payloads log.gate))

  stands-last : StandsAt (log_bytes new) a
  stands-last =
      subst (λ (p : List ℕ). take (length p) (drop (next_place log) (log_bytes new)) ≡ p) spelled
      (subst (λ n. take (length text) (drop (n + 8) (log_bytes new)) ≡ text) (ap length same-bytes) b.place)

  stands-old : AllStand (log_bytes new) k.added
  stands-old = subst (λ l. AllStand l k.added) (sym new-bytes)
      (all-front (batches log.payloads) (log.gate ∷ []) (batch text ++ new.gate ∷ []) (length (log_bytes log)) k.added old-size k.within k.stand)

  -- it is kept, with sessions that are each on some of the payloads
  pub behind-kept : (later : List PlainSession) → length later ≡ sixteen → ((i : ℕ) → i < sixteen → IsSessionOf (added_behind log k.added last) (session_at later i)) → IsKept new after later limits
  behind-kept later count each = record {
    added = added_behind log k.added last;
    tables_of = tables_of;
    stand = stand-more (log_bytes new) k.added a stands-old stands-last;
    within = all-append (EndsWithin new) k.added (a ∷ []) (more-within (length (log_bytes log)) (length (log_bytes new)) k.added (let e = new-size in omega (arith, e)) k.within)
        ((let e = new-size in let p = ap (length {A = ℕ}) spelled in omega (arith, e, p)), tt);
    texts = new-payloads ∙ ap (λ l. l ++ text ∷ []) k.texts ∙ ap (λ t. map text_of (payloads_of k.added) ++ t ∷ []) spelled
        ∙ sym (map-append text_of (payloads_of k.added) (last ∷ [])) ∙ ap (map text_of) (sym (map-append (λ (b : Placed). b.payload) k.added (a ∷ [])));
    count = count;
    each = each;
    limits_fit = k.limits_fit;
    limit = b.limit ∙ ap (λ (l : Held). l.limit) room ∙ k.limit;
  }

  -- it is kept with the sessions as they are
  pub followed-kept : IsKept new after sessions limits
  followed-kept = behind-kept sessions k.count (λ i lt. older-session k.added (next_place log) last (session_at sessions i) (k.each i lt))

module _ (log : Held) (tables : PlainTables) (sessions : List PlainSession) (limits : Limits) (k : IsKept log tables sessions limits) (s : ℕ) (small : s < sixteen)
    (reserved : Held) (after : PlainTables) (change : Change) (x : PlainSession) (r : IsReady limits log reserved after k.added change x) (new : Held) (b : IsBehind reserved change.payload new) where
  each-one : (i : ℕ) → i < sixteen → IsSessionOf (added_behind log k.added r.last) (session_at (set sessions s x) i)
  each-one i lt = ⊎_elim
      (λ (e : i ≡ s). subst (λ j. IsSessionOf (added_behind log k.added r.last) (session_at (set sessions s x) j)) (sym e)
      (subst (IsSessionOf (added_behind log k.added r.last)) (sym (get_or-set_same sessions s x no_session (let c = k.count in omega (arith, small, c)))) r.session_of.0))
      (λ (n : i ≡ s → ⊥). subst (IsSessionOf (added_behind log k.added r.last)) (sym (get_or-set_other sessions s i x no_session n))
      (older-session k.added (next_place log) r.last (session_at sessions i) (k.each i lt)))
      (cases_eq i s)

  pub stored-kept : IsKept new after (set sessions s x) limits
  stored-kept = behind-kept log tables sessions limits k reserved r.room after change.payload r.last r.storable.payload r.tables_of new b (set sessions s x) (length-set sessions s x ∙ k.count) each-one

-- ---- another world is stored

module _ (began : ℕ) (kept : PlainStore) (st : Stored) (h : Stands began kept st) (new : World Name) (payload : Payload) (named : IsNamedWorld new) (grows : GrowsMaster st.stored new)
    (hold : HoldPayloads (st.payloads ++ payload ∷ []) new) where
  abbrev next : Stored
  next = with_stored st new payload

  longer : length (st.past ++ st.stored ∷ []) ≡ length st.past + 1
  longer = length-append st.past (st.stored ∷ [])

  size : length (st.payloads ++ payload ∷ []) ≡ began + length (st.past ++ st.stored ∷ [])
  size = let n = h.count in let l = longer in let p = length-append st.payloads (payload ∷ []) in omega (arith, l, n, p)

  newest-world : (i : ℕ) → i ≡ length (st.past ++ st.stored ∷ []) → HoldPayloads (take (began + i) (st.payloads ++ payload ∷ [])) (world_at next i)
  newest-world i e =
      let z = size in
      subst (HoldPayloads (take (began + i) (st.payloads ++ payload ∷ []))) (sym (at-newest st new payload i e))
      (subst (λ l. HoldPayloads l new) (sym (take_all (began + i) (st.payloads ++ payload ∷ []) (omega (arith, z, e)))) hold)

  older-world : (i : ℕ) → i ≤ length st.past → HoldPayloads (take (began + i) (st.payloads ++ payload ∷ [])) (world_at next i)
  older-world i le =
      let n = h.count in
      subst (HoldPayloads (take (began + i) (st.payloads ++ payload ∷ []))) (sym (world_at-stored st new payload i le))
      (subst (λ l. HoldPayloads l (world_at st i)) (sym (take-append-le (began + i) st.payloads (payload ∷ []) (omega (arith, n, le)))) (h.worlds i le))

  pub stands-stored : (log : Held) → log.payloads ≡ kept.log.payloads ++ text_of payload ∷ [] → Stands began (record { log = log; sessions = kept.sessions; limits = kept.limits; cache = no_cache }) next
  stands-stored log is = record {
    state = with_stored-state st new payload h.state named grows;
    texts = is ∙ ap (λ l. l ++ text_of payload ∷ []) h.texts ∙ sym (map-append text_of st.payloads (payload ∷ []));
    count = size;
    worlds = λ i le. ⊎_elim (newest-world i) (λ lt. older-world i (let l = longer in omega (arith, l, lt))) (eq-or-lt_of_le le);
    sessions = λ s lt. (let o = h.sessions s lt in record {
      payloads = o.payloads;
      pending = subst (λ w. ArePending w (session_at kept.sessions s).pending (session st s).pending) (sym (world_at-stored st new payload (session st s).base (h.state.sessions s).base)) o.pending;
    });
  }
