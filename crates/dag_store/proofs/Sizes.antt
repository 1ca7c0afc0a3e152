-- The steps that tell sizes, and the one that lets rows go.
use Rattle.std.proofs.Common.{◌≡◌, ◌<◌, ℕ, inl, List, [], length, None, refl, ap, ◌∙◌, set}
use Rattle.id_groups.specs.Name.{Name, same_name}
use Rattle.commit_graph.specs.Ids.{parent_ids}
use Rattle.segment_rules.specs.Flat.{flat_segments_of}
use Rattle.segment_rules.specs.Levels.{level_counts}
use Rattle.gated_log.specs.Held.{Held}
use Rattle.change_rules.specs.declared.Limits.{Limits}
use Rattle.payload_tables.specs.Kept.{PlainTables}
use Rattle.payload_tables.specs.Pending.{PlainPending, HoldsRows}
use Rattle.payload_tables.proofs.Lists.{names-length}
use Rattle.step_rules.specs.State.{State, Stored, session, pending_of, base_of, with_pending_rows}
use Rattle.step_rules.specs.Verb.{Verb, Add, Flush, Reload, Discard, Query, Count, IdOf, Status, Levels, Clone, Pull, Strip, CountMirrors, Drop}
use Rattle.step_rules.specs.Reply.{Reply, Sizes, LevelSizes, Discarded}
use Rattle.step_rules.specs.Step.{CommandStep, IsTold}
use Rattle.step_rules.proofs.Plain.{outside-same}
use Rattle.step_rules.proofs.States.{alone}
use Rattle.store_plans.specs.Sessions.{PlainSession, IsSessionOf, base_added}
use Rattle.dag_store.specs.Kept.{PlainStore, IsKept, session_at, no_cache, sixteen}
use Rattle.dag_store.specs.Stands.{Stands}
use Rattle.dag_store.proofs.Sees.{base-holds}
use Rattle.dag_store.proofs.Standing.{stands-with}
use Rattle.store_plans.proofs.Counts.{others-many, CountsRows, pending-many}

-- commands without tests
abbrev IsBare : Verb → Type 0
IsBare Status = Unit {0}
IsBare Levels = Unit {0}
IsBare Discard = Unit {0}
IsBare _ = ⊥

module _ (log : Held) (tables : PlainTables) (sessions : List PlainSession) (limits : Limits) (k : IsKept log tables sessions limits) (s : ℕ) (small : s < sixteen) where
  abbrev kept : PlainStore
  kept = record { log = log; sessions = sessions; limits = limits; cache = no_cache }

  -- a command without tests, that asks nothing
  untested : (st : State) (now : Stored) (verb : Verb) → IsBare verb → (reply : Reply) → IsTold st.store s verb reply now → CommandStep limits st s verb reply (record st { store = now })
  untested st now Status i reply t = (None, st.outside.mirrors, [], (refl, refl, inl refl), (t, outside-same st now))
  untested st now Levels i reply t = (None, st.outside.mirrors, [], (refl, refl, inl refl), (t, outside-same st now))
  untested st now Discard i reply t = (None, st.outside.mirrors, [], (refl, refl, inl refl), (t, outside-same st now))
  untested st now (Add n ps) i reply t = absurd i
  untested st now (Flush hs) i reply t = absurd i
  untested st now Reload i reply t = absurd i
  untested st now (Query e) i reply t = absurd i
  untested st now (Count e) i reply t = absurd i
  untested st now (IdOf n) i reply t = absurd i
  untested st now Clone i reply t = absurd i
  untested st now Pull i reply t = absurd i
  untested st now (Strip ns) i reply t = absurd i
  untested st now CountMirrors i reply t = absurd i
  untested st now (Drop n) i reply t = absurd i

  pub status-step : (m o p : ℕ) → m ≡ (session_at sessions s).below → o ≡ (session_at sessions s).others.count → CountsRows (session_at sessions s).pending p
      → (began : ℕ) (st : State) → Stands began kept st.store → CommandStep limits st s Status (Sizes m o p) st
  status-step m o p is_m is_o counts began all h =
      let st = all.store in
      let x = session_at sessions s in
      let of = k.each s small in
      let stand = (base-holds log tables sessions limits k began st h s small).stand in
      let masters = is_m ∙ of.below ∙ stand.count in
      let others = is_o ∙ others-many x.others (base_added k.added x) of.others ∙ ap (length {A = Name}) stand.names ∙ names-length (base_of st s).others in
      let rows = pending-many (base_of st s) x.pending (pending_of st s) p (h.sessions s small).pending counts in
      untested all st Status tt (Sizes m o p) (rw (masters, others, rows) refl, refl)

  -- the session has no rows any more
  pub discard-step : (n : ℕ) (none : PlainPending) → CountsRows (session_at sessions s).pending n → HoldsRows none [] → none.first ≡ (session_at sessions s).pending.first
      → (began : ℕ) (st : State) → Stands began kept st.store
      → CommandStep limits st s Discard (Discarded n) (record st { store = with_pending_rows st.store s [] })
      × Stands began (record { log = log; sessions = set sessions s (record (session_at sessions s) { pending = none }); limits = limits; cache = no_cache }) (with_pending_rows st.store s [])
  discard-step n none counts held first began all h =
      let st = all.store in
      let x = session_at sessions s in
      let y = session st s in
      let w = base_of st s in
      let one = h.sessions s small in
      let fine = h.state.sessions s in
      let named = alone w (h.state.worlds y.base fine.base) in (
        untested all (with_pending_rows st s []) Discard tt (Discarded n) (ap Discarded (pending-many w x.pending (pending_of st s) n one.pending counts), refl),
        stands-with began kept st s (record x { pending = none }) (record { base = y.base; pending = [] }) small k.count h
            (record { base = fine.base; view = named })
            (record { payloads = one.payloads; pending = record { first = first ∙ one.pending.first; held = held; view = named.world } }),
      )

  -- and may go on
  pub discarded-of : (none : PlainPending) → HoldsRows none [] → none.first ≡ (session_at sessions s).pending.first → IsSessionOf k.added (record (session_at sessions s) { pending = none })
  discarded-of none held first =
      let of = k.each s small in
      record {
        payloads = of.payloads;
        below = of.below;
        others = of.others;
        pending = record { rows = []; held = held; first = first ∙ of.pending.first; parents = tt; distinct = tt; fresh = λ name i. absurd i };
      }

-- the levels of the stored master
pub levels-step : (limits : Limits) (st : State) (s : ℕ) (counts : List ℕ) → counts ≡ level_counts (flat_segments_of 0 (parent_ids same_name st.store.stored st.store.stored.master)) → CommandStep limits st s Levels (LevelSizes counts) st
levels-step limits st s counts is = (None, st.outside.mirrors, [], (refl, refl, inl refl), ((ap LevelSizes is, refl), outside-same st st.store))
