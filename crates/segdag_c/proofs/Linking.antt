-- The states of cores, for which the library's stores stand.
use Rattle.std.proofs.Common.{◌≡◌, ◌<◌, ◌≤◌, ◌+◌, ℕ, zero, suc, List, [], ◌∷◌, length, map, take, get_or, replicate, refl, sym, ap, ◌∙◌, subst, arith}
use Rattle.id_groups.specs.Name.{Name}
use Rattle.commit_graph.specs.World.{World}
use Rattle.batch_codec.specs.Payload.{Payload}
use Rattle.gated_log.specs.Log.{IsLog}
use Rattle.gated_log.proofs.Reading.{one-log}
use Rattle.change_rules.specs.declared.Limits.{Limits}
use Rattle.change_rules.specs.Change.{text_of}
use Rattle.change_rules.specs.Holding.{HoldAs, HoldPayloads}
use Rattle.change_rules.specs.Standard.{standard}
use Rattle.payload_tables.specs.Bases.{ArePending}
use Rattle.remote_rules.specs.Mirror.{Mirror}
use Rattle.step_rules.specs.State.{State, Stored, Outside, Session, IsStore, new_session, session, start, world_at}
use Rattle.step_rules.proofs.Sessions.{copies, newest-now}
use Rattle.store_plans.specs.Sessions.{IsSessionFor}
use Rattle.dag_store.specs.Following.{GoOn, Written as StoredWritten, all_on, goes_on, texts_of}
use Rattle.dag_store.specs.Kept.{PlainStore, session_at}
use Rattle.dag_store.specs.Stands.{Stands, StandsBeside}
use Rattle.dag_store.specs.declared.following.Followed.TheVariants.{Done}
use Rattle.core_rules.specs.Cores.{Written, texts_in, with_change, with_changes}
use Rattle.core_rules.specs.Taking.{AllMayCome, opened_late}
use Rattle.segdag_c.specs.Following.{StoreFollows}
use Rattle.segdag_c.specs.Loads.{IsOpened}

-- ---- following

abbrev as_stored : Written → StoredWritten
as_stored x = record { payload = x.payload; world = x.world }

texts-same : (more : List Written) → texts_of (map as_stored more) ≡ texts_in more
texts-same [] = refl
texts-same (x ∷ more) = ap (λ l. text_of x.payload ∷ l) (texts-same more)

go-on : (limits : Limits) (more : List Written) (st : State) → AllMayCome limits st.store.stored st.store.payloads more → GoOn st (map as_stored more)
go-on limits [] st h = tt
go-on limits (x ∷ more) st h = (record { grows = h.0.grows; hold = h.0.hold }, go-on limits more (goes_on st (as_stored x)) h.1)

all-on : (more : List Written) (store : Stored) (out : Outside) → all_on (record { store = store; outside = out }) (map as_stored more) ≡ record { store = with_changes store more; outside = out }
all-on [] store out = refl
all-on (x ∷ more) store out = all-on more (with_change store x) out

pub follows-take : (limits : Limits) (mirrors : List Mirror) (old new : PlainStore) (bytes : List ℕ) (texts : List (List ℕ)) (began : ℕ) (st : State) (more : List Written) → StoreFollows mirrors old bytes texts (Done new)
    → StandsBeside began old mirrors st → IsLog bytes (texts_in more) → AllMayCome limits st.store.stored st.store.payloads more
    → StandsBeside began new mirrors (record { store = with_changes st.store more; outside = st.outside })
follows-take limits mirrors old new bytes texts began st more follows stands log may =
    let same : texts ≡ texts_of (map as_stored more) = one-log bytes texts (texts_in more) follows.0 log ∙ sym (texts-same more) in
    subst (StandsBeside began new mirrors) (all-on more st.store st.outside) (follows.2 began st (map as_stored more) stands same (go-on limits more st may))

-- ---- opening

at-copies : (n k : ℕ) (y d : Session) → k < n → get_or (replicate n y) k d ≡ y
at-copies zero k y d lt = absurd (omega (arith, lt))
at-copies (suc n) zero y d lt = refl
at-copies (suc n) (suc k) y d lt = at-copies n k y d (omega (arith, lt))

pub opened-late : (bytes : List ℕ) (cache began : ℕ) (store : PlainStore) (past : List (World Name)) (w : World Name) (payloads : List Payload) → IsOpened bytes cache store
    → HoldAs standard.log bytes payloads w → IsStore (opened_late past w payloads) → began + length past ≡ length payloads
    → ((i : ℕ) → i ≤ length past → HoldPayloads (take (began + i) payloads) (world_at (opened_late past w payloads) i)) → Stands began store (opened_late past w payloads)
opened-late bytes cache began store past w payloads opened hold is_store counted worlds =
    let h = opened.stands payloads w hold in
    let late : Stored = opened_late past w payloads in
    let y : Session = record { base = length past; pending = [] } in
    record {
      state = is_store;
      texts = h.texts;
      count = sym counted;
      worlds = worlds;
      sessions = λ s lt. (let x = session_at store.sessions s in
          let g : IsSessionFor (length payloads) (start w payloads) x new_session = subst (IsSessionFor (length payloads) (start w payloads) x) (copies 16 s new_session) (h.sessions s lt) in
          subst (IsSessionFor began late x) (sym (at-copies 16 s y new_session lt)) (record {
            payloads = (let a = g.payloads in omega (arith, a, counted));
            pending = subst (λ (v : World Name). ArePending v x.pending []) (sym (newest-now late)) g.pending;
          }));
    }
