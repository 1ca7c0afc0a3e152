-- Taking what another process has stored behind the payloads of a store.
use Rattle.std.specs.Prelude.{◌≡◌, ◌<◌, ℕ, List, [], ◌∷◌, ◌++◌, ⊤, length, map, take, slice_index_or}
use Rattle.id_groups.specs.Name.{Name}
use Rattle.commit_graph.specs.World.{World, GrowsMaster}
use Rattle.gated_log.specs.Held.{Held, longer}
use Rattle.gated_log.specs.declared.ReserveFault.{ReserveFault}
use Rattle.gated_log.specs.declared.ReserveFault.TheVariants as rooms
use Rattle.batch_codec.specs.Payload.{Payload}
use Rattle.change_rules.specs.Change.{text_of}
use Rattle.change_rules.specs.Holding.{HoldPayloads}
use Rattle.change_rules.specs.Unlawful.{MayStand}
use Rattle.payload_tables.specs.declared.fault.TableFault.{TableFault}
use Rattle.payload_tables.specs.declared.fault.TableFault.TheVariants as tables
use Rattle.remote_rules.specs.Mirror.{Mirror}
use Rattle.step_rules.specs.State.{State, Stored, with_stored}
use Rattle.store_plans.specs.Changes.{HasRoom}
use Rattle.dag_store.specs.declared.following.FollowFault.{FollowFault}
use Rattle.dag_store.specs.declared.following.FollowFault.TheVariants.{Unlawful, Full, Memory}
use Rattle.dag_store.specs.declared.following.Taken.{Taken}
use Rattle.dag_store.specs.declared.following.Taken.TheVariants as one
use Rattle.dag_store.specs.declared.following.Followed.{Followed}
use Rattle.dag_store.specs.declared.following.Followed.TheVariants.{Done, Refused}
use Rattle.dag_store.specs.Kept.{PlainStore}
use Rattle.dag_store.specs.Stands.{Stands, StandsBeside}

-- the causes of the log and of the tables
abbrev pub fault_of_room : ReserveFault → FollowFault
fault_of_room rooms.Full = Full
fault_of_room rooms.Memory = Memory

abbrev pub fault_of_table : TableFault → FollowFault
fault_of_table tables.Unlawful = Unlawful
fault_of_table tables.Memory = Memory

-- what another process has stored: a payload, and the world that is stored by it
pub record Written : Type 0 where
  pub payload : Payload
  pub world : World Name

-- the state with it
abbrev pub goes_on : State → Written → State
goes_on st c = record { store = with_stored st.store c.world c.payload; outside = st.outside }

-- the state with all of these
abbrev pub all_on : State → List Written → State
all_on st [] = st
all_on st (c ∷ more) = all_on (goes_on st c) more

-- it comes behind what the state has stored: the world's master goes on, and the payloads with this one hold it
pub record MayGoOn (st : Stored) (c : Written) : Type 0 where
  pub grows : GrowsMaster st.stored c.world
  pub hold : HoldPayloads (st.payloads ++ c.payload ∷ []) c.world

-- each of these does, one behind the other
abbrev pub GoOn : State → List Written → Type 0
GoOn st [] = ⊤
GoOn st (c ∷ more) = MayGoOn st.store c × GoOn (goes_on st c) more

-- their payloads' texts
abbrev pub texts_of : List Written → List (List ℕ)
texts_of changes = map (λ c. text_of c.payload) changes

-- the closed gate of a log with so many payloads more: its own, or a new one, which is 0
abbrev pub gate_behind : Held → List (List ℕ) → ℕ
gate_behind log [] = log.gate
gate_behind log (text ∷ texts) = 0

-- the log of a store with these payloads behind the others and a closed gate behind them, and all else as it was
abbrev pub HasTaken : PlainStore → List (List ℕ) → PlainStore → Type 0
HasTaken old texts new = (new ≡ record old { log = new.log }) × (new.log.payloads ≡ old.log.payloads ++ texts) × (new.log.gate ≡ gate_behind old.log texts)

-- one payload: it is behind the others; or the store is as it was, but for the log's room
abbrev pub TakesOne : PlainStore → List ℕ → Taken → Type 0
TakesOne old text (one.Done new) = HasTaken old (text ∷ []) new
TakesOne old text (one.Refused same fault) = (same ≡ record old { log = same.log }) × HasRoom old.log same.log

-- what taking one answers where it may go on by this
abbrev pub TakesTo : ℕ → List Mirror → State → Written → Taken → Type 0
TakesTo began mirrors st c (one.Done new) = StandsBeside began new mirrors (goes_on st c)
TakesTo began mirrors st c (one.Refused same fault) = fault ≡ Unlawful → ⊥

-- why one is refused: it is no payload that may come behind these, or the log would become longer than its limit
abbrev pub IsWhyNot : PlainStore → List ℕ → FollowFault → Type 0
IsWhyNot store text Unlawful = (began : ℕ) (st : Stored) → Stands began store st → (p : Payload) → MayStand st.payloads text p → ⊥
IsWhyNot store text Full = store.limits.log < longer store.log text
IsWhyNot store text Memory = ⊤

abbrev pub OneHasCause : PlainStore → List ℕ → Taken → Type 0
OneHasCause old text (one.Done new) = ⊤
OneHasCause old text (one.Refused same fault) = IsWhyNot same text fault

-- All of them stand behind the others; or so many do, and the next one is refused with its cause.
abbrev pub Takes : PlainStore → List (List ℕ) → Followed → Type 0
Takes old texts (Done new) = HasTaken old texts new
Takes old texts (Refused same k fault) = (k < length texts) × HasTaken old (take k texts) same × IsWhyNot same (slice_index_or texts k []) fault

-- What following answers where the log goes on by these: the store stands for the state with them, beside the same mirrors; or, for want
-- of memory or of room, for the state with those that it took.
abbrev pub FollowsTo : ℕ → List Mirror → State → List Written → Followed → Type 0
FollowsTo began mirrors st changes (Done new) = StandsBeside began new mirrors (all_on st changes)
FollowsTo began mirrors st changes (Refused same k fault) = StandsBeside began same mirrors (all_on st (take k changes)) × (fault ≡ Unlawful → ⊥)
