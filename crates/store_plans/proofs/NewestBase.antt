-- The newest base of a store's tables, and rows of none behind it.
use Rattle.std.proofs.Common.{◌≡◌, ◌≤◌, ℕ, List, [], ◌∷◌, map, refl, sym, ap, subst, ◌∙◌, arith, append-nil}
use Rattle.id_groups.specs.Name.{Name}
use Rattle.commit_graph.specs.World.{Row, names_of, with_pending}
use Rattle.name_map.specs.Added.{Placed, payloads_of, AllStand}
use Rattle.change_rules.specs.Tables.{StandFor}
use Rattle.payload_tables.specs.declared.base.BaseRef.{BaseRef}
use Rattle.payload_tables.specs.Kept.{PlainTables, PlainOthers, AreTablesOf}
use Rattle.payload_tables.specs.Pending.{HeldRow, PlainPending, HoldsRows, row_names}
use Rattle.payload_tables.specs.Bases.{MayView, held_row}
use Rattle.step_rules.specs.State.{Stored, base_of, pending_of}
use Rattle.store_plans.specs.Sessions.{PlainSession}
use Rattle.store_plans.specs.Looking.{AreTablesBehind, AreNone}
use Rattle.store_plans.specs.Changes.{HaveNames, IsOn}
use Rattle.store_plans.proofs.Newest.{others-few}
use Rattle.store_plans.proofs.Counts.{others-many}
use Rattle.store_plans.proofs.StoredNames.{names-of-rows}

-- the tables are those of these payloads, and none behind them
pub none-behind : (tables : PlainTables) (bytes : List ℕ) (added : List Placed) → AreTablesOf tables added → AllStand bytes added → AreTablesBehind tables bytes added
none-behind tables bytes added t s = record {
  behind = [];
  tables_of = subst (AreTablesOf tables) (sym (append-nil added)) t;
  stand = subst (AllStand bytes) (sym (append-nil added)) s;
}

-- the names of a session's rows
pub session-names : (began s : ℕ) (added : List Placed) (x : PlainSession) (st : Stored) → IsOn began added x st s → HaveNames x.pending (names_of (pending_of st s))
session-names began s added x st o =
    let v = with_pending (base_of st s) (pending_of st s) in
    (map (held_row v) (pending_of st s), o.session.pending.held, names-of-rows v (pending_of st s))

module _ (tables : PlainTables) (added : List Placed) (t : AreTablesOf tables added) (others : PlainOthers) (is : others ≡ tables.others) (n m : ℕ) (count : n ≡ others.count) (from : m ≡ n) where
  same : m ≡ tables.others.count
  same = from ∙ count ∙ ap (λ (o : PlainOthers). o.count) is

  pub none-few : m ≤ 65536
  none-few = let few = others-few tables added t in let e = same in omega (arith, few, e)

  -- rows of none, which begin where the other ids of the tables end
  pub are-none : (none : PlainPending) → HoldsRows none [] → none.first ≡ m → AreNone none added
  are-none none held first = (held, first ∙ same ∙ others-many tables.others added t.others)

-- they may stand behind the newest base
pub none-view : (newest : BaseRef) (none : PlainPending) (added : List Placed) → AreNone none added → MayView newest added none
none-view newest none added n = record { rows = []; held = n.0; first = n.1; parents = tt }

-- the payloads of a state that a session is on stand for what it has stored
pub state-stands : (began s : ℕ) (added : List Placed) (x : PlainSession) (st : Stored) → IsOn began added x st s → StandFor (payloads_of added) st.stored
state-stands began s added x st o = subst (λ l. StandFor l st.stored) (sym o.payloads) o.hold.stand

-- rows of some parents with these names
pub plain-names : (pending : PlainPending) (rows : List HeldRow) → HoldsRows pending rows → (some : List (Row Name)) × HaveNames pending (names_of some)
plain-names pending rows held = (map plain_row rows, (rows, held, again rows))
  where
    plain_row : HeldRow → Row Name
    plain_row r = record { name = r.name; parents = [] }

    again : (rows : List HeldRow) → row_names rows ≡ names_of (map plain_row rows)
    again [] = refl
    again (r ∷ rows) = ap (λ l. r.name ∷ l) (again rows)
