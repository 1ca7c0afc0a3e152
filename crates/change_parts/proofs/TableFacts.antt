-- How many others the tables keep, and what room they have.
use Rattle.std.proofs.Common.{◌≡◌, ◌≤◌, ℕ, ◌-◌, List, [], sym, subst, arith, append-nil}
use Rattle.name_map.specs.Added.{Placed, AllStand, payloads_of}
use Rattle.change_rules.specs.Tables.{newest}
use Rattle.payload_tables.specs.Kept.{PlainTables, AreTablesOf}
use Rattle.payload_tables.proofs.Basing.{OthersFacts, base-others, table-end}
use Rattle.change_parts.specs.Asked.{others_count}
use Rattle.payload_tables.specs.Bases.{MayBase}

tables-base : (tables : PlainTables) (bytes : List ℕ) (added : List Placed) → AreTablesOf tables added → AllStand bytes added → MayBase bytes tables tables.others tables.flat.end added
tables-base tables bytes added t stand = record {
  behind = [];
  tables_of = subst (AreTablesOf tables) (sym (append-nil added)) t;
  stand = subst (AllStand bytes) (sym (append-nil added)) stand;
  others_of = t.others;
  count = table-end tables added t;
}

-- what the tables keep of the newest others
pub others-facts : (tables : PlainTables) (bytes : List ℕ) (added : List Placed) → AreTablesOf tables added → AllStand bytes added
    → OthersFacts bytes tables.others tables.flat.end (newest (payloads_of added))
others-facts tables bytes added t stand = base-others bytes tables tables.others tables.flat.end added (tables-base tables bytes added t stand)

-- how many there are, and what room their names have
pub others-few : (tables : PlainTables) (bytes : List ℕ) (added : List Placed) → AreTablesOf tables added → AllStand bytes added → (tables.others.count ≤ 65536) × (tables.flat.end ≤ 16777216)
others-few tables bytes added t stand = let o = others-facts tables bytes added t stand in let f = o.few in let c = o.count in (omega (arith, f, c), o.small)

pub tables-count : (tables : PlainTables) (bytes : List ℕ) (added : List Placed) → AreTablesOf tables added → AllStand bytes added → tables.others.count ≡ others_count added
tables-count tables bytes added t stand = (others-facts tables bytes added t stand).count

pub tables-few : (tables : PlainTables) (bytes : List ℕ) (added : List Placed) → AreTablesOf tables added → AllStand bytes added → others_count added ≤ 65536
tables-few tables bytes added t stand = (others-facts tables bytes added t stand).few
