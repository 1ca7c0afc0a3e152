-- The segments of levels of a payload, as they are written.
use Rattle.std.proofs.Common.{◌≡◌, ◌≤◌, ◌∙◌, ℕ, List, [], ◌∷◌, length, flat_map, zero-le, sym, arith}
use Rattle.std.specs.Prelude.{Result, Ok, Err, OnOk}
use Rattle.std.proofs.lemmas.List.{length-append}
use Rattle.segment_codec.specs.Record.{Segment, segment_bytes}
use Rattle.batch_codec.specs.Payload.{Payload}
use Rattle.batch_codec.specs.Grammar.{IsPayload, count_after}
use Rattle.batch_codec.proofs.Built.{segment-some}
use Rattle.name_map.specs.Added.{Placed, payloads_of, AllStand}
use Rattle.payload_tables.specs.Kept.{PlainTables, AreTablesOf}
use Rattle.payload_tables.specs.Places.{BringsMasters}
use Rattle.payload_tables.proofs.Basing.{table-end}

-- each record has a byte
pub few-records : (xs : List Segment) → length xs ≤ length (flat_map segment_bytes xs)
few-records [] = zero-le
few-records (x ∷ xs) = let a = length-append (segment_bytes x) (flat_map segment_bytes xs) in let s = segment-some x in let m = few-records xs in omega (arith, a, s, m)

-- what holds where there is an answer leads on
pub ok-then : {T E A B : Type 0} (r : Result T E) → (A → B) → OnOk r A → OnOk r B
ok-then (Ok x) f a = f a
ok-then (Err e) f a = tt

-- these are the master records of a payload behind those of the tables
pub brings-behind : (tables : PlainTables) (bytes records : List ℕ) (added : List Placed) (p : Payload) → AreTablesOf tables added → AllStand bytes added → IsPayload p
    → p.before ≡ count_after 0 (payloads_of added) → records ≡ flat_map segment_bytes p.master → BringsMasters tables.flat tables.levels bytes records added p
brings-behind tables bytes records added p t stand whole count e = record {
  have = record { flat = t.flat; levels_of = t.levels };
  stand = stand;
  payload = whole;
  begins = count ∙ sym (table-end tables added t);
  records_are = e;
}

-- and those of a payload that comes first
pub brings-first : (tables : PlainTables) (bytes records : List ℕ) (p : Payload) → AreTablesOf tables [] → IsPayload p → p.before ≡ 0 → records ≡ flat_map segment_bytes p.master
    → BringsMasters tables.flat tables.levels bytes records [] p
brings-first tables bytes records p t whole count e = brings-behind tables bytes records [] p t tt whole count e
