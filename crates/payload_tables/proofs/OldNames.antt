-- The names of the other ids of the newest payload, where they stand.
use Rattle.std.proofs.Common.{◌≡◌, ◌∙◌, ◌+◌, ◌*◌, ℕ, zero, suc, List, [], ◌∷◌, Option, Some, None, length, take, drop, refl, sym, ap, subst}
use Rattle.std.specs.List.{AllByRecursion, last_or}
use Rattle.id_groups.specs.Lists.{AreDistinct}
use Rattle.id_groups.specs.Name.{Name, IsName}
use Rattle.batch_codec.specs.Payload.{names_bytes}
use Rattle.batch_codec.specs.Grammar.{IsPayload}
use Rattle.batch_codec.specs.Reading.{names_read}
use Rattle.batch_codec.proofs.Entries.{names-again, names-size}
use Rattle.name_index.specs.Index.{NamedPlace, IsIndexOf, StandFrom, named_in, names_in}
use Rattle.name_index.specs.declared.entry.Entry.{Entry}
use Rattle.name_map.specs.Added.{Placed, AllStand, StandsAt, names_from, FollowInLog}
use Rattle.name_map.proofs.Places.{names-are, others-from}
use Rattle.payload_tables.specs.Kept.{AreNamed, AreNoOthers, AreOthersIn, AreOthersOf, AreTablesOf, PlainOthers, PlainTables}
use Rattle.payload_tables.proofs.Basing.{facts-of, no-facts}

-- names that are read one behind another, with their places
pub named-read : (n at : ℕ) (b : List ℕ) → named_in n at b ≡ names_from at (names_read n b)
named-read zero at b = refl
named-read (suc n) at b = ap (λ (l : List NamedPlace). record { place = at; name = take 20 b } ∷ l) (named-read n (at + 20) (drop 20 b))

-- an index of names as they stand in bytes is that of the names that are read of them
pub index-read : (n at : ℕ) (b : List ℕ) (index : List (List Entry)) → length b ≡ 20 * n
    → ((m : ℕ) → length b ≡ 20 * m → AreDistinct (names_in (named_in m at b)) → IsIndexOf index (named_in m at b))
    → AreDistinct (names_read n b) → IsIndexOf index (names_from at (names_read n b))
index-read n at b index size made once =
    let same = named-read n at b in
    subst (IsIndexOf index) same (made n size (subst AreDistinct (sym (ap names_in same ∙ names-are at (names_read n b))) once))

-- the names of a list stand where their bytes begin
pub stored-stand : (at : ℕ) (names : List Name) → AllByRecursion IsName names → StandFrom at (names_bytes names) (names_from at names)
stored-stand at names each =
    subst (λ l. StandFrom at (names_bytes names) (names_from at l)) (names-again names each) (others-from (length names) at (names_bytes names) (names-size names each))

named-of : (bytes : List ℕ) (others : PlainOthers) (a : Placed) → IsPayload a.payload → StandsAt bytes a → AreOthersOf others a → AreNamed bytes others
named-of bytes others a h stand are =
    let f = facts-of bytes others a h stand are in
    record {
      names = a.payload.other_names;
      each = f.whole;
      room = f.room;
      stand = f.names;
      count = f.count;
      index = subst (λ n. IsIndexOf others.index (names_from n a.payload.other_names)) (sym are.names) are.index;
    }

none-named : (bytes : List ℕ) (others : PlainOthers) → AreNoOthers others → AreNamed bytes others
none-named bytes others are = let f = no-facts bytes others are in record { names = []; each = tt; room = f.room; stand = f.names; count = f.count; index = are.index }

last-named : (bytes : List ℕ) (others : PlainOthers) (count : ℕ) (o : Option Placed) (added : List Placed) → FollowInLog count added → AllStand bytes added
    → (AreOthersIn others o → AreNamed bytes others) → AreOthersIn others (last_or o added) → AreNamed bytes others
last-named bytes others count o [] f s known are = known are
last-named bytes others count o (a ∷ added) f s known are = last-named bytes others a.payload.after (Some a) added f.2 s.1 (λ h. named-of bytes others a f.0 s.0 h) are

-- the names of the newest payload's other ids stand where its tables say
pub tables-named : (bytes : List ℕ) (tables : PlainTables) (added : List Placed) → AreTablesOf tables added → AllStand bytes added → AreNamed bytes tables.others
tables-named bytes tables added t stand = last-named bytes tables.others 0 None added t.names.follow stand (λ h. none-named bytes tables.others h) t.others
