-- The names of ids in a session's view, as they are lent.
use Rattle.std.specs.Prelude.{◌≡◌, ℕ, zero, suc, ◌+◌, ◌-◌, ◌*◌, ◌^◌, List, [], ◌∷◌, ◌++◌, Option, Some, None, length, map, take, drop, filter, flat_map, nat_lt, nat_eq, if◌then◌else◌}
use Rattle.id_groups.specs.Lists.{AreAllIn}
use Rattle.id_groups.specs.Name.{Name, same_name}
use Rattle.id_groups.specs.declared.name.NameRef.{NameRef}
use Rattle.commit_graph.specs.World.{Row, World, names_of, rows_of, with_pending}
use Rattle.commit_graph.specs.Ids.{id_in}
use Rattle.batch_codec.specs.Payload.{Known, Payload}
use Rattle.name_map.specs.Part.{PlainPart}
use Rattle.name_map.specs.Added.{Placed}
use Rattle.lazy_names.specs.declared.fetched.FetchedName.{FetchedName}
use Rattle.payload_tables.specs.declared.base.BaseRef.{BaseRef}
use Rattle.payload_tables.specs.Bases.{IsBaseOf}
use Rattle.payload_tables.specs.Pending.{HeldRow, PlainPending, HoldsRows}
use Rattle.remote_rules.specs.CloneData.{KnownName}
use Rattle.store_plans.specs.Looking.{found_in}

-- the twenty bytes at a place
abbrev pub name_at : List ℕ → ℕ → Name
name_at bytes place = take 20 (drop place bytes)

-- known ids, each with its name in the log, which stand one after another from this place on
abbrev pub known_at : List ℕ → ℕ → List ℕ → List Known
known_at bytes place [] = []
known_at bytes place (id ∷ ids) = record { id = id; name = name_at bytes (place + 8) } ∷ known_at bytes (place + 28) ids

-- those of all parts of a map
abbrev pub known_in_parts : List ℕ → List PlainPart → List Known
known_in_parts bytes parts = flat_map (λ part. known_at bytes part.start part.ids) parts

-- so many ids from this one on, with names that stand one after another from this place on
abbrev pub others_at : List ℕ → ℕ → ℕ → ℕ → List Known
others_at bytes id place zero = []
others_at bytes id place (suc n) = record { id = id; name = name_at bytes place } ∷ others_at bytes (id + 1) (place + 20) n

-- all ids of a base with a stored name, and these names, as the log's bytes have them
abbrev pub stored_at : BaseRef → List Known
stored_at base =
    filter (λ k. nat_lt k.id base.below) (known_in_parts base.bytes.now base.tables.now.names.parts)
    ++ others_at base.bytes.now (2 ^ 56) base.others.now.names base.others.now.count

-- the name of the first of these that has the id
abbrev pub name_among : List Known → ℕ → Option Name
name_among [] id = None
name_among (k ∷ known) id = if nat_eq k.id id then Some k.name else name_among known id

-- the name of the pending row with the id
abbrev pub pending_name : PlainPending → ℕ → Option Name
pending_name pending id =
    let first = 2 ^ 56 + pending.first in
    if nat_lt id first then None
    else if nat_lt (id - first) (length pending.places) then Some (name_at pending.names (20 * (id - first)))
    else None

-- the stored name, or else that of the pending row
abbrev pub name_or : Option Name → Option Name → Option Name
name_or None other = other
name_or (Some name) other = Some name

abbrev pub name_in : BaseRef → PlainPending → ℕ → Option Name
name_in base pending id = name_or (name_among (stored_at base) id) (pending_name pending id)

-- a name that was fetched, and with its id
abbrev pub fetched_name : FetchedName → Name
fetched_name f = f.name

abbrev pub known_name : FetchedName → KnownName
known_name f = record { id = f.id; name = f.name }

-- the names of ids, where those that have none are named in turn by those that were fetched, up to the first that has none
abbrev pub named_front : BaseRef → PlainPending → List Name → List ℕ → List Name
named_front base pending fetched [] = []
named_front base pending fetched (id ∷ ids) = add (name_in base pending id) fetched (λ rest. named_front base pending rest ids)
  where
    add : Option Name → List Name → (List Name → List Name) → List Name
    add (Some name) fetched behind = name ∷ behind fetched
    add None [] behind = []
    add None (name ∷ fetched) behind = name ∷ behind fetched

-- the base is that of payloads that stand in the log, and the pending rows are kept as such
pub record IsLent (base : BaseRef) (pending : PlainPending) : Type 0 where
  pub added : List Placed
  pub base_of : IsBaseOf base added
  pub rows : List HeldRow
  pub held : HoldsRows pending rows

-- what is still to come: contracts see the names of an answer as their list
abbrev pub names_left : List Name → List Name
names_left names = names

-- the bytes of a lent name
abbrev pub name_of : NameRef → Name
name_of name = name.bytes.now

abbrev pub lent_name : Option NameRef → Option Name
lent_name None = None
lent_name (Some name) = Some (name_of name)

-- The ids are those of these names of the view; those of them that aren't stored were fetched.
pub record AreNamesById (payloads : List Payload) (w : World Name) (rows : List (Row Name)) (ids : List ℕ) (fetched : List KnownName) (names : List Name) : Type 0 where
  pub seen : AreAllIn names (names_of (rows_of (with_pending w rows)))
  pub ids_are : ids ≡ map (id_in same_name (with_pending w rows)) names
  pub lazy : fetched ≡ flat_map (found_in payloads w) names
