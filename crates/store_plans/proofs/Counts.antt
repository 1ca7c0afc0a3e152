-- How many ids a base has, and how many rows are pending.
use Rattle.std.proofs.Common.{◌≡◌, ℕ, List, [], ◌∷◌, length, map, Option, Some, None, ◌∙◌, ◌≤◌, arith}
use Rattle.std.specs.List.{last_or}
use Rattle.std.proofs.lemmas.List.{length-map}
use Rattle.id_groups.specs.Name.{Name}
use Rattle.commit_graph.specs.World.{Row, World, with_pending}
use Rattle.batch_codec.specs.Payload.{Payload}
use Rattle.name_map.specs.Added.{Placed, payloads_of}
use Rattle.change_rules.specs.Tables.{newest, other_names_in}
use Rattle.payload_tables.specs.Kept.{PlainOthers, AreOthersIn}
use Rattle.payload_tables.specs.Pending.{HeldRow, PlainPending, HoldsRows}
use Rattle.payload_tables.specs.Bases.{ArePending, held_row}
use Rattle.payload_tables.specs.declared.base.BaseRef.{BaseRef}
use Rattle.payload_tables.proofs.Basing.{base-others}
use Rattle.store_plans.specs.Looking.{Sees}

abbrev payload-if : Option Placed → Option Payload
payload-if None = None
payload-if (Some a) = Some a.payload

last-count : (others : PlainOthers) (o : Option Placed) (added : List Placed) → AreOthersIn others (last_or o added) → others.count ≡ length (other_names_in (last_or (payload-if o) (payloads_of added)))
last-count others None [] h = h.count
last-count others (Some a) [] h = h.count
last-count others o (a ∷ added) h = last-count others (Some a) added h

-- how many other ids a base has
pub others-many : (others : PlainOthers) (added : List Placed) → AreOthersIn others (last_or None added) → others.count ≡ length (other_names_in (newest (payloads_of added)))
others-many others added h = last-count others None added h

-- so many rows are pending
abbrev pub CountsRows : PlainPending → ℕ → Type 0
CountsRows pending n = (rows : List HeldRow) → HoldsRows pending rows → n ≡ length rows

pub pending-many : (w : World Name) (pending : PlainPending) (rows : List (Row Name)) (n : ℕ) → ArePending w pending rows → CountsRows pending n → n ≡ length rows
pending-many w pending rows n p c = c (map (held_row (with_pending w rows)) rows) p.held ∙ length-map rows (held_row (with_pending w rows))

pub sees-small : (base : BaseRef) (pending : PlainPending) (added : List Placed) (w : World Name) (rows : List (Row Name)) → Sees base pending added w rows → length w.master ≤ 16777216
sees-small base pending added w rows s =
    let b = s.base_of in
    let small = (base-others base.bytes.now base.tables.now base.others.now base.below added b).small in
    let c = b.count in let d = s.stand.count in omega (arith, small, c, d)
