-- The plan's answers: which number refuses, and what a plan says.
use Rattle.std.proofs.Common.{◌≡◌, ℕ, ◌+◌, ◌*◌, List, ◌++◌, length, take, drop, Some, None, sym, ap, ap₂, ◌∙◌}
use Rattle.id_groups.specs.Name.{Name}
use Rattle.commit_graph.specs.World.{Row, World, with_pending}
use Rattle.segment_codec.specs.Record.{Segment}
use Rattle.name_map.specs.Added.{Placed, AllStand, payloads_of}
use Rattle.change_rules.specs.declared.Limits.{Limits}
use Rattle.change_rules.specs.declared.Limit.TheVariants.{Others, Master, Log}
use Rattle.change_parts.specs.declared.fault.PlanFault.{PlanFault}
use Rattle.payload_tables.specs.Kept.{PlainTables, AreTablesOf}
use Rattle.payload_tables.specs.Pending.{PlainPending}
use Rattle.change_rules.specs.Tables.{StandFor}
use Rattle.payload_tables.specs.Bases.{ArePending, AreSegmentsOf}
use Rattle.change_parts.specs.Plans.{MayMove, over, first_fault, length_with, size_refusal}
use Rattle.change_parts.specs.Facts.{MoveFacts}
use Rattle.change_parts.proofs.Planning.{move-facts}

module _ (limits : Limits) (log : ℕ) (next : World Name) (payload : List ℕ) where
  pub refused-others : (limit o : ℕ) (fault : PlanFault) → limit ≡ limits.others → o ≡ length next.others → over limit o Others ≡ Some fault → size_refusal limits log next payload ≡ Some fault
  refused-others limit o fault a b e =
      ap (λ x. first_fault x (first_fault (over limits.master (length next.master) Master) (over limits.log (length_with log payload) Log))) (sym (ap₂ (λ x y. over x y Others) a b) ∙ e)

  no-others : (limit o : ℕ) → limit ≡ limits.others → o ≡ length next.others → over limit o Others ≡ None
      → size_refusal limits log next payload ≡ first_fault (over limits.master (length next.master) Master) (over limits.log (length_with log payload) Log)
  no-others limit o a b e =
      ap (λ x. first_fault x (first_fault (over limits.master (length next.master) Master) (over limits.log (length_with log payload) Log))) (sym (ap₂ (λ x y. over x y Others) a b) ∙ e)

  pub refused-master : (limit o limit2 m : ℕ) (fault : PlanFault) → limit ≡ limits.others → o ≡ length next.others → over limit o Others ≡ None
      → limit2 ≡ limits.master → m ≡ length next.master → over limit2 m Master ≡ Some fault → size_refusal limits log next payload ≡ Some fault
  refused-master limit o limit2 m fault a b e a2 b2 e2 =
      no-others limit o a b e ∙ ap (λ x. first_fault x (over limits.log (length_with log payload) Log)) (sym (ap₂ (λ x y. over x y Master) a2 b2) ∙ e2)

  pub down-to-log : (limit o limit2 m : ℕ) → limit ≡ limits.others → o ≡ length next.others → over limit o Others ≡ None
      → limit2 ≡ limits.master → m ≡ length next.master → over limit2 m Master ≡ None → size_refusal limits log next payload ≡ over limits.log (length_with log payload) Log
  down-to-log limit o limit2 m a b e a2 b2 e2 =
      no-others limit o a b e ∙ ap (λ x. first_fault x (over limits.log (length_with log payload) Log)) (sym (ap₂ (λ x y. over x y Master) a2 b2) ∙ e2)

pub code-facts : (bytes : List ℕ) (pending : PlainPending) (numbers : List ℕ) (flats : List Segment) (stored behind : List ℕ) (count more before : ℕ) (w : World Name) (rows : List (Row Name)) (heads : List Name) (inside tables : PlainTables)
    → inside ≡ tables → MayMove tables bytes pending numbers w rows heads
    → ((added : List Placed) → AreTablesOf tables added → AllStand bytes added → StandFor (payloads_of added) w → ArePending w pending rows → AreSegmentsOf (with_pending w rows) flats)
    → stored ≡ take (20 * inside.others.count) (drop inside.others.names bytes) → behind ≡ pending.names → count ≡ inside.others.count → more ≡ length pending.places → before ≡ inside.flat.end
    → MoveFacts tables bytes pending numbers flats (stored ++ behind) (count + more) before w rows heads
code-facts bytes pending numbers flats stored behind count more before w rows heads inside tables is m view hs hb hc hm he =
    move-facts tables bytes pending numbers flats stored behind count more before w rows heads m view
    (hs ∙ ap (λ (t : PlainTables). take (20 * t.others.count) (drop t.others.names bytes)) is) hb (hc ∙ ap (λ (t : PlainTables). t.others.count) is) hm (he ∙ ap (λ (t : PlainTables). t.flat.end) is)
