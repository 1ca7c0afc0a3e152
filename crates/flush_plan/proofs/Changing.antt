-- What a move means for the worlds, in the words of the code.
use Rattle.std.proofs.Common.{◌≡◌, ◌<◌, ◌≤◌, ℕ, ◌+◌, ◌⊎◌, true, false, List, [], length, sym, ap, subst, ◌∙◌, ⊎_elim, inl, inr, arith}
use Rattle.id_groups.specs.Name.{Name, same_name}
use Rattle.commit_graph.specs.World.{Row, World, with_pending}
use Rattle.batch_codec.specs.Payload.{payload_bytes}
use Rattle.change_rules.specs.Lawful.{AreLawful, MayFollow}
use Rattle.assign_ids.specs.Numbers.{AreBelow}
use Rattle.name_map.specs.Added.{Placed, payloads_of}
use Rattle.change_rules.specs.declared.Limits.{Limits}
use Rattle.change_rules.specs.Flush.{flushed}
use Rattle.change_rules.specs.Standard.{AreLimits}
use Rattle.change_rules.specs.Tables.{StandFor}
use Rattle.change_parts.specs.declared.change.Change.{Change}
use Rattle.change_parts.specs.Moves.{rest_of, change_in}
use Rattle.change_parts.specs.Plans.{IsChangeOf, MayBeStored}
use Rattle.flush_plan.specs.Flushing.{IsMove}
use Rattle.flush_plan.proofs.Sizing.{moving, f-order, f-master, f-others, f-same, f-written, f-differs, Changes, pending-count}
use Rattle.flush_plan.proofs.Storing as storing

module _ (names : List ℕ) (n more before log : ℕ) (graph : List (List ℕ)) (order rest : List ℕ) (w : World Name) (rows : List (Row Name)) (heads : List Name)
    (m : IsMove names n more before log graph order rest w rows heads) where
  abbrev pub new : World Name
  new = flushed same_name (with_pending w rows) heads

  abbrev moves : List ℕ
  moves = moving m.tables m.bytes m.pending m.numbers m.flats names n before w rows heads m.facts

  order-moves : order ≡ moves
  order-moves = m.order_is

  pub order-below : AreBelow n order
  order-below = subst (AreBelow n) (sym order-moves) (f-order m.tables m.bytes m.pending m.numbers m.flats names n before w rows heads m.facts)

  pub master-size : before + length order ≡ length new.master
  master-size = ap (λ (l : List ℕ). before + length l) order-moves ∙ sym (f-master m.tables m.bytes m.pending m.numbers m.flats names n before w rows heads m.facts)

  pub others-size : length rest ≡ length new.others
  others-size = ap (length {A = ℕ}) m.rest_is ∙ ap (λ (l : List ℕ). length (rest_of n l)) order-moves ∙ sym (f-others m.tables m.bytes m.pending m.numbers m.flats names n before w rows heads m.facts)

  pending-size : more ≡ length rows
  pending-size = m.pending_is ∙ pending-count w m.pending rows m.facts.may.pending_rows

  pub n-few : n ≤ 16842752
  n-few = let i = m.facts.n_is in let f = m.facts.few in omega (arith, i, f)

  -- something moves, or is pending
  abbrev pub DoesChange : Type 0
  DoesChange = (0 < length order) ⊎ (0 < more)

  changes-of : DoesChange → Changes m.tables m.bytes m.pending m.numbers m.flats names n before w rows heads m.facts
  changes-of c = ⊎_elim (λ a. inl (subst (λ (l : List ℕ). 0 < length l) order-moves a)) (λ b. inr (subst (λ k. 0 < k) pending-size b)) c

  pub same-world : length order ≡ 0 → more ≡ 0 → new ≡ w
  same-world a b = f-same m.tables m.bytes m.pending m.numbers m.flats names n before w rows heads m.facts (ap (length {A = ℕ}) (sym order-moves) ∙ a) (sym pending-size ∙ b)

  pub differs : DoesChange → new ≡ w → ⊥
  differs c = f-differs m.tables m.bytes m.pending m.numbers m.flats names n before w rows heads m.facts (changes-of c)

  change-order : change_in m.flats names before n order ≡ change_in m.flats names before n moves
  change-order = ap (change_in m.flats names before n) order-moves

  -- the payload may come behind those of the tables
  pub payload-follows : (limits : Limits) → AreLimits limits → length rest ≤ limits.others → before + length order ≤ limits.master → DoesChange → MayFollow (payloads_of m.facts.may.added) (change_in m.flats names before n order)
  payload-follows limits l lo lm c =
      let a = l.others.1 in let b = l.master.1 in let o = others-size in let s = master-size in
      subst (MayFollow (payloads_of m.facts.may.added)) (sym change-order)
      (storing.may-follow m.tables m.bytes m.pending m.numbers m.flats names n before w rows heads m.facts m.facts.may.added m.facts.may.tables_of.lawful m.facts.may.stand_for
      (omega (arith, lm, b, s)) (omega (arith, lo, a, o)) (changes-of c))

  pub payload-written : (payload : List ℕ) → IsChangeOf w new payload → DoesChange → payload ≡ payload_bytes (change_in m.flats names before n order)
  payload-written payload h c =
      f-written m.tables m.bytes m.pending m.numbers m.flats names n before w rows heads m.facts payload h (changes-of c) ∙ ap payload_bytes (sym change-order)

  module _ (added : List Placed) (lawful : AreLawful [] (payloads_of added)) (stand : StandFor (payloads_of added) w) (limits : Limits) (change : Change) where
    pub stays : length order ≡ 0 → more ≡ 0 → change.payload ≡ [] → change.same ≡ true → change.master ≡ before + length order → change.others ≡ length rest
        → change.master ≤ limits.master → change.others ≤ limits.others → MayBeStored 1 limits log added change
    stays a b payload same ma ot lm lo =
        storing.stays m.tables m.bytes m.pending m.numbers m.flats names n before w rows heads m.facts added lawful stand limits log change
        (ap (length {A = ℕ}) (sym order-moves) ∙ a) (sym pending-size ∙ b) payload same (ma ∙ master-size) (ot ∙ others-size) lm lo

    pub changes : AreLimits limits → DoesChange → change.payload ≡ payload_bytes (change_in m.flats names before n order) → change.same ≡ false → change.master ≡ before + length order → change.others ≡ length rest
        → change.master ≤ limits.master → change.others ≤ limits.others → log + 9 + length change.payload ≤ limits.log → MayBeStored 1 limits log added change
    changes l c payload same ma ot lm lo fits =
        storing.changes m.tables m.bytes m.pending m.numbers m.flats names n before w rows heads m.facts added lawful stand limits log change l
        (changes-of c) (payload ∙ ap payload_bytes change-order) same (ma ∙ master-size) (ot ∙ others-size) lm lo fits
