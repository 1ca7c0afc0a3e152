-- The payload of a change to a new world, and how long the log becomes by it.
use Rattle.std.proofs.Common.{◌≡◌, ◌≤◌, ◌+◌, ℕ, Bool, true, false, List, [], ◌∷◌, ◌++◌, map, length, nat_lt, Option, Some, None, refl, sym, ap, ap₂, subst, ◌∙◌, if◌then◌else◌, arith}
use Rattle.std.specs.Option.{option_map}
use Rattle.std.specs.Cmp.Lexicographic.{pointwise, pointwise_decides}
use Rattle.std.proofs.lemmas.List.{map-append}
use Rattle.std.proofs.lemmas.Bool.{le-ltb}
use Rattle.id_groups.specs.Name.{Name, same_name}
use Rattle.id_groups.proofs.Names.{same_name-exact, same_name-self}
use Rattle.id_groups.proofs.Listing.{and_true, both_true}
use Rattle.commit_graph.specs.World.{Row, World}
use Rattle.gated_log.specs.Log.{log_length}
use Rattle.change_rules.specs.declared.Limits.{Limits}
use Rattle.change_rules.specs.declared.Limit.{Limit}
use Rattle.change_rules.specs.declared.Limit.TheVariants as limit
use Rattle.change_rules.specs.Change.{text_of, flush_change}
use Rattle.change_parts.specs.declared.fault.PlanFault.{PlanFault}
use Rattle.change_parts.specs.declared.fault.PlanFault.TheVariants as faults
use Rattle.change_parts.specs.Plans.{IsChangeOf, over, first_fault, length_with, flush_payload}
use Rattle.change_parts.proofs.Refusals.{written, has-bytes}
use Rattle.step_rules.specs.declared.Refusal.{Refusal}
use Rattle.step_rules.specs.declared.Refusal.TheVariants as why
use Rattle.step_rules.specs.State.{Stored}
use Rattle.step_rules.specs.Worlds.{log_after, same_row, same_world}
use Rattle.step_rules.specs.Tests.{full, first_some, refuse_if}
use Rattle.store_plans.specs.Changes.{refusal_of}

-- ---- worlds are the same where the test says so

names-decided : (x y : Name) → (same_name x y ≡ true → x ≡ y) × (x ≡ y → same_name x y ≡ true)
names-decided x y = (same_name-exact x y, λ e. subst (λ z. same_name x z ≡ true) e (same_name-self x))

rows-decided : (r q : Row Name) → (same_row r q ≡ true → r ≡ q) × (r ≡ q → same_row r q ≡ true)
rows-decided r q = (
  λ h. let e = and_true (same_name r.name q.name) (pointwise same_name r.parents q.parents) h in
      ap₂ {C = Row Name} (λ a b. record { name = a; parents = b }) (same_name-exact r.name q.name e.0) ((pointwise_decides names-decided r.parents q.parents).0 e.1),
  λ e. both_true (same_name r.name q.name) (pointwise same_name r.parents q.parents) ((names-decided r.name q.name).1 (ap (λ (z : Row Name). z.name) e)) ((pointwise_decides names-decided r.parents q.parents).1 (ap (λ (z : Row Name). z.parents) e)),
)

pub worlds-decided : (v w : World Name) → (same_world v w ≡ true → v ≡ w) × (v ≡ w → same_world v w ≡ true)
worlds-decided v w = (
  λ h. let e = and_true (pointwise same_row v.master w.master) (pointwise same_row v.others w.others) h in
      ap₂ {C = World Name} (λ a b. record { master = a; others = b }) ((pointwise_decides rows-decided v.master w.master).0 e.0) ((pointwise_decides rows-decided v.others w.others).0 e.1),
  λ e. both_true (pointwise same_row v.master w.master) (pointwise same_row v.others w.others) ((pointwise_decides rows-decided v.master w.master).1 (ap (λ (z : World Name). z.master) e)) ((pointwise_decides rows-decided v.others w.others).1 (ap (λ (z : World Name). z.others) e)),
)

-- ---- faults of plans as refusals of tests

pub over-full : (what : Limit) (most n : ℕ) → option_map refusal_of (over most n what) ≡ full what most n
over-full what most n = by_test (nat_lt most n)
  where
    by_test : (b : Bool) → option_map refusal_of (if b then Some (faults.Full what most) else None) ≡ refuse_if b (why.Full what most)
    by_test true = refl
    by_test false = refl

pub mapped-first : (a : Option PlanFault) (b : Option PlanFault) (o : Option Refusal) (os : List (Option Refusal)) → option_map refusal_of a ≡ o → option_map refusal_of b ≡ first_some os → option_map refusal_of (first_fault a b) ≡ first_some (o ∷ os)
mapped-first None b o os e f = f ∙ ap (λ z. first_some (z ∷ os)) e
mapped-first (Some fault) b o os e f = ap (λ z. first_some (z ∷ os)) e

-- the first of one
pub only-first : (o : Option Refusal) → first_some (o ∷ []) ≡ o
only-first None = refl
only-first (Some r) = refl

-- ---- the payload

module _ (st : Stored) (new : World Name) where
  -- that of the change; none where nothing changes
  abbrev pub payload_to : List ℕ
  payload_to = if same_world new st.stored then [] else flush_payload st.stored new

  pub change-to : IsChangeOf st.stored new payload_to
  change-to = record {
    none = λ e. ap (λ b. if b then [] else flush_payload st.stored new) ((worlds-decided new st.stored).1 e);
    some = λ n. by_test (same_world new st.stored) refl n;
  }
    where
      by_test : (b : Bool) → same_world new st.stored ≡ b → (new ≡ st.stored → ⊥) → payload_to ≡ flush_payload st.stored new
      by_test true e n = absurd (n ((worlds-decided new st.stored).0 e))
      by_test false e n = ap (λ b. if b then [] else flush_payload st.stored new) e

  length-push : (ps : List (List ℕ)) (p : List ℕ) → log_length (ps ++ p ∷ []) ≡ log_length ps + 9 + length p
  length-push [] p = omega arith
  length-push (q ∷ ps) p = let e = length-push ps p in omega (arith, e)

  under : (what : Limit) (most n : ℕ) → n ≤ most → (over most n what ≡ None) × (full what most n ≡ None)
  under what most n le =
      let e = le-ltb most n le in
      (ap (λ b. if b then Some (faults.Full what most) else None) e, ap (λ b. refuse_if b (why.Full what most)) e)

  -- the plan's test of the log is that of the command
  pub log-test : (limits : Limits) (log : ℕ) → log ≡ log_length (map text_of st.payloads) → log ≤ limits.log
      → option_map refusal_of (over limits.log (length_with log payload_to) limit.Log) ≡ full limit.Log limits.log (log_after st new (flush_change st.stored new))
  log-test limits log e le = by_test (same_world new st.stored)
    where
      by_test : (b : Bool) → option_map refusal_of (over limits.log (length_with log (if b then [] else flush_payload st.stored new)) limit.Log)
          ≡ full limit.Log limits.log (if b then log_length (map text_of st.payloads) else log_length (map text_of (st.payloads ++ flush_change st.stored new ∷ [])))
      by_test true = ap (option_map refusal_of) (under limit.Log limits.log 0 (omega arith)).0 ∙ sym (under limit.Log limits.log (log_length (map text_of st.payloads)) (omega (arith, e, le))).1
      by_test false = over-full limit.Log limits.log (length_with log (flush_payload st.stored new)) ∙ ap (full limit.Log limits.log) (
          written log (flush_payload st.stored new) (has-bytes (flush_change st.stored new))
          ∙ sym (ap log_length (map-append text_of st.payloads (flush_change st.stored new ∷ []))
          ∙ length-push (map text_of st.payloads) (text_of (flush_change st.stored new))
          ∙ ap (λ n. n + 9 + length (text_of (flush_change st.stored new))) (sym e)))
