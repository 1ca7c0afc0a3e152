-- What the plan of a clone says, for what a remote told, and for the world of an honest one.
use Rattle.std.proofs.Common.{[], ◌≡◌, ◌<◌, ◌≤◌, ◌+◌, ℕ, inl, inr, List, ◌∷◌, length, Option, Some, None, is_some, refl, sym, ap, ap₂, subst, ◌∙◌, arith, true≢false, nat_lt, if◌then◌else◌}
use Rattle.std.specs.Prelude.{MatchResult, ◌⊎◌, Result, Ok, Err}
use Rattle.std.proofs.lemmas.Bool.{lt-ltb}
use Rattle.id_groups.specs.Name.{Name}
use Rattle.commit_graph.specs.World.{Row, World, IsNamedWorld, empty_world}
use Rattle.remote_rules.specs.CloneData.{CloneData, first_broken}
use Rattle.remote_rules.specs.Known.{master_world}
use Rattle.remote_rules.specs.Honest.{heads_of, clone_data_of, master_segments}
use Rattle.change_rules.specs.declared.Limits.{Limits}
use Rattle.change_rules.specs.declared.Limit.TheVariants.{Heads, Master, Log}
use Rattle.change_rules.specs.Standard.{most_heads}
use Rattle.change_rules.specs.Change.{told_change, text_of}
use Rattle.change_rules.proofs.Honest.{behind-all, never-broken}
use Rattle.change_rules.proofs.Cloned.{follow}
use Rattle.change_rules.proofs.ToldClones.{told-clone}
use Rattle.change_parts.specs.declared.change.Change.{Change}
use Rattle.change_parts.specs.declared.fault.PlanFault.{PlanFault}
use Rattle.change_parts.specs.declared.fault.PlanFault.TheVariants.{Memory}
use Rattle.change_parts.specs.Plans.{over, first_fault, length_with, IsPlanOf, clone_fault}
use Rattle.clone_plan.specs.Cloning.{told_count, told_payload, counts_refusal, log_refusal, told_refusal, IsToldPlan, clone_payload, clone_refusal, IsToldBy}
use Rattle.change_parts.proofs.Refusals.{over-none, written, has-bytes}

pub first-here : (a b : Option PlanFault) (fault : PlanFault) → a ≡ Some fault → first_fault a b ≡ Some fault
first-here a b fault e = ap (λ o. first_fault o b) e

pub first-later : (a b : Option PlanFault) → a ≡ None → first_fault a b ≡ b
first-later a b e = ap (λ o. first_fault o b) e

first-first : (a b c : Option PlanFault) → first_fault (first_fault a b) c ≡ first_fault a (first_fault b c)
first-first None b c = refl
first-first (Some fault) b c = refl

-- ---- what was told

-- of some commits
pub some-payload : (told : CloneData) → 0 < told_count told → told_payload told ≡ text_of (told_change told)
some-payload told lt = ap (λ b. if b then text_of (told_change told) else []) (lt-ltb 0 (told_count told) lt)

pub some-log : (limits : Limits) (log n : ℕ) (told : CloneData) → 0 < told_count told → n ≡ length (text_of (told_change told)) → log_refusal limits log told ≡ over limits.log (log + 9 + n) Log
some-log limits log n told lt e =
    ap (λ p. over limits.log (length_with log p) Log) (some-payload told lt)
    ∙ ap (λ m. over limits.log m Log) (let w = written log (text_of (told_change told)) (has-bytes (told_change told)) in let z : length_with log (text_of (told_change told)) ≡ log + 9 + n = omega (arith, w, e) in z)

-- ---- an honest remote

nothing-there : (rows : List (Row Name)) → length rows ≡ 0 → rows ≡ []
nothing-there [] e = refl
nothing-there (r ∷ rows) e = absurd (omega (arith, e))

module _ (rows : List (Row Name)) (named : IsNamedWorld (master_world rows)) where
  abbrev r : World Name
  r = master_world rows

  pub count-is : told_count (clone_data_of r) ≡ length rows
  count-is = behind-all 0 (length rows) (master_segments r) (follow r named)

  payload-is : told_payload (clone_data_of r) ≡ clone_payload r
  payload-is = ap₂ (λ n p. if nat_lt 0 n then text_of p else []) count-is (told-clone r named)

  pub refusal-is : (limits : Limits) (log : ℕ) → told_refusal limits log (clone_data_of r) ≡ clone_refusal limits log r
  refusal-is limits log =
      first-later (clone_fault (first_broken (clone_data_of r))) _ (ap clone_fault (never-broken r named))
      ∙ first-first (over most_heads (length (heads_of r)) Heads) _ _
      ∙ ap₂ (λ n p. first_fault (over most_heads (length (heads_of r)) Heads) (first_fault (over limits.master n Master) (over limits.log (length_with log p) Log))) count-is payload-is

  pub plan-is : (change : Change) → IsToldPlan change (clone_data_of r) → IsPlanOf change empty_world r (clone_payload r)
  plan-is change p = record {
    payload_is = p.payload_is ∙ payload-is;
    master = p.master ∙ count-is;
    others = p.others;
    same = (λ t. ap master_world (nothing-there rows (sym count-is ∙ p.same.0 t)), λ e. p.same.1 (count-is ∙ ap (λ (w : World Name). length w.master) e));
  }

-- what was planned by what was told is what is planned for the world
pub honest-planned : (limits : Limits) (log : ℕ) (told : CloneData) (result : Result Change PlanFault) → MatchResult result
    (λ change. (told_refusal limits log told ≡ None) × IsToldPlan change told)
    (λ fault. (fault ≡ Memory) ⊎ (told_refusal limits log told ≡ Some fault))
    → (rows : List (Row Name)) → IsToldBy rows told → MatchResult result
    (λ change. (clone_refusal limits log (master_world rows) ≡ None) × IsPlanOf change empty_world (master_world rows) (clone_payload (master_world rows)))
    (λ fault. (fault ≡ Memory) ⊎ (clone_refusal limits log (master_world rows) ≡ Some fault))
honest-planned limits log told (Ok change) p rows by = (
  sym (refusal-is rows by.world limits log) ∙ ap (told_refusal limits log) (sym by.told_is) ∙ p.0,
  plan-is rows by.world change (subst (IsToldPlan change) by.told_is p.1),
)
honest-planned limits log told (Err fault) (inl m) rows by = inl m
honest-planned limits log told (Err fault) (inr e) rows by = inr (sym (refusal-is rows by.world limits log) ∙ ap (told_refusal limits log) (sym by.told_is) ∙ e)

first-none : (a b : Option PlanFault) → first_fault a b ≡ None → (a ≡ None) × (b ≡ None)
first-none None b e = (refl, e)
first-none (Some fault) b e = absurd (true≢false (ap is_some e))

-- a clone that isn't refused keeps the bounds of heads and commits
pub clone-fits : (limits : Limits) (log : ℕ) (r : World Name) → clone_refusal limits log r ≡ None → (length (heads_of r) ≤ 65535) × (length r.master ≤ limits.master)
clone-fits limits log r e =
    let a = first-none (over 65535 (length (heads_of r)) Heads) _ e in
    let b = first-none (over limits.master (length r.master) Master) _ a.1 in
    (over-none 65535 (length (heads_of r)) Heads a.0, over-none limits.master (length r.master) Master b.0)

-- where no item is broken and the counts are within their limits, the log decides
pub log-decides : (limits : Limits) (log : ℕ) (told : CloneData) → first_broken told ≡ None → counts_refusal limits told ≡ None → (result : Result Change PlanFault)
    → MatchResult result (λ change. (log_refusal limits log told ≡ None) × IsToldPlan change told) (λ fault. (fault ≡ Memory) ⊎ (log_refusal limits log told ≡ Some fault))
    → MatchResult result (λ change. (told_refusal limits log told ≡ None) × IsToldPlan change told) (λ fault. (fault ≡ Memory) ⊎ (told_refusal limits log told ≡ Some fault))
log-decides limits log told whole counts result m =
    subst (λ z. MatchResult result (λ change. (z ≡ None) × IsToldPlan change told) (λ fault. (fault ≡ Memory) ⊎ (z ≡ Some fault)))
    (sym (first-later (clone_fault (first_broken told)) _ (ap clone_fault whole) ∙ first-later (counts_refusal limits told) _ counts)) m
