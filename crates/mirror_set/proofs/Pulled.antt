-- Asking calls of pulls.
use Rattle.std.proofs.Common.{◌≡◌, ℕ, ◌≤◌, ◌+◌, ◌-◌, Bool, true, false, if◌then◌else◌, inl, inr, List, length, Option, Some, None, Ok, Err, refl, sym, ap, subst, ◌∙◌, arith, is_some}
use Rattle.std.specs.Prelude.{◌==◌, ⊤, IfSome}
use Rattle.std.specs.declared.result.Result.{Result}
use Rattle.id_groups.specs.Name.{Name}
use Rattle.commit_graph.specs.World.{Row}
use Rattle.remote_rules.specs.Mirror.{Mirror}
use Rattle.remote_rules.specs.Calls.{IsPulled, RowsFrom, MasterGoesOn}
use Rattle.remote_rules.specs.Asking.{IsOneAsk}
use Rattle.remote_rules.specs.declared.MirrorFault.TheVariants as ask
use Rattle.remote_trait.specs.Calls.{ToldSo}
use Rattle.remote_trait.proofs.Ruled.{cloned-from, tells, where-both, sound-as}
use Rattle.mirror_set.specs.Asking.{Turned, Asks}
use Rattle.mirror_set.specs.Fresh.{PlainFresh, IsPulledFrom, AsksFresh, fresh_end}
use Rattle.mirror_set.specs.declared.fresh.FreshFault.{FreshFault}
use Rattle.mirror_set.specs.declared.fresh.FreshFault.TheVariants.{NoRemote, AllFailed, BadClone, BadNames, Memory}
use Rattle.mirror_set.proofs.Turns.{asks-none}
use Rattle.mirror_set.proofs.Ruled.{answered-ruled, asks-ruled}

-- no mirror answered
pub fresh-none : (from n i : ℕ) (old now : List Mirror) → Turned (IsPulledFrom from) i old now → length old ≡ n → n ≤ i
    → AsksFresh from old now (Err (if n == 0 then NoRemote else AllFailed n))
fresh-none from n i old now t e h = by_count (n == 0) (asks-none (IsPulledFrom from) {T = ℕ} (λ _ _. ⊤) n i old now t e h)
  where
    by_count : (b : Bool) → Asks {T = ℕ} (IsPulledFrom from) (λ _ _. ⊤) old now (Err (if b then ask.NoRemote else ask.AllFailed n)) → AsksFresh from old now (Err (if b then NoRemote else AllFailed n))
    by_count true a = a
    by_count false a = a

rows-from : (from most before now : ℕ) (master : Option (List (Row Name))) → now ≤ before + most → before ≤ now → IfSome master (λ rows. most ≤ length rows - from) → RowsFrom from master before now
rows-from from most before now None a b f = b
rows-from from most before now (Some rows) a b f = (b, omega (arith, a, f))

-- what a pull leaves of a mirror, in the words of the rules
pub pulled-from : (from : ℕ) (before now : Mirror) → IsPulledFrom from before now → IsPulled from before now
pulled-from from before now p =
    let c = cloned-from before p.mid p.refreshed in
    let s = p.stays in
    record {
      keeps = record {
        settled = s.settled ∙ c.keeps.settled;
        tells_master = ap is_some s.master ∙ c.keeps.tells_master;
        tells_clone = ap is_some s.cloned ∙ c.keeps.tells_clone;
        tells_faults = tells (λ m n. n ≤ m) p.mid.to_come now.to_come s.to_come ∙ c.keeps.tells_faults;
        faults = (let a = c.keeps.faults in let b = s.faults in omega (arith, a, b));
        to_come = where-both (λ m n. n ≤ m) before.to_come now.to_come (to-come before.to_come p.mid.to_come now.to_come p.refreshed.to_come s.to_come);
        sound = λ h. sound-as p.mid now s.master s.cloned (c.keeps.sound h);
      };
      master = subst (MasterGoesOn before.settled before.master) (sym s.master) c.master;
      asked = rows-from from p.most before.asked now.asked now.master (let a = s.asked in let e = c.asked in omega (arith, a, e)) (let a = s.more in let e = c.asked in omega (arith, a, e)) p.few;
    }
  where
    to-come : (a b d : Option ℕ) → ToldSo a b (λ m n. n ≤ m) → ToldSo b d (λ m n. n ≤ m) → ToldSo a d (λ m n. n ≤ m)
    to-come None None None f g = tt
    to-come None None (Some z) f g = g
    to-come None (Some y) d f g = absurd f
    to-come (Some x) None d f g = absurd f
    to-come (Some x) (Some y) None f g = g
    to-come (Some x) (Some y) (Some z) f g = omega (arith, f, g)

-- an asking call of a pull, in the words of the rules
pub fresh-ruled : (from : ℕ) (before now : List Mirror) (result : Result PlainFresh FreshFault) → AsksFresh from before now result → IsOneAsk (IsPulled from) before (fresh_end result) now
fresh-ruled from before now (Ok fresh) a = answered-ruled (IsPulledFrom from) (IsPulled from) (pulled-from from) _ before now None (inl refl) a
fresh-ruled from before now (Err NoRemote) a = asks-ruled (IsPulledFrom from) (IsPulled from) (pulled-from from) {T = ℕ} (λ _ _. ⊤) before now (Err ask.NoRemote) a
fresh-ruled from before now (Err (AllFailed n)) a = asks-ruled (IsPulledFrom from) (IsPulled from) (pulled-from from) {T = ℕ} (λ _ _. ⊤) before now (Err (ask.AllFailed n)) a
fresh-ruled from before now (Err (BadClone at)) a = answered-ruled (IsPulledFrom from) (IsPulled from) (pulled-from from) _ before now None (inl refl) a
fresh-ruled from before now (Err (BadNames asked given)) a = answered-ruled (IsPulledFrom from) (IsPulled from) (pulled-from from) _ before now None (inl refl) a
fresh-ruled from before now (Err Memory) a = answered-ruled (IsPulledFrom from) (IsPulled from) (pulled-from from) (λ _. ⊤) before now (Some ask.Memory) (inr refl) a
