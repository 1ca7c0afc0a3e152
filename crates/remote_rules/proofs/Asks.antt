-- Asks that can't be.
use Rattle.std.proofs.Common.{◌≡◌, ◌≢◌, ◌≤◌, ◌+◌, ℕ, List, [], ◌∷◌, ◌++◌, Option, Some, None, length, refl, sym, ap, ◌∙◌, inl, inr, arith, true≢false, is_some}
use Rattle.std.specs.List.{AllZip, AllByRecursion}
use Rattle.remote_rules.specs.Mirror.{Mirror}
use Rattle.remote_rules.specs.Calls.{Failing, IsAskedFor}
use Rattle.remote_rules.specs.declared.MirrorFault.{MirrorFault}
use Rattle.remote_rules.specs.declared.MirrorFault.TheVariants.{NoRemote}
use Rattle.remote_rules.specs.Asking.{IsOneAsk, AsksInTurn, AsksForNames, AskedNext, total}

pub idle : (answered : ℕ) (end : Option MirrorFault) (old new : List Mirror) → AsksForNames 0 0 answered old end new → (end ≡ None) × (new ≡ old) × (answered ≡ 0)
idle answered end old new h = none h.0 h.1 h.2 h.4
  where
    none : (counts : List ℕ) → AllByRecursion (λ count. 1 ≤ count) counts → total counts ≤ 0 → AsksInTurn answered counts old end new → (end ≡ None) × (new ≡ old) × (answered ≡ 0)
    none [] each few turn = (turn.1, turn.2, turn.0)
    none (count ∷ counts) each few turn = let one : 1 ≤ count = each.0 in let most : count + total counts ≤ 0 = few in absurd (omega (arith, one, most))

-- an ask of no mirror
pub asks-none : (Does : Mirror → Mirror → Type 0) (end : Option MirrorFault) (new : List Mirror) → IsOneAsk Does [] end new → (end ≡ Some NoRemote) × (new ≡ [])
asks-none Does end new h = split h.0 h.1 h.2 h.3 h.4 h.5
  where
    split : (first failed others : List Mirror) → [] ≡ first ++ others → AllZip (Failing Does) first failed → AskedNext Does failed others end new → (end ≡ Some NoRemote) × (new ≡ [])
    split [] [] [] e z n = (n.0, n.1)
    split [] (f ∷ failed) others e z n = absurd z
    split [] [] (m ∷ others) e z n = absurd (let l : 0 ≡ length (m ∷ others) = ap length e in omega (arith, l))
    split (m ∷ first) failed others e z n = absurd (let l : 0 ≡ length (m ∷ first ++ others) = ap length e in omega (arith, l))

pub alone : (must may answered : ℕ) (end : Option MirrorFault) (new : List Mirror) → 1 ≤ must → AsksForNames must may answered [] end new → (end ≡ Some NoRemote) × (new ≡ [])
alone must may answered end new le h = first h.0 (h.3 le) h.4
  where
    first : (counts : List ℕ) → counts ≢ [] → AsksInTurn answered counts [] end new → (end ≡ Some NoRemote) × (new ≡ [])
    first [] ne turn = absurd (ne refl)
    first (count ∷ counts) ne (inl stop) = let a = asks-none (IsAskedFor count) (Some stop.0) new stop.3 in (stop.1 ∙ a.0, a.1)
    first (count ∷ counts) ne (inr on) = absurd (true≢false (sym (ap is_some (asks-none (IsAskedFor count) None on.0 on.3).0)))
