-- Asking calls, in the words of the rules of asks.
use Rattle.std.proofs.Common.{◌≡◌, ℕ, suc, ◌<◌, ◌⊎◌, inl, inr, List, [], ◌∷◌, ◌++◌, length, take, Option, Some, None, Ok, Err, refl, sym, ap, ◌∙◌, arith, append-nil}
use Rattle.std.specs.Prelude.{⊤}
use Rattle.std.specs.declared.result.Result.{Result}
use Rattle.std.specs.List.{AllZip}
use Rattle.remote_rules.specs.CloneData.{CloneData}
use Rattle.remote_rules.specs.Mirror.{Mirror}
use Rattle.remote_rules.specs.Calls.{IsAskedFor, IsCloned, Failing}
use Rattle.remote_rules.specs.Asking.{IsOneAsk, AsksInTurn, none_answered}
use Rattle.remote_rules.specs.declared.MirrorFault.{MirrorFault}
use Rattle.remote_rules.specs.declared.MirrorFault.TheVariants.{NoRemote, AllFailed, Memory}
use Rattle.remote_trait.specs.Calls.{Leaves, Refreshes, raised}
use Rattle.remote_trait.proofs.Ruled.{asked-for, cloned-from, failed-as}
use Rattle.mirror_set.specs.Asking.{AreFailed, Answered, Asks, IsAsk, AskInTurn, IsItsClone, end_of}
use Rattle.mirror_set.proofs.Rounds.{front-back}

module _ (Left Does : Mirror → Mirror → Type 0) (to : (m n : Mirror) → Left m n → Does m n) where
  failed-zip : (ms ns : List Mirror) → AreFailed Left ms ns → AllZip (Failing Does) ms ns
  failed-zip [] [] f = tt
  failed-zip [] (n ∷ ns) f = absurd f
  failed-zip (m ∷ ms) [] f = absurd f
  failed-zip (m ∷ ms) (n ∷ ns) f = (failed-as Does m n (to m n f.0) f.1, failed-zip ms ns f.2)

  failed-length : (ms ns : List Mirror) → AreFailed Left ms ns → length ns ≡ length ms
  failed-length [] [] f = refl
  failed-length [] (n ∷ ns) f = absurd f
  failed-length (m ∷ ms) [] f = absurd f
  failed-length (m ∷ ms) (n ∷ ns) f = ap suc (failed-length ms ns f.2)

  pub answered-ruled : (Right : Mirror → Type 0) (before now : List Mirror) (end : Option MirrorFault) → (end ≡ None) ⊎ (end ≡ Some Memory) → Answered Left Right before now → IsOneAsk Does before end now
  answered-ruled Right before now end which a = (
    take a.count before,
    a.moved,
    a.first ∷ a.rest,
    sym (front-back a.count before) ∙ ap (λ l. take a.count before ++ l) a.was,
    failed-zip (take a.count before) a.moved a.failed,
    (a.next, to a.first a.next a.left, a.is, which),
  )

  none-ruled : (n : ℕ) (ns : List Mirror) → n ≡ length ns → 0 < n → Some (AllFailed n) ≡ Some (none_answered ns)
  none-ruled n [] e lt = absurd (omega (arith, e, lt))
  none-ruled n (m ∷ ns) e lt = ap (λ k. Some (AllFailed k)) e

  pub asks-ruled : {T : Type 0} (Gives : T → Mirror → Type 0) (before now : List Mirror) (result : Result T MirrorFault) → Asks Left Gives before now result → IsOneAsk Does before (end_of result) now
  asks-ruled Gives before now (Ok x) a = answered-ruled (Gives x) before now None (inl refl) a
  asks-ruled Gives before now (Err NoRemote) a = ([], [], [], a.0, tt, (refl, a.1))
  asks-ruled Gives before now (Err (AllFailed n)) a =
      let len = failed-length before now a.2 in
      (before, now, [], sym (append-nil before), failed-zip before now a.2, (none-ruled n now (a.0 ∙ sym len) a.1, refl))
  asks-ruled Gives before now (Err Memory) a = answered-ruled (λ _. ⊤) before now (Some Memory) (inr refl) a

pub ask-ruled : (count : ℕ) (end : Option MirrorFault) (before now : List Mirror) → IsAsk count end before now → IsOneAsk (IsAskedFor count) before end now
ask-ruled count None before now a = answered-ruled (Leaves (raised count)) (IsAskedFor count) (asked-for count) (λ _. ⊤) before now None (inl refl) a
ask-ruled count (Some fault) before now a = asks-ruled (Leaves (raised count)) (IsAskedFor count) (asked-for count) {T = ℕ} (λ _ _. ⊤) before now (Err fault) a

pub turns-ruled : (answered : ℕ) (counts : List ℕ) (end : Option MirrorFault) (before now : List Mirror) → AskInTurn answered counts end before now → AsksInTurn answered counts before end now
turns-ruled answered [] end before now h = h
turns-ruled answered (n ∷ counts) end before now (inl h) = inl (h.0, h.1, h.2, ask-ruled n (Some h.0) before now h.3)
turns-ruled answered (n ∷ counts) end before now (inr h) = inr (h.0, h.1, h.2, ask-ruled n None before h.0 h.3, turns-ruled h.1 counts end h.0 now h.4)

pub clone-ruled : (before now : List Mirror) (result : Result CloneData MirrorFault) → Asks Refreshes IsItsClone before now result → IsOneAsk IsCloned before (end_of result) now
clone-ruled before now result a = asks-ruled Refreshes IsCloned cloned-from IsItsClone before now result a
