-- Mirrors stay sound through asks.
use Rattle.std.proofs.Common.{◌≡◌, ℕ, inl, inr, List, [], ◌∷◌, ◌++◌, Option, Some, None, sym, subst, MatchOption}
use Rattle.std.specs.List.{AllByRecursion, AllZip}
use Rattle.remote_rules.specs.CloneData.{KnownName}
use Rattle.remote_rules.specs.Mirror.{Mirror}
use Rattle.remote_rules.specs.Honest.{IsSoundMirror}
use Rattle.remote_rules.specs.Calls.{IsAskedFor, Failing}
use Rattle.remote_rules.specs.declared.MirrorFault.{MirrorFault}
use Rattle.remote_rules.specs.Asking.{IsOneAsk, AskedNext, AsksInTurn}
use Rattle.step_rules.specs.declared.Refusal.{Refusal}
use Rattle.step_rules.specs.Tests.{Test}
use Rattle.step_rules.specs.Asking.{TriesAll}

abbrev pub AreSound : List Mirror → Type 0
AreSound mirrors = AllByRecursion IsSoundMirror mirrors

pub sound-append : (xs ys : List Mirror) → AreSound xs → AreSound ys → AreSound (xs ++ ys)
sound-append [] ys h k = k
sound-append (x ∷ xs) ys h k = (h.0, sound-append xs ys h.1 k)

pub sound-parts : (xs ys : List Mirror) → AreSound (xs ++ ys) → AreSound xs × AreSound ys
sound-parts [] ys h = (tt, h)
sound-parts (x ∷ xs) ys h = let r = sound-parts xs ys h.1 in ((h.0, r.0), r.1)

module _ (Does : Mirror → Mirror → Type 0) (keeps : (m asked : Mirror) → Does m asked → IsSoundMirror m → IsSoundMirror asked) where
  failed-sound : (xs ys : List Mirror) → AllZip (Failing Does) xs ys → AreSound xs → AreSound ys
  failed-sound [] [] z h = tt
  failed-sound [] (y ∷ ys) z h = absurd z
  failed-sound (x ∷ xs) [] z h = absurd z
  failed-sound (x ∷ xs) (y ∷ ys) z h = (keeps x y z.0.does h.0, failed-sound xs ys z.1 h.1)

  pub asks-sound : (old new : List Mirror) (end : Option MirrorFault) → IsOneAsk Does old end new → AreSound old → AreSound new
  asks-sound old new end a h = next a.2 a.5 (sound-parts a.0 a.2 (subst AreSound a.3 h)).1
    where
      failed : AreSound a.1
      failed = failed-sound a.0 a.1 a.4 (sound-parts a.0 a.2 (subst AreSound a.3 h)).0

      next : (others : List Mirror) → AskedNext Does a.1 others end new → AreSound others → AreSound new
      next [] n k = subst AreSound (sym n.1) (failed-sound a.0 a.1 a.4 (sound-parts a.0 a.2 (subst AreSound a.3 h)).0)
      next (m ∷ more) n k = subst AreSound (sym n.2) (keeps m n.0 n.1 k.0, sound-append more a.1 k.1 (failed-sound a.0 a.1 a.4 (sound-parts a.0 a.2 (subst AreSound a.3 h)).0))

turns-sound : (answered : ℕ) (counts : List ℕ) (old new : List Mirror) (end : Option MirrorFault) → AsksInTurn answered counts old end new → AreSound old → AreSound new
turns-sound answered [] old new end t h = subst AreSound (sym t.2) h
turns-sound answered (count ∷ counts) old new end (inl t) h = asks-sound (IsAskedFor count) (λ m n d. d.keeps.sound) old new (Some t.0) t.3 h
turns-sound answered (count ∷ counts) old new end (inr t) h = turns-sound t.1 counts t.0 new end t.4 (asks-sound (IsAskedFor count) (λ m n d. d.keeps.sound) old t.0 None t.3 h)

pub tries-sound : (W : Type 0) (old new : List Mirror) (tests : List Test) (verdict : Option Refusal) (gained : List KnownName) → TriesAll W old tests verdict new gained → AreSound old → AreSound new
tries-sound W old new [] verdict gained t h = subst AreSound (sym t.0) h
tries-sound W old new (test ∷ more) verdict gained (inl t) h = subst AreSound (sym t.0) h
tries-sound W old new (test ∷ more) verdict gained (inr t) h =
    behind t.0 t.4 (turns-sound t.3.0 t.3.2.0 old t.1 t.3.1 t.3.2.4 h) (λ here g. tries-sound W t.1 new more verdict here g)
  where
    behind : (first : Option Refusal)
        → MatchOption first ((b : List KnownName) × (gained ≡ t.2 ++ b) × TriesAll W t.1 more verdict new b) (λ refusal. (verdict ≡ Some refusal) × (new ≡ t.1) × (gained ≡ t.2))
        → AreSound t.1 → ((here : List KnownName) → TriesAll W t.1 more verdict new here → AreSound t.1 → AreSound new) → AreSound new
    behind None g k rec = rec g.0 g.2 k
    behind (Some r) g k rec = subst AreSound (sym g.1) k
