-- A file that holds a world is a log.
use Rattle.std.proofs.Common.{◌≡◌, ℕ, zero, suc, inl, inr, List, [], ◌∷◌, ◌++◌, sym, subst, ◌∙◌, arith}
use Rattle.commit_graph.specs.World.{World}
use Rattle.id_groups.specs.Name.{Name}
use Rattle.gated_log.proofs.Damage.{log-or-damaged}
use Rattle.gated_log.proofs.Reading.{one-log}
use Rattle.batch_codec.specs.Payload.{Payload}
use Rattle.change_rules.specs.Lawful.{AreLawful}
use Rattle.batch_codec.proofs.Payloads.{one-payload}
use Rattle.change_rules.specs.Holding.{AreSpelled, HoldAs}
use Rattle.change_rules.specs.Unlawful.{IsFirstUnlawful, IsNoLog}

pub all-stand : (before : List Payload) (texts : List (List ℕ)) (payloads : List Payload) (k : ℕ) → AreSpelled texts payloads → AreLawful before payloads → IsFirstUnlawful before texts k → ⊥
all-stand before [] payloads k z l u = u
all-stand before (text ∷ texts) [] k z l u = absurd z
all-stand before (text ∷ texts) (p ∷ payloads) zero z l u = u p (z.0, l.0)
all-stand before (text ∷ texts) (p ∷ payloads) (suc k) z l u =
    let same : u.0 ≡ p = one-payload u.0 p u.1.1.whole l.0.whole (sym u.1.0 ∙ z.0) in
    all-stand (before ++ p ∷ []) texts payloads k z.1 l.1 (subst (λ q. IsFirstUnlawful (before ++ q ∷ []) texts k) same u.2)

pub held-is-log : (limit : ℕ) (bytes : List ℕ) (payloads : List Payload) (w : World Name) → HoldAs limit bytes payloads w → IsNoLog limit bytes → ⊥
held-is-log limit bytes payloads w h (inl lt) = (let le = h.within in absurd (omega (arith, le, lt)))
held-is-log limit bytes payloads w h (inr (inl d)) = log-or-damaged bytes h.texts d.0 h.log d.1
held-is-log limit bytes payloads w h (inr (inr u)) =
    all-stand [] h.texts payloads u.1 h.spelled h.hold.lawful (subst (λ l. IsFirstUnlawful [] l u.1) (one-log bytes u.0 h.texts u.2 h.log) u.3)
