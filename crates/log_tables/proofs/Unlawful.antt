-- Texts of which one is unlawful spell no lawful payloads.
use Rattle.std.proofs.Common.{◌≡◌, ◌∙◌, ◌++◌, ◌∷◌, [], ℕ, zero, suc, List, Some, ap, sym, subst}
use Rattle.batch_codec.specs.Payload.{Payload}
use Rattle.batch_codec.specs.Reading.{payload_at}
use Rattle.batch_codec.specs.Grammar.{IsPayload}
use Rattle.batch_codec.proofs.Payloads.{payload_again}
use Rattle.change_rules.specs.Lawful.{AreLawful}
use Rattle.change_rules.specs.Change.{text_of}
use Rattle.change_rules.specs.Holding.{AreSpelled}
use Rattle.change_rules.specs.Unlawful.{IsFirstUnlawful}

one-some : (p q : Payload) → Some p ≡ Some q → p ≡ q
one-some p q e = cc

-- a text spells one payload
pub one-payload : (p q : Payload) → IsPayload p → IsPayload q → text_of p ≡ text_of q → p ≡ q
one-payload p q h g e = one-some p q (sym (payload_again p h) ∙ ap payload_at e ∙ payload_again q g)

pub none-lawful : (before : List Payload) (texts : List (List ℕ)) (k : ℕ) (ps : List Payload) → IsFirstUnlawful before texts k → AreSpelled texts ps → AreLawful before ps → ⊥
none-lawful before [] k ps u z h = u
none-lawful before (text ∷ texts) k [] u z h = z
none-lawful before (text ∷ texts) zero (p ∷ ps) u z h = u p (z.0, h.0)
none-lawful before (text ∷ texts) (suc k) (p ∷ ps) u z h =
    let same = one-payload u.0 p u.1.1.whole h.0.whole (sym u.1.0 ∙ z.0) in
    none-lawful (before ++ p ∷ []) texts k ps (subst (λ q. IsFirstUnlawful (before ++ q ∷ []) texts k) same u.2) z.1 h.1
