-- One list of payloads.
use Rattle.std.proofs.Common.{◌≡◌, ◌+◌, ℕ, List, [], ◌∷◌, ◌++◌, map, Err, refl, sym, ap₂, ◌∙◌, ⊎_elim}
use Rattle.std.specs.Prelude.{◌⊎◌}
use Rattle.std.specs.List.{AllByRecursion}
use Rattle.batch_codec.specs.Payload.{Payload}
use Rattle.batch_codec.specs.Grammar.{IsPayload}
use Rattle.change_rules.specs.Lawful.{AreLawful}
use Rattle.change_rules.specs.Change.{text_of}
use Rattle.change_rules.specs.Holding.{AreSpelled}
use Rattle.change_rules.specs.Unlawful.{IsFirstUnlawful}
use Rattle.gated_log.specs.Held.{Held}
use Rattle.remote_trait.specs.declared.fault.RemoteFault.{RemoteFault}
use Rattle.remote_trait.specs.declared.fault.RemoteFault.TheVariants.{Failed, Memory}
use Rattle.log_tables.specs.declared.reading.TablesFault.{TablesFault}
use Rattle.log_tables.specs.declared.reading.TablesFault.TheVariants as reads
use Rattle.log_tables.proofs.Unlawful.{one-payload, none-lawful}
use Rattle.remote_store.specs.Fit.{AreUnlawful}
use Rattle.remote_store.specs.Loaded.{MakesOf}

-- lawful payloads that texts spell are those that the texts are of
pub one-list : (before ps qs : List Payload) (texts : List (List ℕ)) → AreSpelled texts ps → AreLawful before ps → texts ≡ map text_of qs → AllByRecursion IsPayload qs → ps ≡ qs
one-list before [] [] texts z h e each = refl
one-list before [] (q ∷ qs) [] z h e each = cc
one-list before [] (q ∷ qs) (t ∷ texts) z h e each = absurd z
one-list before (p ∷ ps) [] [] z h e each = absurd z
one-list before (p ∷ ps) [] (t ∷ texts) z h e each = cc
one-list before (p ∷ ps) (q ∷ qs) [] z h e each = absurd z
one-list before (p ∷ ps) (q ∷ qs) (t ∷ texts) z h e each =
    let first : t ≡ text_of q = cc in
    let rest : texts ≡ map text_of qs = cc in
    ap₂ {C = List Payload} (λ a b. a ∷ b) (one-payload p q h.0.whole each.0 (sym z.0 ∙ first)) (one-list (before ++ p ∷ []) ps qs texts z.1 h.1 rest each.1)

-- a log that gives no tables is that of no lawful payloads, unless memory was wanting
pub made-none : (log : Held) (fault : TablesFault) (answer : RemoteFault) → (answer ≡ Failed → (k : ℕ) × (fault ≡ reads.Unlawful k))
    → (fault ≡ reads.Memory) ⊎ ((k : ℕ) × (fault ≡ reads.Unlawful k) × IsFirstUnlawful [] log.payloads k) → MakesOf log (Err answer)
made-none log fault Failed why h =
    ⊎_elim {C = AreUnlawful log.payloads} (λ m. absurd (cc (m, (why refl).1))) (λ u ps spelled lawful. none-lawful [] log.payloads u.0 ps u.2 spelled lawful) h
made-none log fault Memory why h = tt
