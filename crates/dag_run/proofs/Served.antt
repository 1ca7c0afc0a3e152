-- Serving: the one mirror, and words that end it at once.
use Rattle.std.proofs.Common.{ℕ, ◌≡◌, arith, inr, List, [], ◌∷◌, Option, length, map, refl}
use Rattle.outside.specs.Told.{WhereTold}
use Rattle.outside.proofs.ToldLemmas.{WhereTold-same}
use Rattle.remote_rules.specs.Mirror.{Mirror}
use Rattle.program_words.specs.declared.usage.Mode.TheVariants.{Serve}
use Rattle.remote_serve.specs.Steps.{ports, served_streams}
use Rattle.remote_serve.specs.declared.served.Served.TheVariants as served
use Rattle.dag_run.specs.Modes.{IsUsageOf, EndsAtOnce}
use Rattle.dag_run.specs.Serving.{ServeMeans, WantsOne}
use Rattle.dag_run.proofs.Usages.{only-memory}

-- the one of a list
pub the-one : {X Y : Type 0} (f : X → Y) (xs : List X) → length xs ≡ 1 → (y : Y) × (map f xs ≡ y ∷ [])
the-one f [] e = absurd (omega (arith, e))
the-one f (x ∷ []) e = (f x, refl)
the-one f (x ∷ y ∷ xs) e = absurd (omega (arith, e))

-- nothing is read and nothing put
pub unserved : (limit status : ℕ) → status ≡ 7 → (first : List Mirror) → (m : Mirror) × (first ≡ m ∷ []) → (i o : Option (List ℕ))
    → WhereTold (ports i o) (ports i o) (λ before after. ServeMeans limit status (served_streams before after) first first)
unserved limit status seven first one i o =
    WhereTold-same (ports i o) _ (λ x. (served.Memory, seven, (one.0, one.0, one.1, one.1, (refl, refl, refl))))

-- words that end it at once
pub once-serves : (words : List (List ℕ)) (status limit : ℕ) → EndsAtOnce words status → IsUsageOf Serve words → (first : List Mirror) → (m : Mirror) × (first ≡ m ∷ []) → (i o : Option (List ℕ))
    → WhereTold (ports i o) (ports i o) (λ before after. ServeMeans limit status (served_streams before after) first first)
once-serves words status limit once of first one i o = unserved limit status (only-memory words status of.0 once of.1) first one i o

pub once-one : (words : List (List ℕ)) (status count : ℕ) → EndsAtOnce words status → IsUsageOf Serve words → WantsOne count status
once-one words status count once of =
    let seven = only-memory words status of.0 once of.1 in
    (λ e. absurd (omega (arith, e, seven)), λ h. inr seven)
