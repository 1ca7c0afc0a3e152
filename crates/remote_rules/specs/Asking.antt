-- An ask: one call that goes to the first mirror, and on to the next one while they fail.
use Rattle.std.specs.Prelude.{◌≡◌, ◌≢◌, ◌≤◌, ◌⊎◌, ℕ, ◌+◌, List, [], ◌∷◌, ◌++◌, Option, Some, None, length}
use Rattle.std.specs.List.{AllZip, AllByRecursion}
use Rattle.remote_rules.specs.Mirror.{Mirror}
use Rattle.remote_rules.specs.Calls.{Failing, IsAskedFor}
use Rattle.remote_rules.specs.declared.MirrorFault.{MirrorFault}
use Rattle.remote_rules.specs.declared.MirrorFault.TheVariants.{NoRemote, AllFailed, Memory}

-- how an ask ends where none of the mirrors answered
abbrev pub none_answered : List Mirror → MirrorFault
none_answered [] = NoRemote
none_answered (m ∷ more) = AllFailed (length (m ∷ more))

-- The ends of an ask that the first mirrors failed, as they are now, and that came to the others: where there are others the
-- first of them answered, or there was no memory. Those that failed stand at the back.
abbrev pub AskedNext : (Mirror → Mirror → Type 0) → List Mirror → List Mirror → Option MirrorFault → List Mirror → Type 0
AskedNext Does failed [] end new = (end ≡ Some (none_answered failed)) × (new ≡ failed)
AskedNext Does failed (m ∷ others) end new =
    (asked : Mirror) × Does m asked × (new ≡ asked ∷ others ++ failed) × ((end ≡ None) ⊎ (end ≡ Some Memory))

-- One ask of mirrors, each of which does so when it is called: each is asked at most once, and those that fail move to the
-- back.
abbrev pub IsOneAsk : (Mirror → Mirror → Type 0) → List Mirror → Option MirrorFault → List Mirror → Type 0
IsOneAsk Does old end new =
    (first : List Mirror) × (failed : List Mirror) × (others : List Mirror)
    × (old ≡ first ++ others) × AllZip (Failing Does) first failed × AskedNext Does failed others end new

-- how many names these are together
abbrev pub total : List ℕ → ℕ
total [] = 0
total (count ∷ counts) = count + total counts

-- Asks for so many names each, one behind the other while they are answered. The first number is for how many names the
-- answered ones were.
abbrev pub AsksInTurn : ℕ → List ℕ → List Mirror → Option MirrorFault → List Mirror → Type 0
AsksInTurn answered [] old end new = (answered ≡ 0) × (end ≡ None) × (new ≡ old)
AsksInTurn answered (count ∷ counts) old end new =
    ((fault : MirrorFault) × (end ≡ Some fault) × (answered ≡ 0) × IsOneAsk (IsAskedFor count) old (Some fault) new)
    ⊎ ((mid : List Mirror) × (more : ℕ) × (answered ≡ count + more) × IsOneAsk (IsAskedFor count) old None mid × AsksInTurn more counts mid end new)

-- Names that are asked for: so many have to be, and so many more may be. Where some have to be there is an ask, each is for a
-- name at least, and together they are for no more.
abbrev pub AsksForNames : ℕ → ℕ → ℕ → List Mirror → Option MirrorFault → List Mirror → Type 0
AsksForNames must may answered old end new =
    (counts : List ℕ) × AllByRecursion (λ count. 1 ≤ count) counts × (total counts ≤ must + may) × (1 ≤ must → counts ≢ [])
    × AsksInTurn answered counts old end new
