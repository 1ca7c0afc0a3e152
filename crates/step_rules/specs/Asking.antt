-- A command's tests with their asks: what is refused first, and what the asks change outside.
use Rattle.std.specs.Prelude.{◌≡◌, ◌<◌, ◌≤◌, ◌⊎◌, ℕ, List, [], ◌∷◌, ◌++◌, Option, Some, None, is_some, true, length, map, MatchOption}
use Rattle.id_groups.specs.Lists.{IsIn, AreAllIn}
use Rattle.id_groups.specs.Name.{Name}
use Rattle.remote_rules.specs.CloneData.{KnownName}
use Rattle.remote_rules.specs.Mirror.{Mirror}
use Rattle.remote_rules.specs.declared.MirrorFault.{MirrorFault}
use Rattle.remote_rules.specs.declared.MirrorFault.TheVariants as fault
use Rattle.remote_rules.specs.Asking.{AsksForNames}
use Rattle.step_rules.specs.declared.Refusal.{Refusal}
use Rattle.step_rules.specs.declared.Refusal.TheVariants as why
use Rattle.step_rules.specs.State.{Cache, HasOnly, HasAtMost}
use Rattle.step_rules.specs.Tests.{Test}

-- what a line is refused for where no mirror answered
abbrev pub refusal_for : MirrorFault → Refusal
refusal_for fault.NoRemote = why.NoRemote
refusal_for (fault.AllFailed n) = why.Remote n
refusal_for fault.Memory = why.Memory

-- the refusal for the mirrors, or else that of the test
abbrev pub refused_by : Option MirrorFault → Option Refusal → Option Refusal
refused_by None refusal = refusal
refused_by (Some end) refusal = Some (refusal_for end)

-- of what the ask may find some was found, of no more names than were answered
abbrev pub IsGain : ℕ → List KnownName → List KnownName → Type 0
IsGain answered finds gained = (length gained ≤ answered) × ((k : KnownName) → IsIn k gained → IsIn k finds)

-- One test: the mirrors are asked for what has to be asked, and may refuse the line; else the test refuses it, or doesn't.
abbrev pub Tries : List Mirror → Test → Option Refusal → List Mirror → List KnownName → Type 0
Tries old test verdict new gained =
    (answered : ℕ) × (end : Option MirrorFault)
    × AsksForNames test.must test.may answered old end new × IsGain answered test.finds gained
    × (verdict ≡ refused_by end test.refusal)

-- The tests in turn, up to the first that refuses. Where the command may want memory there may be none, at any place.
abbrev pub TriesAll : Type 0 → List Mirror → List Test → Option Refusal → List Mirror → List KnownName → Type 0
TriesAll MayWant old [] verdict new gained =
    (new ≡ old) × (gained ≡ []) × ((verdict ≡ None) ⊎ (MayWant × (verdict ≡ Some why.Memory)))
TriesAll MayWant old (test ∷ more) verdict new gained =
    ((new ≡ old) × (gained ≡ []) × MayWant × (verdict ≡ Some why.Memory))
    ⊎ ((first : Option Refusal) × (mid : List Mirror) × (here : List KnownName) × Tries old test first mid here
    × MatchOption first
    ((behind : List KnownName) × (gained ≡ here ++ behind) × TriesAll MayWant mid more verdict new behind)
    (λ refusal. (verdict ≡ Some refusal) × (new ≡ mid) × (gained ≡ here)))

-- There are more ids in the cache and among those found than there is room for: each list that has all of them is longer.
abbrev pub AreTooMany : ℕ → List KnownName → Cache → Type 0
AreTooMany room found cache = (ids : List ℕ) → HasOnly ids cache → AreAllIn (map (λ k. k.id) found) ids → room < length ids

-- The cache after a line that found some names: each of its names was there or was found, it has no more than there is room for,
-- and one goes only where those that were there and those found are too many together.
pub record TakesIn (room : ℕ) (found : List KnownName) (old new : Cache) : Type 0 where
  pub from : (id : ℕ) (name : Name) → new id ≡ Some name → (old id ≡ Some name) ⊎ IsIn (record { id = id; name = name }) found
  pub few : HasAtMost room new
  pub goes : (id : ℕ) → is_some (old id) ≡ true → new id ≡ None → AreTooMany room found old

-- where nothing was found it stays
abbrev pub CacheGoesOn : ℕ → List KnownName → Cache → Cache → Type 0
CacheGoesOn room [] old new = new ≡ old
CacheGoesOn room (k ∷ found) old new = TakesIn room (k ∷ found) old new
