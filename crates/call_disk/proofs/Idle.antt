-- A disk that is only read: its moments, that it is sound, and calls that it refuses.
use Rattle.std.proofs.Common.{◌≡◌, ◌≤◌, ◌*◌, ◌^◌, ℕ, zero, suc, inr, Bool, true, false, List, [], ◌∷◌, length, refl, sym, ◌∙◌, arith, length-append, true≢false}
use Rattle.std.specs.Prelude.{IfSome}
use Rattle.disk_trait.specs.Images.{Unsynced, IsSound, surely, moment_of}
use Rattle.disk_trait.specs.Calls.{Passes, OrRefuses, Goes}
use Rattle.disk_trait.proofs.Sound.{fresh-sound}
use Rattle.call_disk.specs.Owned.{moments, told_behind, told_where}

pub moment-behind : (u : Unsynced) (calls : ℕ) → length (moments u calls) ≡ 2 * calls
moment-behind u zero = refl
moment-behind u (suc calls) = length-append (moments u calls) (u ∷ u ∷ []) ∙ (let before = moment-behind u calls in omega (arith, before))

pub behind-sound : (bytes : List ℕ) (calls : ℕ) → calls ≤ 2 ^ 61 → IsSound (told_behind bytes calls)
behind-sound bytes calls few =
    let moment = moment-behind (surely bytes) calls in
    record {
      image = (fresh-sound bytes).image;
      even = omega (arith, moment);
      early = omega (arith, moment, few);
    }

-- a call that may not be made
pub refuses-told : (is_there : Bool) (bytes : List ℕ) (calls : ℕ) → 2 ^ 61 ≤ calls → Goes (OrRefuses Passes) (told_where is_there bytes calls) (told_where is_there bytes calls)
refuses-told true bytes calls many = inr (let moment = moment-behind (surely bytes) calls in omega (arith, moment, many), refl)
refuses-told false bytes calls many = tt

pub missing-told : (is_there : Bool) (bytes : List ℕ) (calls : ℕ) → is_there ≡ false → Goes (OrRefuses Passes) (told_where is_there bytes calls) (told_where is_there bytes calls)
missing-told true bytes calls e = absurd (true≢false e)
missing-told false bytes calls e = tt

-- the clock is the moment
pub clock-told : (is_there : Bool) (bytes : List ℕ) (calls : ℕ) → IfSome (told_where is_there bytes calls) (λ t. 2 * calls ≡ moment_of t)
clock-told true bytes calls = sym (moment-behind (surely bytes) calls)
clock-told false bytes calls = tt
