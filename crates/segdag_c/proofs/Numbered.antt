-- Mirrors by their numbers.
use Rattle.std.proofs.Common.{◌≡◌, ⊎_elim, ◌<◌, ◌+◌, ℕ, List, Bool, Some, None, Ok, Err, MatchResult, sym, ◌∙◌, ap, subst, arith, if◌then◌else◌, slice_get}
use Rattle.std.proofs.lemmas.Bool.{cases_eq}
use Rattle.std.specs.declared.result.Result.{Result}
use Rattle.disk_trait.specs.Images.{fresh_disk}
use Rattle.call_disk.specs.Tells.{tells}
use Rattle.call_disk.specs.declared.owned.OwnedDisk.{OwnedDisk}
use Rattle.segdag_c.specs.declared.codes.Failure.{Failure}
use Rattle.segdag_c.specs.declared.codes.Failure.TheVariants.{Argument}
use Rattle.segdag_c.specs.declared.held.Held.{Held}
use Rattle.segdag_c.specs.declared.mirror.Mirror.{Mirror}
use Rattle.segdag_c.specs.Renewed.{AreOver, HasNumber, KeepsOthers, RenewCame, number_of}

some-same : {X : Type 0} (x y : X) → Some x ≡ Some y → x ≡ y
some-same x y e = cc

-- one more that has another number
pub none-more : (mirrors : List Mirror) (number n told : ℕ) (m : Mirror) → ((k : ℕ) → k < n → HasNumber mirrors number k → ⊥) → slice_get mirrors n ≡ Some m → told ≡ number_of m → (told ≡ number → ⊥)
    → (k : ℕ) → k < n + 1 → HasNumber mirrors number k → ⊥
none-more mirrors number n told m before at same other k lt has =
    ⊎_elim
    (λ (is : k ≡ n). other (same ∙ ap number_of (some-same m has.0 (sym at ∙ ap (slice_get mirrors) (sym is) ∙ has.1)) ∙ has.2))
    (λ (apart : k ≡ n → ⊥). before k (omega (arith, lt, apart)) has)
    (cases_eq k n)

-- what comes of a renewal
pub renew-comes : (number : ℕ) (is_there : Bool) (bytes : List ℕ) (before after : Held) (disk : OwnedDisk) (r : Result (Unit {0}) Failure) → tells disk ≡ (if is_there then Some (fresh_disk bytes) else None) → KeepsOthers before after
    → MatchResult r (λ done. AreOver before.mirrors.list.items after.mirrors.list.items number disk)
    (λ failure. (failure ≡ Argument) × ((k : ℕ) → HasNumber before.mirrors.list.items number k → ⊥) × (after.mirrors ≡ before.mirrors))
    → RenewCame number is_there bytes before after r
renew-comes number is_there bytes before after disk (Ok done) told others over = (record { disk = disk; told = told; over = over }, others)
renew-comes number is_there bytes before after disk (Err failure) told others h =
    subst (λ f. RenewCame number is_there bytes before after (Err f)) (sym h.0)
    (h.1, record { store = others.0; log = others.1; mirrors = h.2; reply = others.2; names = others.3 })
