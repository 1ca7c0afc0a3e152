-- What C is told of a load.
use Rattle.std.proofs.Common.{◌≡◌, ℕ, List, Option, Some, None, Ok, Err, false, refl, sym, subst, true≢false}
use Rattle.std.specs.Prelude.{MatchOption, is_some}
use Rattle.std.specs.declared.result.Result.{Result}
use Rattle.disk_trait.specs.Images.{Told}
use Rattle.segdag_c.specs.declared.codes.Failure.{Failure}
use Rattle.segdag_c.specs.declared.codes.Failure.TheVariants.{Disk, NoLog, Reply, Memory, Closed, AlreadyOpen, Argument, Syntax, Refused}
use Rattle.segdag_c.specs.declared.held.Held.{Held}
use Rattle.segdag_c.specs.Handles.{code_of}
use Rattle.segdag_c.specs.Loads.{HoldsOpened, IsRightly, LoadCame, SlotLoads}

-- where nothing is held
pub loads : (old new : Option Held) (bytes : List ℕ) (cache : ℕ) (disk : Told) (code : ℕ) (answer : Result (Unit {0}) Failure) → old ≡ None → code ≡ code_of answer → LoadCame bytes cache disk new answer
    → SlotLoads old bytes cache disk new code
loads old new bytes cache disk code answer none told came =
    subst (λ o. MatchOption o ((r : Result (Unit {0}) Failure) × (code ≡ code_of r) × LoadCame bytes cache disk new r) (λ held. (code ≡ 18) × (new ≡ Some held))) (sym none) (answer, told, came)

pub none-held : (o : Option Held) → is_some o ≡ false → o ≡ None
none-held None e = refl
none-held (Some held) e = absurd (true≢false e)

pub not-loaded : (bytes : List ℕ) (cache : ℕ) (disk : Told) (new : Option Held) (f : Failure) → IsRightly bytes f → new ≡ None → LoadCame bytes cache disk new (Err f)
not-loaded bytes cache disk new Disk is none = (is, none)
not-loaded bytes cache disk new NoLog is none = (is, none)
not-loaded bytes cache disk new Reply is none = absurd is
not-loaded bytes cache disk new Memory is none = (is, none)
not-loaded bytes cache disk new Closed is none = absurd is
not-loaded bytes cache disk new AlreadyOpen is none = absurd is
not-loaded bytes cache disk new Argument is none = absurd is
not-loaded bytes cache disk new Syntax is none = absurd is
not-loaded bytes cache disk new (Refused refusal) is none = absurd is

pub loaded : (bytes : List ℕ) (cache : ℕ) (disk : Told) (new : Option Held) (held : Held) → new ≡ Some held → HoldsOpened bytes cache disk held → LoadCame bytes cache disk new (Ok tt)
loaded bytes cache disk new held is opened = subst (λ o. MatchOption o ⊥ (λ h. HoldsOpened bytes cache disk h)) (sym is) opened
