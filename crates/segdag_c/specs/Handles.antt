-- What a call makes of what stands behind a handle, and what C is told of it.
use Rattle.std.specs.Prelude.{◌≡◌, ⊤, ℕ, Option, None, Result, Ok, Err, MatchOption}
use Rattle.segdag_c.specs.declared.codes.Failure.{Failure}
use Rattle.segdag_c.specs.declared.codes.Failure.TheVariants.{Closed}
use Rattle.segdag_c.specs.declared.held.Held.{Held}
use Rattle.segdag_c.specs.Codes.{failure_code}

-- A handle holds nothing, as before the first load and behind a close, or an open log; and an open log has its store, or a change that failed
-- has taken it.

-- Where nothing is held the call says so by 17, nothing is held behind it, and what C lent for an answer is left. Where a log is open it stays
-- open, and this was done with it.
abbrev pub SlotCalls : Option Held → Option Held → ℕ → Type 0 → (Held → Held → Type 0) → Type 0
SlotCalls old new code IsLeft Does = MatchOption old ((new ≡ None) × (code ≡ 17) × IsLeft) (λ before. MatchOption new ⊥ (λ after. Does before after))

-- all that is held is as it was
pub record IsSame (before after : Held) : Type 0 where
  pub store : after.store ≡ before.store
  pub log : after.log ≡ before.log
  pub mirrors : after.mirrors ≡ before.mirrors
  pub reply : after.reply ≡ before.reply
  pub names : after.names ≡ before.names

-- the code of an answer
abbrev pub code_of : {X : Type 0} → Result X Failure → ℕ
code_of (Ok x) = 0
code_of (Err failure) = failure_code failure

-- Where the answer gives something, this number of it was told; else what stood there was left.
abbrev pub Gives : {X : Type 0} → (X → ℕ) → ℕ → ℕ → Result X Failure → Type 0
Gives number_of was now (Ok x) = now ≡ number_of x
Gives number_of was now (Err failure) = now ≡ was

-- A call of an open log, that came to an answer: its code was told, and this of it.
abbrev pub SlotAnswers : {X : Type 0} → Option Held → Option Held → ℕ → (Held → Held → Result X Failure → Type 0) → (Result X Failure → Type 0) → Type 0
SlotAnswers {X} old new code Came IsTold = SlotCalls old new code (IsTold (Err Closed)) (λ before after. (answer : Result X Failure) × (code ≡ code_of answer) × IsTold answer × Came before after answer)

-- A call that only reads: it says this of what is held.
abbrev pub SlotSays : Option Held → Option Held → ℕ → Type 0 → (Held → Type 0) → Type 0
SlotSays old new code IsLeft Says = SlotCalls old new code IsLeft (λ before after. (code ≡ 0) × IsSame before after × Says before)

-- where nothing is held this number was left
abbrev pub LeavesClosed : Option Held → ℕ → ℕ → Type 0
LeavesClosed old was now = MatchOption old (now ≡ was) (λ held. ⊤)

-- a close lets all go
abbrev pub SlotCloses : Option Held → Option Held → ℕ → Type 0
SlotCloses old new code = (new ≡ None) × MatchOption old (code ≡ 17) (λ held. code ≡ 0)

-- an open log whose store a change that failed has taken
abbrev pub IsLost : Option Held → Type 0
IsLost slot = MatchOption slot ⊥ (λ held. held.store ≡ None)

-- an open log with its store
abbrev pub HasStore : Option Held → Type 0
HasStore slot = MatchOption slot ⊥ (λ held. MatchOption held.store ⊥ (λ store. ⊤))
