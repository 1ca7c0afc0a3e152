-- What codes tell of the log behind a handle.
use Rattle.std.proofs.Common.{◌≡◌, ◌⊎◌, inl, inr, ⊎_elim, ◌↔◌, ◌≤◌, ℕ, List, Option, Some, None, Ok, Err, refl, sym, ◌∙◌, ap, subst, arith, lit≤, true≢false}
use Rattle.std.specs.Prelude.{MatchOption, is_some, ⊤}
use Rattle.std.specs.declared.result.Result.{Result}
use Rattle.disk_trait.specs.Images.{Told}
use Rattle.step_rules.specs.Reply.{Reply as ReplyOf, Listed, Refused as IsRefused}
use Rattle.step_rules.specs.Verb.{Query}
use Rattle.step_rules.specs.declared.Refusal.{Refusal}
use Rattle.step_rules.specs.declared.Refusal.TheVariants as why
use Rattle.segdag_c.specs.declared.codes.Failure.{Failure}
use Rattle.segdag_c.specs.declared.codes.Failure.TheVariants.{Disk, NoLog, Reply, Memory, Closed, AlreadyOpen, Argument, Syntax, Refused}
use Rattle.segdag_c.specs.declared.held.Held.{Held}
use Rattle.segdag_c.specs.Answers.{HeldNotes, LineCame}
use Rattle.segdag_c.specs.Calls.{Comes, HeldDoesOf, IsNoExpr, IsNoSession, IsUntried, TellsNames, TextQueryCame}
use Rattle.segdag_c.specs.Codes.{refusal_code}
use Rattle.segdag_c.specs.Handles.{HasStore, IsLost, SlotAnswers, code_of}

-- a refusal is told by 7, or by 33 and more
refusal-codes : (r : Refusal) → (refusal_code r ≡ 7) ⊎ (33 ≤ refusal_code r)
refusal-codes why.Memory = inl refl
refusal-codes (why.Unknown name) = inr (lit≤ tt)
refusal-codes (why.Twice name) = inr (lit≤ tt)
refusal-codes (why.Differs name) = inr (lit≤ tt)
refusal-codes (why.Conflict name) = inr (lit≤ tt)
refusal-codes (why.Lost name) = inr (lit≤ tt)
refusal-codes (why.InMaster name) = inr (lit≤ tt)
refusal-codes (why.Emptied count) = inr (lit≤ tt)
refusal-codes (why.Full what limit) = inr (lit≤ tt)
refusal-codes (why.Answer count) = inr (lit≤ tt)
refusal-codes (why.NotEmpty master others) = inr (lit≤ tt)
refusal-codes (why.Pending count) = inr (lit≤ tt)
refusal-codes why.NoRemote = inr (lit≤ tt)
refusal-codes (why.Remote count) = inr (lit≤ tt)
refusal-codes (why.MismatchPath name back) = inr (lit≤ tt)
refusal-codes (why.MismatchNames asked given) = inr (lit≤ tt)
refusal-codes (why.MismatchClone at) = inr (lit≤ tt)
refusal-codes (why.MismatchRow id) = inr (lit≤ tt)

-- another code than these
refused-not : (r : Refusal) (n : ℕ) → (n ≡ 7 → ⊥) → (33 ≤ n → ⊥) → refusal_code r ≡ n → ⊥
refused-not r n seven more same = ⊎_elim (λ (is : refusal_code r ≡ 7). seven (sym same ∙ is)) (λ (far : 33 ≤ refusal_code r). more (omega (arith, far, same))) (refusal-codes r)

some-none : {X : Type 0} (x : X) → Some x ≡ None → ⊥
some-none x e = true≢false (ap is_some e)

-- 17 where nothing is held, and nowhere else
closed-told : {X : Type 0} (old new : Option Held) (code : ℕ) (Came : Held → Held → Result X Failure → Type 0) (IsTold : Result X Failure → Type 0)
    → ((before after : Held) (answer : Result X Failure) → Came before after answer → code_of answer ≡ 17 → ⊥) → SlotAnswers old new code Came IsTold → (code ≡ 17) ↔ (old ≡ None)
closed-told None new code Came IsTold other h = ((λ told. refl), (λ none. h.1))
closed-told (Some before) None code Came IsTold other h = absurd h
closed-told (Some before) (Some after) code Came IsTold other h = ((λ told. absurd (other before after h.0 h.3 (sym h.1 ∙ told))), (λ none. absurd (some-none before none)))

-- a typed call

comes-open : {X : Type 0} (Steps : ReplyOf → Type 0) (Says : X → (ReplyOf → Type 0) → Type 0) (W U : Type 0) (before after : Held) (answer : Result X Failure)
    → Comes Steps Says (IsUntried W U) before after answer → code_of answer ≡ 17 → ⊥
comes-open Steps Says W U before after (Ok x) came told = absurd (omega (arith, told))
comes-open Steps Says W U before after (Err Disk) came told = absurd (omega (arith, told))
comes-open Steps Says W U before after (Err NoLog) came told = absurd came.0
comes-open Steps Says W U before after (Err Reply) came told = absurd came.0
comes-open Steps Says W U before after (Err Memory) came told = absurd (omega (arith, told))
comes-open Steps Says W U before after (Err Closed) came told = absurd came.0
comes-open Steps Says W U before after (Err AlreadyOpen) came told = absurd came.0
comes-open Steps Says W U before after (Err Argument) came told = absurd (omega (arith, told))
comes-open Steps Says W U before after (Err Syntax) came told = absurd (omega (arith, told))
comes-open Steps Says W U before after (Err (Refused r)) came told = refused-not r 17 (λ e. omega (arith, e)) (λ far. omega (arith, far)) told

-- 3, 19 and 32 have their causes
comes-why : {X : Type 0} (Steps : ReplyOf → Type 0) (Says : X → (ReplyOf → Type 0) → Type 0) (W U : Type 0) (before after : Held) (answer : Result X Failure)
    → Comes Steps Says (IsUntried W U) before after answer → (code_of answer ≡ 3 → before.store ≡ None) × (code_of answer ≡ 19 → W) × (code_of answer ≡ 32 → U)
comes-why Steps Says W U before after (Ok x) came = ((λ e. absurd (omega (arith, e))), (λ e. absurd (omega (arith, e))), (λ e. absurd (omega (arith, e))))
comes-why Steps Says W U before after (Err Disk) came = ((λ e. came.0), (λ e. absurd (omega (arith, e))), (λ e. absurd (omega (arith, e))))
comes-why Steps Says W U before after (Err NoLog) came = absurd came.0
comes-why Steps Says W U before after (Err Reply) came = absurd came.0
comes-why Steps Says W U before after (Err Memory) came = ((λ e. absurd (omega (arith, e))), (λ e. absurd (omega (arith, e))), (λ e. absurd (omega (arith, e))))
comes-why Steps Says W U before after (Err Closed) came = absurd came.0
comes-why Steps Says W U before after (Err AlreadyOpen) came = absurd came.0
comes-why Steps Says W U before after (Err Argument) came = ((λ e. absurd (omega (arith, e))), (λ e. came.0), (λ e. absurd (omega (arith, e))))
comes-why Steps Says W U before after (Err Syntax) came = ((λ e. absurd (omega (arith, e))), (λ e. absurd (omega (arith, e))), (λ e. came.0))
comes-why Steps Says W U before after (Err (Refused r)) came = (
  (λ told. absurd (refused-not r 3 (λ e. omega (arith, e)) (λ far. omega (arith, far)) told)),
  (λ told. absurd (refused-not r 19 (λ e. omega (arith, e)) (λ far. omega (arith, far)) told)),
  (λ told. absurd (refused-not r 32 (λ e. omega (arith, e)) (λ far. omega (arith, far)) told)),
)

-- where the store is gone the call wasn't tried, and says why
comes-lost : {X : Type 0} (Steps : ReplyOf → Type 0) (Says : X → (ReplyOf → Type 0) → Type 0) (W U : Type 0) (before after : Held) (answer : Result X Failure)
    → ((reply : ReplyOf) → Steps reply → ⊥) → ((x : X) → Says x Steps → ⊥) → Comes Steps Says (IsUntried W U) before after answer
    → (code_of answer ≡ 3) ⊎ ((code_of answer ≡ 7) ⊎ ((code_of answer ≡ 19) ⊎ (code_of answer ≡ 32)))
comes-lost Steps Says W U before after (Ok x) none never came = absurd (never x came)
comes-lost Steps Says W U before after (Err Disk) none never came = inl refl
comes-lost Steps Says W U before after (Err NoLog) none never came = absurd came.0
comes-lost Steps Says W U before after (Err Reply) none never came = absurd came.0
comes-lost Steps Says W U before after (Err Memory) none never came = inr (inl refl)
comes-lost Steps Says W U before after (Err Closed) none never came = absurd came.0
comes-lost Steps Says W U before after (Err AlreadyOpen) none never came = absurd came.0
comes-lost Steps Says W U before after (Err Argument) none never came = inr (inr (inl refl))
comes-lost Steps Says W U before after (Err Syntax) none never came = inr (inr (inr refl))
comes-lost Steps Says W U before after (Err (Refused r)) none never came = absurd (none (IsRefused r) came)

-- ---- a query by a text

gone : {X : Type 0} (o : Option X) (P : X → Type 0) → o ≡ None → MatchOption o ⊥ P → ⊥
gone None P e m = m
gone (Some x) P e m = some-none x e

no-step : (before after : Held) (s : ℕ) (text : List ℕ) (reply : ReplyOf) → before.store ≡ None → HeldDoesOf before after s text Query reply → ⊥
no-step before after s text reply lost does = gone before.store _ lost does.2.4

pub query-codes : (old new : Option Held) (code s : ℕ) (text : List ℕ) (IsTold : Result ℕ Failure → Type 0) → SlotAnswers old new code (TextQueryCame s text) IsTold
    → (code ≡ 3 → IsLost old) × (IsLost old → (code ≡ 3) ⊎ ((code ≡ 7) ⊎ ((code ≡ 19) ⊎ (code ≡ 32)))) × (code ≡ 19 → IsNoSession s) × (code ≡ 32 → IsNoExpr text)
query-codes None new code s text IsTold h = (
  (λ e. absurd (let c = h.1 in omega (arith, c, e))),
  (λ lost. absurd lost),
  (λ e. absurd (let c = h.1 in omega (arith, c, e))),
  (λ e. absurd (let c = h.1 in omega (arith, c, e))),
)
query-codes (Some before) None code s text IsTold h = absurd h
query-codes (Some before) (Some after) code s text IsTold h =
    let Steps = HeldDoesOf before after s text Query in
    let causes = comes-why Steps TellsNames (IsNoSession s) (IsNoExpr text) before after h.0 h.3 in (
      (λ e. causes.0 (sym h.1 ∙ e)),
      (λ lost. subst (λ c. (c ≡ 3) ⊎ ((c ≡ 7) ⊎ ((c ≡ 19) ⊎ (c ≡ 32)))) (sym h.1)
          (comes-lost Steps TellsNames (IsNoSession s) (IsNoExpr text) before after h.0 (λ reply step. no-step before after s text reply lost step) (λ size t. no-step before after s text (Listed t.0) lost t.2) h.3)),
      (λ e. causes.1 (sym h.1 ∙ e)),
      (λ e. causes.2 (sym h.1 ∙ e)),
    )

pub query-closed : (old new : Option Held) (code s : ℕ) (text : List ℕ) (IsTold : Result ℕ Failure → Type 0) → SlotAnswers old new code (TextQueryCame s text) IsTold → (code ≡ 17) ↔ (old ≡ None)
query-closed old new code s text IsTold h =
    closed-told old new code (TextQueryCame s text) IsTold (λ before after answer came. comes-open (HeldDoesOf before after s text Query) TellsNames (IsNoSession s) (IsNoExpr text) before after answer came) h

-- ---- a line

both-there : {X : Type 0} (o p : Option X) (P : X → X → Type 0) → MatchOption o ⊥ (λ x. MatchOption p ⊥ (P x)) → MatchOption p ⊥ (λ x. ⊤)
both-there None p P m = absurd m
both-there (Some x) None P m = m
both-there (Some x) (Some y) P m = tt

line-keeps : (line : List ℕ) (disk : Told) (before after : Held) (answer : Result (Unit {0}) Failure) → LineCame line disk before after answer → HasStore (Some before)
    → (code_of answer ≡ 3) ⊎ ((code_of answer ≡ 6) ⊎ HasStore (Some after))
line-keeps line disk before after (Ok done) came has = inr (inr (both-there before.store after.store (λ old new. HeldNotes before old line after disk (Ok new)) came))
line-keeps line disk before after (Err Disk) came has = inl refl
line-keeps line disk before after (Err NoLog) came has = absurd came
line-keeps line disk before after (Err Reply) came has = inr (inl refl)
line-keeps line disk before after (Err Memory) came has = inr (inr (subst (λ o. MatchOption o ⊥ (λ x. ⊤)) (sym came.store) has))
line-keeps line disk before after (Err Closed) came has = absurd came
line-keeps line disk before after (Err AlreadyOpen) came has = absurd came
line-keeps line disk before after (Err Argument) came has = absurd came
line-keeps line disk before after (Err Syntax) came has = absurd came
line-keeps line disk before after (Err (Refused r)) came has = absurd came

pub lines-keep : (old new : Option Held) (code : ℕ) (line : List ℕ) (disk : Told) → SlotAnswers old new code (λ before after answer. LineCame line disk before after answer) (λ answer. ⊤) → HasStore old
    → (code ≡ 3) ⊎ ((code ≡ 6) ⊎ HasStore new)
lines-keep None new code line disk h has = absurd has
lines-keep (Some before) None code line disk h has = absurd h
lines-keep (Some before) (Some after) code line disk h has =
    subst (λ c. (c ≡ 3) ⊎ ((c ≡ 6) ⊎ HasStore (Some after))) (sym h.1) (line-keeps line disk before after h.0 h.3 has)
