-- What a typed change notes, and what is kept of it.
use Rattle.std.proofs.Common.{◌≡◌, ℕ, List, [], Option, Some, None, Ok, Err, IfSome, IfOk, IfErr, refl, sym, ap, subst, ◌∙◌}
use Rattle.std.specs.Prelude.{⊤, MatchOption}
use Rattle.std.specs.declared.result.Result.{Result}
use Rattle.disk_trait.specs.Calls.{Goes}
use Rattle.disk_trait.specs.Images.{Told}
use Rattle.gated_log.specs.Holding.{IsOnDisk}
use Rattle.call_disk.specs.Noted.{Call, calls_in}
use Rattle.call_disk.specs.Tape.{Tape}
use Rattle.call_disk.specs.Performed.{HonestDisk}
use Rattle.call_disk.specs.Telling.{FitOver, told_over}
use Rattle.remote_rules.specs.Mirror.{Mirror}
use Rattle.step_rules.specs.Verb.{Verb}
use Rattle.dag_store.specs.Changes.{ChangeLeaves, LeavesStore}
use Rattle.dag_store.specs.Kept.{PlainStore}
use Rattle.dag_store.specs.declared.replies.Changed.{Changed}
use Rattle.dag_store.specs.declared.replies.Changed.TheVariants as changed
use Rattle.dag_run.specs.Lines.{IsLimited, LineLeaves}
use Rattle.dag_run.proofs.Doing.{flush-goes, refused-goes}
use Rattle.call_disk.specs.Awaited.{awaited}
use Rattle.dag_store.specs.declared.replies.Counts.{Counts}
use Rattle.segdag_c.specs.declared.codes.Failure.{Failure}
use Rattle.segdag_c.specs.declared.codes.Failure.TheVariants.{Disk, NoLog, Reply, Memory, Closed, AlreadyOpen, Argument, Syntax, Refused}
use Rattle.segdag_c.specs.declared.held.Held.{Held}
use Rattle.segdag_c.specs.Changing.{ChangeCame, ChangeNotes, Changes, ChangesOn, ChangesOver, IsChanged, Keeps, LeavesTold}
use Rattle.segdag_c.specs.Handles.{IsSame}
use Rattle.segdag_c.specs.Mirrors.{shown_all}
use Rattle.segdag_c.specs.Stores.{Leaves}
use Rattle.segdag_c.proofs.Storing.{chosen, chosen-if, empty_tape, leaves-on}

if-some : {X : Type 0} (o : Option X) (P Q : X → Type 0) → ((x : X) → P x → Q x) → IfSome o P → IfSome o Q
if-some None P Q f h = h
if-some (Some x) P Q f h = f x h

all-some : {X : Type 0} (o : Option X) → IfSome o (λ x. ⊤)
all-some None = tt
all-some (Some x) = tt

-- what it noted, over a disk that has the store's log
notes-in : (disk : Option HonestDisk) (old : PlainStore) (s : ℕ) (payload : List ℕ) (end : Changed) (start last : Tape) → IsLimited old → LeavesStore old s end → start ≡ empty_tape → FitOver disk last.steps
    → IfSome disk (λ (d : HonestDisk). IsOnDisk old.log d.told) → Goes (ChangeLeaves old payload end) (told_over disk start) (told_over disk last)
    → IfSome disk (λ (d : HonestDisk). ChangeNotes old payload end (calls_in last.steps) d.told)
notes-in disk old s payload (changed.Done next counts clock) start last limited left is fit on goes =
    leaves-on disk old next payload clock start last is fit on (flush-goes old next payload (Ok next) s counts clock (told_over disk start) (told_over disk last) refl tt limited left goes)
notes-in disk old s payload (changed.Refused same refusal) start last limited left is fit on goes =
    if-some disk (λ (d : HonestDisk). Leaves old payload None same (calls_in last.steps) d.told) (λ (d : HonestDisk). calls_in last.steps ≡ []) (λ d h. h.0)
    (leaves-on disk old same payload None start last is fit on (refused-goes old same payload (Ok same) refusal (told_over disk start) (told_over disk last) refl tt left.1 goes))
notes-in disk old s payload (changed.Disk fault) start last limited left is fit on goes = all-some disk

pub notes-on : (disk : Option HonestDisk) (old : PlainStore) (s : ℕ) (payload : List ℕ) (end : Changed) (start last : Tape) (calls : List Call) → IsLimited old → LeavesStore old s end → start ≡ empty_tape → FitOver disk last.steps
    → IfSome disk (λ (d : HonestDisk). IsOnDisk old.log d.told) → Goes (ChangeLeaves old payload end) (told_over disk start) (told_over disk last) → calls_in last.steps ≡ calls
    → IfSome disk (λ (d : HonestDisk). ChangeNotes old payload end calls d.told)
notes-on disk old s payload end start last calls limited left is fit on goes are =
    subst (λ cs. IfSome disk (λ (d : HonestDisk). ChangeNotes old payload end cs d.told)) are (notes-in disk old s payload end start last limited left is fit on goes)

-- over any disk
pub changes-over : (first left : List Mirror) (old : PlainStore) (s : ℕ) (verb : Verb) (calls : List Call) (end : Changed) (disk : HonestDisk) → ChangesOn first old s verb left calls end (chosen old.log disk)
    → ChangesOver first old s verb left calls end disk.told
changes-over first left old s verb calls end disk h = record {
  payload = h.payload;
  steps = h.steps;
  asks = h.asks;
  leaves = h.leaves;
  notes = λ on. chosen-if old.log disk (λ t. ChangeNotes old h.payload end calls t) h.notes on;
}

-- ---- what comes of it

no-argument : (noted : List Call) (end : Changed) (calls : List Call) (after : Held) → Keeps noted end calls after (Err Argument) → ⊥
no-argument noted (changed.Done next counts clock) calls after h = h
no-argument noted (changed.Refused same refusal) calls after h = h
no-argument noted (changed.Disk fault) calls after h = h

no-memory : (noted : List Call) (end : Changed) (calls : List Call) (after : Held) → Keeps noted end calls after (Err Memory) → ⊥
no-memory noted (changed.Done next counts clock) calls after h = h
no-memory noted (changed.Refused same refusal) calls after h = h
no-memory noted (changed.Disk fault) calls after h = h

-- where the store was there
module _ (before after : Held) (old : PlainStore) (s : ℕ) (verb : Verb) (disk : Told) (was : before.store ≡ Some old) where
  abbrev There : Result Counts Failure → Type 0
  There answer = IsChanged before old s verb disk after answer

  there : (answer : Result Counts Failure) → There answer → MatchOption before.store ⊥ (λ p. (v : Verb) × (v ≡ verb) × IsChanged before p s v disk after answer)
  there answer h = subst (λ o. MatchOption o ⊥ (λ p. (v : Verb) × (v ≡ verb) × IsChanged before p s v disk after answer)) (sym was) (verb, refl, h)

  pub came : (answer : Result Counts Failure) → There answer → ChangeCame ⊥ (λ v. v ≡ verb) s disk before after answer
  came (Ok counts) h = there (Ok counts) h
  came (Err Disk) h = subst (λ o. MatchOption o (IsSame before after) (λ p. (v : Verb) × (v ≡ verb) × IsChanged before p s v disk after (Err Disk))) (sym was) (verb, refl, h)
  came (Err NoLog) h = there (Err NoLog) h
  came (Err Reply) h = there (Err Reply) h
  came (Err Memory) h = absurd (no-memory (awaited before.log) h.1 h.0 after h.3)
  came (Err Closed) h = there (Err Closed) h
  came (Err AlreadyOpen) h = there (Err AlreadyOpen) h
  came (Err Argument) h = absurd (no-argument (awaited before.log) h.1 h.0 after h.3)
  came (Err Syntax) h = there (Err Syntax) h
  came (Err (Refused refusal)) h = there (Err (Refused refusal)) h

-- of its parts
pub changed-of : (before after : Held) (old : PlainStore) (s : ℕ) (verb : Verb) (disk : Told) (answer : Result Counts Failure) (first left : List Mirror) (noted calls : List Call) (end : Changed)
    → first ≡ shown_all before.mirrors.list.items → left ≡ shown_all after.mirrors.list.items → noted ≡ awaited before.log → ChangesOver first old s verb left calls end disk → Keeps noted end calls after answer
    → LeavesTold before after → IsChanged before old s verb disk after answer
changed-of before after old s verb disk answer first left noted calls end at_first at_last was changes keeps told = (
  calls,
  end,
  subst (λ ms. ChangesOver (shown_all before.mirrors.list.items) old s verb ms calls end disk) at_last (subst (λ ms. ChangesOver ms old s verb left calls end disk) at_first changes),
  subst (λ cs. Keeps cs end calls after answer) was keeps,
  told,
)
