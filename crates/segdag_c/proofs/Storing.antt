-- The calls that a line notes, over a disk that has the store's log.
use Rattle.std.proofs.Common.{◌≡◌, ◌⊎◌, inl, inr, ℕ, List, [], ◌∷◌, ◌++◌, Option, Some, None, Ok, Err, IfErr, IfOk, IfSome, refl, sym, ap, subst, arith, ◌∙◌, true≢false, true, false, Bool}
use Rattle.std.specs.Prelude.{MatchBool, OnErr, OnOk, is_some, not, option_copied}
use denote.Bor.{Bor}
use Rattle.std.specs.declared.result.Result.{Result}
use Rattle.outside.specs.Counts.{Rose}
use Rattle.disk_trait.specs.Images.{Unsynced, Told, IsImage, LeftAt, moment_of}
use Rattle.disk_trait.specs.Calls.{Goes}
use Rattle.disk_trait.proofs.Loss.{last-append}
use Rattle.disk_trait.proofs.Moments.{left-now, weakened}
use Rattle.line_io.specs.Memory.{MemoryOutput}
use Rattle.gated_log.specs.Held.{Held}
use Rattle.gated_log.specs.Holding.{IsLogWithin, IsOnDisk}
use Rattle.call_disk.specs.Noted.{Call, Step, call_of, calls_in, first_call, said_of}
use Rattle.call_disk.specs.declared.noted.NotedCall.{NotedCall}
use Rattle.call_disk.specs.Tape.{Tape}
use Rattle.call_disk.specs.Performed.{HonestDisk, WasLeft, begun, replayed}
use Rattle.call_disk.specs.Sound.{moment_replayed}
use Rattle.call_disk.specs.Telling.{FitOver, told_over}
use Rattle.call_disk.proofs.Stopping.{may-perform, performs-alike, stops-told}
use Rattle.remote_rules.specs.Mirror.{Mirror}
use Rattle.store_plans.specs.Changes.{HasRoom}
use Rattle.dag_store.specs.Changes.{HasStored}
use Rattle.dag_store.specs.Kept.{PlainStore}
use Rattle.dag_run.specs.Lines.{LineLeaves, LineReplies}
use Rattle.dag_run.specs.declared.stops.Stop.{Stop}
use Rattle.dag_run.specs.declared.stops.Stop.TheVariants.{NotStored}
use Rattle.segdag_c.specs.Answers.{LineNotes}
use Rattle.segdag_c.specs.Line.{LineDoes, LineDoesOn}
use Rattle.segdag_c.specs.Stores.{IsOldOrNew, Leaves, Stores}
use Rattle.segdag_c.proofs.Deciding.{on-disk}

-- ---- the disk, where it has the log

abbrev pub picked : {P : Type 0} → HonestDisk → P ⊎ (P → ⊥) → Option HonestDisk
picked disk (inl has) = Some disk
picked disk (inr has_not) = None

abbrev pub chosen : Held → HonestDisk → Option HonestDisk
chosen log disk = picked disk (on-disk log disk.told)

pub chosen-has : (log : Held) (disk : HonestDisk) → IfSome (chosen log disk) (λ (d : HonestDisk). IsOnDisk log d.told)
chosen-has log disk = of (on-disk log disk.told)
  where
    of : (has : IsOnDisk log disk.told ⊎ (IsOnDisk log disk.told → ⊥)) → IfSome (picked disk has) (λ (d : HonestDisk). IsOnDisk log d.told)
    of (inl has) = has
    of (inr has_not) = tt

pub picked-if : {P : Type 0} (disk : HonestDisk) (has : P ⊎ (P → ⊥)) (F : Told → Type 0) → IfSome (picked disk has) (λ (d : HonestDisk). F d.told) → P → F disk.told
picked-if disk (inl has) F f p = f
picked-if disk (inr has_not) F f p = absurd (has_not p)

pub chosen-if : (log : Held) (disk : HonestDisk) (F : Told → Type 0) → IfSome (chosen log disk) (λ (d : HonestDisk). F d.told) → IsOnDisk log disk.told → F disk.told
chosen-if log disk F = picked-if disk (on-disk log disk.told) F

-- ---- what is left now

pub left-here : (t : Told) (image : List ℕ) → IsImage t.now image → LeftAt t (moment_of t) image
left-here t image i = subst (λ (u : Unsynced). IsImage u image) (sym (last-append t.past t.now t.now)) i

abbrev pub empty_tape : Tape
empty_tape = record { steps = []; idle = 0; calls = 0 }

pub begins-on : (disk : Option HonestDisk) (log : Held) (tape : Tape) → tape ≡ empty_tape → IfSome disk (λ (d : HonestDisk). IsOnDisk log d.told) → IfSome (told_over disk tape) (IsOnDisk log)
begins-on None log tape is on = tt
begins-on (Some d) log tape is on =
    subst (λ (t : Tape). IfSome (told_over (Some d) t) (IsOnDisk log)) (sym is) (λ image left. on image (left-here d.told image (left-now (begun d.told) image left)))

-- ---- a change, or none

no-calls : (steps : List Step) (idle : ℕ) (t : Told) → replayed steps idle t ≡ t → calls_in steps ≡ []
no-calls [] idle t same = refl
no-calls (step ∷ steps) idle t same = let moment = ap moment_of same in let longer = moment_replayed (step ∷ steps) idle t in absurd (omega (arith, moment, longer))

room-on : (kept next : Held) (t : Told) → HasRoom kept next → IsOnDisk kept t → IsOnDisk next t
room-on kept next t room on = subst (λ (log : Held). IsOnDisk log t) (sym room) on

module _ (kept next : PlainStore) (payload : List ℕ) (clock : ℕ) (d : HonestDisk) (steps : List Step) (idle : ℕ) (limited : kept.log.limit ≡ kept.limits.log)
    (stored : HasStored kept payload next clock (begun d.told) (replayed steps idle (begun d.told))) where
  abbrev last : Told
  last = replayed steps idle (begun d.told)

  old-or-new : (image : List ℕ) → WasLeft last image → IsOldOrNew kept payload image
  old-or-new image was =
      subst (λ n. IsLogWithin n kept.log.payloads image ⊎ IsLogWithin n (kept.log.payloads ++ payload ∷ []) image) limited (stored.since.since was.0 image (omega arith) was.1 was.2).1

  stores : FitOver (Some d) steps → Stores kept payload next (calls_in steps) d.told
  stores fit = record {
    may = may-perform steps (begun d.told) d.told (refl, refl) fit;
    stopped = λ new stops. weakened (λ moment. WasLeft last) (λ moment. IsOldOrNew kept payload) d.told new (λ moment image was. old-or-new image was) (stops-told steps idle (begun d.told) d.told new (refl, refl) stops);
    whole = λ new performs. (let same = performs-alike steps idle (begun d.told) d.told new (refl, refl) performs in (
      λ image left. stored.payloads image (left-here last image (subst (λ (u : Unsynced). IsImage u image) (sym same.0) (left-now new image left))),
      λ image left. stored.on_disk image (left-here last image (subst (λ (u : Unsynced). IsImage u image) (sym same.0) (left-now new image left))),
    ));
  }

leaves : (d : HonestDisk) (kept next : PlainStore) (payload : List ℕ) (clock : Option ℕ) (steps : List Step) (idle : ℕ) → FitOver (Some d) steps → IsOnDisk kept.log d.told
    → LineLeaves kept payload clock (Ok next) (begun d.told) (replayed steps idle (begun d.told)) → Leaves kept payload clock next (calls_in steps) d.told
leaves d kept next payload None steps idle fit on left = (no-calls steps idle (begun d.told) left.0, room-on kept.log next.log d.told left.1 on)
leaves d kept next payload (Some clock) steps idle fit on left = stores kept next payload clock d steps idle left.0 left.1 fit

pub leaves-on : (disk : Option HonestDisk) (kept next : PlainStore) (payload : List ℕ) (clock : Option ℕ) (start last : Tape) → start ≡ empty_tape → FitOver disk last.steps
    → IfSome disk (λ (d : HonestDisk). IsOnDisk kept.log d.told) → Goes (LineLeaves kept payload clock (Ok next)) (told_over disk start) (told_over disk last)
    → IfSome disk (λ (d : HonestDisk). Leaves kept payload clock next (calls_in last.steps) d.told)
leaves-on None kept next payload clock start last is fit on goes = tt
leaves-on (Some d) kept next payload clock start last is fit on goes =
    leaves d kept next payload clock last.steps last.idle fit on
    (subst (λ (t : Tape). Goes (LineLeaves kept payload clock (Ok next)) (told_over (Some d) t) (told_over (Some d) last)) is goes)

pub line-does-on : (first left : List Mirror) (old : ℕ) (store : PlainStore) (line payload : List ℕ) (clock : Option ℕ) (r : Result PlainStore Stop) (before : List ℕ) (sink : MemoryOutput) (disk : Option HonestDisk)
    (start last : Tape) (calls : List Call) → LineReplies first left (Rose old sink.faults) store line payload clock r before sink.taken
    → Goes (LineLeaves store payload clock r) (told_over disk start) (told_over disk last) → start ≡ empty_tape → FitOver disk last.steps → IfSome disk (λ (d : HonestDisk). IsOnDisk store.log d.told)
    → calls_in last.steps ≡ calls → LineDoesOn first store line left old before sink calls disk r
line-does-on first left old store line payload clock (Ok next) before sink disk start last calls told goes is fit on are =
    (payload, clock, told, subst (λ cs. IfSome disk (λ (d : HonestDisk). Leaves store payload clock next cs d.told)) are (leaves-on disk store next payload clock start last is fit on goes))
line-does-on first left old store line payload clock (Err stop) before sink disk start last calls told goes is fit on are = (payload, clock, told, tt)

-- over any disk
pub line-does : (first left : List Mirror) (old : ℕ) (store : PlainStore) (line : List ℕ) (before : List ℕ) (sink : MemoryOutput) (calls : List Call) (disk : HonestDisk) (r : Result PlainStore Stop)
    → LineDoesOn first store line left old before sink calls (chosen store.log disk) r → LineDoes first store line left old before sink calls disk.told r
line-does first left old store line before sink calls disk (Ok next) does =
    (does.0, does.1, does.2, λ on. chosen-if store.log disk (λ t. Leaves store does.0 does.1 next calls t) does.3 on)
line-does first left old store line before sink calls disk (Err stop) does = (does.0, does.1, does.2, tt)

-- and noted behind what was noted before, or not at all
pub line-notes : (first left : List Mirror) (old : ℕ) (store : PlainStore) (line : List ℕ) (next : PlainStore) (r : Result PlainStore Stop) (before : List ℕ) (sink : MemoryOutput) (noted log more : List Call) (disk : HonestDisk)
    → IfOk r (λ same. same ≡ next) → IfErr r (λ stop. stop ≡ NotStored) → OnOk r (log ≡ noted ++ more) → OnErr r (log ≡ noted) → OnErr r (more ≡ [] → ⊥) → LineDoesOn first store line left old before sink more (chosen store.log disk) (Ok next)
    → LineNotes first store noted line left log old before sink disk.told r
line-notes first left old store line next (Ok same) before sink noted log more disk is why behind none some does =
    (more, behind, subst (λ (s : PlainStore). LineDoes first store line left old before sink more disk.told (Ok s)) (sym is) (line-does first left old store line before sink more disk (Ok next) does))
line-notes first left old store line next (Err stop) before sink noted log more disk is why behind none some does =
    (none, more, Ok next, (why, some), line-does first left old store line before sink more disk (Ok next) does)

-- where there is no first call there is none
pub none-first : (calls : List Call) → None ≡ first_call calls → calls ≡ []
none-first [] e = refl
none-first (call ∷ calls) e = absurd (let f : None ≡ Some call = e in cc)

pub some-first : (calls : List Call) (call : Call) → Some call ≡ first_call calls → calls ≡ [] → ⊥
some-first calls call e none = absurd (let f : Some call ≡ None = e ∙ ap first_call none in cc)

pub none-told : (o : Option (Bor NotedCall)) (b : Bool) (calls : List Call) → is_some o ≡ not b → said_of (option_copied o) ≡ first_call calls → MatchBool b (calls ≡ []) (calls ≡ [] → ⊥)
none-told None true calls e told = none-first calls told
none-told None false calls e told = absurd (true≢false (sym e))
none-told (Some call) true calls e told = absurd (true≢false e)
none-told (Some call) false calls e told = some-first calls (call_of call.now) told
