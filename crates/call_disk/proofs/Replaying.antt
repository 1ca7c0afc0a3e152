-- One call more: what a disk tells then whose calls are noted.
use Rattle.std.proofs.Common.{◌≡◌, inl, inr, ◌<◌, ◌+◌, ◌*◌, ◌^◌, ℕ, suc, List, [], ◌∷◌, ◌++◌, Option, Some, None, IfSome, refl, sym, ◌∙◌, ap, subst, arith}
use Rattle.std.specs.Prelude.{Result, Ok, Err, OnOk, OnErr}
use Rattle.disk_trait.specs.Images.{Told, moment_of, last_moment}
use Rattle.disk_trait.specs.Calls.{Passes, Writes, FailsToWrite, Syncs, Succeeds, OrRefuses, Goes}
use Rattle.call_disk.specs.Noted.{Call, Write, Sync, Step, call_of, calls_in, calls_of, steps_of}
use Rattle.call_disk.specs.declared.noted.Noted.{Noted}
use Rattle.call_disk.specs.Tape.{Tape, IsCounted, IsNoted, IsPassed, IsIdle, count_of}
use Rattle.call_disk.specs.Performed.{HonestDisk, Fits, AllFit, begun, done, passed, replayed}
use Rattle.call_disk.specs.Telling.{FitOver, told_over, bytes_over}
use Rattle.call_disk.specs.Sound.{moment_replayed}

abbrev last : ℕ → Call → Step
last idle call = record { idle = idle; call = call }

replay_push : (steps : List Step) (idle : ℕ) (call : Call) (t : Told) → replayed (steps ++ last idle call ∷ []) 0 t ≡ done call (replayed steps idle t)
replay_push [] idle call t = refl
replay_push (step ∷ steps) idle call t = replay_push steps idle call (done step.call (passed step.idle t))

replay_pass : (steps : List Step) (idle : ℕ) (t : Told) → replayed steps (idle + 1) t ≡ passed 1 (replayed steps idle t)
replay_pass [] idle t = let e : idle + 1 ≡ suc idle = omega arith in ap (λ n. passed n t) e
replay_pass (step ∷ steps) idle t = replay_pass steps idle (done step.call (passed step.idle t))

fit_push : (steps : List Step) (idle : ℕ) (call : Call) (t : Told) → AllFit steps t → Fits call (replayed steps idle t) → AllFit (steps ++ last idle call ∷ []) t
fit_push [] idle call t fit last_fits = (last_fits, tt)
fit_push (step ∷ steps) idle call t fit last_fits = (fit.0, fit_push steps idle call (done step.call (passed step.idle t)) fit.1 last_fits)

count_push : (steps : List Step) (idle : ℕ) (call : Call) → count_of (steps ++ last idle call ∷ []) 0 ≡ count_of steps idle + 1
count_push [] idle call = omega arith
count_push (step ∷ steps) idle call = let rest = count_push steps idle call in omega (arith, rest)

count_pass : (steps : List Step) (idle : ℕ) → count_of steps (idle + 1) ≡ count_of steps idle + 1
count_pass [] idle = refl
count_pass (step ∷ steps) idle = let rest = count_pass steps idle in omega (arith, rest)

pub calls-are : (noted : List Noted) → calls_in (steps_of noted) ≡ calls_of noted
calls-are [] = refl
calls-are (n ∷ noted) = ap (λ calls. call_of n.call ∷ calls) (calls-are noted)

-- ---- the counts

pub counted_noted : (call : Call) (old new : Tape) → IsCounted old → IsNoted call old new → IsCounted new
counted_noted call old new counted noted =
    let same : count_of new.steps new.idle ≡ count_of (old.steps ++ last old.idle call ∷ []) 0 = ap (λ s. count_of s new.idle) noted.steps ∙ ap (count_of (old.steps ++ last old.idle call ∷ [])) noted.idle in
    let push = count_push old.steps old.idle call in
    let calls = noted.calls in omega (arith, same, push, counted, calls)

pub counted_idle : (old new : Tape) → IsCounted old → IsIdle old new → IsCounted new
counted_idle old new counted (inl p) =
    let same : count_of new.steps new.idle ≡ count_of old.steps (old.idle + 1) = ap (λ s. count_of s new.idle) p.steps ∙ ap (count_of old.steps) p.idle in
    let pass = count_pass old.steps old.idle in
    let calls = p.calls in omega (arith, same, pass, counted, calls)
counted_idle old new counted (inr p) = subst IsCounted (sym p.1) counted

-- ---- the places of writes

pub fit_noted : (disk : Option HonestDisk) (call : Call) (old new : Tape) → FitOver disk old.steps → IfSome (told_over disk old) (Fits call) → IsNoted call old new → FitOver disk new.steps
fit_noted None call old new fit fits noted = tt
fit_noted (Some disk) call old new fit fits noted = subst (λ s. AllFit s (begun disk.told)) (sym noted.steps) (fit_push old.steps old.idle call (begun disk.told) fit fits)

pub fit_idle : (disk : Option HonestDisk) (old new : Tape) → FitOver disk old.steps → IsIdle old new → FitOver disk new.steps
fit_idle disk old new fit (inl p) = subst (FitOver disk) (sym p.steps) fit
fit_idle disk old new fit (inr p) = subst (λ (t : Tape). FitOver disk t.steps) (sym p.1) fit

-- a sync fits anywhere
pub sync_fits : (disk : Option HonestDisk) (old : Tape) → IfSome (told_over disk old) (Fits Sync)
sync_fits None old = tt
sync_fits (Some disk) old = tt

-- ---- what is told

moment_over : (disk : HonestDisk) (tape : Tape) → IsCounted tape → moment_of (replayed tape.steps tape.idle (begun disk.told)) ≡ 2 * tape.calls
moment_over disk tape counted = let m = moment_replayed tape.steps tape.idle (begun disk.told) in omega (arith, m, counted)

pub clock_over : (disk : Option HonestDisk) (tape : Tape) (moment : ℕ) → IsCounted tape → moment ≡ 2 * tape.calls → IfSome (told_over disk tape) (λ t. moment ≡ moment_of t)
clock_over None tape moment counted is = tt
clock_over (Some disk) tape moment counted is = is ∙ sym (moment_over disk tape counted)

noted_done : (disk : HonestDisk) (call : Call) (old new : Tape) → IsNoted call old new → replayed new.steps new.idle (begun disk.told) ≡ done call (replayed old.steps old.idle (begun disk.told))
noted_done disk call old new noted =
    ap (λ s. replayed s new.idle (begun disk.told)) noted.steps ∙ ap (λ n. replayed (old.steps ++ last old.idle call ∷ []) n (begun disk.told)) noted.idle
    ∙ replay_push old.steps old.idle call (begun disk.told)

idle_passed : (disk : HonestDisk) (old new : Tape) → IsPassed old new → replayed new.steps new.idle (begun disk.told) ≡ passed 1 (replayed old.steps old.idle (begun disk.told))
idle_passed disk old new p =
    ap (λ s. replayed s new.idle (begun disk.told)) p.steps ∙ ap (λ n. replayed old.steps n (begun disk.told)) p.idle ∙ replay_pass old.steps old.idle (begun disk.told)

early_over : (disk : HonestDisk) (old : Tape) → IsCounted old → old.calls < 2 ^ 61 → moment_of (replayed old.steps old.idle (begun disk.told)) < last_moment
early_over disk old counted early = let m = moment_over disk old counted in omega (arith, m, early)

pub write_told : (disk : Option HonestDisk) (at : ℕ) (piece : List ℕ) (old new : Tape) → IsCounted old → IsNoted (Write at piece) old new → Goes (Succeeds (Writes at piece)) (told_over disk old) (told_over disk new)
write_told None at piece old new counted noted = tt
write_told (Some disk) at piece old new counted noted = (early_over disk old counted noted.early, noted_done disk (Write at piece) old new noted)

pub sync_told : (disk : Option HonestDisk) (old new : Tape) → IsCounted old → IsNoted Sync old new → Goes (Succeeds Syncs) (told_over disk old) (told_over disk new)
sync_told None old new counted noted = tt
sync_told (Some disk) old new counted noted = (early_over disk old counted noted.early, noted_done disk Sync old new noted)

pub idle_told : (disk : Option HonestDisk) (old new : Tape) → IsCounted old → IsIdle old new → Goes (OrRefuses Passes) (told_over disk old) (told_over disk new)
idle_told None old new counted idle = tt
idle_told (Some disk) old new counted (inl p) = inl (early_over disk old counted p.early, idle_passed disk old new p)
idle_told (Some disk) old new counted (inr p) = inr (
  (let m = moment_over disk old counted in let many = p.0 in omega (arith, m, many)),
  ap (λ (t : Tape). replayed t.steps t.idle (begun disk.told)) p.1,
)

pub pass_told : (disk : Option HonestDisk) (old new : Tape) → IsCounted old → IsPassed old new → Goes (Succeeds Passes) (told_over disk old) (told_over disk new)
pass_told None old new counted p = tt
pass_told (Some disk) old new counted p = (early_over disk old counted p.early, idle_passed disk old new p)

pub fail_told : (disk : Option HonestDisk) (at : ℕ) (piece : List ℕ) (old new : Tape) → IsCounted old → IsIdle old new → Goes (OrRefuses (FailsToWrite at piece)) (told_over disk old) (told_over disk new)
fail_told None at piece old new counted idle = tt
fail_told (Some disk) at piece old new counted idle = weaker (idle_told (Some disk) old new counted idle)
  where
    weaker : {x y : Told} → OrRefuses Passes x y → OrRefuses (FailsToWrite at piece) x y
    weaker (inl p) = inl (p.0, inl p.1)
    weaker (inr p) = inr p

-- ---- the bytes stay but for writes

pub bytes_idle : (disk : Option HonestDisk) (old new : Tape) → IsIdle old new → bytes_over disk new ≡ bytes_over disk old
bytes_idle None old new idle = refl
bytes_idle (Some disk) old new (inl p) = ap (λ (t : Told). Some t.bytes) (idle_passed disk old new p)
bytes_idle (Some disk) old new (inr p) = ap (λ (t : Tape). bytes_over (Some disk) t) p.1

pub bytes_sync : (disk : Option HonestDisk) (old new : Tape) → IsNoted Sync old new → bytes_over disk new ≡ bytes_over disk old
bytes_sync None old new noted = refl
bytes_sync (Some disk) old new noted = ap (λ (t : Told). Some t.bytes) (noted_done disk Sync old new noted)

-- ---- a call that was noted, or failed

module _ {X E : Type 0} where
  pub counted_after : (call : Call) (r : Result X E) (old new : Tape) → IsCounted old → OnOk r (IsNoted call old new) → OnErr r (IsIdle old new) → IsCounted new
  counted_after call (Ok x) old new counted noted idle = counted_noted call old new counted noted
  counted_after call (Err e) old new counted noted idle = counted_idle old new counted idle

  pub fit_after : (disk : Option HonestDisk) (call : Call) (r : Result X E) (old new : Tape) → FitOver disk old.steps → IfSome (told_over disk old) (Fits call) → OnOk r (IsNoted call old new) → OnErr r (IsIdle old new)
      → FitOver disk new.steps
  fit_after disk call (Ok x) old new fit fits noted idle = fit_noted disk call old new fit fits noted
  fit_after disk call (Err e) old new fit fits noted idle = fit_idle disk old new fit idle

  pub write_ok : (disk : Option HonestDisk) (at : ℕ) (piece : List ℕ) (r : Result X E) (old new : Tape) → IsCounted old → OnOk r (IsNoted (Write at piece) old new)
      → OnOk r (Goes (Succeeds (Writes at piece)) (told_over disk old) (told_over disk new))
  write_ok disk at piece (Ok x) old new counted noted = write_told disk at piece old new counted noted
  write_ok disk at piece (Err e) old new counted noted = tt

  pub write_err : (disk : Option HonestDisk) (at : ℕ) (piece : List ℕ) (r : Result X E) (old new : Tape) → IsCounted old → OnErr r (IsIdle old new)
      → OnErr r (Goes (OrRefuses (FailsToWrite at piece)) (told_over disk old) (told_over disk new))
  write_err disk at piece (Ok x) old new counted idle = tt
  write_err disk at piece (Err e) old new counted idle = fail_told disk at piece old new counted idle

  pub sync_ok : (disk : Option HonestDisk) (r : Result X E) (old new : Tape) → IsCounted old → OnOk r (IsNoted Sync old new) → OnOk r (Goes (Succeeds Syncs) (told_over disk old) (told_over disk new))
  sync_ok disk (Ok x) old new counted noted = sync_told disk old new counted noted
  sync_ok disk (Err e) old new counted noted = tt

  pub sync_err : (disk : Option HonestDisk) (r : Result X E) (old new : Tape) → IsCounted old → OnErr r (IsIdle old new) → OnErr r (Goes (OrRefuses Passes) (told_over disk old) (told_over disk new))
  sync_err disk (Ok x) old new counted idle = tt
  sync_err disk (Err e) old new counted idle = idle_told disk old new counted idle

  pub sync_still : (disk : Option HonestDisk) (r : Result X E) (old new : Tape) → OnOk r (IsNoted Sync old new) → OnErr r (IsIdle old new) → bytes_over disk new ≡ bytes_over disk old
  sync_still disk (Ok x) old new noted idle = bytes_sync disk old new noted
  sync_still disk (Err e) old new noted idle = bytes_idle disk old new idle
