-- A disk whose calls are noted is sound where the one is over which they are to be performed.
use Rattle.std.proofs.Common.{◌≡◌, ◌≤◌, ◌<◌, ◌+◌, ◌*◌, ◌^◌, ℕ, zero, suc, List, [], ◌∷◌, Option, Some, None, IfSome, refl, arith}
use Rattle.disk_trait.specs.Images.{Told, IsSound, moment_of, last_moment}
use Rattle.disk_trait.proofs.Moments.{moment-call}
use Rattle.disk_trait.proofs.Sound.{passes-sound, writes-sound, syncs-sound}
use Rattle.call_disk.specs.Noted.{Call, Write, Sync, Step}
use Rattle.call_disk.specs.Tape.{Tape, IsCounted, count_of}
use Rattle.call_disk.specs.Performed.{HonestDisk, Fits, AllFit, begun, done, passed, replayed}
use Rattle.call_disk.specs.Telling.{FitOver, told_over}

moment_done : (call : Call) (t : Told) → moment_of (done call t) ≡ moment_of t + 2
moment_done (Write at piece) t = let m = moment-call t (done (Write at piece) t).now (done (Write at piece) t).now (done (Write at piece) t).bytes in omega (arith, m)
moment_done Sync t = let m = moment-call t t.now (done Sync t).now t.bytes in omega (arith, m)

pub moment_passed : (n : ℕ) (t : Told) → moment_of (passed n t) ≡ moment_of t + 2 * n
moment_passed zero t = omega arith
moment_passed (suc n) t =
    let before = moment_passed n t in
    let m = moment-call (passed n t) (passed n t).now (passed n t).now (passed n t).bytes in omega (arith, before, m)

pub moment_replayed : (steps : List Step) (idle : ℕ) (t : Told) → moment_of (replayed steps idle t) ≡ moment_of t + 2 * count_of steps idle
moment_replayed [] idle t = moment_passed idle t
moment_replayed (step ∷ steps) idle t =
    let p = moment_passed step.idle t in
    let d = moment_done step.call (passed step.idle t) in
    let r = moment_replayed steps idle (done step.call (passed step.idle t)) in omega (arith, p, d, r)

passed_sound : (n : ℕ) (t : Told) → IsSound t → moment_of t + 2 * n ≤ last_moment → IsSound (passed n t)
passed_sound zero t sound few = sound
passed_sound (suc n) t sound few =
    let before = moment_passed n t in
    passes-sound (passed n t) (passed (suc n) t) (passed_sound n t sound (omega (arith, few))) (omega (arith, before, few), refl)

done_sound : (call : Call) (t : Told) → IsSound t → Fits call t → moment_of t < last_moment → IsSound (done call t)
done_sound (Write at piece) t sound fits early = writes-sound at piece t (done (Write at piece) t) sound fits (early, refl)
done_sound Sync t sound fits early = syncs-sound t (done Sync t) sound (early, refl)

replayed_sound : (steps : List Step) (idle : ℕ) (t : Told) → IsSound t → AllFit steps t → moment_of t + 2 * count_of steps idle ≤ last_moment → IsSound (replayed steps idle t)
replayed_sound [] idle t sound fit few = passed_sound idle t sound few
replayed_sound (step ∷ steps) idle t sound fit few =
    let before = passed step.idle t in
    let p = moment_passed step.idle t in
    let d = moment_done step.call before in
    replayed_sound steps idle (done step.call before)
    (done_sound step.call before (passed_sound step.idle t sound (omega (arith, few))) fit.0 (omega (arith, p, few))) fit.1 (omega (arith, p, d, few))

pub begun_sound : (disk : HonestDisk) → IsSound (begun disk.told)
begun_sound disk = record { image = disk.sound.image; even = refl; early = omega arith }

pub sound_over : (disk : Option HonestDisk) (tape : Tape) → IsCounted tape → tape.calls ≤ 2 ^ 61 → FitOver disk tape.steps → IfSome (told_over disk tape) IsSound
sound_over None tape counted few fit = tt
sound_over (Some disk) tape counted few fit = replayed_sound tape.steps tape.idle (begun disk.told) (begun_sound disk) fit (omega (arith, counted, few))
