-- A disk that performs noted calls, and stops somewhere: what it leaves was told.
use Rattle.std.proofs.Common.{◌≡◌, inl, inr, ◌≤◌, ℕ, zero, suc, List, [], ◌∷◌, length, sym, ap, subst, arith, le_refl}
use Rattle.disk_trait.specs.Images.{Unsynced, Told, IsImage, moment_of, surely}
use Rattle.disk_trait.specs.Calls.{after_call, overwritten, with_range}
use Rattle.disk_trait.specs.Since.{SureSince}
use Rattle.disk_trait.proofs.Loss.{last-append}
use Rattle.disk_trait.proofs.Moments.{SureFrom, front, left-now, moment-call, started, goes_on, fails_past, fails_to_write, joined}
use Rattle.call_disk.specs.Noted.{Call, Write, Sync, Step, calls_in}
use Rattle.call_disk.specs.Performed.{AllFit, Does, Fails, Fits, MayPerform, Performs, Stops, WasLeft, done, passed, replayed}

-- ---- what was left stays among what was

was-now : (t : Told) (image : List ℕ) → IsImage t.now image → WasLeft t image
was-now t image i = (moment_of t, le_refl _, subst (λ (u : Unsynced). IsImage u image) (sym (last-append t.past t.now t.now)) i)

was-call : (t : Told) (within after : Unsynced) (bytes image : List ℕ) → WasLeft t image → WasLeft (after_call t within after bytes) image
was-call t within after bytes image was = (
  was.0,
  (let le = was.1 in let m = moment-call t within after bytes in omega (arith, le, m)),
  subst (λ (u : Unsynced). IsImage u image) (sym (front t.past t.now within after after t.now was.0 was.1)) was.2,
)

was-passed : (n : ℕ) (t : Told) (image : List ℕ) → WasLeft t image → WasLeft (passed n t) image
was-passed zero t image was = was
was-passed (suc n) t image was = let before = passed n t in was-call before before.now before.now before.bytes image (was-passed n t image was)

was-done : (call : Call) (t : Told) (image : List ℕ) → WasLeft t image → WasLeft (done call t) image
was-done (Write at piece) t image was = let next = done (Write at piece) t in was-call t next.now next.now next.bytes image was
was-done Sync t image was = was-call t t.now (surely t.bytes) t.bytes image was

was-replayed : (steps : List Step) (idle : ℕ) (t : Told) (image : List ℕ) → WasLeft t image → WasLeft (replayed steps idle t) image
was-replayed [] idle t image was = was-passed idle t image was
was-replayed (step ∷ steps) idle t image was =
    let before = passed step.idle t in was-replayed steps idle (done step.call before) image (was-done step.call before image (was-passed step.idle t image was))

-- ---- disks that have the same now, whatever they had

abbrev AreAlike : Told → Told → Type 0
AreAlike t a = (t.now ≡ a.now) × (t.bytes ≡ a.bytes)

alike-passed : (n : ℕ) (t a : Told) → AreAlike t a → AreAlike (passed n t) a
alike-passed zero t a alike = alike
alike-passed (suc n) t a alike = alike-passed n t a alike

alike-done : (call : Call) (t a b : Told) → AreAlike t a → Does call a b → AreAlike (done call t) b
alike-done (Write at piece) t a b alike does =
    subst (AreAlike (done (Write at piece) t)) (sym does.1) (ap (λ (u : Unsynced). with_range u at (length piece)) alike.0, ap (λ bytes. overwritten bytes at piece) alike.1)
alike-done Sync t a b alike does = subst (AreAlike (done Sync t)) (sym does.1) (ap surely alike.1, alike.1)

pub performs-alike : (steps : List Step) (idle : ℕ) (t a b : Told) → AreAlike t a → Performs (calls_in steps) a b → AreAlike (replayed steps idle t) b
performs-alike [] idle t a b alike performs = subst (AreAlike (passed idle t)) (sym performs) (alike-passed idle t a alike)
performs-alike (step ∷ steps) idle t a b alike performs =
    let before = passed step.idle t in
    performs-alike steps idle (done step.call before) performs.0 b (alike-done step.call before a performs.0 (alike-passed step.idle t a alike) performs.1) performs.2

alike-fits : (call : Call) (t a : Told) → AreAlike t a → Fits call t → Fits call a
alike-fits (Write at piece) t a alike fits = subst (λ (bytes : List ℕ). at ≤ length bytes) alike.1 fits
alike-fits Sync t a alike fits = tt

pub may-perform : (steps : List Step) (t a : Told) → AreAlike t a → AllFit steps t → MayPerform (calls_in steps) a
may-perform [] t a alike fit = tt
may-perform (step ∷ steps) t a alike fit =
    let before = passed step.idle t in
    let same = alike-passed step.idle t a alike in
    (alike-fits step.call before a same fit.0, λ next does. may-perform steps (done step.call before) next (alike-done step.call before a next same does) fit.1)

-- ---- one call

module _ (R : Told) where
  abbrev Was : ℕ → List ℕ → Type 0
  Was moment image = WasLeft R image

  -- from a disk of which all that it may leave now was left
  abbrev Here : Told → Type 0
  Here a = (image : List ℕ) → IsImage a.now image → WasLeft R image

  at-first : (a : Told) → Here a → SureSince Was a a
  at-first a here = started Was a (λ image left. here image (left-now a image left))

  does-told : (call : Call) (t a b : Told) → AreAlike t a → Here a → ((image : List ℕ) → WasLeft (done call t) image → WasLeft R image) → Does call a b → SureSince Was a b
  does-told (Write at piece) t a b alike here next does =
      let lost = with_range a.now at (length piece) in
      let torn : SureFrom Was (suc (moment_of a)) lost = λ moment image lo i.
      next image (was-now (done (Write at piece) t) image (subst (λ (u : Unsynced). IsImage (with_range u at (length piece)) image) (sym alike.0) i)) in
      subst (SureSince Was a) (sym does.1) (goes_on Was a a lost lost (overwritten a.bytes at piece) (at-first a here) torn torn)
  does-told Sync t a b alike here next does =
      subst (SureSince Was a) (sym does.1) (goes_on Was a a a.now (surely a.bytes) a.bytes (at-first a here) (λ moment image lo i. here image i)
      (λ moment image lo i. next image (was-now (done Sync t) image (subst (λ bytes. IsImage (surely bytes) image) (sym alike.1) i))))

  fails-told : (call : Call) (t a b : Told) → AreAlike t a → Here a → ((image : List ℕ) → WasLeft (done call t) image → WasLeft R image) → Fails call a b → SureSince Was a b
  fails-told (Write at piece) t a b alike here next fails =
      fails_to_write Was a a b at piece (at-first a here) (λ moment image lo i. here image i)
      (λ moment image lo i. next image (was-now (done (Write at piece) t) image (subst (λ (u : Unsynced). IsImage (with_range u at (length piece)) image) (sym alike.0) i)))
      fails
  fails-told Sync t a b alike here next fails = fails_past Was a a b (at-first a here) (λ moment image lo i. here image i) fails

-- ---- all of them

here-told : (steps : List Step) (idle : ℕ) (t a : Told) → AreAlike t a → Here (replayed steps idle t) a
here-told steps idle t a alike image i = was-replayed steps idle t image (was-now t image (subst (λ (u : Unsynced). IsImage u image) (sym alike.0) i))

pub stops-told : (steps : List Step) (idle : ℕ) (t a b : Told) → AreAlike t a → Stops (calls_in steps) a b → SureSince (λ moment. WasLeft (replayed steps idle t)) a b
stops-told [] idle t a b alike stops = let R = replayed [] idle t in subst (SureSince (Was R) a) (sym stops) (at-first R a (here-told [] idle t a alike))
stops-told (step ∷ steps) idle t a b alike (inl same) =
    let R = replayed (step ∷ steps) idle t in subst (SureSince (Was R) a) (sym same) (at-first R a (here-told (step ∷ steps) idle t a alike))
stops-told (step ∷ steps) idle t a b alike (inr (inl fails)) =
    let before = passed step.idle t in
    fails-told (replayed (step ∷ steps) idle t) step.call before a b (alike-passed step.idle t a alike) (here-told (step ∷ steps) idle t a alike) (λ image. was-replayed steps idle (done step.call before) image) fails
stops-told (step ∷ steps) idle t a b alike (inr (inr rest)) =
    let R = replayed (step ∷ steps) idle t in
    let before = passed step.idle t in
    let same = alike-passed step.idle t a alike in
    joined (Was R) a rest.0 b
    (does-told R step.call before a rest.0 same (here-told (step ∷ steps) idle t a alike) (λ image. was-replayed steps idle (done step.call before) image) rest.1)
    (stops-told steps idle (done step.call before) rest.0 b (alike-done step.call before a rest.0 same rest.1) rest.2)
