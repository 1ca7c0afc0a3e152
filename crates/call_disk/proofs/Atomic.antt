-- A disk that performs all calls together or none, and what holds of one that stops anywhere.
use Rattle.std.proofs.Common.{◌≡◌, ◌⊎◌, inl, inr, ℕ, List, [], ◌∷◌, refl, sym, ◌∙◌, subst, ⊎_elim, le_refl}
use Rattle.disk_trait.specs.Images.{Unsynced, Told, IsImage, LeftAt, moment_of}
use Rattle.disk_trait.specs.Since.{SureNow, SureSince}
use Rattle.disk_trait.proofs.Loss.{last-append}
use Rattle.disk_trait.proofs.Moments.{left-now, weakened}
use Rattle.call_disk.specs.Noted.{Call, Step, calls_in}
use Rattle.call_disk.specs.Performed.{AllOrNone, IsAs, Performs, Stops, WasLeft, begun, replayed}
use Rattle.call_disk.proofs.Stopping.{performs-alike, stops-told}

stops-none : (calls : List Call) (old : Told) → Stops calls old old
stops-none [] old = refl
stops-none (call ∷ calls) old = inl refl

stops-all : (calls : List Call) (old new : Told) → Performs calls old new → Stops calls old new
stops-all [] old new performs = performs
stops-all (call ∷ calls) old new performs = inr (inr (performs.0, performs.1, stops-all calls performs.0 new performs.2))

-- none of them, or all, is a way to stop
pub stops-either : (calls : List Call) (old new : Told) → (new ≡ old) ⊎ Performs calls old new → Stops calls old new
stops-either calls old new (inl same) = subst (Stops calls old) (sym same) (stops-none calls old)
stops-either calls old new (inr all) = stops-all calls old new all

here : (t : Told) (image : List ℕ) → IsImage t.now image → LeftAt t (moment_of t) image
here t image i = subst (λ (u : Unsynced). IsImage u image) (sym (last-append t.past t.now t.now)) i

-- what a crash leaves wherever a disk stops, it leaves of this one
pub kept-atomic : (P : List ℕ → Type 0) (calls : List Call) (old whole new : Told) → ((mid : Told) → Stops calls old mid → SureSince (λ moment. P) old mid) → AllOrNone calls old whole new
    → SureSince (λ moment. P) old new
kept-atomic P calls old whole new stopped h =
    weakened (λ moment image. IsImage old.now image ⊎ IsImage whole.now image) (λ moment. P) old new
    (λ moment image i. ⊎_elim
    (λ before. (stopped old (stops-none calls old)).since (moment_of old) image (le_refl _) (le_refl _) (here old image before))
    (λ behind. (let s = stopped whole (stops-all calls old whole h.performs) in s.since (moment_of whole) image s.later (le_refl _) (here whole image behind)))
    i) h.since

-- what is sure of a disk is sure of one that is as it
pub as-sure : (P : List ℕ → Type 0) (a b : Told) → IsAs a b → SureNow b P → SureNow a P
as-sure P a b same sure = λ image left. sure image (here b image (subst (λ (u : Unsynced). IsImage u image) same.0 (left-now a image left)))

pub atomic-told : (steps : List Step) (idle : ℕ) (old whole new : Told) → AllOrNone (calls_in steps) old whole new → SureSince (λ moment. WasLeft (replayed steps idle (begun old))) old new
atomic-told steps idle old whole new h =
    kept-atomic (WasLeft (replayed steps idle (begun old))) (calls_in steps) old whole new (λ mid stops. stops-told steps idle (begun old) old mid (refl, refl) stops) h

pub atomic-ends : (steps : List Step) (idle : ℕ) (old whole new : Told) → AllOrNone (calls_in steps) old whole new → IsAs new old ⊎ IsAs (replayed steps idle (begun old)) new
atomic-ends steps idle old whole new h =
    let same = performs-alike steps idle (begun old) old whole (refl, refl) h.performs in
    ⊎_elim (λ none. inl none) (λ all. inr (same.0 ∙ sym all.0, same.1 ∙ sym all.1)) h.ends
