-- A disk whose bytes are lent has them until a write is noted.
use Rattle.std.proofs.Common.{◌≡◌, inl, inr, ℕ, zero, suc, List, [], ◌∷◌, ◌++◌, Bool, true, false, Option, Some, None, refl, sym, ◌∙◌, ap, subst, true≢false}
use Rattle.std.specs.Prelude.{Result, Ok, Err, OnOk, OnErr, ◌||◌}
use Rattle.disk_trait.specs.Images.{Told}
use Rattle.call_disk.specs.Noted.{Call, Write, Sync, Step}
use Rattle.call_disk.specs.Tape.{Tape, IsNoted, IsIdle}
use Rattle.call_disk.specs.Performed.{HonestDisk, begun, done, passed, replayed}
use Rattle.call_disk.specs.Telling.{bytes_over}
use Rattle.call_disk.specs.Lent.{HasBytes, has_write, is_write, lent_over}
use Rattle.call_disk.proofs.Replaying.{bytes_idle, bytes_sync}

bytes-passed : (n : ℕ) (t : Told) → (passed n t).bytes ≡ t.bytes
bytes-passed zero t = refl
bytes-passed (suc n) t = bytes-passed n t

bytes-replayed : (steps : List Step) (idle : ℕ) (t : Told) → has_write steps ≡ false → (replayed steps idle t).bytes ≡ t.bytes
bytes-replayed [] idle t none = bytes-passed idle t
bytes-replayed (step ∷ steps) idle t none = of step.call none (λ rest. bytes-replayed steps idle (done step.call (passed step.idle t)) rest)
  where
    of : (call : Call) → (is_write call || has_write steps) ≡ false → (has_write steps ≡ false → (replayed steps idle (done call (passed step.idle t))).bytes ≡ (done call (passed step.idle t)).bytes)
        → (replayed steps idle (done call (passed step.idle t))).bytes ≡ t.bytes
    of (Write at piece) written rest = absurd (true≢false written)
    of Sync written rest = rest written ∙ bytes-passed step.idle t

-- what a read gives
pub lent-still : (disk : Option HonestDisk) (bytes : List ℕ) (tape : Tape) → HasBytes disk bytes → has_write tape.steps ≡ false → lent_over disk bytes tape ≡ bytes
lent-still None bytes tape has none = refl
lent-still (Some disk) bytes tape has none = bytes-replayed tape.steps tape.idle (begun disk.told) none ∙ has

-- the bytes stay as a read gives them
same-bytes : (disk : Option HonestDisk) (bytes : List ℕ) (old new : Tape) → bytes_over disk new ≡ bytes_over disk old → Some (lent_over disk bytes new) ≡ Some (lent_over disk bytes old)
same-bytes None bytes old new same = refl
same-bytes (Some disk) bytes old new same = same

pub lent-idle : (disk : Option HonestDisk) (bytes : List ℕ) (old new : Tape) → IsIdle old new → Some (lent_over disk bytes new) ≡ Some (lent_over disk bytes old)
lent-idle disk bytes old new idle = same-bytes disk bytes old new (bytes_idle disk old new idle)

module _ {X E : Type 0} where
  pub lent-sync : (disk : Option HonestDisk) (bytes : List ℕ) (r : Result X E) (old new : Tape) → OnOk r (IsNoted Sync old new) → OnErr r (IsIdle old new)
      → Some (lent_over disk bytes new) ≡ Some (lent_over disk bytes old)
  lent-sync disk bytes (Ok x) old new noted idle = same-bytes disk bytes old new (bytes_sync disk old new noted)
  lent-sync disk bytes (Err e) old new noted idle = lent-idle disk bytes old new idle

-- what counts a fault alone
pub then-idle : (old mid new : Tape) → IsIdle old mid → new ≡ mid → IsIdle old new
then-idle old mid new idle is = subst (IsIdle old) (sym is) idle

-- ---- whether a write was noted

push-write : (steps : List Step) (last : Step) → has_write (steps ++ last ∷ []) ≡ (has_write steps || is_write last.call)
push-write [] last = or-false (is_write last.call)
  where
    or-false : (b : Bool) → (b || false) ≡ b
    or-false true = refl
    or-false false = refl
push-write (step ∷ steps) last = of (is_write step.call) (push-write steps last)
  where
    of : (b : Bool) → has_write (steps ++ last ∷ []) ≡ (has_write steps || is_write last.call) → (b || has_write (steps ++ last ∷ [])) ≡ ((b || has_write steps) || is_write last.call)
    of true rest = refl
    of false rest = rest

pub written-now : (at : ℕ) (piece : List ℕ) (old new : Tape) → IsNoted (Write at piece) old new → true ≡ has_write new.steps
written-now at piece old new noted = sym (ap has_write noted.steps ∙ push-write old.steps (record { idle = old.idle; call = Write at piece }) ∙ or-true (has_write old.steps))
  where
    or-true : (b : Bool) → (b || true) ≡ true
    or-true true = refl
    or-true false = refl

pub written-idle : (was : Bool) (old new : Tape) → was ≡ has_write old.steps → IsIdle old new → was ≡ has_write new.steps
written-idle was old new is (inl p) = is ∙ ap has_write (sym p.steps)
written-idle was old new is (inr p) = is ∙ ap (λ (t : Tape). has_write t.steps) (sym p.1)

module _ {X E : Type 0} where
  pub written-sync : (was : Bool) (r : Result X E) (old new : Tape) → was ≡ has_write old.steps → OnOk r (IsNoted Sync old new) → OnErr r (IsIdle old new) → was ≡ has_write new.steps
  written-sync was (Ok x) old new is noted idle =
      is ∙ sym (ap has_write noted.steps ∙ push-write old.steps (record { idle = old.idle; call = Sync }) ∙ or-false (has_write old.steps))
    where
      or-false : (b : Bool) → (b || false) ≡ b
      or-false true = refl
      or-false false = refl
  written-sync was (Err e) old new is noted idle = written-idle was old new is idle
