-- An honest disk stays sound in each call.
use Rattle.std.proofs.Common.{◌≡◌, ◌<◌, ◌≤◌, ◌+◌, ◌-◌, ◌%◌, ◌^◌, ℕ, Bool, true, false, ◌⊎◌, inl, inr, List, [], ◌∷◌, ◌++◌, length, take, drop, slice_index, refl, sym, ap, subst, ◌∙◌, ⊎_elim, arith, length-append, append_assoc, get_or-take, take_at, drop_at, le_refl, le_trans}
use Rattle.std.specs.Prelude.{nat_lt}
use Rattle.std.proofs.Math.Nat.{le-max_left, le-max_right, max-le}
use Rattle.std.proofs.lemmas.List.{length-take-le, length-drop, get_or-drop}
use Rattle.std.proofs.lemmas.Bool.{ltb-true, ltb-false}
use Rattle.disk_trait.specs.Images.{Told, Unsynced, IsImage, IsSound, longest, moment_of, last_moment, surely, fresh_disk}
use Rattle.disk_trait.specs.Calls.{Passes, Writes, FailsToWrite, Syncs, OrRefuses, Succeeds, IsTorn, after_call, overwritten, with_range}

below-or-not : (a b : ℕ) → (a < b) ⊎ (b ≤ a)
below-or-not a b = by_test (nat_lt a b) refl
  where
    by_test : (t : Bool) → nat_lt a b ≡ t → (a < b) ⊎ (b ≤ a)
    by_test true e = inl (ltb-true a b e)
    by_test false e = inr (ltb-false a b e)

still-even : (n : ℕ) → n % 2 ≡ 0 → (n + 2) % 2 ≡ 0
still-even n e = omega (arith, e)

not-last : (n : ℕ) → n % 2 ≡ 0 → n < 2 ^ 62 → n + 2 ≤ 2 ^ 62
not-last n e lt = omega (arith, e, lt)

-- a call that was begun before the last moment, and leaves an image
called : (old : Told) (within after : Unsynced) (bytes : List ℕ) → IsSound old → moment_of old < last_moment → IsImage after bytes → IsSound (after_call old within after bytes)
called old within after bytes h lt image =
    let size : length (old.past ++ old.now ∷ within ∷ []) ≡ length old.past + 2 = length-append old.past (old.now ∷ within ∷ []) in
    record {
      image = image;
      even = ap (λ n. n % 2) size ∙ still-even (length old.past) h.even;
      early = subst (λ n. n ≤ 2 ^ 62) (sym size) (not-last (length old.past) h.even lt);
    }

-- what was torn by a write is an image where the write counts
pub torn-image : (u : Unsynced) (old new : List ℕ) (at size : ℕ) → IsImage u old → IsTorn at size old new → IsImage (with_range u at size) new
torn-image u old new at size h t = record {
  no_shorter = le_trans h.no_shorter t.no_shorter;
  no_longer = le_trans t.no_longer
      (max-le (le_trans h.no_longer (le-max_right (at + size) (longest (length u.stable) u.written))) (le-max_left (at + size) (longest (length u.stable) u.written)));
  stable = λ place lt clear. outside place (λ w. clear (inl w)) ∙ h.stable place lt (λ w. clear (inr w));
}
  where
    outside : (place : ℕ) → ((at ≤ place) × (place < at + size) → ⊥) → slice_index new place ≡ slice_index old place
    outside place out = ⊎_elim
        (λ lt. sym (get_or-take at new place 0 lt) ∙ ap (λ l. slice_index l place) t.before ∙ get_or-take at old place 0 lt)
        (λ le. ⊎_elim (λ lt. absurd (out (le, lt)))
        (λ far.
        let e : at + size + (place - (at + size)) ≡ place = omega (arith, far) in
        ap (λ k. slice_index new k) (sym e) ∙ sym (get_or-drop (at + size) new (place - (at + size)) 0)
        ∙ ap (λ l. slice_index l (place - (at + size))) t.behind
        ∙ get_or-drop (at + size) old (place - (at + size)) 0 ∙ ap (λ k. slice_index old k) e)
        (below-or-not place (at + size)))
        (below-or-not place at)

-- a write in whole is one of which some part has happened
pub whole-write : (old : List ℕ) (at : ℕ) (piece : List ℕ) → at ≤ length old → IsTorn at (length piece) old (overwritten old at piece)
whole-write old at piece le =
    let behind = drop (at + length piece) old in
    let front : length (take at old) ≡ at = length-take-le at old le in
    let head : length (take at old ++ piece) ≡ at + length piece = length-append (take at old) piece ∙ ap (λ n. n + length piece) front in
    let left : length behind ≡ length old - (at + length piece) = length-drop (at + length piece) old in
    let size : length (overwritten old at piece) ≡ at + length piece + length behind = length-append (take at old ++ piece) behind ∙ ap (λ n. n + length behind) head in
    record {
      before = ap (take at) (append_assoc (take at old) piece behind) ∙ take_at (take at old) (piece ++ behind) at front;
      behind = drop_at (take at old ++ piece) behind (at + length piece) head;
      no_shorter = omega (arith, size, left);
      no_longer = ⊎_elim
          (λ lt. le_trans (let e : length (overwritten old at piece) ≤ length old = omega (arith, size, left, lt) in e) (le-max_left (length old) (at + length piece)))
          (λ far. le_trans (let e : length (overwritten old at piece) ≤ at + length piece = omega (arith, size, left, far) in e) (le-max_right (length old) (at + length piece)))
          (below-or-not (at + length piece) (length old));
    }

sure-image : (bytes : List ℕ) → IsImage (surely bytes) bytes
sure-image bytes = record { no_shorter = le_refl _; no_longer = le_refl _; stable = λ place lt clear. refl }

pub fresh-sound : (bytes : List ℕ) → IsSound (fresh_disk bytes)
fresh-sound bytes = record { image = sure-image bytes; even = refl; early = omega arith }

passed : (old new : Told) → IsSound old → moment_of old < last_moment → Passes old new → IsSound new
passed old new h lt e = subst IsSound (sym e) (called old old.now old.now old.bytes h lt h.image)

pub passes-sound : (old new : Told) → IsSound old → Succeeds Passes old new → IsSound new
passes-sound old new h s = passed old new h s.0 s.1

pub refuses-sound : (old new : Told) → IsSound old → OrRefuses Passes old new → IsSound new
refuses-sound old new h (inl s) = passed old new h s.0 s.1
refuses-sound old new h (inr s) = subst IsSound (sym s.1) h

pub writes-sound : (at : ℕ) (piece : List ℕ) (old new : Told) → IsSound old → at ≤ length old.bytes → Succeeds (Writes at piece) old new → IsSound new
writes-sound at piece old new h le s =
    let lost = with_range old.now at (length piece) in
    subst IsSound (sym s.1) (called old lost lost (overwritten old.bytes at piece) h s.0
    (torn-image old.now old.bytes (overwritten old.bytes at piece) at (length piece) h.image (whole-write old.bytes at piece le)))

pub fails-sound : (at : ℕ) (piece : List ℕ) (old new : Told) → IsSound old → OrRefuses (FailsToWrite at piece) old new → IsSound new
fails-sound at piece old new h (inr s) = subst IsSound (sym s.1) h
fails-sound at piece old new h (inl s) = ⊎_elim (λ p. passed old new h s.0 p)
    (λ t. let lost = with_range old.now at (length piece) in
    subst IsSound (sym t.2) (called old lost lost t.0 h s.0 (torn-image old.now old.bytes t.0 at (length piece) h.image t.1)))
    s.1

pub syncs-sound : (old new : Told) → IsSound old → Succeeds Syncs old new → IsSound new
syncs-sound old new h s = subst IsSound (sym s.1) (called old old.now (surely old.bytes) old.bytes h s.0 (sure-image old.bytes))
