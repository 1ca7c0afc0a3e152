-- What one fill of the buffer does.
use Rattle.std.proofs.Common.{ℕ, ◌==◌, ◌<◌, ◌≤◌, ◌+◌, ◌-◌, ◌≡◌, Bool, true, false, List, [], ◌++◌, length, take, drop, refl, sym, ◌∙◌, ap, arith, nat_lt, nat_eq, min, length-append, length-take, append_assoc, append-nil, Option, Some, None}
use Rattle.std.specs.Prelude.{◌||◌, if◌then◌else◌}
use Rattle.std.specs.Io.KnownBytes.{Consumes, IsAtEnd}
use Rattle.std.proofs.Math.Seq.{take-append-add}
use Rattle.std.proofs.lemmas.List.{take-append-le, take-append-drop, take_min, take_all}
use Rattle.std.proofs.lemmas.Bool.{ltb-true, ltb-false}
use Rattle.std.proofs.lemmas.Bool.Decides.{nat_tests}
use Rattle.outside.specs.Told.{WhereTold}
use Rattle.line_io.specs.Reading.{Reading, window, is_over}
use Rattle.line_io.specs.Steps.{Fills, filled}

-- the bytes that have room
pub kept-front : (out : List ℕ) (room n : ℕ) → n ≤ length out → take (min room n) out ≡ take room (take n out)
kept-front out room n fits =
    let got = take n out in
    let size : length got ≡ n = omega (arith, length-take n out) in
    let front : take (min room n) (got ++ drop n out) ≡ take (min room n) got = take-append-le (min room n) got (drop n out) (omega arith) in
    let all : take (min room (length got)) got ≡ take room got = take_min room got in
    rw (take-append-drop n out) at front ∙ rw size at all

-- the fields of a reading after a fill
pub filled-reading : (old : Reading) (held text out : List ℕ) (n kept : ℕ) → n ≤ length out → kept ≡ min old.room n
    → held ≡ old.held ++ take kept out → text ≡ old.text
    → (let new : Reading = record { held = held; text = text; room = old.room - kept; over = nat_lt kept n; ended = nat_eq n 0 } in new) ≡ filled old (take n out)
filled-reading old held text out n kept fits e h t =
    let size : length (take n out) ≡ n = omega (arith, length-take n out) in
    let room : old.room - min old.room n ≡ old.room - n = omega arith in
    let over : nat_lt (min old.room n) n ≡ nat_lt old.room n = grind (arith, nat_tests) in
    rw (h, t, e, size, kept-front out old.room n fits, room, over) refl

-- a claim of what was consumed
pub WhereTold-consumed : (a b : Option (List ℕ)) (got : List ℕ) (n room : ℕ) (P : List ℕ → List ℕ → Type 0)
    → Consumes a b got × (n ≡ 0 → 0 < room → IsAtEnd b) → 0 < room
    → ((after : List ℕ) → (n ≡ 0 → after ≡ []) → P (got ++ after) after) → WhereTold a b P
WhereTold-consumed None b got n room P h some f = tt
WhereTold-consumed (Some x) None got n room P h some f = absurd h.0
WhereTold-consumed (Some x) (Some y) got n room P h some f = rw h.0 (f y (λ z. h.1 z some))

pub fills : (old new : Reading) (got after : List ℕ) (n : ℕ) → length got ≡ n → new ≡ filled old got → (n ≡ 0 → after ≡ []) → Fills old new (got ++ after) after
fills old new got after n size now end = record { came = got; split = refl; now = now; end = λ none. end (sym size ∙ none) }

above : (held got after : List ℕ) (room : ℕ) → room < length got
    → (held ++ take room got) ++ take (room - length got) after ≡ held ++ take room (got ++ after)
above held got after room h =
    let count : room - length got ≡ 0 = omega arith in
    rw (count, take-append-le room got after (omega arith)) (append-nil (held ++ take room got))

below : (held got after : List ℕ) (room : ℕ) → length got ≤ room
    → (held ++ take room got) ++ take (room - length got) after ≡ held ++ take room (got ++ after)
below held got after room h =
    let count : room ≡ length got + (room - length got) = omega arith in
    let behind : take room (got ++ after) ≡ got ++ take (room - length got) after =
    ap (λ k. take k (got ++ after)) count ∙ take-append-add got after (room - length got) in
    rw (behind, take_all room got h, append_assoc) refl

split-front : (held got after : List ℕ) (room : ℕ) (b : Bool) → nat_lt room (length got) ≡ b
    → (held ++ take room got) ++ take (room - length got) after ≡ held ++ take room (got ++ after)
split-front held got after room true test = above held got after room (ltb-true _ _ test)
split-front held got after room false test = below held got after room (ltb-false _ _ test)

-- what is held and has room is the same bytes before and after a fill
pub filled-moves : (old : Reading) (came more : List ℕ)
    → old.held ++ take old.room (came ++ more) ≡ (filled old came).held ++ take (filled old came).room more
filled-moves old came more = sym (split-front old.held came more old.room (nat_lt old.room (length came)) refl)

coming-by : (came after : List ℕ) (b : Bool) → (length came == 0) ≡ b → (length came ≡ 0 → after ≡ []) → (if b then [] else after) ≡ after
coming-by came after true test end = sym (end (grind (arith, nat_tests)))
coming-by came after false test end = refl

-- the window stays
pub filled-window : (old : Reading) (came after : List ℕ) → old.ended ≡ false → (length came ≡ 0 → after ≡ [])
    → window old (came ++ after) ≡ window (filled old came) after
unfolding window
filled-window old came after going end =
    rw (going, coming-by came after (length came == 0) refl end) (filled-moves old came after)

-- and so does whether the input is longer than the limit
pub filled-over : (old : Reading) (came after : List ℕ) → old.ended ≡ false → old.over ≡ false → (length came ≡ 0 → after ≡ [])
    → is_over (filled old came) after ≡ is_over old (came ++ after)
unfolding is_over
filled-over old came after going under end =
    rw (going, under, coming-by came after (length came == 0) refl end) (over-filled old.room came after)
  where
    over-filled : (room : ℕ) (got more : List ℕ) → (nat_lt room (length got) || nat_lt (room - length got) (length more)) ≡ (false || nat_lt room (length (got ++ more)))
    over-filled room got more = grind (arith, nat_tests, length-append)
