-- What holds from turn to turn of `next`, and its exits.
use Rattle.std.proofs.Common.{ℕ, ◌<◌, ◌≤◌, ◌+◌, ◌≡◌, ◌⊎◌, inl, inr, Bool, true, false, List, [], ◌∷◌, ◌++◌, length, take, drop, refl, sym, ◌∙◌, ap, arith, length-append, length-take, append_assoc, append-nil, Option, Some, None, Ok, subst}
use Rattle.std.specs.Prelude.{◌||◌, if◌then◌else◌, map}
use Rattle.std.specs.Str.Lines.{strip_carriage_return}
use Rattle.std.proofs.lemmas.List.{take_all}
use Rattle.std.proofs.lemmas.Bool.{eqb-true}
use Rattle.std.proofs.lemmas.Bool.Decides.{nat_tests}
use Rattle.outside.specs.Parts.{cut_at, HasNone}
use Rattle.outside.proofs.PartsLemmas.{cut-part, cut-rest, none-append}
use Rattle.line_io.specs.Lines.{without_carriage_return, last_line}
use Rattle.line_io.specs.Reading.{Reading, coming, window, is_over, lines_left, whole_left, budget}
use Rattle.line_io.specs.Next.{IsLine, NextLine, IsDone, IsReadOut}
use Rattle.line_io.specs.Steps.{EndsAt, LendsLine, LendsRest, Fills, MakesSpace, capacity}
use Rattle.line_io.specs.declared.lines.Line.{Line}
use Rattle.line_io.specs.declared.lines.Line.TheVariants.{Text, TooLong}
use Rattle.line_io.proofs.LinesLemmas.{strip-line}
use Rattle.line_io.proofs.FillLemmas.{filled-moves, filled-window, filled-over}

-- bytes of the line were skipped, since they filled the buffer, or none were
pub record Skips (old : Reading) (before : List ℕ) (now : Reading) (after : List ℕ) (is_skipping : Bool) : Type 0 where
  pub skipped : List ℕ
  pub no_end : HasNone 10 skipped
  pub none : is_skipping ≡ false → skipped ≡ []
  pub long : is_skipping ≡ true → capacity ≤ length skipped
  pub window : window old before ≡ skipped ++ window now after
  pub over : is_over now after ≡ is_over old before
  pub came : List ℕ
  pub split : before ≡ came ++ after
  pub moves : now.ended ≡ false → (old.ended ≡ false)
      × ((more : List ℕ) → old.held ++ take old.room (came ++ more) ≡ skipped ++ (now.held ++ take now.room more))

-- the lines of some bytes, which are cut off or not
lines_in : Bool → List ℕ → List (List ℕ)
lines_in over bytes = map without_carriage_return (cut_at 10 bytes).parts ++ (if over then [] else last_line (cut_at 10 bytes).rest)

lines_in-part : (over : Bool) (part rest : List ℕ) → HasNone 10 part
    → lines_in over (part ++ 10 ∷ rest) ≡ without_carriage_return part ∷ lines_in over rest
unfolding lines_in
lines_in-part over part rest h = rw (cut-part 10 part rest h) refl

lines_in-rest : (over : Bool) (bytes : List ℕ) → HasNone 10 bytes → lines_in over bytes ≡ (if over then [] else last_line bytes)
unfolding lines_in
lines_in-rest over bytes h = rw (cut-rest 10 bytes h) refl

left-in : (reading : Reading) (left : List ℕ) → lines_left reading left ≡ lines_in (is_over reading left) (window reading left)
unfolding lines_in
left-in reading left = refl

one-line : (bytes : List ℕ) → 0 < length bytes → last_line bytes ≡ bytes ∷ []
one-line [] h = absurd (omega arith)
one-line (byte ∷ bytes) h = refl

-- nothing is skipped at first
pub skips-start : (old : Reading) (before : List ℕ) → Skips old before (record old { text = [] }) before false
unfolding window is_over
skips-start old before = record {
  skipped = [];
  no_end = tt;
  none = λ _. refl;
  long = λ h. cc h;
  window = refl;
  over = refl;
  came = [];
  split = refl;
  moves = λ going. (going, λ more. refl);
}

-- a line loses at most one byte
length-strip : (line : List ℕ) → length line ≤ length (strip_carriage_return line) + 1
length-strip line = grind (arith, length-take)

-- a line of which a bufferful was skipped is too long
long-line : (skipped line : List ℕ) (s : Bool) → (s ≡ true → capacity ≤ length skipped) → (s ≡ false → skipped ≡ [])
    → (s ≡ true) ⊎ (16384 < length (strip_carriage_return line)) → 16384 < length (without_carriage_return (skipped ++ line))
long-line skipped line true long none h = rw (← strip-line (skipped ++ line)) (omega (arith, length-strip (skipped ++ line), length-append skipped line, long refl))
long-line skipped line false long none (inl e) = cc e
long-line skipped line false long none (inr h) = rw (none refl, ← strip-line line) h

-- with what was skipped the rest is longer than n
long-rest : (skipped held : List ℕ) (s : Bool) (n : ℕ) → n < capacity → (s ≡ true → capacity ≤ length skipped)
    → (s ≡ true) ⊎ (n < length held) → n < length (skipped ++ held)
long-rest skipped held s n small long (inl e) = omega (arith, length-append skipped held, long e)
long-rest skipped held s n small long (inr h) = omega (arith, length-append skipped held)

regroup : (skipped held behind : List ℕ) (len : ℕ) → EndsAt held len
    → skipped ++ (held ++ behind) ≡ (skipped ++ take len held) ++ 10 ∷ (drop (len + 1) held ++ behind)
regroup skipped held behind len at = ap (λ xs. skipped ++ (xs ++ behind)) at.whole ∙ simp append_assoc

line-of : (kind : Line) (skipped line text : List ℕ) (s : Bool) → (s ≡ false → skipped ≡ []) → (s ≡ true → capacity ≤ length skipped)
    → LendsLine kind s (strip_carriage_return line) text → IsLine kind text (without_carriage_return (skipped ++ line))
line-of Text skipped line text s none long lent = (rw (none lent.0, ← strip-line line) (sym lent.1), rw lent.1 lent.2)
line-of TooLong skipped line text s none long lent = long-line skipped line s long none lent

whole-line : (bytes part rest : List ℕ) → HasNone 10 part → bytes ≡ part ++ 10 ∷ rest
    → map without_carriage_return (cut_at 10 bytes).parts ≡ without_carriage_return part ∷ map without_carriage_return (cut_at 10 rest).parts
whole-line bytes part rest h e = rw (e, cut-part 10 part rest h) refl

found : (old : Reading) (before : List ℕ) (now : Reading) (after : List ℕ) (s : Bool) (len : ℕ) (kind : Line) (text : List ℕ)
    → Skips old before now after s → EndsAt now.held len → LendsLine kind s (strip_carriage_return (take len now.held)) text
    → NextLine (Ok (Some kind)) old before (record now { held = drop (len + 1) now.held; text = text }) after
unfolding window is_over
found old before now after s len kind text h at lent =
    let part = h.skipped ++ take len now.held in
    let free = none-append 10 h.skipped (take len now.held) h.no_end at.part in
    let behind = drop (len + 1) now.held ++ take now.room (coming now after) in
    let bytes : window old before ≡ part ++ 10 ∷ behind = h.window ∙ regroup h.skipped now.held (take now.room (coming now after)) len at in
    let lines : lines_in (is_over old before) (window old before) ≡ without_carriage_return part ∷ lines_in (is_over now after) behind =
    rw (bytes, h.over) (lines_in-part (is_over old before) part behind free) in (
      without_carriage_return part,
      line-of kind h.skipped (take len now.held) text s h.none h.long lent,
      left-in old before ∙ lines ∙ ap (λ xs. without_carriage_return part ∷ xs) (sym (left-in (record now { held = drop (len + 1) now.held; text = text }) after)),
      h.over,
      record {
        came = h.came;
        split = h.split;
        whole = λ going. (
          (h.moves going).0,
          λ more.
              whole-line (old.held ++ take old.room (h.came ++ more)) part (drop (len + 1) now.held ++ take now.room more) free
              ((h.moves going).1 more ∙ regroup h.skipped now.held (take now.room more) len at),
        );
      },
    )

-- the line that is found
pub next-found : (old : Reading) (before : List ℕ) (now new : Reading) (after : List ℕ) (s : Bool) (len : ℕ) (kind : Line)
    → Skips old before now after s → EndsAt now.held len
    → LendsLine kind s (strip_carriage_return (take len now.held)) new.text
    → new ≡ record now { held = drop (len + 1) now.held; text = new.text }
    → NextLine (Ok (Some kind)) old before new after
next-found old before now new after s len kind h at lent e =
    subst (λ (r : Reading). NextLine (Ok (Some kind)) old before r after) (sym e) (found old before now after s len kind new.text h at lent)

-- no whole line is left within the limit
pub next-limit : (old : Reading) (before : List ℕ) (now : Reading) (after : List ℕ) (s : Bool)
    → Skips old before now after s → HasNone 10 now.held → now.over ≡ true → now.room ≡ 0
    → (lines_left old before ≡ []) × (is_over old before ≡ true)
unfolding window is_over
next-limit old before now after s h free over room =
    let cut : is_over old before ≡ true = sym h.over ∙ rw over refl in
    let front : window now after ≡ now.held = rw room (append-nil now.held) in
    let bytes : window old before ≡ h.skipped ++ now.held = rw front at h.window in
    (left-in old before ∙ rw (cut, bytes) (lines_in-rest true (h.skipped ++ now.held) (none-append 10 h.skipped now.held h.no_end free)), cut)

-- what fills the buffer is skipped
pub skips-space : (old : Reading) (before : List ℕ) (now new : Reading) (after : List ℕ) (s dropped : Bool)
    → Skips old before now after s → HasNone 10 now.held → MakesSpace dropped now new
    → Skips old before new after (dropped || s)
unfolding window is_over
skips-space old before now new after s true h free space = rw space.1 (record {
  skipped = h.skipped ++ now.held;
  no_end = none-append 10 h.skipped now.held h.no_end free;
  none = λ e. cc e;
  long = λ _. omega (arith, space.0, length-append h.skipped now.held);
  window = rw append_assoc h.window;
  over = h.over;
  came = h.came;
  split = h.split;
  moves = λ going. ((h.moves going).0, λ more. (h.moves going).1 more ∙ sym (append_assoc h.skipped now.held (take now.room more)));
})
skips-space old before now new after s false h free space = rw space.1 h

pub space-free : (dropped : Bool) (now new : Reading) → HasNone 10 now.held → MakesSpace dropped now new → HasNone 10 new.held
space-free true now new free h = rw h.1 tt
space-free false now new free h = rw h.1 free

pub space-same : (dropped : Bool) (now new : Reading) → MakesSpace dropped now new → (new.over ≡ now.over) × (new.ended ≡ now.ended) × (new.text ≡ now.text)
space-same true now new h = rw h.1 (refl, refl, refl)
space-same false now new h = rw h.1 (refl, refl, refl)

pub space-budget : (dropped : Bool) (now new : Reading) → MakesSpace dropped now new → budget new ≤ budget now
space-budget true now new h = rw h.1 (omega arith)
space-budget false now new h = rw h.1 (omega arith)

pub space-fewer : (dropped s : Bool) (now new : Reading) (most : ℕ) → MakesSpace dropped now new → budget now ≤ most
    → (s ≡ true → budget now < most) → (dropped || s) ≡ true → budget new < most
space-fewer true s now new most h below fewer e = rw h.1 (omega (arith, h.0))
space-fewer false s now new most h below fewer e = rw h.1 (fewer e)

-- a fill skips nothing
pub skips-fill : (old : Reading) (before : List ℕ) (now new : Reading) (mid after : List ℕ) (s : Bool)
    → Skips old before now mid s → now.over ≡ false → now.ended ≡ false → Fills now new mid after → Skips old before new after s
skips-fill old before now new mid after s h under going fill =
    rw fill.now (record {
      skipped = h.skipped;
      no_end = h.no_end;
      none = h.none;
      long = h.long;
      window = h.window ∙ ap (λ xs. h.skipped ++ window now xs) fill.split ∙ ap (λ xs. h.skipped ++ xs) (filled-window now fill.came after going fill.end);
      over = filled-over now fill.came after going under fill.end ∙ ap (λ xs. is_over now xs) (sym fill.split) ∙ h.over;
      came = h.came ++ fill.came;
      split = h.split ∙ ap (λ xs. h.came ++ xs) fill.split ∙ sym (append_assoc h.came fill.came after);
      moves = λ _. (
        (h.moves going).0,
        λ more.
            ap (λ xs. old.held ++ take old.room xs) (append_assoc h.came fill.came more)
            ∙ (h.moves going).1 (fill.came ++ more) ∙ ap (λ xs. h.skipped ++ xs) (filled-moves now fill.came more),
      );
    })

no-whole : (bytes rest : List ℕ) → bytes ≡ rest → HasNone 10 rest → map without_carriage_return (cut_at 10 bytes).parts ≡ []
no-whole bytes rest e h = rw (e, cut-rest 10 rest h) refl

-- no whole line was held or came
pub next-read : (old : Reading) (before : List ℕ) (now : Reading) (mid after : List ℕ) (s : Bool)
    → Skips old before now mid s → HasNone 10 now.held → now.ended ≡ false → after ≡ mid
    → (old.ended ≡ false) × (came : List ℕ) × (before ≡ came ++ after) × (whole_left old came ≡ [])
next-read old before now mid after s h free going same =
    let bytes : old.held ++ take old.room (h.came ++ []) ≡ h.skipped ++ (now.held ++ take now.room []) = (h.moves going).1 [] in
    let last : old.held ++ take old.room h.came ≡ h.skipped ++ now.held =
    rw (append-nil h.came, take_all {A = ℕ} now.room [] (omega arith), append-nil now.held) at bytes in
    ((h.moves going).0, h.came, rw same h.split, no-whole (old.held ++ take old.room h.came) (h.skipped ++ now.held) last (none-append 10 h.skipped now.held h.no_end free))

-- the bytes at the end of the input
rest-bytes : (old : Reading) (before : List ℕ) (now : Reading) (after : List ℕ) (s : Bool)
    → (h : Skips old before now after s) → now.over ≡ false → now.ended ≡ true
    → (window old before ≡ h.skipped ++ now.held) × (is_over now after ≡ false)
unfolding window is_over
rest-bytes old before now after s h under ended =
    let bytes = rw ended at h.window in
    (rw (take_all {A = ℕ} now.room [] (omega arith), append-nil now.held) at bytes, rw (under, ended) (grind (arith, nat_tests)))

-- nothing is left at the end
at-end : (now : Reading) (after text : List ℕ) → now.over ≡ false → now.ended ≡ true
    → lines_left (record now { held = []; text = text }) after ≡ []
unfolding window is_over
at-end now after text under ended =
    rw (ended, under, take_all {A = ℕ} now.room [] (omega arith)) (grind (arith, nat_tests))

rest-line : (kind : Line) (skipped held text : List ℕ) (s : Bool) → (s ≡ false → skipped ≡ []) → (s ≡ true → capacity ≤ length skipped)
    → LendsLine kind s held text → IsLine kind text (skipped ++ held)
rest-line Text skipped held text s none long lent = (rw (none lent.0) (sym lent.1), rw lent.1 lent.2)
rest-line TooLong skipped held text s none long lent = long-rest skipped held s 16384 (omega arith) long lent

true-is-false : true ≡ false → ⊥
true-is-false e = cc e

rest-over : (now : Reading) (after text : List ℕ) → is_over (record now { held = []; text = text }) after ≡ is_over now after
unfolding is_over
rest-over now after text = refl

-- the last line, or none
rest : (old : Reading) (before : List ℕ) (now : Reading) (after : List ℕ) (s : Bool) (last : Option Line) (text : List ℕ)
    → Skips old before now after s → HasNone 10 now.held → now.over ≡ false → now.ended ≡ true
    → LendsRest last s now.held text → NextLine (Ok last) old before (record now { held = []; text = text }) after
rest old before now after s None text h free under ended lent =
    let bytes = rest-bytes old before now after s h under ended in
    let over : is_over old before ≡ false = sym h.over ∙ bytes.1 in
    let none : h.skipped ++ now.held ≡ [] = rw (h.none lent.0, lent.1) refl in
    (left-in old before ∙ rw (over, bytes.0, none) (lines_in-rest false [] tt), over)
rest old before now after s (Some kind) text h free under ended lent =
    let bytes = rest-bytes old before now after s h under ended in
    let over : is_over old before ≡ false = sym h.over ∙ bytes.1 in
    let line = h.skipped ++ now.held in
    let none = none-append 10 h.skipped now.held h.no_end free in
    let lines : lines_in (is_over old before) (window old before) ≡ line ∷ [] =
    rw (over, bytes.0) (lines_in-rest false line none ∙ one-line line (long-rest h.skipped now.held s 0 (omega arith) h.long lent.1)) in (
      line,
      rest-line kind h.skipped now.held text s h.none h.long lent.0,
      left-in old before ∙ lines ∙ ap (λ xs. line ∷ xs) (sym (at-end now after text under ended)),
      rest-over now after text ∙ h.over,
      record { came = h.came; split = h.split; whole = λ going. absurd (true-is-false (sym ended ∙ going)) },
    )

pub next-rest : (old : Reading) (before : List ℕ) (now new : Reading) (after : List ℕ) (s : Bool) (last : Option Line)
    → Skips old before now after s → HasNone 10 now.held → now.over ≡ false → now.ended ≡ true
    → LendsRest last s now.held new.text → new ≡ record now { held = []; text = new.text }
    → NextLine (Ok last) old before new after
next-rest old before now new after s last h free under ended lent e =
    subst (λ (r : Reading). NextLine (Ok last) old before r after) (sym e) (rest old before now after s last new.text h free under ended lent)

-- what ended within the limit and holds nothing has no line left
ended-empty : (room : ℕ) (text left : List ℕ) → let r : Reading = record { held = []; text = text; room = room; over = false; ended = true } in (lines_left r left ≡ []) × (is_over r left ≡ false)
unfolding window is_over
ended-empty room text left = (grind (arith), grind (arith))

-- no last line, so the reading is done
pub done-rest : (now new : Reading) (s : Bool) (last : Option Line) → last ≡ None → now.over ≡ false → now.ended ≡ true
    → LendsRest last s now.held new.text → new ≡ record now { held = []; text = new.text } → IsDone new
done-rest now new s last none under ended lent e =
    let shape : new ≡ record { held = []; text = new.text; room = now.room; over = false; ended = true } = e ∙ rw (under, ended) refl in
    subst (λ (r : Reading). IsDone r) (sym shape) (record {
      ended = refl;
      no_line = λ left. (ended-empty now.room new.text left).0;
      within = λ left. (ended-empty now.room new.text left).1;
    })

-- what comes at the end is nothing
pub fills-out : (old new : Reading) (before after : List ℕ) → Fills old new before after → IsReadOut new after
fills-out old new before after f ended = f.end (eqb-true (length f.came) 0 (sym (ap (λ (r : Reading). r.ended) f.now) ∙ ended))

pub out-kept : (old now new : Reading) (before after : List ℕ) → new.ended ≡ now.ended → (IsReadOut old before → IsReadOut now after) → IsReadOut old before → IsReadOut new after
out-kept old now new before after same h was e = h was (sym same ∙ e)
