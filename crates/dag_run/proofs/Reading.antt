-- The lines that were read of an input.
use Rattle.std.proofs.Common.{ℕ, List, [], ◌∷◌, ◌++◌, refl, sym, ◌∙◌, ap, append_assoc, Some, Ok}
use Rattle.line_io.specs.Lines.{whole_lines}
use Rattle.line_io.specs.Reading.{Reading, new_reading, lines_left, whole_left}
use Rattle.line_io.specs.Next.{NextLine, IsReadOut}
use Rattle.line_io.specs.declared.lines.Line.{Line}
use Rattle.dag_run.specs.Between.{Reads}
use Rattle.line_io.proofs.LinesLemmas.{lines_left-new, whole_left-new, is_over-new}

pub reads-start : (limit : ℕ) (before : List ℕ) → Reads limit [] before (new_reading limit) before
reads-start limit before = record {
  all = sym (lines_left-new limit before);
  given = [];
  split = refl;
  whole = λ open_still more. sym (whole_left-new limit more);
  over = is_over-new limit before;
  out = λ e. cc e;
}

-- the line that `next` goes to is read
pub reads-line : (limit : ℕ) (done : List (List ℕ)) (before : List ℕ) (old new : Reading) (mid after : List ℕ) (kind : Line)
    → Reads limit done before old mid → (n : NextLine (Ok (Some kind)) old mid new after) → (IsReadOut old mid → IsReadOut new after) → Reads limit (done ++ n.0 ∷ []) before new after
reads-line limit done before old new mid after kind h (line, is, left, over, gives) read = record {
  all = h.all ∙ ap (λ ls. done ++ ls) left ∙ sym (append_assoc done (line ∷ []) (lines_left new after));
  given = h.given ++ gives.came;
  split = h.split ∙ ap (λ bs. h.given ++ bs) gives.split ∙ sym (append_assoc h.given gives.came after);
  whole = λ ends more.
      let w = gives.whole ends in
      ap (whole_lines limit) (append_assoc h.given gives.came more) ∙ h.whole w.0 (gives.came ++ more) ∙ ap (λ ls. done ++ ls) (w.1 more)
      ∙ sym (append_assoc done (line ∷ []) (whole_left new more));
  over = over ∙ h.over;
  out = read h.out;
}
