-- The calls in an expression of two.
use Rattle.std.proofs.Common.{◌≡◌, ◌↔◌, ◌++◌, List, Bool, true, false, IsTrue, ⊎_elim, true≢false, sym, ◌∙◌}
use Rattle.id_groups.specs.Lists.{IsIn}
use Rattle.commit_graph.proofs.Down.{in-left, in-right}
use Rattle.commit_graph.proofs.Histories.{in-append}
use Rattle.set_expr.specs.declared.words.Call.{Call}

-- where it stands in the first list, it stands in both
pub in-first : (call : Call) (xs ys : List Call) (is : Bool) → is ≡ true → (IsTrue is ↔ IsIn call xs) → IsTrue is ↔ IsIn call (xs ++ ys)
in-first call xs ys is e means = (λ i. in-left call xs ys (means.0 i), λ _. e)

-- where it doesn't, it stands in both where it stands in the second
pub in-second : (call : Call) (xs ys : List Call) (first second : Bool) → first ≡ false → (IsTrue first ↔ IsIn call xs) → (IsTrue second ↔ IsIn call ys) → IsTrue second ↔ IsIn call (xs ++ ys)
in-second call xs ys first second e means other = (
  λ i. in-right call xs ys (other.0 i),
  λ j. ⊎_elim (λ a. absurd (true≢false (sym (means.1 a) ∙ e))) (λ b. other.1 b) (in-append call xs ys j),
)
