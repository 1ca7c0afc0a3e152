-- Runs over lines.
use Rattle.std.proofs.Common.{ℕ, ◌≡◌, true, false, List, [], ◌∷◌, ◌++◌, refl, sym, ◌∙◌, ap, subst, append_assoc, append-nil}
use Rattle.line_io.specs.Lines.{is_silent}
use Rattle.change_rules.specs.declared.Limits.{Limits}
use Rattle.step_rules.specs.State.{State}
use Rattle.step_rules.specs.Reply.{Reply, reply_text}
use Rattle.run_rules.specs.Run.{Step, Run, output_of}
use Rattle.run_rules.proofs.Runs.{run-append}

pub output-append : (rs ss : List Reply) → output_of (rs ++ ss) ≡ output_of rs ++ output_of ss
output-append [] ss = refl
output-append (r ∷ rs) ss = ap (λ t. reply_text r ++ t) (output-append rs ss) ∙ sym (append_assoc (reply_text r) (output_of rs) (output_of ss))

module _ (limits : Limits) where
  -- a run, and then a silent line
  pub run-silent : (a b : State) (v : List (List ℕ)) (r : List Reply) (line : List ℕ) → Run limits a v r b → is_silent line ≡ true → Run limits a (v ++ line ∷ []) r b
  run-silent a b v r line h e =
      let one : Run limits b (line ∷ []) [] b = rw e (refl, refl) in
      subst (λ rs. Run limits a (v ++ line ∷ []) rs b) (append-nil r) (run-append limits a b b v (line ∷ []) r [] h one)

  -- a run, and then a line with a reply
  pub run-step : (a b c : State) (v : List (List ℕ)) (r : List Reply) (line : List ℕ) (reply : Reply) → Run limits a v r b → is_silent line ≡ false → Step limits b line reply c → Run limits a (v ++ line ∷ []) (r ++ reply ∷ []) c
  run-step a b c v r line reply h e step =
      let one : Run limits b (line ∷ []) (reply ∷ []) c = rw e (reply, [], c, refl, step, (refl, refl)) in
      run-append limits a b c v (line ∷ []) r (reply ∷ []) h one
