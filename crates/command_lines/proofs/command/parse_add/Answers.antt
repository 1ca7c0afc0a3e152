use Rattle.std.proofs.Common.{◌+◌, ◌-◌, ◌≤◌, ◌∷◌, List, ℕ, length, take, drop, arith, refl, sym, subst, ap, Err}
use Rattle.std.proofs.lemmas.Grind.{common_steps}
use Rattle.std.proofs.lemmas.Result.{err_from_is_err_and}
use Rattle.command_lines.specs.declared.command.CommandFault.TheVariants.{Syntax}
use Rattle.command_lines.specs.Parts.{AreNames}
use Rattle.command_lines.proofs.CommandLemmas.{name-and-more, no-first, no-more, too-many, same-fault}
use Rattle.command_lines.proofs.command.parse_add.Goals as goal

abbrev behind : List ℕ → ℕ → List ℕ
behind text len = take (length text - (len + 1)) (drop (len + 1) text)

pub returns-in_default-from_hex-clause-syntax : goal.returns-in_default-from_hex-clause-syntax
returns-in_default-from_hex-clause-syntax c = λ _.
    let args = c.args.args.now in
    let len = c.in-Some.len in
    no-first args len c.in-Some.ensures _ (behind args len) (grind (arith, common_steps)) (grind (arith, common_steps)) c.in_default-from_hex.ensures.name

pub returns-in_err-parents-clause-syntax : goal.returns-in_err-parents-clause-syntax
returns-in_err-parents-clause-syntax c = λ e.
    let args = c.args.args.now in
    let len = c.in-Some.len in
    let p = err_from_is_err_and c.from_residual.result c.from_residual.ensures.1 in
    let is = ap Err (same-fault c.from_residual.result p.0 c.in_err-parents.field-0.0 Syntax p.1 p.2 e) in
    no-more args len c.in-Some.ensures (take len args) (behind args len) refl (grind (arith, common_steps)) (c.in_err-parents.ensures.syntax is)

pub returns-then-len-gt-MAX_PARENTS-clause-syntax : goal.returns-then-len-gt-MAX_PARENTS-clause-syntax
returns-then-len-gt-MAX_PARENTS-clause-syntax c = λ _.
    let args = c.args.args.now in
    let len = c.in-Some.len in
    too-many args len c.in-Some.ensures (take len args) (behind args len) refl (grind (arith, common_steps)) c.in_ok-parents.parents.items c.in_ok-parents.ensures.ok (grind (arith, common_steps))

pub returns-clause-ok : goal.returns-clause-ok
returns-clause-ok c =
    let args = c.args.args.now in
    let len = c.in-Some.len in
    let parents = c.in_ok-parents.parents.items in
    let few : length parents ≤ 8 = grind (arith, common_steps) in
    let all = name-and-more args len c.in-Some.ensures _ (behind args len) (grind (arith, common_steps)) (grind (arith, common_steps)) c.in-Some-from_hex.name parents c.in-Some-from_hex.ensures.spelled c.in_ok-parents.ensures.ok in
    (refl, subst (λ ps. (length ps ≤ 8) × AreNames args (c.in-Some-from_hex.name ∷ ps)) (sym c.new.ensures) (few, all))
