use Rattle.std.proofs.Common.{◌≡◌, ℕ, List, Ok, sym, ◌∙◌, ap, subst, decimal}
use Rattle.std.specs.declared.result.Result.{Result}
use Rattle.std.proofs.lemmas.Fmt.{parse-decimal, IsAscii-decimal}
use Rattle.std.proofs.lemmas.Str.{IsUtf8-from_ascii}
use Rattle.std.specs.Str.{IsUtf8}
use Rattle.set_expr.specs.Spelling.{SpellsNumber}
use Rattle.set_expr.proofs.Parsing.{not-same}
use Rattle.set_expr.proofs.parse.number_of.Goals as goal

-- a decimal is text
utf8 : (text : List ℕ) (n : ℕ) → SpellsNumber text n → IsUtf8 text
utf8 text n h = subst IsUtf8 (sym h.1) (IsUtf8-from_ascii (decimal n) (IsAscii-decimal n h.0))

ok-same : {E : Type 0} (r : Result ℕ E) (m n : ℕ) → r ≡ Ok m → r ≡ Ok n → m ≡ n
ok-same r m n e f = let same : Ok m ≡ Ok n = sym e ∙ f in cc

pub returns-in_default-clause-none : goal.returns-in_default-clause-none
returns-in_default-clause-none c = λ n h. c.in_default.ensures.cases.0 (utf8 c.args.text.now n h)

pub returns-in_default-parse-clause-none : goal.returns-in_default-parse-clause-none
returns-in_default-parse-clause-none c = λ n h.
    c.in_default-parse.not-Ok n (parse-decimal 64 n c.in-Ok.digits.now c.parse.result h.0 h.0 (c.in-Ok.ensures.cases.0 ∙ h.1) c.parse.ensures.value.0)

pub returns-else-eq-clause-none : goal.returns-else-eq-clause-none
returns-else-eq-clause-none c = λ n h.
    let gives = parse-decimal 64 n c.in-Ok.digits.now c.parse.result h.0 h.0 (c.in-Ok.ensures.cases.0 ∙ h.1) c.parse.ensures.value.0 in
    let same : c.in-Ok-parse.n ≡ n = ok-same c.parse.result c.in-Ok-parse.n n c.in-Ok-parse.is gives in
    not-same c.as_bytes.result.now c.args.text.now c.if-eq.ensures (c.as_bytes.ensures.value ∙ c.format.ensures.text ∙ ap decimal same ∙ sym h.1)
