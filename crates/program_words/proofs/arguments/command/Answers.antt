use Rattle.std.proofs.Common.{◌≡◌, ◌∙◌, ap₂, rules}
use Rattle.std.proofs.lemmas.Result.{IfOk-weaker}
use Rattle.clap.specs.Words.{with_rule, app_of}
use Rattle.program_words.specs.Command.{bare}
use Rattle.program_words.proofs.arguments.command.Goals as goal

pub returns : goal.returns
returns c =
    let none : app_of c.no_binary_name.result ≡ bare = search rules in
    let one = c.in_ok-arg.ensures.shape c.mode_arg.ensures.global ∙ ap₂ with_rule none c.mode_arg.ensures.rule in
    let two = c.in_ok-arg-2.ensures.shape c.cache_arg.ensures.global ∙ ap₂ with_rule one c.cache_arg.ensures.rule in
    let three = c.in_ok-arg-3.ensures.shape c.size_arg.ensures.global ∙ ap₂ with_rule two c.size_arg.ensures.rule in
    let four = c.in_ok-arg-4.ensures.shape c.start_arg.ensures.global ∙ ap₂ with_rule three c.start_arg.ensures.rule in
    IfOk-weaker c.arg-5.result _ _ (λ r h. h.shape c.wait_arg.ensures.global ∙ ap₂ with_rule four c.wait_arg.ensures.rule) c.arg-5.ensures
