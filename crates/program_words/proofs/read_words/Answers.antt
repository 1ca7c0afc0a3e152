use Rattle.std.proofs.Common.{◌≡◌, ◌∙◌, ap, ap₂, refl, subst, map, string_bytes, []}
use Rattle.clap.specs.Words.{app_of, is_simple, is_simple_and_free, matches_of, fault_of}
use Rattle.program_words.specs.Command.{command}
use Rattle.program_words.proofs.Reading.{accepted, refused}
use Rattle.program_words.proofs.read_words.Goals as goal

pub returns-in-Ok-try_get_matches_from-clause-ok :
    goal.returns-in-Ok-try_get_matches_from-clause-ok
returns-in-Ok-try_get_matches_from-clause-ok c =
    let words = map string_bytes c.args.words.now in
    let app-is : app_of c.in-Ok.command ≡ command = c.in-Ok.ensures in
    let rows = (c.in-Ok-try_get_matches_from.ensures.matches (ap is_simple app-is)).0 ∙ ap₂ matches_of app-is refl in
    let takes : fault_of command words ≡ [] =
    subst (λ app. fault_of app words ≡ []) app-is (c.in-Ok-try_get_matches_from.ensures.kinds (ap is_simple_and_free app-is)) in
    accepted c.in-Ok-try_get_matches_from.matches words rows c.usage_of.result c.ok_or.result c.ok_or.ensures.value c.usage_of.ensures takes

pub returns-in-Ok-try_get_matches_from-clause-err :
    goal.returns-in-Ok-try_get_matches_from-clause-err
returns-in-Ok-try_get_matches_from-clause-err c =
    let words = map string_bytes c.args.words.now in
    let app-is : app_of c.in-Ok.command ≡ command = c.in-Ok.ensures in
    let rows = (c.in-Ok-try_get_matches_from.ensures.matches (ap is_simple app-is)).0 ∙ ap₂ matches_of app-is refl in
    refused c.in-Ok-try_get_matches_from.matches words rows c.in-Ok.command c.in-Ok-try_get_matches_from.ensures.parsed app-is c.usage_of.result c.ok_or.result c.ok_or.ensures.value c.usage_of.ensures
